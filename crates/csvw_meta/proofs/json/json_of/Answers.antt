use Rattle.std.proofs.Common.{rules}
use Rattle.csvw_meta.proofs.JsonLemmas.{json_of-text, json_of-not_text}
use Rattle.csvw_meta.proofs.json.json_of.Goals as goal

pub returns-in-Ok : goal.returns-in-Ok
returns-in-Ok c =
    rw (json_of-text c.args.bytes.now c.in-Ok.ensures.cases.1, ← c.in-Ok.ensures.cases.0) c.json_of_text.ensures

pub returns-in-Err : goal.returns-in-Err
returns-in-Err c = (rw c.document_fault.ensures (search rules), λ _. json_of-not_text c.args.bytes.now c.in-Err.ensures.cases.0)
