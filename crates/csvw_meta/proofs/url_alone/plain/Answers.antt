-- The document with only that URL has no fault, or a fault of the URL.
use Rattle.csvw_meta.specs.Document.{judged, plain_description}
use Rattle.csvw_meta.proofs.FitDocument.{group_plannable}
use Rattle.csvw_meta.proofs.OverLemmas.{group_read}
use Rattle.csvw_meta.proofs.UrlFaults.{refused_by_url}
use Rattle.csvw_meta.proofs.url_alone.plain.Goals as goal

pub returns-in-Ok-clause-found : goal.returns-in-Ok-clause-found
returns-in-Ok-clause-found c = group_read (judged (plain_description c.args.url.now)) c.in-Ok.description c.in-Ok.ensures

pub returns-in-Ok-clause-plannable : goal.returns-in-Ok-clause-plannable
returns-in-Ok-clause-plannable c =
    let x = plain_description c.args.url.now in
    group_plannable c.datatypes_fit.ensures c.dialects_fit.ensures x c.in-Ok.description (group_read (judged x) c.in-Ok.description c.in-Ok.ensures)

pub returns-in-Err-Fault-clause-url : goal.returns-in-Err-Fault-clause-url
returns-in-Err-Fault-clause-url c =
    λ apart. refused_by_url c.args.url.now c.in-Err-Fault.field-0 c.in-Err-Fault.fault c.in-Err-Fault.field-0-is c.in-Err-Fault.ensures
