-- A spelling is a key of a line.
use Rattle.std.proofs.Common.{◌∙◌, ◌++◌, ap, subst, sym}
use Rattle.csvw_key_records.specs.Records.{IsKey}
use Rattle.csvw_row_keys.specs.Spelling.{spelling}
use Rattle.csvw_row_keys.proofs.FitLemmas.{spelled_key}
use Rattle.csvw_row_keys.proofs.row_lines.listed_record.Goals as goal

pub new_record-requires-clause-key : goal.new_record-requires-clause-key
new_record-requires-clause-key c =
    let key = c.args.row.now.key in
    subst IsKey (sym (c.of.ensures ∙ c.in_ok-push_spelling.ensures ∙ ap (λ text. text ++ spelling key) c.new-key.ensures.items)) (spelled_key key)
