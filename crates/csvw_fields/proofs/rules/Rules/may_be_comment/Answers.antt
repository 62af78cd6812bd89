use Rattle.std.proofs.Common.{◌∙◌, ℕ, List, Option, option_map, chars, nat_eq, sym, ap}
use Rattle.csvw_records.specs.RecordLaws.{laws_of}
use Rattle.std.specs.List.{starts_with}
use Rattle.csvw_records.specs.NextRow.{begins_prefix}
use Rattle.csvw_fields.proofs.rules.Rules.may_be_comment.Goals as goal

pub returns-in-Some : goal.returns-in-Some
returns-in-Some c =
    let rest : List ℕ = c.args.rest.now in
    let prefix : List ℕ = c.as_str.result.now in
    c.starts_with.ensures.value ∙ ap (starts_with nat_eq c.as_bytes.result.now) c.as_bytes-in-Some.ensures.value
    ∙ ap (λ (l : List ℕ). starts_with nat_eq l rest) c.as_bytes.ensures.value
    ∙ (laws_of c.record_laws.ensures).texts.same_start prefix rest c.as_str.utf8 c.utf8.rest
    ∙ sym (ap (λ (o : Option (List ℕ)). begins_prefix (chars rest) (option_map chars o)) c.in-Some.is
    ∙ ap (λ (l : List ℕ). starts_with nat_eq (chars l) (chars rest)) (sym c.as_str.ensures))
