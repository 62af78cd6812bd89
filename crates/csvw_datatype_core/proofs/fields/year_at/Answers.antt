-- The text of a year is its digits, perhaps after a "-".
use Rattle.std.proofs.Common.{List, ℕ, sym, subst, ap, ◌∙◌, take}
use Rattle.std.specs.Str.{IsAscii}
use Rattle.csvw_datatype_core.proofs.PartFieldLemmas.{year_ascii}
use Rattle.csvw_datatype_core.proofs.fields.year_at.Goals as goal

pub as_text-requires : goal.as_text-requires
as_text-requires c =
    let bs = c.args.bytes.now in
    let P : List ℕ → Type 0 = λ l. IsAscii l in
    subst P (sym (c.split_at.ensures.front ∙ ap (λ n. take n bs) c.saturating_sub.ensures))
    (year_ascii bs c.in_ok-rest.rest.now (sym c.in_ok-rest.ensures))
