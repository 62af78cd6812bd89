use Rattle.std.proofs.Common.{subst, ℤ, ℕ, List, [], ◌≡◌, OnOk}
use mir.Syntax.{w32}
use Rattle.std.proofs.lemmas.Int.{to_z-of_z}
use Rattle.csvw_datatype_core.specs.LexicalDates.{IsFields}
use Rattle.csvw_datatype_core.proofs.LexicalDateLemmas.{date_appended}
use Rattle.csvw_datatype_core.proofs.lexical_date.write_date.Goals as goal

pub returns : goal.returns
returns c =
    let P : ℤ → Type 0 = λ day. IsFields day c.fields-year.result.0 c.fields-year.result.1 c.fields-year.result.2 in
    let Q : List ℕ → Type 0 = λ bytes. OnOk c.refill_ascii.result (c.refill_ascii.new.out ≡ bytes) in
    date_appended c.refill_ascii.result [] _ c.args.day _ _ _
    (subst P (to_z-of_z w32 c.args.day c.ranges.day) c.fields-year.ensures) (subst Q c.date_bytes.ensures.text c.refill_ascii.ensures)
