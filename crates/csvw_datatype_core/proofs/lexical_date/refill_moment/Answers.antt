use Rattle.std.proofs.Common.{FitsSigned, refl, []}
use mir.Syntax.{w32, w64}
use Rattle.std.proofs.lemmas.Int.{to_z-of_z}
use Rattle.csvw_datatype_core.proofs.FormLemmas.{written_moment, fits_day}
use Rattle.csvw_datatype_core.proofs.LexicalDateLemmas.{on_ok}
use Rattle.csvw_datatype_core.proofs.lexical_date.refill_moment.Goals as goal

pub returns : goal.returns
returns c =
    let fits : FitsSigned w64 c.args.moment = c.ranges.moment in
    let parts = simp to_z-of_z at c.day_and_second-day.ensures in
    let fits32 : FitsSigned w32 c.day_and_second-day.result.0 = fits_day _ parts.is_day in
    let date = simp to_z-of_z at c.in_ok-write_date.ensures in
    on_ok c.push_time.result (λ time. written_moment [] _ _ c.args.moment _ _ refl parts date time) c.push_time.ensures
