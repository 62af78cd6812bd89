use Rattle.std.proofs.Common.{FitsSigned, refl, []}
use mir.Syntax.{w32}
use Rattle.std.proofs.lemmas.Int.{to_z-of_z}
use Rattle.csvw_datatype_core.proofs.FormLemmas.{written_date}
use Rattle.csvw_datatype_core.proofs.LexicalDateLemmas.{on_ok}
use Rattle.csvw_datatype_core.proofs.lexical_date.refill_date.Goals as goal

pub returns : goal.returns
returns c =
    let fits : FitsSigned w32 c.args.day = c.ranges.day in
    on_ok c.write_date.result (written_date [] _ c.args.day refl) (simp to_z-of_z at c.write_date.ensures)
