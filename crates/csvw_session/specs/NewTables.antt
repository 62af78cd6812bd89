-- Tables whose texts were not read yet.
use Rattle.std.specs.Prelude.{List, [], ◌∷◌}
use Rattle.csvw_columns.specs.declared.plan.TablePlan.{TablePlan}
use Rattle.csvw_triples_core.specs.declared.mode.Mode.{Mode}
use Rattle.csvw_engine_core.specs.Tables.{IsNewTable}
use Rattle.csvw_engine_core.specs.declared.table.Table.{Table}

-- one for each plan
abbrev pub AreNew : Mode → List TablePlan → List Table → Type 0
AreNew mode [] [] = Unit {0}
AreNew mode [] (t ∷ ts) = ⊥
AreNew mode (plan ∷ plans) [] = ⊥
AreNew mode (plan ∷ plans) (t ∷ ts) = IsNewTable plan mode t × AreNew mode plans ts
