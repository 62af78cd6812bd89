-- The rows of pieces, one after the other.
use Rattle.std.proofs.Common.{◌≡◌, ◌≤◌, ℕ, List, [], ◌∷◌, ◌++◌, length, drop, sym, ap, subst}
use Rattle.csvw_records.specs.RowValue.{Given}
use Rattle.csvw_columns_core.specs.declared.columns.Columns.{Columns}
use Rattle.csvw_annotate.specs.declared.row.Row.{Row}
use Rattle.csvw_engine_core.specs.Annotated.{AreAnnotated, data_rows, header_count}
use Rattle.csvw_engine_core.proofs.Going.{faults_more, triples_more}
use Rattle.csvw_parts.specs.Joining.{PiecesJoin}
use Rattle.std.proofs.lemmas.Grind.{common_steps}
use Rattle.std.proofs.Common.{arith}

annotated_join : (columns : Columns) (given raws : List Given) (rows more : List Row) → AreAnnotated columns given rows → AreAnnotated columns raws more
    → AreAnnotated columns (given ++ raws) (rows ++ more)
annotated_join columns [] raws rows more e h = subst (λ (l : List Row). AreAnnotated columns raws (l ++ more)) (sym e) h
annotated_join columns (raw ∷ given) raws rows more (row, rest, e, is, behind) h =
    (row, rest ++ more, ap (λ l. l ++ more) e, is, annotated_join columns given raws rest more behind h)

drop_join : {X : Type 0} (n : ℕ) (xs ys : List X) → n ≤ length xs → drop n (xs ++ ys) ≡ drop n xs ++ ys
drop_join n xs ys h = grind (arith, common_steps)

pub pieces_join : PiecesJoin
pieces_join = record {
  triples = triples_more;
  faults = faults_more;
  rows = λ plan columns given raws rows more enough h k.
      subst (λ (l : List Given). AreAnnotated columns l (rows ++ more)) (sym (drop_join (header_count plan) given raws enough))
      (annotated_join columns (data_rows plan given) raws rows more h k);
}
