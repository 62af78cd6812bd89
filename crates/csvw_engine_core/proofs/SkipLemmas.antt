-- A table that goes on after rows that are read elsewhere.
use Rattle.std.proofs.Common.{◌≡◌, ◌∙◌, ℕ, ◌+◌, ◌≤◌, true, false, List, [], ◌∷◌, ◌++◌, length, refl, sym, subst, append-nil, append_assoc, arith, Option, Some, None, inl}
use Rattle.std.specs.Prelude.{is_some}
use Rattle.csvw_records.specs.Files.{Body, remaining, File}
use Rattle.csvw_records.specs.Files.{Row as Record}
use Rattle.csvw_records.specs.RowValue.{Given}
use Rattle.csvw_part_laws.specs.Parts.{AreWholeRows}
use Rattle.csvw_columns_core.specs.declared.columns.Columns.{Columns}
use Rattle.csvw_columns.specs.declared.plan.TablePlan.{TablePlan}
use Rattle.csvw_annotate.specs.declared.row.Row.{Row}
use Rattle.csvw_rows.specs.GivenLaws.{GivenBeginLater}
use Rattle.csvw_rows.specs.RowsState.{Holds}
use Rattle.csvw_rows.specs.Skips.{SkipsTo}
use Rattle.csvw_triples_core.specs.declared.mode.Mode.{Mode}
use Rattle.csvw_engine_core.specs.Annotated.{HasRows, header_count}
use Rattle.csvw_engine_core.specs.Heads.{HeadHolds}
use Rattle.csvw_engine_core.specs.Tables.{TableHolds, max_rows}
use Rattle.csvw_engine_core.specs.declared.head.Head.{Head}
use Rattle.csvw_engine_core.specs.declared.table.Table.{Table}
use Rattle.csvw_engine_core.proofs.Headers.{head_on}

-- what isn't None
pub known_of : {X : Type 0} (o : Option X) → is_some o ≡ true → (x : X) × (o ≡ Some x)
known_of None e = absurd (let wrong : false ≡ true = e in cc)
known_of (Some x) e = (x, refl)

-- rows after the header leave it as it is
head_on_all : (plan : TablePlan) (given more : List Given) (head : Head) (columns : Columns) → head.columns ≡ Some columns → HeadHolds plan head given
    → HeadHolds plan head (given ++ more)
head_on_all plan given [] head columns e h = subst (HeadHolds plan head) (sym (append-nil given)) h
head_on_all plan given (raw ∷ raws) head columns e h =
    subst (HeadHolds plan head) (append_assoc given (raw ∷ []) raws)
    (head_on_all plan (given ++ raw ∷ []) raws head columns e (head_on plan given raw head columns e h))

pub skip_table : GivenBeginLater → (plan : TablePlan) (mode : Mode) (old new : Table) (rows data_rows : ℕ) (columns : Columns) (bytes between : List ℕ)
    (given : List Given) (so_far all : List Row) (whole : List Record) → old.head.columns ≡ Some columns → new.number ≡ old.number
    → new.mode ≡ old.mode → new.head ≡ old.head → SkipsTo old.rows new.rows rows (header_count plan + data_rows)
    → TableHolds plan mode old bytes false given so_far → AreWholeRows plan.dialect (bytes ++ between) whole → rows ≡ length whole
    → header_count plan + data_rows ≡ length (remaining plan.dialect 1 whole) → HasRows plan old.head.columns (Body plan.dialect whole) all
    → TableHolds plan mode new (bytes ++ between) false (Body plan.dialect whole) all
skip_table begins plan mode old new rows data_rows columns bytes between given so_far all whole known number same head skips h w count left has =
    let reader : Holds new.rows plan.dialect max_rows (bytes ++ between) false (Body plan.dialect whole) =
    skips.goes_on plan.dialect max_rows bytes between given whole h.reader w count left in
    let few : length whole ≤ max_rows =
    (let e = reader.row_is in let f = skips.reading in let l = reader.read.limits.0 in omega (arith, e, f, l, count)) in
    let file : File plan.dialect max_rows (bytes ++ between) whole = record {
      is_utf8 = w.is_utf8;
      are_rows = inl w.are_rows;
      limits = (few, w.short);
    } in
    let b = begins old.rows plan.dialect max_rows bytes between true given whole h.reader (inl (refl, file)) in
    record {
      number_is = number ∙ h.number_is;
      mode_is = same ∙ h.mode_is;
      reader = reader;
      head = subst (λ (x : Head). HeadHolds plan x (Body plan.dialect whole)) (sym head)
          (subst (HeadHolds plan old.head) (sym b.1) (head_on_all plan given b.0 old.head columns known h.head));
      has = subst (λ (x : Head). HasRows plan x.columns (Body plan.dialect whole) all) (sym head) has;
    }
