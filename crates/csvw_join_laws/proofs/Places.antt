-- The data rows before a piece are the first rows of its table.
use Rattle.std.proofs.Common.{◌≡◌, ◌≢◌, ◌∙◌, ℕ, zero, suc, ◌+◌, ◌-◌, ◌<◌, ◌≤◌, ◌==◌, Bool, true, false, List, [], ◌∷◌, ◌++◌, Option, Some, None, refl, sym, ap, ap₂, subst, arith, inl, inr, drop, get_or, length, length-append, map, take, take-append-drop}
use Rattle.std.specs.Prelude.{IfSome, if◌then◌else◌, slice_get}
use Rattle.std.specs.List.{enumerate_from, zip}
use Rattle.std.proofs.lemmas.Option.{slice_get_cases, slice_get_within}
use Rattle.std.proofs.lemmas.Bool.Decides.{nat_tests}
use Rattle.std.proofs.lemmas.List.{length-map, take-append-le, take-take}
use Rattle.std.proofs.lemmas.List.Elements.{All-weaker}
use Rattle.std.proofs.lemmas.List.FromFn.{length-enumerate_from}
use Rattle.csvw_annotate.specs.declared.row.Row.{Row}
use Rattle.csvw_columns.specs.HeaderMatch.{IsMatch}
use Rattle.csvw_columns.specs.declared.plan.TablePlan.{TablePlan}
use Rattle.csvw_columns_core.specs.declared.columns.Columns.{Columns}
use Rattle.csvw_fault.specs.declared.fault.Fault.{Fault}
use Rattle.csvw_engine_core.specs.Annotated.{AreAnnotated as RowsAreAnnotated, Heads, data_rows, first_width, header_count, header_row, header_rows, needed}
use Rattle.csvw_engine_core.specs.Tables.{max_rows}
use Rattle.csvw_group_laws.specs.Annotated.{AreAnnotated, IsAnnotated, Table}
use Rattle.csvw_part_laws.specs.Parts.{AreWholeRows, NumbersGoOn, RowsOfParts, body_after}
use Rattle.csvw_part_plan.specs.Plans.{last_of}
use Rattle.csvw_part_plan.specs.declared.piece.Piece.{Piece}
use Rattle.csvw_records.specs.Files.{Body, File, given, remaining}
use Rattle.csvw_records.specs.Files.{Row as FileRow}
use Rattle.csvw_records.specs.Lawful.{IsLawful}
use Rattle.csvw_records.specs.RowValue.{Given}
use Rattle.csvw_records.specs.declared.dialect.Dialect.{Dialect}
use Rattle.csvw_split.specs.Front.{HasFront}
use Rattle.csvw_split.specs.Split.{HasFrontOf, HasFrontOfSome, AreWholeFiles, IsPiece, IsPieceOfSome}
use Rattle.csvw_split.specs.declared.splitting.TableFile.{TableFile}
use Rattle.csvw_join_laws.specs.Joining.{AreCutInto}
use Rattle.csvw_join_laws.specs.PlanPieces.{AreRowsOf, AreLawful, CutsArePieces, GiveTexts, HasRowsBefore, IsTableBefore}
use Rattle.csvw_join_laws.proofs.Chains.{cut_into, drop_none}
use Rattle.csvw_join_laws.proofs.Ranges.{parts_in_order}

body_len : (d : Dialect) (rows : List FileRow) → length (Body d rows) ≡ length (remaining d 1 rows)
body_len d rows = length-map (enumerate_from 0 (remaining d 1 rows)) (given d) ∙ length-enumerate_from 0 (remaining d 1 rows)

-- the rows of the first of some rows of a file, after the header rows
annotated_front : (columns : Columns) (h : ℕ) (front more : List Given) (rows : List Row) → RowsAreAnnotated columns (drop h (front ++ more)) rows
    → RowsAreAnnotated columns (drop h front) (take (length front - h) rows)
annotated_front columns h [] more rows are =
    let none : 0 - h ≡ 0 = omega arith in
    subst (λ (raws : List Given). RowsAreAnnotated columns raws (take (0 - h) rows)) (sym (drop_none h)) (ap (λ n. take n rows) none)
annotated_front columns zero (raw ∷ raws) more rows (row, rest, all, is, others) =
    let same : length (raw ∷ raws) - zero ≡ suc (length raws - zero) = omega arith in (
      row,
      take (length raws - zero) rest,
      ap₂ (λ n l. take n l) same all,
      is,
      annotated_front columns zero raws more rest others,
    )
annotated_front columns (suc h) (raw ∷ raws) more rows are =
    let same : length (raw ∷ raws) - suc h ≡ length raws - h = omega arith in
    subst (λ n. RowsAreAnnotated columns (drop h raws) (take n rows)) (sym same) (annotated_front columns h raws more rows are)

-- the header and the first width of some rows, of which there are enough, stay the same if more rows follow
needed_few : (h : ℕ) → needed h ≤ (if h == 0 then 1 else h)
needed_few zero = omega arith
needed_few (suc n) = of (suc n == 0) refl
  where
    of : (b : Bool) → (suc n == 0) ≡ b → suc n ≤ (if b then 1 else suc n)
    of true is = absurd (grind (arith, nat_tests))
    of false is = omega arith

header_few : (h : ℕ) → h ≤ needed h
header_few zero = omega arith
header_few (suc n) = omega arith

same_width : (h : ℕ) (front more : List Given) → needed h ≤ length front → first_width h (front ++ more) ≡ first_width h front
same_width zero [] more enough = absurd (omega arith)
same_width zero (raw ∷ raws) more enough = refl
same_width (suc n) front more enough = refl

pub heads_front : (plan : TablePlan) (front more : List Given) (columns : Columns) (faults : List Fault) → needed (header_count plan) ≤ length front
    → Heads plan (front ++ more) columns faults → Heads plan front columns faults
heads_front plan front more columns faults enough heads =
    let h = header_count plan in
    let few = header_few h in
    let rows : header_rows plan (front ++ more) ≡ header_rows plan front = ap (map header_row) (take-append-le h front more (omega arith)) in
    subst (λ w. IsMatch plan (header_rows plan front) w columns faults) (same_width h front more enough)
    (subst (λ r. IsMatch plan r (first_width h (front ++ more)) columns faults) rows heads)

pub zip_len : (plans : List TablePlan) (tables : List Table) → length tables ≡ length plans → length (zip plans tables) ≡ length plans
zip_len [] [] many = refl
zip_len [] (t ∷ ts) many = cc
zip_len (p ∷ ps) [] many = cc
zip_len (p ∷ ps) (t ∷ ts) many = ap suc (zip_len ps ts (omega (arith, many)))

-- each table has a last piece
pub has_last : {R : Type 0} (remaining_of : R → Option (List ℕ)) (plans : List TablePlan) (files : List (TableFile R)) (pieces : List Piece)
    → AreWholeFiles remaining_of plans files pieces → (n : ℕ) → n ≡ length plans → 0 < n → last_of n pieces ≢ None
has_last remaining_of plans files pieces whole n at some =
    let one_each = whole.one_each in
    elim (slice_get_cases files (n - 1)).1 [
      | inl found ↦
          let ends = whole.ends (n - 1) found.0 found.2 in
          let same : n - 1 + 1 ≡ n = omega (arith, some) in
          λ (none : last_of n pieces ≡ None). let both : None ≡ Some ends.last = sym none ∙ ap (λ k. last_of k pieces) (sym same) ∙ ends.is_last in cc
      | inr past ↦ absurd (omega (arith, past, one_each, at, some))
    ]

pub low_table : {R : Type 0} (remaining_of : R → Option (List ℕ)) (plans : List TablePlan) (files : List (TableFile R)) (pieces : List Piece)
    → AreWholeFiles remaining_of plans files pieces → (n : ℕ) → n ≡ length plans → (p : Piece) → IsPieceOfSome remaining_of plans files p → p.table ≤ n
low_table remaining_of plans files pieces whole n at p is =
    let number = whole.numbers is.i is.plan is.plan_is in
    let table_is = is.piece.0 in
    let within = slice_get_within plans is.i is.plan is.plan_is in
    omega arith

module _ (rows_of_parts : RowsOfParts) (go_on : NumbersGoOn) where
  -- the rows of a file that begins with whole rows
  record Begun (plan : TablePlan) (front : List FileRow) (rows : List FileRow) : Type 0 where
    more : List Given
    body : Body plan.dialect rows ≡ Body plan.dialect front ++ more

  begun : (plan : TablePlan) (text : List ℕ) (n : ℕ) (front rows : List FileRow) → IsLawful plan.dialect → AreWholeRows plan.dialect (take n text) front
      → File plan.dialect max_rows text rows → Begun plan front rows
  begun plan text n front rows lawful whole is_file =
      let d = plan.dialect in
      let file = subst (λ bytes. File d max_rows bytes rows) (sym (take-append-drop n text)) is_file in
      let parted = rows_of_parts.parted d max_rows (take n text) (drop n text) front rows lawful whole file in
      record {
        more = body_after d (length front) (length (remaining d 1 front)) parted.more;
        body = ap (Body d) parted.all_are ∙ go_on d front parted.more;
      }

  -- whole rows at the start of a file are a file
  pub front_file : (plan : TablePlan) (text : List ℕ) (n : ℕ) (front rows : List FileRow) → IsLawful plan.dialect
      → AreWholeRows plan.dialect (take n text) front → File plan.dialect max_rows text rows → File plan.dialect max_rows (take n text) front
  front_file plan text n front rows lawful whole is_file =
      let d = plan.dialect in
      let file = subst (λ bytes. File d max_rows bytes rows) (sym (take-append-drop n text)) is_file in
      let parted = rows_of_parts.parted d max_rows (take n text) (drop n text) front rows lawful whole file in
      let all = ap length parted.all_are ∙ length-append front parted.more in
      let few = is_file.limits.0 in
      record { is_utf8 = whole.is_utf8; are_rows = inl whole.are_rows; limits = (omega (arith, all, few), whole.short) }

  later_table : (plan : TablePlan) (table : Table) (text : List ℕ) (p : Piece) (all : List FileRow) → IsLawful plan.dialect → IsAnnotated plan text table
      → AreWholeRows plan.dialect (take p.first_byte text) all → p.rows_before ≡ length all
      → p.data_rows_before ≡ length (remaining plan.dialect 1 all) - header_count plan
      → RowsAreAnnotated table.columns (data_rows plan (Body plan.dialect all)) (take p.data_rows_before table.rows)
      → HasFront plan text p.header_bytes p.first_byte → IsTableBefore plan table text p
  later_table plan table text p all lawful are whole rows data_rows_are has front =
      let d = plan.dialect in
      let h = header_count plan in
      let head_rows = front.is_front.rows in
      let head_text = take-take p.header_bytes p.first_byte text front.before in
      let head_whole = subst (λ bytes. AreWholeRows d bytes head_rows) (sym head_text) front.is_front.whole in
      let here = begun plan text p.first_byte all are.file lawful whole are.is_file in
      let file = front_file plan text p.first_byte all are.file lawful whole are.is_file in
      let there = begun plan (take p.first_byte text) p.header_bytes head_rows all lawful head_whole file in
      let given = front.is_front.given in
      let few = needed_few h in
      let head_len = body_len d head_rows in
      let enough : needed h ≤ length (Body d head_rows) = omega (arith, given, few, head_len) in
      let all_len = body_len d all in
      let parts_len = ap length there.body ∙ length-append (Body d head_rows) there.more in
      let more_than_enough : needed h ≤ length (Body d all) = omega (arith, enough, parts_len) in
      let headers = header_few h in
      let heads_all = heads_front plan (Body d all) here.more table.columns table.header_faults more_than_enough
      (subst (λ raws. Heads plan raws table.columns table.header_faults) here.body are.whole.head) in
      let heads_head = heads_front plan (Body d head_rows) there.more table.columns table.header_faults enough
      (subst (λ raws. Heads plan raws table.columns table.header_faults) there.body heads_all) in
      record {
        front = all;
        whole = whole;
        rows = rows;
        data_rows_are = omega (arith, data_rows_are, headers, more_than_enough, all_len);
        annotated = record { head = (more_than_enough, heads_all); has = has };
        header_front = head_rows;
        header_whole = front.is_front.whole;
        header_before = front.before;
        head = (enough, heads_head);
      }

  -- the rows before a place
  record RowsBefore (plan : TablePlan) (table : Table) (text : List ℕ) (p : Piece) : Type 0 where
    front : List FileRow
    are_rows : AreRowsOf plan.dialect (take p.first_byte text) front
    rows : p.rows_before ≡ length front
    annotated : RowsAreAnnotated table.columns (data_rows plan (Body plan.dialect front)) (take p.data_rows_before table.rows)
    later : 0 < p.first_byte → IsTableBefore plan table text p

  at_start : (plan : TablePlan) (table : Table) (text : List ℕ) (p : Piece) → p.first_byte ≡ 0 → p.rows_before ≡ 0 → p.data_rows_before ≡ 0
      → RowsBefore plan table text p
  at_start plan table text p byte rows data_rows_are = record {
    front = [];
    are_rows = inl (ap (λ n. take n text) byte, refl);
    rows = rows;
    annotated = subst (λ (raws : List Given). RowsAreAnnotated table.columns raws (take p.data_rows_before table.rows)) (sym (drop_none (header_count plan)))
        (ap (λ n. take n table.rows) data_rows_are);
    later = λ some. absurd (omega (arith, some, byte));
  }

  at_cut : (plan : TablePlan) (table : Table) (text : List ℕ) (p : Piece) (all : List FileRow) → IsLawful plan.dialect → IsAnnotated plan text table
      → AreWholeRows plan.dialect (take p.first_byte text) all → p.rows_before ≡ length all
      → p.data_rows_before ≡ length (remaining plan.dialect 1 all) - header_count plan
      → (0 < p.first_byte → HasFront plan text p.header_bytes p.first_byte) → RowsBefore plan table text p
  at_cut plan table text p all lawful are whole rows data_rows_are front =
      let d = plan.dialect in
      let here = begun plan text p.first_byte all are.file lawful whole are.is_file in
      let has = subst (λ (raws : List Given). RowsAreAnnotated table.columns (drop (header_count plan) raws) table.rows) here.body are.whole.has in
      let count : length (Body d all) - header_count plan ≡ p.data_rows_before = ap (λ n. n - header_count plan) (body_len d all) ∙ sym data_rows_are in
      let mine = subst (λ n. RowsAreAnnotated table.columns (data_rows plan (Body d all)) (take n table.rows)) count
      (annotated_front table.columns (header_count plan) (Body d all) here.more table.rows has) in
      record {
        front = all;
        are_rows = inr whole;
        rows = rows;
        annotated = mine;
        later = λ some. later_table plan table text p all lawful are whole rows data_rows_are mine (front some);
      }

  at_place : (plan : TablePlan) (table : Table) (text : List ℕ) (p : Piece) → IsLawful plan.dialect → IsAnnotated plan text table
      → IsPiece plan.dialect text p → (0 < p.first_byte → HasFront plan text p.header_bytes p.first_byte) → RowsBefore plan table text p
  at_place plan table text p lawful are (inl start) front =
      at_start plan table text p (ap (λ c. c.first_byte) start) (ap (λ c. c.rows_before) start) (ap (λ c. c.data_rows_before) start)
  at_place plan table text p lawful are (inr cut) front =
      at_cut plan table text p cut.rows.all lawful are cut.rows.whole cut.rows.rows_are cut.rows.data_rows_are front

  module _ {R : Type 0} (remaining_of : R → Option (List ℕ)) (plans : List TablePlan) (files : List (TableFile R)) (texts : ℕ → List ℕ)
      (tables : List Table) (give : GiveTexts remaining_of files texts) (lawful : AreLawful plans) (are : AreAnnotated plans texts tables)
      (numbers : (i : ℕ) (plan : TablePlan) → slice_get plans i ≡ Some plan → plan.number ≡ i + 1) where
    front_of : (p : Piece) (i : ℕ) (plan : TablePlan) → slice_get plans i ≡ Some plan → p.table ≡ i + 1 → HasFrontOfSome remaining_of plans files p
        → 0 < p.first_byte → HasFront plan (texts i) p.header_bytes p.first_byte
    front_of p i plan plan_is at has some =
        let number = numbers has.i has.plan has.plan_is in
        let table_is = has.table in
        let same : has.i ≡ i = omega (arith, number, table_is, at) in
        let found : Some has.plan ≡ Some plan = sym has.plan_is ∙ ap (slice_get plans) same ∙ plan_is in
        let same_plan : has.plan ≡ plan = cc in
        let known = subst (λ k. HasFrontOf has.plan k p) (give has.i has.file has.file_is) has.front in
        subst (λ n. HasFront plan (texts n) p.header_bytes p.first_byte) same
        (subst (λ t. HasFront t (texts has.i) p.header_bytes p.first_byte) same_plan (known some))

    rows_before : (p : Piece) → IsPieceOfSome remaining_of plans files p → HasFrontOfSome remaining_of plans files p → HasRowsBefore plans texts tables p
    rows_before p is fronted =
        let i = is.i in
        let number = numbers i is.plan is.plan_is in
        let table_is = is.piece.0 in
        let place : i ≡ p.table - 1 = omega (arith, number, table_is) in
        let within = slice_get_within plans i is.plan is.plan_is in
        let many = are.many in
        let known : IsPiece is.plan.dialect (texts i) p =
        subst (λ k. IfSome k (λ text. IsPiece is.plan.dialect text p)) (give i is.file is.file_is) is.piece.1 in
        elim (slice_get_cases tables i).1 [
          | inl found ↦
              let has = at_place is.plan found.0 (texts i) p (lawful i is.plan is.plan_is) (are.each i is.plan found.0 is.plan_is found.2) known
              (front_of p i is.plan is.plan_is (table_is ∙ number) fronted) in
              record {
                plan = is.plan;
                table = found.0;
                plan_is = ap (slice_get plans) (sym place) ∙ is.plan_is;
                table_is = ap (slice_get tables) (sym place) ∙ found.2;
                front = has.front;
                are_rows = subst (λ n. AreRowsOf is.plan.dialect (take p.first_byte (texts n)) has.front) place has.are_rows;
                rows = has.rows;
                annotated = has.annotated;
                later = subst (λ n. 0 < p.first_byte → IsTableBefore is.plan found.0 (texts n) p) place has.later;
              }
          | inr past ↦ absurd (omega (arith, within, many, past))
        ]

  pub cuts_are_pieces : {R : Type 0} (remaining_of : R → Option (List ℕ)) → CutsArePieces remaining_of
  cuts_are_pieces remaining_of plan files texts tables pieces of give lawful are =
      let planned = zip plan.tables tables in
      let n : length planned ≡ length plan.tables = zip_len plan.tables tables are.many in
      let is_of = IsPieceOfSome remaining_of plan.tables files in
      let few = All-weaker is_of (λ p. p.table ≤ length planned)
      (low_table remaining_of plan.tables files pieces of.whole (length planned) n) pieces of.cuts in
      let top = has_last remaining_of plan.tables files pieces of.whole (length planned) n in
      record {
        cut_into = subst (AreCutInto planned) (sym (parts_in_order planned pieces of.tile)) (cut_into planned pieces few top of.tile);
        places = λ k d below. rows_before remaining_of plan.tables files texts tables give lawful are of.whole.numbers (get_or pieces k d)
            (of.cuts k d below) (of.fronts k d below);
      }
