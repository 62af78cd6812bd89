-- Before each piece of a part come the bytes of its file that are before it.
use Rattle.std.proofs.Common.{◌≡◌, ◌∙◌, ℕ, zero, suc, ◌-◌, ◌<◌, List, [], ◌∷◌, ◌++◌, Option, Some, None, refl, sym, ap, subst, arith, inl, inr, drop, length, take, take-append-drop}
use Rattle.std.specs.Prelude.{slice_get}
use Rattle.std.specs.List.{All}
use Rattle.std.specs.Str.{chars}
use Rattle.std.specs.Str.Lossy.{utf8_valid_len}
use Rattle.std.specs.Io.KnownBytes.{Consumes}
use Rattle.std.proofs.lemmas.List.{take-take, take_at}
use Rattle.std.proofs.lemmas.List.Elements.{All-head, All-tail}
use Rattle.csvw_annotate.specs.declared.row.Row.{Row}
use Rattle.csvw_columns.specs.declared.plan.TablePlan.{TablePlan}
use Rattle.csvw_columns_core.specs.declared.columns.Columns.{Columns}
use Rattle.csvw_engine_core.specs.Annotated.{AreAnnotated as RowsAreAnnotated, HasRows, Heads, IsHead, data_rows, header_count}
use Rattle.csvw_fault.specs.declared.fault.Fault.{Fault}
use Rattle.csvw_group_laws.specs.Annotated.{Table}
use Rattle.csvw_group_laws.specs.Violations.{rows_at, rows_of}
use Rattle.csvw_part_laws.specs.Parts.{AreWholeRows, NumbersGoOn, RowsOfParts, body_after}
use Rattle.csvw_part_plan.specs.declared.piece.Piece.{Piece}
use Rattle.csvw_parts.specs.Fronts.{Opens}
use Rattle.csvw_parts.specs.Outlets.{Outs}
use Rattle.csvw_parts.specs.PartGains.{HasBefore, HaveBefore}
use Rattle.csvw_parts.specs.PartRows.{KnowsFront, ReadsBefore}
use Rattle.csvw_parts.specs.PartRuns.{own_pieces}
use Rattle.csvw_parts.specs.PartSteps.{AddsPiece, AddsPieces, Reached}
use Rattle.csvw_parts.specs.PieceRows.{ComesBefore, IsFront, StandBefore}
use Rattle.csvw_parts.specs.declared.run.PartRequest.{PartRequest}
use Rattle.csvw_records.specs.Files.{AreRows, Body, content, remaining}
use Rattle.csvw_records.specs.Files.{Row as FileRow}
use Rattle.csvw_records.specs.Lawful.{IsLawful}
use Rattle.csvw_records.specs.RecordLaws.{RecordsAreLawful}
use Rattle.csvw_records.specs.RowValue.{Given}
use Rattle.csvw_records.specs.declared.dialect.Dialect.{Dialect}
use Rattle.csvw_join_laws.specs.PlanPieces.{AreLawful, AreRowsOf, HasRowsBefore, IsTableBefore}
use Rattle.csvw_join_laws.specs.Running.{ArePlaced, IsPlaced, OpensTexts, PartsGive, paths_of}
use Rattle.csvw_join_laws.proofs.Chains.{drop_none}
use Rattle.csvw_join_laws.proofs.Nexts.{own_have}
use Rattle.csvw_join_laws.proofs.Places.{heads_front}

no_chars : content (let e : List ℕ = [] in e) ≡ []
unfolding chars utf8_valid_len
no_chars = refl

-- known bytes of which some were read begin with these
read_front : (known left : Option (List ℕ)) (text front : List ℕ) → known ≡ Some text → Consumes known left front → (rest : List ℕ) × (text ≡ front ++ rest)
read_front None left text front is gave = cc
read_front (Some xs) None text front is gave = absurd gave
read_front (Some xs) (Some ys) text front is gave = let same : xs ≡ text = cc in (ys, sym same ∙ gave)

-- the columns and faults of a header are those of its rows
one_head : (plan : TablePlan) (given : List Given) (columns others : Columns) (faults told : List Fault) → Heads plan given columns faults
    → Heads plan given others told → columns ≡ others
one_head plan given columns others faults told a b = a.columns ∙ sym b.columns

module _ (laws : RecordsAreLawful) (rows_of_parts : RowsOfParts) (go_on : NumbersGoOn) where
  no_whole : (d : Dialect) (rows : List FileRow) → AreWholeRows d [] rows → ⊥
  unfolding RecordsAreLawful
  no_whole d [] whole = let some = whole.some in omega arith
  no_whole d (row ∷ rows) whole = laws.rows.no_more d 0 row rows [] (subst (λ t. AreRows d 0 t (row ∷ rows) []) no_chars whole.are_rows)

  no_rows : (plan : TablePlan) (columns : Columns) (bytes : List ℕ) (front : List FileRow) (rows : List Row) → bytes ≡ [] → AreRowsOf plan.dialect bytes front
      → RowsAreAnnotated columns (data_rows plan (Body plan.dialect front)) rows → rows ≡ []
  no_rows plan columns bytes front rows none (inl neither) are =
      subst (λ (raws : List Given). RowsAreAnnotated columns raws rows) (drop_none (header_count plan))
      (subst (λ f. RowsAreAnnotated columns (data_rows plan (Body plan.dialect f)) rows) neither.1 are)
  no_rows plan columns bytes front rows none (inr whole) are =
      absurd (no_whole plan.dialect front (subst (λ b. AreWholeRows plan.dialect b front) none whole))

  -- the columns that the front made are those of the table
  same_columns : (plan : TablePlan) (front : List ℕ) (columns : Columns) (faults : List Fault) (rows : List FileRow) (table : Table)
      → IsLawful plan.dialect → IsFront plan front columns faults → AreWholeRows plan.dialect front rows
      → IsHead plan (Body plan.dialect rows) (Some table.columns) table.header_faults → columns ≡ table.columns
  unfolding RecordsAreLawful
  same_columns plan front columns faults rows table lawful is whole head = elim is.first.come [
    | inl begins ↦
        let d = plan.dialect in
        let more = laws.fronts.by_file d (content front) is.first.rows rows begins.rest lawful (inl begins.are_rows) (inl whole.are_rows) in
        let others = body_after d (length is.first.rows) (length (remaining d 1 is.first.rows)) more.0 in
        let body : Body d rows ≡ is.given ++ others = ap (Body d) more.1 ∙ go_on d is.first.rows more.0 ∙ ap (λ l. l ++ others) (sym is.first.all) in
        let heads = heads_front plan is.given others table.columns table.header_faults is.head.0
        (subst (λ raws. Heads plan raws table.columns table.header_faults) body head.1) in
        one_head plan is.given columns table.columns faults table.header_faults is.head.1 heads
    | inr never ↦ absurd (cc)
  ]

  -- what is known of the bytes before a piece of a table
  record Known (plan : TablePlan) (table : Table) (text : List ℕ) (p : Piece) : Type 0 where
    none : p.first_byte ≡ 0 → take p.data_rows_before table.rows ≡ []
    later : 0 < p.first_byte → IsTableBefore plan table text p

  known_of : (plans : List TablePlan) (texts : ℕ → List ℕ) (tables : List Table) (p : Piece) (plan : TablePlan)
      → slice_get plans (p.table - 1) ≡ Some plan → (has : HasRowsBefore plans texts tables p) → Known plan has.table (texts (p.table - 1)) p
  known_of plans texts tables p plan is has =
      let found : Some has.plan ≡ Some plan = sym has.plan_is ∙ is in
      let same : has.plan ≡ plan = cc in
      let text = texts (p.table - 1) in
      subst (λ t. Known t has.table text p) same record {
        none = λ first. no_rows has.plan has.table.columns (take p.first_byte text) has.front _ (ap (λ n. take n text) first) has.are_rows has.annotated;
        later = has.later;
      }

  -- the bytes that are read as the front come first among those before the piece
  module _ {O R : Type 0} (opener : Opens O R) (file text : List ℕ) (plan : TablePlan) (table : Table) (p : Piece) (lawful : IsLawful plan.dialect)
      (opens : (a b : O) (r : R) → opener.opens a file (Some r) b → opener.remaining r ≡ Some text) (known : Known plan table text p)
    where
      abbrev here : List ℕ
      here = take p.first_byte text

      stands : (old new : O) (front : List ℕ) (columns : Option Columns) → 0 < p.first_byte → KnowsFront opener file plan p old new front columns
          → StandBefore plan p front columns here (take p.data_rows_before table.rows)
      stands old new front columns some knows =
          let before = known.later some in
          let o = knows.opens in
          let read = read_front (opener.remaining o.reader) _ text front (opens old o.between o.reader o.opened) o.consumed in
          let front_is : front ≡ take p.header_bytes text = sym (take_at front read.0 p.header_bytes o.many) ∙ ap (take p.header_bytes) (sym read.1) in
          let head_text = take-take p.header_bytes p.first_byte text before.header_before in
          let parts : here ≡ front ++ drop p.header_bytes here =
          sym (take-append-drop p.header_bytes here) ∙ ap (λ l. l ++ drop p.header_bytes here) (head_text ∙ sym front_is) in
          let whole = subst (λ b. AreWholeRows plan.dialect b before.header_front) (sym front_is) before.header_whole in
          let same = same_columns plan front knows.columns knows.faults before.header_front table lawful knows.is_front whole before.head in
          record {
            between = drop p.header_bytes here;
            begins = parts;
            whole = before.front;
            are_rows = before.whole;
            count = before.rows;
            data_count = before.data_rows_are;
            annotated = subst (λ c. HasRows plan c (Body plan.dialect before.front) (take p.data_rows_before table.rows))
                (sym (knows.columns_are ∙ ap Some same)) before.annotated.has;
          }

      comes : (byte : ℕ) → p.first_byte ≡ byte → (old new : O) (front : List ℕ) (columns : Option Columns)
          → ReadsBefore byte opener file plan p old new front columns → ComesBefore byte plan p front columns here (take p.data_rows_before table.rows)
      comes zero at old new front columns reads = (ap (λ n. take n text) at, known.none at)
      comes (suc byte) at old new front columns reads = stands old new front columns (omega arith) reads

  module _ {O R S W : Type 0} (opener : Opens O R) (out : Outs S W) (request : PartRequest) (texts : ℕ → List ℕ) (tables : List Table)
      (opens : OpensTexts opener (paths_of request) texts) (lawful : AreLawful request.plan.now.tables) where
    abbrev Places : Piece → Type 0
    Places p = HasRowsBefore request.plan.now.tables texts tables p

    -- one piece
    has_before : (p : Piece) (before after : Reached O S W) (a : AddsPiece opener out request p before after) → Places p
        → (b : HasBefore opener out request p before after a) × IsPlaced opener out request texts tables p before after a b
    has_before p before after a has =
        let i = p.table - 1 in
        let text = texts i in
        let known = known_of request.plan.now.tables texts tables p a.plan a.is_table.plan_is has in
        let gives = λ (x y : O) (r : R) (is : opener.opens x a.file (Some r) y). opens i a.file x y r a.is_table.file_is is in
        let from_one = a.is_table.from_one in
        let number : p.table ≡ suc i = omega (arith, from_one) in
        let rows = ap (rows_of tables) number ∙ ap rows_at has.table_is in (
          record {
            bytes = take p.first_byte text;
            rows = take p.data_rows_before has.table.rows;
            comes = comes opener a.file text a.plan has.table p (lawful i a.plan a.is_table.plan_is) gives known p.first_byte refl before.opener
                a.reads.between a.reads.front a.reads.known a.reads.starts;
          },
          record { bytes = refl; rows = ap (take p.data_rows_before) (sym rows) },
        )

    have_before : (pieces : List Piece) (before after : Reached O S W) (c : AddsPieces opener out request pieces before after) → All Places pieces
        → (b : HaveBefore opener out request pieces before after c) × ArePlaced opener out request texts tables pieces before after c b
    have_before [] before after c has = (tt, tt)
    have_before (p ∷ ps) before after c has =
        let first = has_before p before c.between c.first (All-head Places p ps has) in
        let others = have_before ps c.between after c.rest (All-tail Places p ps has) in
        ((first.0, others.0), (first.1, others.1))

  pub parts_give : {O R S W : Type 0} (opener : Opens O R) (out : Outs S W) → PartsGive opener out
  parts_give opener out request texts tables old new sink gained records run opens lawful are places runs =
      let own = own_have (HasRowsBefore request.plan.now.tables texts tables) request.number request.pieces.now places in
      let both = have_before opener out request texts tables opens lawful (own_pieces request) _ runs.own.last runs.own.pieces own in
      record { before = both.0; placed = both.1; gives = runs.gives both.0 }
