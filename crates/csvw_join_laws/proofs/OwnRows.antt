-- The rows that a part takes are those of its pieces of the annotated tables, and so are the faults of the headers.
use Rattle.std.proofs.Common.{◌≡◌, ◌∙◌, ℕ, ◌-◌, ◌<◌, suc, List, [], ◌∷◌, ◌++◌, Option, Some, None, refl, sym, ap, ap₂, subst, arith, drop, flat_map, length, map, take}
use Rattle.std.specs.Prelude.{slice_get}
use Rattle.std.specs.List.{All, find, zip}
use Rattle.std.specs.Option.{option_to_list}
use Rattle.std.specs.Io.KnownBytes.{Consumes}
use Rattle.std.proofs.lemmas.List.Elements.{All-head, All-tail}
use Rattle.csvw_annotate.specs.declared.row.Row.{Row}
use Rattle.csvw_columns.specs.Ready.{AreReady}
use Rattle.csvw_columns.specs.declared.plan.TablePlan.{TablePlan}
use Rattle.csvw_columns_core.specs.declared.columns.Columns.{Columns}
use Rattle.csvw_fault.specs.declared.fault.Fault.{Fault}
use Rattle.csvw_group_laws.specs.Annotated.{AreAnnotated, Table}
use Rattle.csvw_group_laws.specs.Violations.{rows_at, rows_of}
use Rattle.csvw_part_plan.specs.Plans.{is_later}
use Rattle.csvw_part_plan.specs.declared.piece.Piece.{Piece}
use Rattle.csvw_parts.specs.Fronts.{Opens}
use Rattle.csvw_parts.specs.Outlets.{Outs}
use Rattle.csvw_parts.specs.PartGains.{AreTaken, HasBefore, HaveBefore, IsTaken, Taken, header_faults}
use Rattle.csvw_parts.specs.PartSteps.{AddsPiece, AddsPieces, Reached, begun_faults}
use Rattle.csvw_parts.specs.PieceRows.{AreAllRows, AreRowsTo, AreRowsUpTo}
use Rattle.csvw_parts.specs.Reading.{EndsFile}
use Rattle.csvw_parts.specs.declared.run.PartRequest.{PartRequest}
use Rattle.csvw_join_laws.specs.AllParts.{OpensRests}
use Rattle.csvw_join_laws.specs.Finding.{FindRows, IsFound}
use Rattle.csvw_join_laws.specs.Joining.{Planned, TablePiece}
use Rattle.csvw_join_laws.specs.PlanPieces.{HasRowsBefore, IsTableBefore, piece_in, rows_up_to, table_pieces}
use Rattle.csvw_join_laws.specs.Running.{ArePlaced, IsPlaced, paths_of}
use Rattle.csvw_join_laws.proofs.Headers.{faults_at, header_of}
use Rattle.csvw_join_laws.proofs.Nexts.{IsFollowed, found_has}
use Rattle.csvw_join_laws.proofs.Texts.{read_all, read_known, ready_at, rows_all, rows_to, text_all, text_to, zip_at}

-- the rows of a piece, as a part takes them
abbrev pub taken_of : TablePiece → Taken
taken_of p = record { table = p.plan.number; columns = Some p.columns; rows = p.rows }

same_taken : (t : Taken) (p : TablePiece) → t.table ≡ p.plan.number → t.columns ≡ Some p.columns → t.rows ≡ p.rows → t ≡ taken_of p
same_taken t p table columns rows =
    ap (λ n. record t { table = n }) table ∙ ap (λ (c : Option Columns). record { table = p.plan.number; columns = c; rows = t.rows }) columns
    ∙ ap (λ (r : List Row). record { table = p.plan.number; columns = Some p.columns; rows = r }) rows

-- what is known of the parts of a plan
pub record AreGoodPlaces (plans : List TablePlan) (texts : ℕ → List ℕ) (tables : List Table) (pieces : List Piece) : Type 0 where
  pub ready : AreReady plans
  pub annotated : AreAnnotated plans texts tables
  pub places : All (HasRowsBefore plans texts tables) pieces
  pub followed : All (IsFollowed pieces) pieces

module _ {O R S W : Type 0} (opener : Opens O R) (out : Outs S W) (request : PartRequest) (texts : ℕ → List ℕ) (tables : List Table)
    (find_rows : FindRows) (rests : OpensRests opener (paths_of request) texts)
    (good : AreGoodPlaces request.plan.now.tables texts tables request.pieces.now) where
  abbrev plans : List TablePlan
  plans = request.plan.now.tables

  abbrev pieces : List Piece
  pieces = request.pieces.now

  abbrev pub planned : List Planned
  planned = zip plans tables

  abbrev Places : Piece → Type 0
  Places p = HasRowsBefore plans texts tables p

  -- the bytes before a later piece of a table
  before_next : (i : ℕ) (plan : TablePlan) (table : Table) (q : Piece) → slice_get plans i ≡ Some plan → slice_get tables i ≡ Some table → q.table - 1 ≡ i
      → Places q → 0 < q.first_byte → IsTableBefore plan table (texts i) q
  before_next i plan table q plan_is table_is at has some =
      let plan_found : Some has.plan ≡ Some plan = sym has.plan_is ∙ ap (slice_get plans) at ∙ plan_is in
      let same_plan : has.plan ≡ plan = cc in
      let table_found : Some has.table ≡ Some table = sym has.table_is ∙ ap (slice_get tables) at ∙ table_is in
      let same_table : has.table ≡ table = cc in
      subst (λ n. IsTableBefore plan table (texts n) q) at
      (subst (λ s. IsTableBefore plan s (texts (q.table - 1)) q) same_table
      (subst (λ s. IsTableBefore s has.table (texts (q.table - 1)) q) same_plan (has.later some)))

  -- one piece of a table, whose bytes were read
  module _ (p : Piece) (plan : TablePlan) (table : Table) (plan_is : slice_get plans (p.table - 1) ≡ Some plan)
      (table_is : slice_get tables (p.table - 1) ≡ Some table) (known left : Option (List ℕ)) (own : List ℕ)
      (opened : known ≡ Some (drop p.first_byte (texts (p.table - 1)))) where
    abbrev text : List ℕ
    text = texts (p.table - 1)

    finds : (next : Option Piece) (columns : Option Columns) (faults : List Fault) (rows : List Row) → find (is_later p) pieces ≡ next → IsFollowed pieces p
        → length own ≡ p.bytes → Consumes known left own → EndsFile next left
        → AreRowsUpTo next plan (take p.first_byte text ++ own) columns faults (take p.data_rows_before table.rows ++ rows)
        → IsFound table columns faults rows (rows_up_to p next table.rows)
    finds (Some q) columns faults rows is followed many consumed ends are =
        let on = followed q is in
        let has = found_has Places (is_later p) pieces q is good.places in
        let before = before_next (p.table - 1) plan table q plan_is table_is (ap (λ n. n - 1) on.table) has on.later in
        let read = read_known known left (drop p.first_byte text) own opened consumed in
        let bytes = text_to text own read.0 p.first_byte p.bytes read.1 many ∙ ap (λ n. take n text) (sym on.first_byte) in
        let to = subst (λ l. AreRowsTo plan l columns faults (take p.data_rows_before table.rows ++ rows) q) bytes are in
        let found = find_rows.to_next plan text table q columns faults (take p.data_rows_before table.rows ++ rows)
        (ready_at plans (p.table - 1) plan good.ready plan_is) (good.annotated.each (p.table - 1) plan table plan_is table_is) before to in
        record {
          columns_are = found.columns_are;
          faults_are = found.faults_are;
          rows_are = rows_to table.rows rows p.data_rows_before q.data_rows_before on.data_rows found.rows_are;
        }
    finds None columns faults rows is followed many consumed ends are =
        let bytes = text_all text own p.first_byte (read_all known left (drop p.first_byte text) own opened consumed ends) in
        let all = subst (λ l. AreAllRows plan l columns faults (take p.data_rows_before table.rows ++ rows)) bytes are in
        let found = find_rows.to_end plan text table columns faults (take p.data_rows_before table.rows ++ rows)
        (ready_at plans (p.table - 1) plan good.ready plan_is) (good.annotated.each (p.table - 1) plan table plan_is table_is) all in
        record {
          columns_are = found.columns_are;
          faults_are = found.faults_are;
          rows_are = rows_all table.rows rows p.data_rows_before found.rows_are;
        }

  -- what a part has of a piece
  record Own (p : Piece) (header : List Fault) (t : Taken) : Type 0 where
    piece : TablePiece
    is_piece : table_pieces planned pieces p ≡ piece ∷ []
    taken : t ≡ taken_of piece
    faults : begun_faults p.first_byte header ≡ header_of planned p

  own_piece : (p : Piece) (before after : Reached O S W) (a : AddsPiece opener out request p before after)
      (b : HasBefore opener out request p before after a) (t : Taken) → IsPlaced opener out request texts tables p before after a b
      → IsTaken opener out request p before after a b t → Places p → IsFollowed pieces p → Own p a.found.header t
  own_piece p before after a b t placed is has followed =
      let i = p.table - 1 in
      let plan = a.plan in
      let table = has.table in
      let from_one = a.is_table.from_one in
      let number : p.table ≡ suc i = omega (arith, from_one) in
      let rows_before : b.rows ≡ take p.data_rows_before table.rows =
      placed.rows ∙ ap (λ n. take p.data_rows_before (rows_of tables n)) number ∙ ap (λ o. take p.data_rows_before (rows_at o)) has.table_is in
      let o = a.reads.reads in
      let next = find (is_later p) pieces in
      let are = subst (λ l. AreRowsUpTo next plan (l ++ a.reads.text) a.found.columns a.found.header (take p.data_rows_before table.rows ++ t.rows))
      placed.bytes
      (subst (λ l. AreRowsUpTo next plan (b.bytes ++ a.reads.text) a.found.columns a.found.header (l ++ t.rows)) rows_before is.are) in
      let found = finds p plan table a.is_table.plan_is has.table_is (opener.remaining o.reader) _ a.reads.text
      (rests i a.file p.first_byte a.reads.between o.between o.reader a.is_table.file_is o.opened) next a.found.columns a.found.header t.rows refl followed
      o.many o.consumed o.ends are in
      let at = zip_at plans tables i plan table a.is_table.plan_is has.table_is in
      let piece = piece_in pieces p (plan, table) in
      record {
        piece = piece;
        is_piece = ap (λ o. map (piece_in pieces p) (option_to_list o)) at;
        taken = same_taken t piece is.table_is (is.columns_are ∙ found.columns_are) found.rows_are;
        faults = ap (begun_faults p.first_byte) found.faults_are ∙ ap (λ o. begun_faults p.first_byte (faults_at o)) (sym at);
      }

  -- all pieces of a part
  pub record OwnAll (ps : List Piece) (headers : List Fault) (taken : List Taken) : Type 0 where
    pub all : taken ≡ map taken_of (flat_map (table_pieces planned pieces) ps)
    pub faults : headers ≡ flat_map (header_of planned) ps

  pub own_all : (ps : List Piece) → All Places ps → All (IsFollowed pieces) ps → (before after : Reached O S W)
      (c : AddsPieces opener out request ps before after) (b : HaveBefore opener out request ps before after c)
      → ArePlaced opener out request texts tables ps before after c b → (taken : List Taken) → AreTaken opener out request ps before after c b taken
      → OwnAll ps (header_faults opener out request ps before after c) taken
  own_all [] has followed before after c b placed taken are = record { all = are; faults = refl }
  own_all (p ∷ ps) has followed before after c b placed [] are = absurd are
  own_all (p ∷ ps) has followed before after c b placed (t ∷ taken) are =
      let one = own_piece p before c.between c.first b.0 t placed.0 are.0 (All-head Places p ps has) (All-head (IsFollowed pieces) p ps followed) in
      let more = own_all ps (All-tail Places p ps has) (All-tail (IsFollowed pieces) p ps followed) c.between after c.rest b.1 placed.1 taken are.1 in
      record {
        all = ap₂ (λ x xs. x ∷ xs) one.taken more.all ∙ ap (λ l. map taken_of (l ++ flat_map (table_pieces planned pieces) ps)) (sym one.is_piece);
        faults = ap₂ (λ x y. x ++ y) one.faults more.faults;
      }
