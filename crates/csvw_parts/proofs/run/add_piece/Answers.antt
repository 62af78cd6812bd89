-- The piece was read, and its faults were added.
use Rattle.std.proofs.Common.{◌∙◌, ◌++◌, ap, subst, sym}
use Rattle.std.specs.Prelude.{find}
use Rattle.csvw_columns.specs.declared.plan.TablePlan.{TablePlan}
use Rattle.csvw_engine_core.specs.Tables.{IsNewTable, faults_of, header_faults_of}
use Rattle.csvw_keys.specs.KeyRules.{rules_of}
use Rattle.csvw_part_plan.specs.Plans.{is_later}
use Rattle.csvw_part_plan.specs.declared.piece.Piece.{Piece}
use Rattle.csvw_parts.specs.Fronts.{opener_of}
use Rattle.csvw_parts.specs.Outlets.{kept, outs}
use Rattle.csvw_parts.specs.PartRows.{ReadsPiece, found_of}
use Rattle.csvw_parts.specs.PartSteps.{begun_faults}
use Rattle.csvw_parts.specs.declared.run.PartRequest.{PartRequest}
use Rattle.csvw_parts.proofs.run.add_piece.Goals as goal

pub returns-in-Ok-list_faults : goal.returns-in-Ok-list_faults
returns-in-Ok-list_faults g c =
    let s = g.S.TripleSink in
    let o = g.O.Opener in
    let opener = opener_of o.opens o.opens_at o.closes g.O.Reader.Read.remaining in
    let out = outs s.gains s.is_open s.failed g.W.Write.contents in
    let asked = c.in-Some.asked in
    let known = c.in-Some.ensures in
    let part = c.in_ok-part.part in
    let made = c.in_ok-part.ensures in
    let read = c.read_rows.new in
    let table = read.part.table in
    let mode = c.args.request.mode in
    let state = c.args.state.now in
    let start = kept c.args.sink.now state.book state.records in
    let now = kept read.sink read.state.book read.state.records in
    let reads = c.in-Ok.ensures.reads mode (subst (λ (p : TablePlan). IsNewTable p mode part.table) (sym made.plan) made.table) in
    let of_plan = subst (λ (p : TablePlan). ReadsPiece opener out (rules_of asked.request.plan.now) p mode asked.file.now asked.piece
    (find (is_later asked.piece) asked.request.pieces.now) (found_of table) c.args.opener.now read.opener start now) made.plan reads in
    let of_request = subst (λ (r : PartRequest). ReadsPiece opener out (rules_of r.plan.now) asked.table.now mode asked.file.now asked.piece
    (find (is_later asked.piece) r.pieces.now) (found_of table) c.args.opener.now read.opener start now) known.request of_plan in
    record {
      plan = asked.table.now;
      file = asked.file.now;
      is_table = known.is_table;
      found = found_of table;
      reads = subst (λ (p : Piece). ReadsPiece opener out (rules_of c.args.request.plan.now) asked.table.now mode asked.file.now p
          (find (is_later p) c.args.request.pieces.now) (found_of table) c.args.opener.now read.opener start now) known.piece of_request;
      faults = c.in-Ok-list_faults.ensures
          ∙ ap (λ l. (l ++ begun_faults c.args.piece.first_byte (header_faults_of table)) ++ faults_of table) c.in-Ok.ensures.faults;
    }
