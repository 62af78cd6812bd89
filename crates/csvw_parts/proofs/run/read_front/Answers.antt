-- The front was read, and the rows before the piece were skipped.
use Rattle.std.proofs.Common.{◌≡◌, ◌∙◌, true, subst, sym}
use Rattle.std.specs.Borrow.{Bor}
use Rattle.csvw_columns.specs.declared.plan.TablePlan.{TablePlan}
use Rattle.csvw_engine_core.specs.Skipping.{SkipsTable, can_skip_table}
use Rattle.csvw_parts.specs.Fronts.{opener_of}
use Rattle.csvw_parts.proofs.Opening.{goes_to_piece}
use Rattle.csvw_parts.proofs.run.read_front.Goals as goal

pub returns-then-skip_to-clause-goes : goal.returns-then-skip_to-clause-goes
returns-then-skip_to-clause-goes g c =
    let o = g.O.Opener in
    let piece = c.args.asked.piece in
    let mid = c.read_header-read.new.part in
    let same = c.in_ok-read.ensures.plan in
    goes_to_piece (opener_of o.opens o.opens_at o.closes g.O.Reader.Read.remaining) c.args.asked.file.now c.args.part.now.plan.now piece
    c.args.part.now.table mid.table c.skip_to.new.self.table c.args.opener.now c.open.new.self c.close.new.self c.open.result c.in-Some.reader
    c.new-reader.result c.read_header-read.new.reader c.open.ensures c.in-Some.is c.new-reader.ensures.inner c.close.ensures c.in_ok-read.ensures.reads
    (subst (λ (p : Bor TablePlan). can_skip_table p.now mid.table piece.rows_before piece.data_rows_before ≡ true) same
    (sym c.skip_to.ensures.result ∙ c.if-skip_to.true))
    (subst (λ (p : Bor TablePlan). SkipsTable p.now mid.table c.skip_to.new.self.table piece.rows_before piece.data_rows_before) same
    (c.skip_to.ensures.skips c.if-skip_to.true))
