-- The pieces of the part were read, and their faults are sorted.
use Rattle.std.proofs.Common.{◌∙◌, ◌++◌, List, Option, ap, refl, subst}
use Rattle.csvw_fault.specs.declared.fault.Fault.{Fault}
use Rattle.csvw_streams.specs.declared.counted.Counted.{Counted}
use Rattle.csvw_parts.specs.Fronts.{opener_of}
use Rattle.csvw_parts.specs.Outlets.{outs}
use Rattle.csvw_parts.specs.PartRuns.{ReadsOwn, own_pieces, warnings_of}
use Rattle.csvw_parts.specs.PartSteps.{AddsPieces, reached}
use Rattle.csvw_parts.proofs.Gains.{gives_part}
use Rattle.csvw_parts.proofs.run.run_part.Goals as goal

pub returns : goal.returns
returns g c =
    let s = g.S.TripleSink in
    let o = g.O.Opener in
    let opener = opener_of o.opens o.opens_at o.closes g.O.Reader.Read.remaining in
    let out = outs s.gains s.is_open s.failed g.W.Write.contents in
    let request = c.args.request in
    let opened = c.open.new.sink in
    let start = c.in_ok-state.state in
    let made = c.in_ok-state.ensures in
    let end = c.read_pieces.new in
    let last = reached end.opener end.sink end.state.book end.state.records end.state.faults in
    let done = c.in_ok-finish.ensures in
    let run = c.in_ok-finish.field-0 in
    let told = c.in_ok-add_warnings.ensures ∙ ap (λ l. l ++ warnings_of request) made.faults in
    let of_faults = subst (λ (l : List Fault). AddsPieces opener out request (own_pieces request)
    (reached c.args.opener.now opened start.book start.records l) last) told c.in_ok-read_pieces.ensures in
    let own : ReadsOwn opener out request c.args.opener.now end.opener c.args.sink.now end.sink c.args.records = record {
      opened = opened;
      opens = c.in_ok-open.ensures.takes;
      ready = c.in_ok-open.ensures.ready;
      starts = made.book;
      book = start.book;
      last = last;
      pieces = subst (λ (r : Option (Counted g.row.W.Denot)). AddsPieces opener out request (own_pieces request)
          (reached c.args.opener.now opened start.book r (warnings_of request)) last) made.records of_faults;
      opener_is = refl;
      sink_is = refl;
    } in
    record {
      own = own;
      told = done.same;
      flushed = done.records;
      order = done.order;
      gives = λ b. gives_part opener out request c.parts_have_all_records.ensures g.met.S.TripleSink.stays g.met.S.TripleSink.goes_on c.args.opener.now
          end.opener c.args.sink.now end.sink c.args.records run own done.records done.same b;
    }
