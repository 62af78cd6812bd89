-- The bytes of the front were read.
use Rattle.csvw_parts.proofs.Opening.{front_read}
use Rattle.csvw_parts.proofs.run.read_header.Goals as goal

pub returns-in-Ok-clause-reads : goal.returns-in-Ok-clause-reads
returns-in-Ok-clause-reads g c =
    let r = c.in-Ok.ensures.reads in
    record {
      text = r.0;
      many = r.1;
      consumed = r.2.consumed;
      reads = front_read g.R.Read.remaining c.args.part.now.plan.now c.args.part.now.table c.read.new.self.table c.args.reader.now c.read.new.reader
          r.0 r.2;
    }
