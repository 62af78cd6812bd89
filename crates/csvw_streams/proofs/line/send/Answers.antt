-- A write that was cut sent a front of the bytes, and the stream failed.
use Rattle.std.proofs.Common.{◌≡◌, ℕ, List, Option, drop, sym, take, take-append-drop}
use Rattle.std.specs.Io.KnownBytes.{Appends}
use Rattle.csvw_streams.specs.Count.{one_more}
use Rattle.csvw_streams.specs.Counted.{inner_of, failures_of}
use Rattle.csvw_streams.specs.Streams.{IsCut}
use Rattle.csvw_streams.proofs.PartsLemmas.{stream}
use Rattle.csvw_streams.proofs.line.send.Goals as goal

cut_write : (a b : Option (List ℕ)) (n m : ℕ) (text : List ℕ) (k : ℕ) → Appends a b (take k text) → m ≡ one_more n → IsCut (stream a b n m) text
cut_write a b n m text k p failed = record {
  front = take k text;
  rest = drop k text;
  parts = sym (take-append-drop k text);
  appended = p;
  failed = failed;
}

pub returns-in-Err-clause-cut : goal.returns-in-Err-clause-cut
returns-in-Err-clause-cut g c =
    let contents = g.W.Write.contents in
    cut_write (contents (inner_of c.args.w.now)) (contents (inner_of c.write_out.new.w)) (failures_of c.args.w.now) (failures_of c.write_out.new.w)
    c.args.bytes.now c.in-Err.field-0.sent c.in-Err.ensures.cut c.in-Err.ensures.cut_count
