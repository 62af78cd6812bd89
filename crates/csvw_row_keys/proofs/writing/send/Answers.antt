-- The bytes that went out are the front of the text.
use Rattle.std.proofs.Common.{take, drop, sym}
use Rattle.std.proofs.lemmas.List.{take-append-drop}
use Rattle.csvw_row_keys.proofs.writing.send.Goals as goal

pub returns-in-Err-clause-stop : goal.returns-in-Err-clause-stop
returns-in-Err-clause-stop g c = record {
  front = take c.in-Err.field-0.sent c.args.text.now;
  rest = drop c.in-Err.field-0.sent c.args.text.now;
  parts = sym (take-append-drop c.in-Err.field-0.sent c.args.text.now);
  appended = c.in-Err.ensures.cut;
  failed = c.in-Err.ensures.cut_count;
}
