-- The whole lines were taken, and the rest is kept; or the run stops there.
use Rattle.std.proofs.Common.{◌≡◌, ◌++◌, refl, sym, subst, arith}
use Rattle.std.proofs.lemmas.Grind.{common_steps}
use Rattle.csvw_key_records.specs.declared.stop.LineFault.TheVariants as fault
use Rattle.csvw_key_records.specs.Runs.{StopsFeed}
use Rattle.csvw_key_records.proofs.Feeding.{feed_full, feed_wrong, feeds}
use Rattle.csvw_key_records.proofs.feed.KeyFeed.feed.Goals as goal

pub returns-then-rest-gt-MAX_LINE-clause-stop : goal.returns-then-rest-gt-MAX_LINE-clause-stop
returns-then-rest-gt-MAX_LINE-clause-stop g c =
    let is : c.as_slice.result.now ≡ c.args.self.now.unread.items ++ c.args.piece.now = grind (arith, common_steps) in
    subst (StopsFeed g.W.Write.contents c.args.self.now c.args.out.now c.take_lines.new.out c.args.piece.now) (sym c.wrong.ensures)
    (feed_wrong g.W.Write.contents c.args.self.now c.take_lines.new.self c.args.out.now c.take_lines.new.out c.args.piece.now c.as_slice.result.now c.in-Ok.rest.now is
    c.in-Ok.ensures.ok.0 fault.TooLong (λ records. (omega arith, c.in-Ok.ensures.ok.1)))

pub returns-in-Ok-from_slice-clause-ok : goal.returns-in-Ok-from_slice-clause-ok
returns-in-Ok-from_slice-clause-ok g c =
    let is : c.as_slice.result.now ≡ c.args.self.now.unread.items ++ c.args.piece.now = grind (arith, common_steps) in
    feeds g.W.Write.contents c.args.self.now c.take_lines.new.self c.args.out.now c.take_lines.new.out c.args.piece.now c.as_slice.result.now c.in-Ok.rest.now is
    c.in-Ok.ensures.ok.0 record { run = c.take_lines.new.self; unread = c.in-Ok-from_slice.rest } refl c.in-Ok-from_slice.ensures.items c.in-Ok.ensures.ok.1

pub returns-in-Err-from_slice-clause-stop : goal.returns-in-Err-from_slice-clause-stop
returns-in-Err-from_slice-clause-stop g c =
    let is : c.as_slice.result.now ≡ c.args.self.now.unread.items ++ c.args.piece.now = grind (arith, common_steps) in
    feed_full g.W.Write.contents c.args.self.now c.take_lines.new.self c.args.out.now c.take_lines.new.out c.args.piece.now c.as_slice.result.now c.in-Ok.rest.now is
    c.in-Ok.ensures.ok.0
