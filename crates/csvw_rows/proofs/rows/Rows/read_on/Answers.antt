use Rattle.std.proofs.Common.{◌∙◌}
use Rattle.csvw_rows.proofs.rows.Rows.read_on.Goals as goal

pub returns-in-Ok-Waits-clause-advances : goal.returns-in-Ok-Waits-clause-advances
returns-in-Ok-Waits-clause-advances c =
    let v = c.loop-stop.invariant in
    let t = rw c.in-Ok-Waits.field-0-is at c.in-Ok-Waits.ensures.turns in (
      t.0 ∙ v.ended,
      (λ d max bytes ended given h. t.1 d max bytes ended given (v.stays d max bytes ended given h)),
      (λ d max bytes ended given h. t.2 d max bytes ended given (v.stays d max bytes ended given h)),
      (λ d max bytes ended given h. t.3 d max bytes ended given (v.stays d max bytes ended given h)),
    )

pub returns-in-Err-clause-advances : goal.returns-in-Err-clause-advances
returns-in-Err-clause-advances c =
    let v = c.loop-stop.invariant in
    let t = c.in-Err.ensures.turns in
    (t.0 ∙ v.ended, (λ n d max bytes ended given h. t.1 n d max bytes ended given (v.stays d max bytes ended given h)))
