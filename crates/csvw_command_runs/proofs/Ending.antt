-- What a run over a group leaves, with what is told behind it.
use Rattle.std.proofs.Common.{◌⊎◌, ℕ, List, sym, subst, ap₂, inl, inr, Option, Result, Ok, Err}
use Rattle.csvw_report.specs.declared.outcome.Outcome.{Outcome}
use Rattle.csvw_engine_core.specs.declared.stop.Stop.{Stop}
use Rattle.csvw_streams.specs.Streams.{Stream}
use Rattle.csvw_command_runs.specs.Groups.{ComesToEnd, EndsSo, StopsEarly}
use Rattle.csvw_command_runs.proofs.Sending.{stream}

pub ends : (L : Stream → Result Outcome Stop → Type 0) (a b c : Option (List ℕ)) (n m k : ℕ) (r : Result Outcome Stop) (status : ℕ)
    → L (stream a b n m) r → EndsSo r (stream b c m k) status → ComesToEnd L (stream a c n k) status ⊎ StopsEarly L (stream a c n k) status
ends L a b c n m k (Ok outcome) status leaves end = let idle = end.0 in inl (record {
  outcome = outcome;
  leaves = subst (λ s. L s (Ok outcome)) (ap₂ (λ h f. stream a h n f) (sym idle.0) (sym idle.1)) leaves;
  status_is = end.1;
})
ends L a b c n m k (Err reason) status leaves end = inr (record {
  reason = reason;
  held = b;
  failures = m;
  leaves = leaves;
  told = end;
})
