-- The result of a run after the flush of its writer at its end.
use Rattle.std.specs.Prelude.{◌≡◌, ◌⊎◌, ℕ, Result, Err}
use Rattle.csvw_streams.specs.Count.{one_more}
use Rattle.csvw_engine_core.specs.declared.stop.Stop.{Stop}
use Rattle.csvw_engine_core.specs.declared.stop.Stop.TheVariants as stop

-- the result of a run after a flush: it stays the same unless the flush fails
abbrev pub IsFlushed : {T : Type 0} → Result T Stop → Result T Stop → ℕ → ℕ → Type 0
IsFlushed ran result old new = ((result ≡ ran) × (new ≡ old)) ⊎ ((result ≡ Err stop.Write) × (new ≡ one_more old))
