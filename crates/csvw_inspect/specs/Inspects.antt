-- What an inspection sends to its writer.
use Rattle.std.specs.Prelude.{◌≡◌, ◌⊎◌, ℕ, List, Result, Ok, Err}
use Rattle.csvw_engine_core.specs.declared.stop.Stop.{Stop}
use Rattle.csvw_engine_core.specs.declared.stop.Stop.TheVariants as stop
use Rattle.csvw_streams.specs.Streams.{Stream, IsCut, IsIdle, Sends}

-- a whole text was sent, if the inspection succeeds; else nothing was sent, or the writer failed
abbrev pub Inspects : Stream → Result (Unit {0}) Stop → Type 0
Inspects out (Ok done) = (text : List ℕ) × Sends out text
Inspects out (Err reason) = IsIdle out ⊎ ((reason ≡ stop.Write) × ((text : List ℕ) × IsCut out text))
