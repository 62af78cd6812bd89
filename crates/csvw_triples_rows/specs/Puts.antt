-- The change that a call which puts triples makes to its sink.
use Rattle.std.specs.Prelude.{ℕ, Bool, List, Result, Ok, Err}
use Rattle.csvw_triples_core.specs.declared.term.Triple.{Triple}
use Rattle.csvw_triples_core.specs.declared.sink.SinkFault.{SinkFault}
use Rattle.csvw_triples_core.specs.declared.sink.SinkFault.TheVariants.{Memory, Device, Closed}
use Rattle.csvw_triples_core.specs.Taking.{FrontOf, Ends}

-- the device failed in this call
abbrev pub IsDevice : SinkFault → Type 0
IsDevice Memory = ⊥
IsDevice Device = Unit {0}
IsDevice Closed = ⊥

-- the sink took all of these triples or, after an error, a front of them
abbrev pub Takes : {S : Type 0} → (S → List Triple → S → Type 0) → (S → Triple → S → Type 0) → S → List Triple → S → Result Unit SinkFault → Type 0
Takes gains cuts old all new (Ok u) = gains old all new
Takes gains cuts old all new (Err e) = FrontOf gains cuts old all new (IsDevice e)

pub record Puts {S : Type 0} (gains : S → List Triple → S → Type 0) (cuts : S → Triple → S → Type 0) (is_open : S → Bool) (failed : S → ℕ)
    (old : S) (all : List Triple) (new : S) (result : Result Unit SinkFault) : Type 0 where
  pub takes : Takes gains cuts old all new result
  pub ends : Ends is_open failed old new result
