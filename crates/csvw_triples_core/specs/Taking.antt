-- What a sink took in a call that puts several triples.
use Rattle.std.specs.Prelude.{◌≡◌, ℕ, ◌+◌, ◌<◌, ◌^◌, ◌-◌, Bool, false, List, ◌∷◌, ◌++◌, Result, Ok, Err}
use Rattle.csvw_triples_core.specs.declared.term.Triple.{Triple}
use Rattle.csvw_triples_core.specs.declared.sink.SinkFault.{SinkFault}
use Rattle.csvw_triples_core.specs.declared.sink.SinkFault.TheVariants.{Memory, Device, Closed}

-- Between the two states the sink took the triples of front, each whole. The device failed within the first triple of rest.
pub record IsCutAfter {S : Type 0} (gains : S → List Triple → S → Type 0) (cuts : S → Triple → S → Type 0) (old : S) (front rest : List Triple)
    (new : S) : Type 0 where
  pub middle : S
  pub before : gains old front middle
  pub next : Triple
  pub more : List Triple
  pub rest_is : rest ≡ next ∷ more
  pub cut : cuts middle next new

-- Between the two states the sink took a front of these triples, each of them whole. If the device failed, it failed within the triple after
-- this front.
pub record FrontOf {S : Type 0} (gains : S → List Triple → S → Type 0) (cuts : S → Triple → S → Type 0) (old : S) (all : List Triple) (new : S)
    (Fails : Type 0) : Type 0 where
  pub front : List Triple
  pub rest : List Triple
  pub parts : all ≡ front ++ rest
  pub gained : gains old front new
  pub cut : Fails → IsCutAfter gains cuts old front rest new

-- the sink is open or closed as before, and no failure was counted
abbrev pub IsAsReady : {S : Type 0} → (S → Bool) → (S → ℕ) → S → S → Type 0
IsAsReady is_open failed old new = (is_open new ≡ is_open old) × (failed new ≡ failed old)

-- After Ok and Memory the sink is open, and no failure was counted. After Device it is closed, and one more failure is counted if the count
-- has room. Closed comes only from a sink that was closed, and leaves it so.
abbrev pub Ends : {S : Type 0} → (S → Bool) → (S → ℕ) → S → S → Result Unit SinkFault → Type 0
Ends is_open failed old new (Ok u) = IsAsReady is_open failed old new
Ends is_open failed old new (Err Memory) = IsAsReady is_open failed old new
Ends is_open failed old new (Err Device) = (is_open new ≡ false) × (failed old < 2 ^ 64 - 1 → failed new ≡ failed old + 1)
Ends is_open failed old new (Err Closed) = (is_open old ≡ false) × IsAsReady is_open failed old new
