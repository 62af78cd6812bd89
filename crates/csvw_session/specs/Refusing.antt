-- Why a session does not start.
use Rattle.std.specs.Prelude.{◌≡◌, ◌<◌, ◌+◌, ◌-◌, ◌^◌, ℕ, Bool, true, false, List}
use Rattle.csvw_columns.specs.declared.plan.Plan.{Plan}
use Rattle.csvw_triples_core.specs.Taking.{FrontOf, IsAsReady}
use Rattle.csvw_triples_core.specs.declared.mode.Mode.{Mode}
use Rattle.csvw_triples_core.specs.declared.term.Triple.{Triple}
use Rattle.csvw_triples.specs.OpeningTriples.{opening}
use Rattle.csvw_engine_core.specs.declared.stop.Stop.{Stop}
use Rattle.csvw_engine_core.specs.declared.stop.Stop.TheVariants as stop

-- The reason, and what the sink took before it: a front of the triples of the group and its tables, each of them whole. If the device failed,
-- it failed within the next triple.
abbrev pub Refuses : {S : Type 0} → (S → List Triple → S → Type 0) → (S → Triple → S → Type 0) → (S → Bool) → (S → ℕ) → Plan → Mode → S → S → Stop → Type 0
Refuses gains cuts is_open failed plan mode sink now stop.Memory = FrontOf gains cuts sink (opening mode plan) now ⊥ × IsAsReady is_open failed sink now
Refuses gains cuts is_open failed plan mode sink now stop.Write = FrontOf gains cuts sink (opening mode plan) now (is_open sink ≡ true) × (is_open now ≡ false)
    × (is_open sink ≡ true → failed sink < 2 ^ 64 - 1 → failed now ≡ failed sink + 1)
Refuses gains cuts is_open failed plan mode sink now other = ⊥
