-- What the sink of a session took so far, and what it took before a stop: `TookAll`, `TookBy`.
use Rattle.std.specs.Prelude.{◌≡◌, ℕ, Bool, true, List, ◌++◌}
use Rattle.csvw_columns.specs.declared.plan.Plan.{Plan}
use Rattle.csvw_triples_core.specs.Taking.{FrontOf, IsAsReady}
use Rattle.csvw_triples_core.specs.declared.mode.Mode.{Mode}
use Rattle.csvw_triples_core.specs.declared.term.Triple.{Triple}
use Rattle.csvw_session.specs.Events.{Event}
use Rattle.csvw_session.specs.Sessions.{TookGraph}
use Rattle.csvw_engine_core.specs.declared.stop.Stop.{Stop}
use Rattle.csvw_engine_core.specs.declared.stop.Stop.TheVariants as stop
use Rattle.csvw_group_laws.specs.Part.{TablePart, HaveAllRows, PartGraph, IsCutShort}

-- the graph of the group with all rows of the texts so far
pub record TookAll {S : Type 0} (gains : S → List Triple → S → Type 0) (m : Mode) (plan : Plan) (events : List Event) (sink now : S) : Type 0 where
  pub parts : ℕ → TablePart
  pub have : HaveAllRows plan.tables events parts
  pub took : TookGraph gains sink now (PartGraph m plan parts)

-- The sink took triples before the last call, when it was ready, and in that call a front of more, each of them whole. If the device failed,
-- it failed within the triple after this front. Each front of these triples, after the triples before them, is a part of the graph.
pub record TookSome {S : Type 0} (gains : S → List Triple → S → Type 0) (cuts : S → Triple → S → Type 0) (is_open : S → Bool) (failed : S → ℕ)
    (m : Mode) (plan : Plan) (events : List Event) (sink now : S) (Fails : Type 0) : Type 0 where
  pub taken : List Triple
  pub middle : S
  pub gained : gains sink taken middle
  pub ready : IsAsReady is_open failed sink middle
  pub more : List Triple
  pub took : FrontOf gains cuts middle more now Fails
  pub cut : (front rest : List Triple) → more ≡ front ++ rest → IsCutShort m plan events (taken ++ front) rest

-- by the stop after these events
abbrev pub TookBy : {S : Type 0} → (S → List Triple → S → Type 0) → (S → Triple → S → Type 0) → (S → Bool) → (S → ℕ) → Mode → Plan → List Event → S → S
    → Stop → Type 0
TookBy gains cuts is_open failed m plan events sink now stop.Memory = TookSome gains cuts is_open failed m plan events sink now ⊥
TookBy gains cuts is_open failed m plan events sink now stop.Write = TookSome gains cuts is_open failed m plan events sink now (is_open sink ≡ true)
TookBy gains cuts is_open failed m plan events sink now stop.Read = TookAll gains m plan events sink now
TookBy gains cuts is_open failed m plan events sink now (stop.Rows t row reason) = TookAll gains m plan events sink now
TookBy gains cuts is_open failed m plan events sink now (stop.Table t row reason) = TookAll gains m plan events sink now
TookBy gains cuts is_open failed m plan events sink now other = Unit {0}
