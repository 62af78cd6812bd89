-- What a run over a group of tables has written when it stops: `WroteAll`, `WroteSome`, `WroteLines` (RDF 1.1 N-Triples; csv2rdf,
-- section 4.2).
use Rattle.std.specs.Prelude.{◌≡◌, ◌⊎◌, ◌<◌, ℕ, List, [], ◌∷◌, ◌++◌, length, take, Contains}
use Rattle.std.specs.Io.KnownBytes.{Appends}
use Rattle.csvw_streams.specs.Streams.{Stream}
use Rattle.csvw_columns.specs.declared.plan.Plan.{Plan}
use Rattle.csvw_triples_core.specs.declared.mode.Mode.{Mode}
use Rattle.csvw_triples_core.specs.declared.mode.Mode.TheVariants as mode
use Rattle.csvw_triples_core.specs.declared.term.Triple.{Triple}
use Rattle.csvw_ntriples.specs.Grammar.{Denotes}
use Rattle.csvw_ntriples.specs.SameUpTo.{SameUpTo}
use Rattle.csvw_ntriples.specs.Writable.{TripleFits}
use Rattle.csvw_ntriples.specs.Written.{written}
use Rattle.csvw_ntriples.specs.declared.term.NtTriple.{NtTriple}
use Rattle.csvw_session.specs.Events.{Event}
use Rattle.csvw_engine_core.specs.declared.stop.Stop.{Stop}
use Rattle.csvw_engine_core.specs.declared.stop.Stop.TheVariants as stop
use Rattle.csvw_group_laws.specs.Part.{TablePart, HaveAllRows, PartGraph, IsCutShort}

-- the writer gained whole lines, which denote the graph with a different name for each blank node, and then these bytes
pub record WroteLines (out : Stream) (Graph : Triple → Type 0) (more : List ℕ) : Type 0 where
  pub put : List Triple
  pub added : Appends out.held out.holds (written put ++ more)
  pub triples : List NtTriple
  pub denotes : Denotes (written put) triples
  pub same : SameUpTo Graph triples

-- by the mode: Validate adds nothing
abbrev pub Added : Mode → Stream → (Triple → Type 0) → List ℕ → Type 0
Added mode.Validate out Graph more = Appends out.held out.holds []
Added mode.Minimal out Graph more = WroteLines out Graph more
Added mode.Standard out Graph more = WroteLines out Graph more

-- a proper front of the line of the first of these triples, or nothing
abbrev pub IsFrontOfLine : List Triple → List ℕ → Type 0
IsFrontOfLine [] more = more ≡ []
IsFrontOfLine (next ∷ rest) more =
    (more ≡ []) ⊎ (TripleFits next × (n : ℕ) × (n < length (written (next ∷ []))) × (more ≡ take n (written (next ∷ []))))

-- the graph of all rows of the texts so far
pub record WroteAll (m : Mode) (plan : Plan) (out : Stream) (events : List Event) : Type 0 where
  pub parts : ℕ → TablePart
  pub have : HaveAllRows plan.tables events parts
  pub added : Added m out (PartGraph m plan parts) []

-- a graph that was cut short, and perhaps a front of the line of the next triple
pub record WroteSome (m : Mode) (plan : Plan) (out : Stream) (events : List Event) (more : List ℕ) : Type 0 where
  pub triples : List Triple
  pub rest : List Triple
  pub cut : IsCutShort m plan events triples rest
  pub line : IsFrontOfLine rest more
  pub added : Added m out (Contains triples) more

-- what the tables have written, by the stop that comes after these events
abbrev pub Leaves : Mode → Plan → Stream → Stop → List Event → Type 0
Leaves m plan out stop.Memory events = WroteSome m plan out events []
Leaves m plan out stop.Write events = (more : List ℕ) × WroteSome m plan out events more
Leaves m plan out stop.Read events = WroteAll m plan out events
Leaves m plan out (stop.Rows t row reason) events = WroteAll m plan out events
Leaves m plan out (stop.Table t row reason) events = WroteAll m plan out events
Leaves m plan out other events = ⊥
