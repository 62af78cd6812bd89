-- The bytes that a sink over a writer sends to that writer.
use Rattle.std.specs.Prelude.{ℕ, ◌≡◌, ◌<◌, List, [], ◌∷◌, ◌++◌, Bool, true, false, Option, take, length}
use Rattle.std.specs.Io.KnownBytes.{Appends, Keeps}
use Rattle.csvw_ntriples.specs.Writable.{TripleFits}
use Rattle.csvw_ntriples.specs.Written.{written}
use Rattle.csvw_triples_core.specs.declared.term.Triple.{Triple}

-- The writer gained these bytes, and then a proper front of the line of this triple, which may be empty.
pub record IsCutIn (cut : Triple) (old new : Option (List ℕ)) (bytes : List ℕ) : Type 0 where
  pub fits : TripleFits cut
  pub sent : ℕ
  pub short : sent < length (written (cut ∷ []))
  pub added : Appends old new (bytes ++ take sent (written (cut ∷ [])))

-- Between the two states the writer gained the lines of these triples. If the sink was closed in between, a proper front of the line of some
-- triple follows. A closed sink adds nothing.
abbrev pub Sends : Option (List ℕ) → Bool → List Triple → Option (List ℕ) → Bool → Type 0
Sends old true ts new true = Appends old new (written ts)
Sends old true ts new false = (cut : Triple) × IsCutIn cut old new (written ts)
Sends old false ts new true = ⊥
Sends old false ts new false = (ts ≡ []) × Keeps old new
