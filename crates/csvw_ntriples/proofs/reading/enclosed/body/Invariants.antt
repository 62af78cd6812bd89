-- The text so far is pieces for the characters so far.
use Rattle.std.proofs.Common.{◌≡◌, ◌++◌, List, ℕ, length, string_bytes}
use Rattle.std.specs.Prelude.{encode_utf8_all}
use Rattle.csvw_ntriples.specs.Reading.{PieceOf}
use Rattle.csvw_ntriples.specs.Terminal.{Spells}
use Rattle.csvw_ntriples.proofs.reading.enclosed.body.Given as goal

abbrev pub invariant-loop-first : goal.invariant-loop-first
invariant-loop-first l = (so_far : List ℕ) × (front : List ℕ) × (l.text ≡ front ++ l.rest) × Spells (PieceOf l.kind) front so_far
    × (string_bytes l.value ≡ encode_utf8_all so_far)

abbrev pub decreases-loop-first : goal.decreases-loop-first
decreases-loop-first l = length l.rest
