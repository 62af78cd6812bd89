-- The pass that collapses spaces.
use Rattle.std.specs.Prelude.{ℕ, Bool, true, false, List, [], ◌∷◌, ◌++◌, if◌then◌else◌}
use Rattle.csvw_text.specs.declared.spaces.Stand.{Stand}
use Rattle.csvw_text.specs.declared.spaces.Stand.TheVariants.{Front, Word, Gap}
use Rattle.csvw_text.specs.Collapse.{is_space}

abbrev pub next : Stand → Bool → Stand
next Front true = Front
next Word true = Gap
next Gap true = Gap
next _ false = Word

abbrev pub with_gap : Stand → ℕ → List ℕ
with_gap Gap c = 32 ∷ c ∷ []
with_gap Front c = c ∷ []
with_gap Word c = c ∷ []

abbrev pub pushed : Stand → ℕ → List ℕ
pushed stand c = if is_space c then [] else with_gap stand c

-- what the pass pushes for the rest of a text
abbrev pub rest : Stand → List ℕ → List ℕ
rest stand [] = []
rest stand (c ∷ cs) = pushed stand c ++ rest (next stand (is_space c)) cs
