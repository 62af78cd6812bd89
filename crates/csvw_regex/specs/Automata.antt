-- The automata that decide which texts an expression describes.
use Rattle.std.specs.Prelude.{◌≡◌, ℕ, ◌<◌, ◌==◌, Bool, true, All, Option, Some, None, is_some, List, length}
use Rattle.regex_hir.specs.Meaning.{meaning}
use Rattle.regex_hir.specs.declared.hir.Hir.{Hir}
use Rattle.regex_nfa.specs.Run.{run}
use Rattle.regex_nfa.specs.declared.nfa.Nfa.{Nfa}
use Rattle.regex_vm.specs.Pike.{Room}
use Rattle.csvw_regex.specs.Expressions.{is_expression, matches_whole, fits_expression}

abbrev pub AreBytes : List ℕ → Type 0
AreBytes text = All (λ b. b < 256) text

-- the text is an expression, and the tree matches the texts that it describes
abbrev pub StandsFor : List ℕ → Hir → Type 0
StandsFor expression hir =
    (is_expression expression ≡ true)
    × ((text : List ℕ) → AreBytes text → matches_whole (meaning hir) text ≡ fits_expression expression text)

-- a match of the automaton begins at the start of the text
abbrev pub accepts : Nfa → List ℕ → Bool
accepts nfa text = is_some (run nfa text (length text) nfa.start 0)

-- the automaton accepts exactly the texts that the expression describes
abbrev pub Decides : Nfa → List ℕ → Type 0
Decides nfa expression = (text : List ℕ) → AreBytes text → accepts nfa text ≡ fits_expression expression text

-- the automaton accepts exactly the texts that the tree matches from start to end
abbrev pub IsAutomatonOf : Nfa → Hir → Type 0
IsAutomatonOf nfa hir = (text : List ℕ) → accepts nfa text ≡ matches_whole (meaning hir) text

-- a machine has room for so many states, if there is one
abbrev pub has_room : Option Room → ℕ → Bool
has_room None states = true
has_room (Some room) states = room.states == states
