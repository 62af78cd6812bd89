-- Variables (RFC 6570, section 2.3): a finite map from names to what they stand for, as a list of pairs in which each name occurs once at most.
use Rattle.std.specs.Prelude.{ℕ, List, [], ◌∷◌, bytes_eq, if◌then◌else◌}
use Rattle.csvw_template.specs.declared.vars.Var.{Var}
use Rattle.csvw_template.specs.declared.vars.Var.TheVariants.{Undefined}

abbrev pub Variables : Type 0
Variables = List (List ℕ × Var)

-- what a name stands for; a name that isn't in the map is undefined
abbrev pub lookup : Variables → List ℕ → Var
lookup [] name = Undefined
lookup (p ∷ ps) name = if bytes_eq p.0 name then p.1 else lookup ps name

-- the map in which the name stands for the value
abbrev pub put : Variables → List ℕ → Var → Variables
put [] name value = (name, value) ∷ []
put (p ∷ ps) name value = if bytes_eq p.0 name then (p.0, value) ∷ ps else p ∷ put ps name value
