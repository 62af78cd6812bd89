-- Expansions within a limit of bytes: they are written whole, or they are too long.
use Rattle.std.specs.Prelude.{◌≡◌, ◌<◌, ◌≤◌, ◌++◌, ℕ, List, length}
use Rattle.csvw_template.specs.declared.bound.Fit.{Fit}
use Rattle.csvw_template.specs.declared.bound.Fit.TheVariants.{Whole, TooLong}
use Rattle.csvw_template.specs.declared.vars.Var.{Var}
use Rattle.csvw_template.specs.declared.vars.Var.TheVariants.{Undefined, One, Many}
use Rattle.csvw_template.specs.Name.{listed}

-- the number of bytes of a value, with nothing encoded: of its text, or of its items with commas between them
abbrev pub plain_len : Var → ℕ
plain_len Undefined = 0
plain_len (One text) = length text
plain_len (Many items) = length (listed items)

-- A text was added to the old one; or the two are longer than the limit.
abbrev pub Writes : Fit → ℕ → List ℕ → List ℕ → List ℕ → Type 0
Writes Whole most old text new = new ≡ old ++ text
Writes TooLong most old text new = most < length (old ++ text)

-- A text was added to the old one, and the two are within the limit; or they are longer than it.
abbrev pub Fits : Fit → ℕ → List ℕ → List ℕ → List ℕ → Type 0
Fits Whole most old text new = (new ≡ old ++ text) × (length new ≤ most)
Fits TooLong most old text new = most < length (old ++ text)
