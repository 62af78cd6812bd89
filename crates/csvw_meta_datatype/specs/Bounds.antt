-- The bounds of a datatype of a document, and their faults (Metadata Vocabulary for Tabular Data, section 5.11.2).
use Rattle.std.specs.Prelude.{ℕ, Bool, true, false, List, Option, Some, None, codes, if◌then◌else◌, ℤ}
use Rattle.serde_json.specs.Data.{Data, null, boolean, number, string, array, object}
use Rattle.serde_json.specs.Find.{as_integer}
use Rattle.csvw_datatype.specs.declared.value.Value.{Value}
use Rattle.csvw_datatype.specs.declared.simple.Simple.{Simple}
use Rattle.csvw_datatype.specs.declared.simple.Simple.TheVariants as simples
use Rattle.csvw_datatype.specs.Bounds.{bound_of, bound_of_whole}
use Rattle.csvw_datatype.specs.Strings.{is_ordered}
use Rattle.csvw_meta_core.specs.declared.fault.MetaCode.TheVariants.{BadDatatype}
use Rattle.csvw_meta_core.specs.Read.{Read, fine, faulty, ◌>>=◌, wrong, property}
use Rattle.csvw_meta_datatype.specs.declared.bounds.Bounds.{Bounds}

abbrev pub bound_found : List ℕ → Option Value → Read (Option Value)
bound_found at None = faulty BadDatatype at None
bound_found at (Some v) = fine (Some v)

-- the values are days, moments, times, parts of dates or durations, whose bounds are only texts
abbrev pub is_dated : Simple → Bool
is_dated simples.Day = true
is_dated simples.Moment = true
is_dated (simples.Other t) = is_ordered t
is_dated _ = false

abbrev pub bound_of_integer : Simple → List ℕ → Data → Option ℤ → Read (Option Value)
bound_of_integer s at d None = wrong at d None
bound_of_integer s at d (Some z) = if is_dated s then wrong at d None else bound_found at (bound_of_whole s z)

-- a text in the default format of the type, or a whole number
abbrev pub bound : Simple → List ℕ → Data → Read (Option Value)
bound s at (string text) = bound_found at (bound_of s text)
bound s at (number n) = bound_of_integer s at (number n) (as_integer n)
bound s at null = wrong at null None
bound s at (boolean b) = wrong at (boolean b) None
bound s at (array ds) = wrong at (array ds) None
bound s at (object ms) = wrong at (object ms) None

unfoldable pub bounds : Simple → List ℕ → Data → Read Bounds
bounds s at d = do
  minimum ← property (bound s) None at d (codes "minimum")
  min_inclusive ← property (bound s) None at d (codes "minInclusive")
  min_exclusive ← property (bound s) None at d (codes "minExclusive")
  maximum ← property (bound s) None at d (codes "maximum")
  max_inclusive ← property (bound s) None at d (codes "maxInclusive")
  max_exclusive ← property (bound s) None at d (codes "maxExclusive")
  fine (record {
    minimum = minimum;
    min_inclusive = min_inclusive;
    min_exclusive = min_exclusive;
    maximum = maximum;
    max_inclusive = max_inclusive;
    max_exclusive = max_exclusive;
  })
