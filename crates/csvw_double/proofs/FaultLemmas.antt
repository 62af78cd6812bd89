-- A text that is no double has no canonical text.
use Rattle.std.proofs.Common.{◌≡◌, ℕ, List, Some, None, Result, Ok, Err, refl, sym, MatchResult}
use Rattle.std.specs.Result.{result_ok}
use Rattle.csvw_double.specs.declared.numeral.DoubleFault.{DoubleFault}
use Rattle.csvw_double.specs.declared.numeral.DoubleFault.TheVariants.{Bad, TooLong}
use Rattle.csvw_double.specs.Forms.{IsDoubleFault, double_form}

no_double : (text : List ℕ) (fault : DoubleFault) → IsDoubleFault text fault → double_form text ≡ None
unfolding double_form
no_double text Bad h = rw (h.0, h.1) refl
no_double text TooLong h = rw (h.0, h.1.0, h.1.1) refl

-- a reader that returns the form, or why there is none, returns it if there is one
pub form_is : (text : List ℕ) (r : Result (List ℕ) DoubleFault) → MatchResult r (λ form. double_form text ≡ Some form) (IsDoubleFault text)
    → result_ok r ≡ double_form text
form_is text (Ok form) h = sym h
form_is text (Err fault) h = sym (no_double text fault h)
