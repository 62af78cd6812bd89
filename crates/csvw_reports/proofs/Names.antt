-- The names of codes and kinds: all codes are listed, and no name has a comma.
use Rattle.std.proofs.Common.{◌≡◌, ℕ, zero, suc, Bool, true, false, ◌||◌, List, [], ◌∷◌, Option, Some, None, refl, sym, bytes_eq}
use Rattle.std.specs.List.{list_any}
use Rattle.std.specs.Prelude.{slice_get, MatchOption}
use Rattle.std.proofs.lemmas.Slice.Eq.{bytes_eq-Decides}
use Rattle.csvw_fault.specs.Code.{name_of}
use Rattle.csvw_fault.specs.declared.fault.Code.{Code}
use Rattle.csvw_fault.specs.declared.fault.Code.TheVariants.{UnknownProperty, HeaderMissing, HeaderCount, HeaderMismatch, Required, BadBoolean}
use Rattle.csvw_fault.specs.declared.fault.Code.TheVariants.{BadInteger, BadDecimal, NumberTooLong, OutOfRange, BadDate, BadDateTime, BadDouble, WrongLength}
use Rattle.csvw_fault.specs.declared.fault.Code.TheVariants.{BadTime, BadText, BadDuration, TooShort, TooLong, BelowMinimum, AboveMaximum, BadUrl, UrlTooLong, DuplicateKey}
use Rattle.csvw_fault.specs.declared.fault.Code.TheVariants.{NoReferencedRow, ManyReferencedRows}
use Rattle.csvw_fault.specs.declared.fault.Kind.{Kind}
use Rattle.csvw_fault.specs.declared.fault.Kind.TheVariants.{Error, Warning}
use Rattle.csvw_part_plan.proofs.Cells.{IsWithout}
use Rattle.csvw_report.specs.Order.{code_number}
use Rattle.csvw_report.specs.Report.{kind_name}
use Rattle.csvw_reports.specs.declared.code.TheConstants.{CODES}

is_at : (c : Code) → slice_get CODES (code_number c) ≡ Some c
is_at UnknownProperty = refl
is_at HeaderMissing = refl
is_at HeaderCount = refl
is_at HeaderMismatch = refl
is_at Required = refl
is_at BadBoolean = refl
is_at BadInteger = refl
is_at BadDecimal = refl
is_at NumberTooLong = refl
is_at OutOfRange = refl
is_at BadDate = refl
is_at BadDateTime = refl
is_at BadDouble = refl
is_at BadTime = refl
is_at BadText = refl
is_at BadDuration = refl
is_at WrongLength = refl
is_at TooShort = refl
is_at TooLong = refl
is_at BelowMinimum = refl
is_at AboveMaximum = refl
is_at BadUrl = refl
is_at UrlTooLong = refl
is_at DuplicateKey = refl
is_at NoReferencedRow = refl
is_at ManyReferencedRows = refl

-- what no item passes, the item at a place doesn't pass
fails_at : {X : Type 0} (test : X → Bool) (xs : List X) (n : ℕ) (x : X) → list_any test xs ≡ false → slice_get xs n ≡ Some x → test x ≡ false
fails_at test [] n x none is = cc
fails_at test (y ∷ ys) zero x none is = of (test y) refl none
  where
    of : (b : Bool) → test y ≡ b → (b || list_any test ys) ≡ false → test x ≡ false
    of true same h = cc
    of false same h = cc
fails_at test (y ∷ ys) (suc n) x none is = fails_at test ys n x (others (test y) none) is
  where
    others : (b : Bool) → (b || list_any test ys) ≡ false → list_any test ys ≡ false
    others true h = cc
    others false h = h

-- a test that no listed code passes, no code passes
pub no_code : (test : Code → Bool) (c : Code) → list_any test CODES ≡ false → test c ≡ false
no_code test c none = fails_at test CODES (code_number c) c none (is_at c)

-- what is known of a code that was looked for in the list holds for all codes
pub found_in_all : (name : List ℕ) (found : Option Code)
    → MatchOption found (list_any (λ c. bytes_eq (name_of c) name) CODES ≡ false) (λ c. name ≡ name_of c)
    → MatchOption found ((c : Code) → name ≡ name_of c → ⊥) (λ c. name ≡ name_of c)
found_in_all name None none = λ c is.
    let no = no_code (λ d. bytes_eq (name_of d) name) c none in
    let yes = (bytes_eq-Decides (name_of c) name).1 (sym is) in
    cc
found_in_all name (Some c) is = is

pub code_without_comma : (c : Code) → IsWithout 44 (name_of c)
code_without_comma UnknownProperty = refl
code_without_comma HeaderMissing = refl
code_without_comma HeaderCount = refl
code_without_comma HeaderMismatch = refl
code_without_comma Required = refl
code_without_comma BadBoolean = refl
code_without_comma BadInteger = refl
code_without_comma BadDecimal = refl
code_without_comma NumberTooLong = refl
code_without_comma OutOfRange = refl
code_without_comma BadDate = refl
code_without_comma BadDateTime = refl
code_without_comma BadDouble = refl
code_without_comma BadTime = refl
code_without_comma BadText = refl
code_without_comma BadDuration = refl
code_without_comma WrongLength = refl
code_without_comma TooShort = refl
code_without_comma TooLong = refl
code_without_comma BelowMinimum = refl
code_without_comma AboveMaximum = refl
code_without_comma BadUrl = refl
code_without_comma UrlTooLong = refl
code_without_comma DuplicateKey = refl
code_without_comma NoReferencedRow = refl
code_without_comma ManyReferencedRows = refl

pub kind_without_comma : (k : Kind) → IsWithout 44 (kind_name k)
kind_without_comma Error = refl
kind_without_comma Warning = refl
