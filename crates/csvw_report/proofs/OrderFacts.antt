-- The derived order of faults is that of reports.
use Rattle.std.proofs.Common.{◌≡◌, ◌+◌, List, refl, sym, ap, ◌∙◌, get_or}
use Rattle.std.specs.List.Sorted.{IsSorted}
use Rattle.std.specs.Ordering.{is_lt, nat_cmp, ordering_then}
use Rattle.csvw_fault.specs.contracts.fault.FaultOrd.TheImpl as derived
use Rattle.csvw_fault.specs.contracts.fault.CodeOrd.TheImpl as derived_code
use Rattle.csvw_fault.specs.contracts.fault.KindOrd.TheImpl as derived_kind
use Rattle.csvw_fault.specs.declared.fault.Code.{Code}
use Rattle.csvw_fault.specs.declared.fault.Code.TheVariants.{UnknownProperty, HeaderMissing, HeaderCount, HeaderMismatch, Required, BadBoolean}
use Rattle.csvw_fault.specs.declared.fault.Code.TheVariants.{BadInteger, BadDecimal, NumberTooLong, OutOfRange, BadDate, BadDateTime, BadDouble, WrongLength}
use Rattle.csvw_fault.specs.declared.fault.Code.TheVariants.{BadTime, BadText, BadDuration, TooShort, TooLong, BelowMinimum, AboveMaximum, BadUrl, UrlTooLong, DuplicateKey}
use Rattle.csvw_fault.specs.declared.fault.Code.TheVariants.{NoReferencedRow, ManyReferencedRows}
use Rattle.csvw_fault.specs.declared.fault.Fault.{Fault}
use Rattle.csvw_fault.specs.declared.fault.Kind.{Kind}
use Rattle.csvw_fault.specs.declared.fault.Kind.TheVariants.{Error, Warning}
use Rattle.csvw_report.specs.Order.{code_number, fault_cmp, kind_number, place_cmp}

code-is : (a b : Code) → derived_code.ghosts.cmp a b ≡ nat_cmp (code_number a) (code_number b)
code-is UnknownProperty UnknownProperty = refl
code-is UnknownProperty _ = refl
code-is HeaderMissing UnknownProperty = refl
code-is HeaderMissing _ = refl
code-is HeaderCount UnknownProperty = refl
code-is HeaderCount _ = refl
code-is HeaderMismatch UnknownProperty = refl
code-is HeaderMismatch _ = refl
code-is Required UnknownProperty = refl
code-is Required _ = refl
code-is BadBoolean UnknownProperty = refl
code-is BadBoolean _ = refl
code-is BadInteger UnknownProperty = refl
code-is BadInteger _ = refl
code-is BadDecimal UnknownProperty = refl
code-is BadDecimal _ = refl
code-is NumberTooLong UnknownProperty = refl
code-is NumberTooLong _ = refl
code-is OutOfRange UnknownProperty = refl
code-is OutOfRange _ = refl
code-is BadDate UnknownProperty = refl
code-is BadDate _ = refl
code-is BadDateTime UnknownProperty = refl
code-is BadDateTime _ = refl
code-is BadDouble UnknownProperty = refl
code-is BadDouble _ = refl
code-is BadTime UnknownProperty = refl
code-is BadTime _ = refl
code-is BadText UnknownProperty = refl
code-is BadText _ = refl
code-is BadDuration UnknownProperty = refl
code-is BadDuration _ = refl
code-is WrongLength UnknownProperty = refl
code-is WrongLength _ = refl
code-is TooShort UnknownProperty = refl
code-is TooShort _ = refl
code-is TooLong UnknownProperty = refl
code-is TooLong _ = refl
code-is BelowMinimum UnknownProperty = refl
code-is BelowMinimum _ = refl
code-is AboveMaximum UnknownProperty = refl
code-is AboveMaximum _ = refl
code-is BadUrl UnknownProperty = refl
code-is BadUrl _ = refl
code-is UrlTooLong UnknownProperty = refl
code-is UrlTooLong _ = refl
code-is DuplicateKey UnknownProperty = refl
code-is DuplicateKey _ = refl
code-is NoReferencedRow UnknownProperty = refl
code-is NoReferencedRow _ = refl
code-is ManyReferencedRows UnknownProperty = refl
code-is ManyReferencedRows _ = refl

kind-is : (a b : Kind) → derived_kind.ghosts.cmp a b ≡ nat_cmp (kind_number a) (kind_number b)
kind-is Error Error = refl
kind-is Error Warning = refl
kind-is Warning Error = refl
kind-is Warning Warning = refl

pub derived-is : (a b : Fault) → derived.ghosts.cmp a b ≡ fault_cmp a b
derived-is a b =
    ap (λ o. ordering_then (place_cmp a.place b.place) (ordering_then o (derived_kind.ghosts.cmp a.kind b.kind))) (code-is a.code b.code)
    ∙ ap (λ o. ordering_then (place_cmp a.place b.place) (ordering_then (nat_cmp (code_number a.code) (code_number b.code)) o)) (kind-is a.kind b.kind)

pub sorted-is : (faults : List Fault) → IsSorted derived.ghosts.cmp faults → IsSorted fault_cmp faults
sorted-is faults h k d low high = ap is_lt (sym (derived-is (get_or faults (k + 1) d) (get_or faults k d))) ∙ h k d low high
