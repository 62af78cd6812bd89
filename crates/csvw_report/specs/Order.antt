-- The order of faults in reports: `fault_cmp`; and the faults that make a group invalid.
use Rattle.std.specs.Prelude.{ℕ, Bool, true, false}
use Rattle.std.specs.Ordering.{nat_cmp, ordering_then}
use Rattle.std.specs.declared.cmp.Ordering.{Ordering}
use Rattle.csvw_fault.specs.declared.fault.Code.{Code}
use Rattle.csvw_fault.specs.declared.fault.Code.TheVariants.{UnknownProperty, HeaderMissing, HeaderCount, HeaderMismatch, Required, BadBoolean}
use Rattle.csvw_fault.specs.declared.fault.Code.TheVariants.{BadInteger, BadDecimal, NumberTooLong, OutOfRange, BadDate, BadDateTime, BadDouble, WrongLength}
use Rattle.csvw_fault.specs.declared.fault.Code.TheVariants.{BadTime, BadText, BadDuration, TooShort, TooLong, BelowMinimum, AboveMaximum, BadUrl, UrlTooLong, DuplicateKey}
use Rattle.csvw_fault.specs.declared.fault.Code.TheVariants.{NoReferencedRow, ManyReferencedRows}
use Rattle.csvw_fault.specs.declared.fault.Fault.{Fault}
use Rattle.csvw_fault.specs.declared.fault.Place.{Place}
use Rattle.csvw_fault.specs.declared.fault.Kind.{Kind}
use Rattle.csvw_fault.specs.declared.fault.Kind.TheVariants.{Error, Warning}

abbrev pub is_warning : Kind → Bool
is_warning Error = false
is_warning Warning = true

-- the fault leaves its group valid
abbrev pub is_no_error : Fault → Bool
is_no_error fault = is_warning fault.kind

-- an error comes before a warning
abbrev pub kind_number : Kind → ℕ
kind_number Error = 0
kind_number Warning = 1

-- the place of a code among the codes
abbrev pub code_number : Code → ℕ
code_number UnknownProperty = 0
code_number HeaderMissing = 1
code_number HeaderCount = 2
code_number HeaderMismatch = 3
code_number Required = 4
code_number BadBoolean = 5
code_number BadInteger = 6
code_number BadDecimal = 7
code_number NumberTooLong = 8
code_number OutOfRange = 9
code_number BadDate = 10
code_number BadDateTime = 11
code_number BadDouble = 12
code_number BadTime = 13
code_number BadText = 14
code_number BadDuration = 15
code_number WrongLength = 16
code_number TooShort = 17
code_number TooLong = 18
code_number BelowMinimum = 19
code_number AboveMaximum = 20
code_number BadUrl = 21
code_number UrlTooLong = 22
code_number DuplicateKey = 23
code_number NoReferencedRow = 24
code_number ManyReferencedRows = 25

-- places by table, row and column
abbrev pub place_cmp : Place → Place → Ordering
place_cmp a b = ordering_then (nat_cmp a.table b.table) (ordering_then (nat_cmp a.row b.row) (nat_cmp a.column b.column))

-- faults by place, code and kind
abbrev pub fault_cmp : Fault → Fault → Ordering
fault_cmp a b =
    ordering_then (place_cmp a.place b.place)
    (ordering_then (nat_cmp (code_number a.code) (code_number b.code)) (nat_cmp (kind_number a.kind) (kind_number b.kind)))
