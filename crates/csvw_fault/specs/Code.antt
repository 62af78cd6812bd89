-- The names of fault codes, as reports spell them.
use Rattle.std.specs.Prelude.{ℕ, List, codes}
use Rattle.csvw_fault.specs.declared.fault.Code.{Code}
use Rattle.csvw_fault.specs.declared.fault.Code.TheVariants.{UnknownProperty, HeaderMissing, HeaderCount, HeaderMismatch, Required, BadBoolean}
use Rattle.csvw_fault.specs.declared.fault.Code.TheVariants.{BadInteger, BadDecimal, NumberTooLong, OutOfRange, BadDate, BadDateTime, BadDouble, WrongLength}
use Rattle.csvw_fault.specs.declared.fault.Code.TheVariants.{BadTime, BadText, BadDuration, TooShort, TooLong, BelowMinimum, AboveMaximum, BadUrl, UrlTooLong, DuplicateKey}
use Rattle.csvw_fault.specs.declared.fault.Code.TheVariants.{NoReferencedRow, ManyReferencedRows}

-- the name of the variant
abbrev pub name_of : Code → List ℕ
name_of UnknownProperty = codes "UnknownProperty"
name_of HeaderMissing = codes "HeaderMissing"
name_of HeaderCount = codes "HeaderCount"
name_of HeaderMismatch = codes "HeaderMismatch"
name_of Required = codes "Required"
name_of BadBoolean = codes "BadBoolean"
name_of BadInteger = codes "BadInteger"
name_of BadDecimal = codes "BadDecimal"
name_of NumberTooLong = codes "NumberTooLong"
name_of OutOfRange = codes "OutOfRange"
name_of BadDate = codes "BadDate"
name_of BadDateTime = codes "BadDateTime"
name_of BadDouble = codes "BadDouble"
name_of BadTime = codes "BadTime"
name_of BadText = codes "BadText"
name_of BadDuration = codes "BadDuration"
name_of WrongLength = codes "WrongLength"
name_of TooShort = codes "TooShort"
name_of TooLong = codes "TooLong"
name_of BelowMinimum = codes "BelowMinimum"
name_of AboveMaximum = codes "AboveMaximum"
name_of BadUrl = codes "BadUrl"
name_of UrlTooLong = codes "UrlTooLong"
name_of DuplicateKey = codes "DuplicateKey"
name_of NoReferencedRow = codes "NoReferencedRow"
name_of ManyReferencedRows = codes "ManyReferencedRows"
