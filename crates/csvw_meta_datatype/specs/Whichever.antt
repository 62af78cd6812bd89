-- The faults that depend on a value that can't be read: those that it has whichever value it is (Metadata Vocabulary for Tabular
-- Data, section 5.11.2). So if a `base` can't be read, the faults of the format and the facets are those that every supported
-- datatype has. `BadDatatype` is left out, because datatypes that aren't supported have formats and bounds of their own.
use Rattle.std.specs.Prelude.{◌&&◌, not, List, [], ◌∷◌, ◌++◌, Bool, true, false, bytes_eq, filter, map}
use Rattle.std.specs.List.{list_all, list_any}
use Rattle.csvw_meta_core.specs.declared.fault.MetaCode.{MetaCode}
use Rattle.csvw_meta_core.specs.declared.fault.MetaCode.TheVariants.{Memory, TooLong, NotJson, BadContext, BadProperty, BadId, BadUrl, UrlTooLong}
use Rattle.csvw_meta_core.specs.declared.fault.MetaCode.TheVariants.{NotSupported, BadDialect, BadDatatype, BadTemplate, TemplateLevel, BadName}
use Rattle.csvw_meta_core.specs.declared.fault.MetaCode.TheVariants.{DuplicateName, VirtualOrder, DuplicateTable, BadReference, TooMany}
use Rattle.csvw_meta_core.specs.declared.fault.MetaFault.{MetaFault}
use Rattle.csvw_meta_core.specs.Read.{Read}

unfoldable pub is_same_code : MetaCode → MetaCode → Bool
is_same_code Memory Memory = true
is_same_code TooLong TooLong = true
is_same_code NotJson NotJson = true
is_same_code BadContext BadContext = true
is_same_code BadProperty BadProperty = true
is_same_code BadId BadId = true
is_same_code BadUrl BadUrl = true
is_same_code UrlTooLong UrlTooLong = true
is_same_code NotSupported NotSupported = true
is_same_code BadDialect BadDialect = true
is_same_code BadDatatype BadDatatype = true
is_same_code BadTemplate BadTemplate = true
is_same_code TemplateLevel TemplateLevel = true
is_same_code BadName BadName = true
is_same_code DuplicateName DuplicateName = true
is_same_code VirtualOrder VirtualOrder = true
is_same_code DuplicateTable DuplicateTable = true
is_same_code BadReference BadReference = true
is_same_code TooMany TooMany = true
is_same_code _ _ = false

-- the fault is one of the list
abbrev pub is_among : List MetaFault → MetaFault → Bool
is_among faults f = list_any (λ g. is_same_code g.code f.code && bytes_eq g.pointer f.pointer) faults

-- the faults that are in all of several lists
abbrev pub common : List (List MetaFault) → List MetaFault
common [] = []
common (faults ∷ others) = filter (λ f. list_all (λ other. is_among other f) others) faults

-- those of them that every datatype has
abbrev pub of_any : List (List MetaFault) → List MetaFault
of_any lists = filter (λ f. not (is_same_code f.code BadDatatype)) (common lists)

-- the second value by the first one, or by each value that the first one may be
abbrev pub by_faults : {A B : Type 0} → List A → B → List MetaFault → A → (A → Read B) → Read B
by_faults values dummy [] a next = next a
by_faults values dummy (f ∷ fs) a next = record { faults = (f ∷ fs) ++ of_any (map (λ x. (next x).faults) values); value = dummy }

abbrev pub whichever : {A B : Type 0} → List A → B → Read A → (A → Read B) → Read B
whichever values dummy r next = by_faults values dummy r.faults r.value next
