-- Rules over several values of a part: `also`. Each rule checks the values that could be read, whatever other faults the part
-- has.
use Rattle.std.specs.Prelude.{ℕ, ◌&&◌, ◌||◌, not, nat_eq, bytes_eq, List, [], ◌++◌, Bool, true, false}
use Rattle.std.specs.List.{list_any, starts_with}
use Rattle.csvw_meta_core.specs.declared.fault.MetaCode.{MetaCode}
use Rattle.csvw_meta_core.specs.declared.fault.MetaCode.TheVariants.{DuplicateName, VirtualOrder, DuplicateTable, TooMany}
use Rattle.csvw_meta_core.specs.declared.fault.MetaFault.{MetaFault}
use Rattle.csvw_meta_core.specs.Pointer.{below, further}
use Rattle.csvw_meta_core.specs.Read.{Read}

-- a fault of several values together or of their number; each of the values may still be readable
unfoldable pub is_of_several : MetaCode → Bool
is_of_several DuplicateName = true
is_of_several VirtualOrder = true
is_of_several DuplicateTable = true
is_of_several TooMany = true
is_of_several _ = false

-- A value can't be read if a fault is at it or in it.
unfoldable pub is_at : List ℕ → MetaFault → Bool
is_at at f = not (is_of_several f.code) && bytes_eq f.pointer at

unfoldable pub is_within : List ℕ → MetaFault → Bool
is_within at f = not (is_of_several f.code) && (bytes_eq f.pointer at || starts_with nat_eq f.pointer (further at []))

abbrev pub could_read : List MetaFault → List ℕ → Bool
could_read faults at = not (list_any (is_within at) faults)

-- A property can't be read either if the value that should have it is not an object, or doesn't have it. Then the fault is at that value.
abbrev pub hides_property : List ℕ → List ℕ → MetaFault → Bool
hides_property at name f = is_at at f || is_within (below at name) f

abbrev pub could_read_property : List MetaFault → List ℕ → List ℕ → Bool
could_read_property faults at name = not (list_any (hides_property at name) faults)

-- The faults of a part, and those of a rule over its values. The rule sees from the part's own faults which values could be read.
abbrev pub also : {A : Type 0} → Read A → (List MetaFault → A → List MetaFault) → Read A
also r rule = record { faults = r.faults ++ rule r.faults r.value; value = r.value }
