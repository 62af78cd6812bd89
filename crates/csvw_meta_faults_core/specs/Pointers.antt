-- The faults at a value or in it, by its pointer and by that pointer with a slash: `is_within_by` (JSON Pointer, RFC 6901).
use Rattle.std.specs.Prelude.{ℕ, ◌&&◌, ◌||◌, not, List, Bool, bytes_eq, nat_eq}
use Rattle.std.specs.List.{starts_with}
use Rattle.csvw_meta_core.specs.declared.fault.MetaFault.{MetaFault}
use Rattle.csvw_meta_core.specs.Rules.{is_of_several}

abbrev pub is_within_by : List ℕ → List ℕ → MetaFault → Bool
is_within_by at inside f = not (is_of_several f.code) && (bytes_eq f.pointer at || starts_with nat_eq f.pointer inside)
