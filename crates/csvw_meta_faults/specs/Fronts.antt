-- The fronts of a pointer: `is_front` (RFC 6901, section 3).
use Rattle.std.specs.Prelude.{ℕ, ◌||◌, List, [], Bool, bytes_eq, nat_eq}
use Rattle.std.specs.List.{starts_with}
use Rattle.csvw_meta_core.specs.Pointer.{further}

-- The first pointer is the second one, or that of a value which has the value of the second one in it.
abbrev pub is_front : List ℕ → List ℕ → Bool
is_front at pointer = bytes_eq pointer at || starts_with nat_eq pointer (further at [])
