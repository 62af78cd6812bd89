-- The JSON value of the bytes of a document (RFC 8259), by the crate `serde_json`.
use Rattle.std.specs.Prelude.{ℕ, List, [], ◌∷◌, drop, nat_eq, if◌then◌else◌, Option, None}
use Rattle.std.specs.List.{starts_with}
use Rattle.std.specs.Str.{is_utf8}
use Rattle.serde_json.specs.Data.{Data}
use Rattle.serde_json.specs.Read.{read}

-- U+FEFF at the start is dropped.
abbrev pub without_bom : List ℕ → List ℕ
without_bom bytes = if starts_with nat_eq bytes (239 ∷ 187 ∷ 191 ∷ []) then drop 3 bytes else bytes

abbrev pub json_of : List ℕ → Option Data
json_of bytes = if is_utf8 bytes then read bytes else None
