-- The text of a plan and the pieces that tile the files of tables: `plan_text`, `Tiles`, `IsPlan`. A plan is records of CSV (RFC 4180).
use Rattle.std.specs.Prelude.{◌≡◌, ◌≢◌, ◌⊎◌, Bool, ℕ, ◌+◌, ◌-◌, ◌<◌, ◌≤◌, ◌^◌, ◌==◌, ◌&&◌, nat_lt, if◌then◌else◌, List, [], ◌∷◌, ◌++◌, codes, decimal, flat_map}
use Rattle.std.specs.Prelude.{Option, Some, None, option_and_then, slice_get, length}
use Rattle.csvw_part_plan.specs.declared.piece.Piece.{Piece}

abbrev pub heading : List ℕ
heading = codes "part,table,first_byte,bytes,rows_before,data_rows_before,header_bytes\n"

-- the line of a piece
unfoldable pub line : Piece → List ℕ
line p =
    decimal p.part ++ codes "," ++ decimal p.table ++ codes "," ++ decimal p.first_byte ++ codes "," ++ decimal p.bytes ++ codes ","
    ++ decimal p.rows_before ++ codes "," ++ decimal p.data_rows_before ++ codes "," ++ decimal p.header_bytes ++ codes "\n"

-- the text of a plan
abbrev pub plan_text : List Piece → List ℕ
plan_text pieces = heading ++ flat_map line pieces

-- a number, the byte that ends it and what follows
abbrev pub cell : ℕ → ℕ → List ℕ → List ℕ
cell n end rest = decimal n ++ end ∷ rest

-- the numbers of a piece fit their types
pub record Fits (p : Piece) : Type 0 where
  pub part : p.part < 2 ^ 32
  pub table : p.table < 2 ^ 32
  pub first_byte : p.first_byte < 2 ^ 64
  pub bytes : p.bytes < 2 ^ 64
  pub rows : p.rows_before < 2 ^ 64
  pub data_rows : p.data_rows_before < 2 ^ 64
  pub header : p.header_bytes < 2 ^ 64

-- the first piece of a table begins at the start of its file
pub record Begins (p : Piece) : Type 0 where
  pub first_byte : p.first_byte ≡ 0
  pub rows : p.rows_before ≡ 0
  pub data_rows : p.data_rows_before ≡ 0

-- a later piece of a table, in the next part, begins where the one before it ends. That is after byte 0, so no other piece of the table begins its file
pub record GoesOn (p q : Piece) : Type 0 where
  pub part : q.part ≡ p.part + 1
  pub table : q.table ≡ p.table
  pub first_byte : q.first_byte ≡ p.first_byte + p.bytes
  pub later : 0 < q.first_byte
  pub rows : p.rows_before ≤ q.rows_before
  pub data_rows : p.data_rows_before ≤ q.data_rows_before
  pub header : q.header_bytes ≡ p.header_bytes

-- the first piece of the next table, in the same part or the next one
pub record BeginsNext (p q : Piece) : Type 0 where
  pub part : (q.part ≡ p.part) ⊎ (q.part ≡ p.part + 1)
  pub table : q.table ≡ p.table + 1
  pub begins : Begins q

-- the place where a piece ends can be counted
abbrev pub EndFits : Piece → Type 0
EndFits p = p.first_byte + p.bytes < 2 ^ 64

abbrev pub Follows : Piece → Piece → Type 0
Follows p q = (GoesOn p q ⊎ BeginsNext p q) × EndFits q

-- the first piece of a plan
pub record IsFirst (p : Piece) : Type 0 where
  pub part : p.part ≡ 1
  pub table : p.table ≡ 1
  pub begins : Begins p
  pub end_fits : EndFits p

-- each piece follows the one before it
abbrev pub AreChained : Piece → List Piece → Type 0
AreChained p [] = Unit {0}
AreChained p (q ∷ qs) = Follows p q × AreChained q qs

-- the pieces, perhaps none, tile the fronts of the files, from the first part and the first table on
abbrev pub TileFront : List Piece → Type 0
TileFront [] = Unit {0}
TileFront (p ∷ ps) = IsFirst p × AreChained p ps

-- the pieces tile the files of the tables: there is at least one
abbrev pub Tiles : List Piece → Type 0
Tiles pieces = (pieces ≢ []) × TileFront pieces

-- the text is the plan of these pieces
pub record IsPlan (text : List ℕ) (pieces : List Piece) : Type 0 where
  pub is_text : text ≡ plan_text pieces
  pub tiles : Tiles pieces

-- the last piece, if there is one
abbrev pub last_piece : List Piece → Option Piece
last_piece pieces = slice_get pieces (length pieces - 1)

-- the part of a piece
abbrev pub part_of : Option Piece → ℕ
part_of None = 0
part_of (Some p) = p.part

-- the number of parts
abbrev pub part_count : List Piece → ℕ
part_count pieces = part_of (last_piece pieces)

-- this piece, or the one that was found before
abbrev pub or_later : ℕ → Piece → Option Piece → Option Piece
or_later table p (Some q) = Some q
or_later table p None = if p.table == table then Some p else None

-- the last piece of a table
abbrev pub last_of : ℕ → List Piece → Option Piece
last_of table [] = None
last_of table (p ∷ ps) = or_later table p (last_of table ps)

-- the place where a piece ends
abbrev pub end_of : Piece → Option ℕ
end_of p = if nat_lt (p.first_byte + p.bytes) (2 ^ 64) then Some (p.first_byte + p.bytes) else None

-- the number of bytes of a table's file
abbrev pub file_length : ℕ → List Piece → Option ℕ
file_length table pieces = option_and_then end_of (last_of table pieces)

-- a piece is of the same table in a later part
abbrev pub is_later : Piece → Piece → Bool
is_later before p = (p.table == before.table) && nat_lt before.part p.part
