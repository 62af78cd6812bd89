-- The first rule that a piece breaks after those before it in a plan: `fault_after`.
use Rattle.std.specs.Prelude.{◌≡◌, ◌+◌, ◌^◌, ◌==◌, ◌&&◌, ◌||◌, not, nat_lt, if◌then◌else◌, List, [], ◌∷◌, ◌++◌, Option, Some, None}
use Rattle.csvw_part_plan.specs.declared.piece.Piece.{Piece}
use Rattle.csvw_part_plan.specs.declared.fault.LineFault.{LineFault}
use Rattle.csvw_part_plan.specs.declared.fault.LineFault.TheVariants.{Part, Table, FirstByte, LastByte, Rows, HeaderBytes}
use Rattle.csvw_part_plan.specs.Plans.{TileFront, last_piece}

abbrev pub end_fault : Piece → Option LineFault
end_fault p = if nat_lt (p.first_byte + p.bytes) (2 ^ 64) then None else Some LastByte

-- of the first piece of a table
abbrev pub begin_fault : Piece → Option LineFault
begin_fault p =
    if not (p.first_byte == 0) then Some FirstByte
    else if not (p.rows_before == 0) || not (p.data_rows_before == 0) then Some Rows
    else end_fault p

-- of the first piece of a plan
abbrev pub first_fault : Piece → Option LineFault
first_fault p = if not (p.part == 1) then Some Part else if not (p.table == 1) then Some Table else begin_fault p

-- of a piece after another of its table
abbrev pub going_fault : Piece → Piece → Option LineFault
going_fault before p =
    if not (p.part == before.part + 1) then Some Part
    else if (p.first_byte == 0) || not (p.first_byte == before.first_byte + before.bytes) then Some FirstByte
    else if nat_lt p.rows_before before.rows_before || nat_lt p.data_rows_before before.data_rows_before then Some Rows
    else if not (p.header_bytes == before.header_bytes) then Some HeaderBytes
    else end_fault p

-- of a piece after the last one of another table
abbrev pub table_fault : Piece → Piece → Option LineFault
table_fault before p =
    if not (p.table == before.table + 1) then Some Table
    else if not (p.part == before.part) && not (p.part == before.part + 1) then Some Part
    else begin_fault p

-- of a piece after another one
abbrev pub next_fault : Piece → Piece → Option LineFault
next_fault before p = if p.table == before.table then going_fault before p else table_fault before p

-- of a piece after the last one, if there is one
abbrev pub fault_by : Option Piece → Piece → Option LineFault
fault_by None p = first_fault p
fault_by (Some before) p = next_fault before p

-- of a piece after those before it
abbrev pub fault_after : List Piece → Piece → Option LineFault
fault_after before p = fault_by (last_piece before) p

-- pieces that tile fronts of files, and one more that breaks no rule
abbrev pub TilingGoesOn : Type 0
TilingGoesOn = (before : List Piece) (p : Piece) → TileFront before → fault_after before p ≡ None → TileFront (before ++ p ∷ [])
