-- Moments that may have a zone and parts of a second: the texts that write one, and the value of each (XML Schema 1.1 Part 2, sections 3.3.7
-- and 3.4.28). A moment with a zone is the same as the moment in the zone "Z" at the same time.
use Rattle.std.specs.Prelude.{ℕ, ◌+◌, ◌*◌, ◌==◌, ◌&&◌, not, Bool, Option, Some, None, option_and_then, if◌then◌else◌, codes, List, [], ◌∷◌, ◌++◌, drop, take}
use Rattle.std.specs.Prelude.{ℤ, pos, neg_ℤ, ◌+ℤ◌, ◌*ℤ◌, ◌≤ℤ◌}
use lib.Signed.{lt_z}
use Rattle.csvw_datatype_core.specs.declared.moment.MomentFormat.TheVariants.{Seconds}
use Rattle.csvw_datatype_core.specs.declared.date_time.DateTime.{DateTime}
use Rattle.csvw_datatype_core.specs.declared.date_time.DateTime.TheVariants as values
use Rattle.csvw_datatype_core.specs.declared.date_time.Zone.{Zone}
use Rattle.csvw_datatype_core.specs.declared.date_time.Zone.TheVariants as zones
use Rattle.csvw_datatype_core.specs.DateParts.{digit_count, is_offset, offset_fields, is_empty}
use Rattle.csvw_datatype_core.specs.Fields.{◌>>=◌}
use Rattle.csvw_datatype_core.specs.Forms.{moment_form}
use Rattle.csvw_datatype_core.specs.Values.{moment_value}

-- the digits that a text begins with, one or more, and the text after them
abbrev pub digits_at : List ℕ → Option (List ℕ × List ℕ)
digits_at bs = if digit_count bs == 0 then None else Some (take (digit_count bs) bs, drop (digit_count bs) bs)

-- the digits after a point, and the text after them; without a point there is no digit
abbrev pub fraction_at : List ℕ → Option (List ℕ × List ℕ)
fraction_at [] = Some ([], [])
fraction_at (b ∷ bs) = if b == 46 then digits_at bs else Some ([], b ∷ bs)

-- digits without the zeros at their end
abbrev pub with_first : ℕ → List ℕ → List ℕ
with_first d [] = if d == 48 then [] else d ∷ []
with_first d (e ∷ es) = d ∷ e ∷ es

abbrev pub trimmed : List ℕ → List ℕ
trimmed [] = []
trimmed (d ∷ ds) = with_first d (trimmed ds)

-- the minutes of an offset
abbrev pub minutes_of : Option (ℕ × ℕ) → Option ℕ
minutes_of None = None
minutes_of (Some x) = if is_offset x.0 x.1 then Some (x.0 * 60 + x.1) else None

-- an offset is up to 14 hours ahead of "Z", or behind it, in minutes
abbrev pub IsOffset : ℤ → Type 0
IsOffset minutes = (neg_ℤ (pos 840) ≤ℤ minutes) × (minutes ≤ℤ pos 840)

abbrev pub east : Option ℕ → Option (Option ℤ)
east None = None
east (Some n) = Some (Some (pos n))

abbrev pub west : Option ℕ → Option (Option ℤ)
west None = None
west (Some n) = Some (Some (neg_ℤ (pos n)))

abbrev pub at_utc : List ℕ → Option (Option ℤ)
at_utc bs = if is_empty bs then Some (Some (pos 0)) else None

-- how many minutes a zone is ahead of "Z", or nothing if a text has no zone
abbrev pub zone_at : List ℕ → Option (Option ℤ)
zone_at [] = Some None
zone_at (b ∷ bs) =
    if b == 90 then at_utc bs
    else (if b == 43 then east (minutes_of (offset_fields bs))
    else (if b == 45 then west (minutes_of (offset_fields bs))
    else None))

-- the second is in the years 0001 to 9999
abbrev pub is_moment_number : ℤ → Bool
is_moment_number z = not (lt_z z (neg_ℤ (pos 62_135_596_800))) && not (lt_z (pos 253_402_300_799) z)

abbrev pub fraction_text : List ℕ → List ℕ
fraction_text [] = []
fraction_text (d ∷ ds) = 46 ∷ d ∷ ds

abbrev pub written : ℤ → List ℕ → List ℕ → DateTime
written moment ds ending = values.Written (moment_form moment ++ fraction_text ds ++ ending)

-- a moment in the zone "Z"
abbrev pub in_utc : ℤ → List ℕ → Option DateTime
in_utc moment ds = if is_moment_number moment then Some (written moment ds (codes "Z")) else None

-- a moment without a zone: a whole second is its number
abbrev pub local : ℤ → List ℕ → DateTime
local moment [] = values.Second moment
local moment (d ∷ ds) = written moment (d ∷ ds) []

abbrev pub placed : Zone → ℤ → List ℕ → Option ℤ → Option DateTime
placed zone moment ds (Some minutes) = in_utc (moment +ℤ (minutes *ℤ neg_ℤ (pos 60))) ds
placed zones.Optional moment ds None = Some (local moment ds)
placed zones.Required moment ds None = None

abbrev pub placed_by : Zone → ℤ × List ℕ × Option ℤ → Option DateTime
placed_by zone x = placed zone x.0 x.1 x.2

-- The second, the digits of its parts, and the zone that a text writes. The date and the time of day are its first 19 bytes.
unfoldable pub parts_of : List ℕ → Option (ℤ × List ℕ × Option ℤ)
parts_of bs = do
  moment ← moment_value Seconds (take 19 bs)
  fraction ← fraction_at (drop 19 bs)
  minutes ← zone_at fraction.1
  Some (moment, trimmed fraction.0, minutes)

-- the value that a text writes
abbrev pub date_time_value : Zone → List ℕ → Option DateTime
date_time_value zone bs = option_and_then (placed_by zone) (parts_of bs)
