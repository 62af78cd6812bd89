-- The order of doubles (XML Schema Part 2, section 3.3.5.1): -INF, the numbers by their size, INF. NaN has no order.
use Rattle.std.specs.Prelude.{ℕ, ◌^◌, ◌&&◌, ◌||◌, nat_lt, Bool, Option, Some, None, List, codes, if◌then◌else◌, ℤ, pos, negsuc, ◌-ℤ◌, ◌*ℤ◌}
use Rattle.std.specs.declared.cmp.Ordering.{Ordering}
use Rattle.std.specs.declared.cmp.Ordering.TheVariants.{Less, Equal, Greater}
use Rattle.std.specs.Ordering.{int_cmp}
use Rattle.std.specs.Str.{bytes_eq}
use Rattle.std.specs.Str.Parse.{digits_value}
use Rattle.csvw_double.specs.Doubles.{is_number, parts_of}
use Rattle.csvw_double.specs.Values.{coefficient_of, scale_of}

-- a difference, or 0 if it is below 0
abbrev pub excess : ℤ → ℕ
excess (pos n) = n
excess (negsuc n) = 0

-- the whole number of a text, counted at the lower of the powers of ten of two texts
abbrev pub units_of : List ℕ → List ℕ → ℤ
units_of s t = coefficient_of s *ℤ pos (10 ^ excess (scale_of s -ℤ scale_of t))

-- the order of two numbers: both are counted at one power of ten
unfoldable pub numbers_cmp : List ℕ → List ℕ → Ordering
numbers_cmp s t = int_cmp (units_of s t) (units_of t s)

-- a number, whose exponent has at most 18 digits
abbrev pub is_read : List ℕ → Bool
is_read text = is_number text && nat_lt (digits_value 10 (parts_of text).exponent) (10 ^ 18)

-- where a text is beside the numbers: below them, among them or above them
unfoldable pub place_of : List ℕ → Option Ordering
place_of text =
    if bytes_eq text (codes "-INF") then Some Less
    else (if bytes_eq text (codes "INF") || bytes_eq text (codes "+INF") then Some Greater else (if is_read text then Some Equal else None))

-- the order of two places, or that of two numbers
abbrev pub places_cmp : Ordering → Ordering → Ordering → Ordering
places_cmp Less Less numbers = Equal
places_cmp Less Equal numbers = Less
places_cmp Less Greater numbers = Less
places_cmp Equal Less numbers = Greater
places_cmp Equal Equal numbers = numbers
places_cmp Equal Greater numbers = Less
places_cmp Greater Less numbers = Greater
places_cmp Greater Equal numbers = Greater
places_cmp Greater Greater numbers = Equal

abbrev pub ordered : Option Ordering → Option Ordering → Ordering → Option Ordering
ordered (Some a) (Some b) numbers = Some (places_cmp a b numbers)
ordered (Some a) None numbers = None
ordered None b numbers = None

-- how a double stands to another, if both have an order
unfoldable pub double_cmp : List ℕ → List ℕ → Option Ordering
double_cmp s t = ordered (place_of s) (place_of t) (numbers_cmp s t)
