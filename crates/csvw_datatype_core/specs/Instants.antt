-- Moments on the time line and their order (XML Schema 1.1 Part 2, section 3.3.7 and appendix E.3; version 1.0, section 3.2.7.3).
use Rattle.std.specs.Prelude.{ℕ, Option, Some, None, option_map, if◌then◌else◌, List, [], ◌∷◌, Bool, ℤ, pos, neg_ℤ, ◌+ℤ◌, ◌*ℤ◌}
use Rattle.std.specs.declared.cmp.Ordering.{Ordering}
use Rattle.std.specs.declared.cmp.Ordering.TheVariants.{Less, Equal, Greater}
use Rattle.std.specs.Ordering.{int_cmp, nat_cmp, ordering_then, is_lt}
use Rattle.csvw_datatype_core.specs.declared.instant.InstantKind.{InstantKind}
use Rattle.csvw_datatype_core.specs.declared.instant.InstantKind.TheVariants as kinds
use Rattle.csvw_datatype_core.specs.DateTimes.{parts_of}

-- a moment: its second, the digits of its parts, and whether it has a zone
abbrev pub Moment : Type 0
Moment = ℤ × List ℕ × InstantKind

-- a second without a zone, as it is, and one with a zone, in the zone "Z"
abbrev pub placed_instant : ℤ → List ℕ → Option ℤ → Moment
placed_instant second ds None = (second, ds, kinds.Local)
placed_instant second ds (Some minutes) = (second +ℤ (minutes *ℤ neg_ℤ (pos 60)), ds, kinds.Zoned)

-- the moment that a text writes
abbrev pub instant_of : List ℕ → Option Moment
instant_of bs = option_map (λ (x : ℤ × List ℕ × Option ℤ). placed_instant x.0 x.1 x.2) (parts_of bs)

-- a whole second without a zone
abbrev pub local_instant : ℤ → Moment
local_instant second = (second, [], kinds.Local)

-- the first digit and the digits after it: after the last digit there are zeros
abbrev pub first_digit : List ℕ → ℕ × List ℕ
first_digit [] = (48, [])
first_digit (d ∷ ds) = (d, ds)

-- the order of two fractions below 1, by their digits: after the last digit there are zeros
abbrev pub digits_cmp : List ℕ → List ℕ → Ordering
digits_cmp [] [] = Equal
digits_cmp [] (e ∷ es) = ordering_then (nat_cmp 48 e) (digits_cmp [] es)
digits_cmp (d ∷ ds) [] = ordering_then (nat_cmp d 48) (digits_cmp ds [])
digits_cmp (d ∷ ds) (e ∷ es) = ordering_then (nat_cmp d e) (digits_cmp ds es)

-- the order of the moment that is n seconds after one, and another one
abbrev pub later_cmp : ℕ → Moment → Moment → Ordering
later_cmp n a b = ordering_then (int_cmp (a.0 +ℤ pos n) b.0) (digits_cmp a.1 b.1)

-- A moment is more than 14 hours before another one. A zone is at most 14 hours ahead of "Z", or behind it.
abbrev pub is_long_before : Moment → Moment → Bool
is_long_before a b = is_lt (later_cmp 50_400 a b)

-- one moment has a zone, and the other one may be in any zone
abbrev pub apart_cmp : Moment → Moment → Option Ordering
apart_cmp a b = if is_long_before a b then Some Less else (if is_long_before b a then Some Greater else None)

-- both have a zone, or both have none, or one of them has a zone
abbrev pub by_kinds : InstantKind → InstantKind → Moment → Moment → Option Ordering
by_kinds kinds.Zoned kinds.Zoned a b = Some (later_cmp 0 a b)
by_kinds kinds.Local kinds.Local a b = Some (later_cmp 0 a b)
by_kinds kinds.Zoned kinds.Local a b = apart_cmp a b
by_kinds kinds.Local kinds.Zoned a b = apart_cmp a b

-- how a moment stands to another one, if they have an order
abbrev pub instant_cmp : Moment → Moment → Option Ordering
instant_cmp a b = by_kinds a.2 b.2 a b
