-- The numbers that the pass over a number keeps.
use Rattle.std.specs.Prelude.{◌≡◌, ℕ, ◌+◌, ◌*◌, ◌/◌, ◌%◌, ◌^◌, min, ◌≤◌, ◌==◌, ◌&&◌, ◌||◌, not, nat_le, true, false, Option, Some, None}
use Rattle.std.specs.Prelude.{if◌then◌else◌, List, [], ◌∷◌, Bool}
use Rattle.std.specs.Str.{chars}
use Rattle.csvw_datatype_core.specs.declared.number.NumberRules.{NumberRules}
use Rattle.csvw_datatype_core.specs.declared.number.Kind.{Kind}
use Rattle.csvw_datatype_core.specs.declared.number.Kind.TheVariants as kinds
use Rattle.csvw_datatype_core.specs.declared.number.Place.{Place}
use Rattle.csvw_datatype_core.specs.declared.number.Place.TheVariants as places
use Rattle.csvw_datatype_core.specs.declared.number.Mark.TheVariants as marks
use Rattle.csvw_datatype_core.specs.declared.number.Scan.{Scan}
use Rattle.csvw_datatype_core.specs.Scan.{kind_of, next, ends}
use Rattle.csvw_datatype_core.specs.Numbers.{divisor}

abbrev pub begun : Scan
begun = record { place = places.Start; minus = false; whole = 0; fraction = 0; weight = 10 ^ 17; too_long = false; mark = marks.Plain }

abbrev pub push_whole : Scan → ℕ → Scan
push_whole s d = record s { whole = min (s.whole * 10 + d) (10 ^ 23) }

abbrev pub push_fraction : Scan → ℕ → Scan
push_fraction s d = record s { fraction = s.fraction + d * s.weight; too_long = s.too_long || (s.weight == 0 && not (d == 0)); weight = s.weight / 10 }

abbrev pub push_digit : Place → Scan → ℕ → Scan
push_digit places.Whole s d = push_whole s d
push_digit _ s d = push_fraction s d

abbrev pub push : Scan → Kind → Scan
push s (kinds.Digit d) = push_digit s.place s d
push s kinds.Minus = record s { minus = true }
push s kinds.Percent = record s { mark = marks.Percent }
push s kinds.PerMille = record s { mark = marks.PerMille }
push s _ = s

abbrev pub step : NumberRules → Scan → ℕ → Scan
step rules s c = push (record s { place = next s.place (kind_of rules c) }) (kind_of rules c)

abbrev pub run : NumberRules → Scan → List ℕ → Scan
run rules s [] = s
run rules s (c ∷ cs) = run rules (step rules s c) cs

abbrev pub count_of : Scan → Option ℕ
count_of s = if s.too_long || (nat_le (10 ^ 20 * divisor s.mark) s.whole || not (s.fraction % divisor s.mark == 0)) then None
    else Some (s.whole * (10 ^ 18 / divisor s.mark) + s.fraction / divisor s.mark)

-- the numbers stay this small
pub record IsSmall (s : Scan) : Type 0 where
  pub whole : s.whole ≤ 10 ^ 23
  pub fraction : s.fraction + 10 * s.weight ≤ 10 ^ 18

-- the pass over a text continues as this pass over the rest of it
abbrev pub Continues : NumberRules → Scan → List ℕ → Scan → List ℕ → Type 0
Continues rules s text t rest = run rules s (chars text) ≡ run rules t (chars rest)

-- no fraction has begun
pub record IsBegun (s : Scan) : Type 0 where
  pub fraction : s.fraction ≡ 0
  pub weight : s.weight ≡ 10 ^ 17
  pub too_long : s.too_long ≡ false
  pub mark : s.mark ≡ marks.Plain

-- the text is what may follow a whole part, with a fraction of this many units
pub record EndsWith (rules : NumberRules) (s : Scan) (text : List ℕ) (units : ℕ) : Type 0 where
  pub place : Place
  pub weight : ℕ
  pub ended : ends place ≡ true
  pub run_is : run rules s (chars text) ≡ record s { place = place; fraction = units; weight = weight }

-- the pass ends at a number of this many units
pub record CountsWith (rules : NumberRules) (s : Scan) (text : List ℕ) (n : ℕ) : Type 0 where
  pub ended : ends (run rules s (chars text)).place ≡ true
  pub count : count_of (run rules s (chars text)) ≡ Some n
  pub minus : (run rules s (chars text)).minus ≡ s.minus

-- the pass after a sign, or after nothing
abbrev pub signed_begun : Bool → Bool → Scan
signed_begun false minus = record begun { minus = minus }
signed_begun true minus = record begun { place = places.Sign; minus = minus }
