-- Two texts of moments have the same value exactly if the moments are the same on the time line. The check doesn't find it by itself: it reads the
-- text of each value again, and writes the value of each moment.
use Rattle.std.proofs.Common.{◌≡◌, ℕ, ◌↔◌, Bool, true, false, cond, Option, Some, None, IfSome, option_and_then, List, [], ◌∷◌, append_assoc}
use Rattle.std.proofs.Common.{arith, take, drop, refl, sym, ap, ◌∙◌, ℤ, pos, neg_ℤ, ◌+ℤ◌, ◌*ℤ◌}
use Rattle.std.specs.Option.{option_map}
use Rattle.std.proofs.lemmas.Int.{ints}
use Rattle.std.proofs.lemmas.Option.{same_Some}
use Rattle.csvw_datatype_core.specs.declared.moment.MomentFormat.TheVariants.{Seconds}
use Rattle.csvw_datatype_core.specs.declared.date_time.DateTime.{DateTime}
use Rattle.csvw_datatype_core.specs.declared.date_time.DateTime.TheVariants as values
use Rattle.csvw_datatype_core.specs.declared.date_time.Zone.{Zone}
use Rattle.csvw_datatype_core.specs.declared.date_time.Zone.TheVariants as zones
use Rattle.csvw_datatype_core.specs.declared.instant.InstantKind.{InstantKind}
use Rattle.csvw_datatype_core.specs.declared.instant.InstantKind.TheVariants as kinds
use Rattle.csvw_datatype_core.specs.declared.stamp_format.StampFormat.{StampFormat}
use Rattle.csvw_datatype_core.specs.DateTimes.{fraction_at, fraction_text, is_moment_number, local, parts_of, placed, placed_by, written, zone_at}
use Rattle.csvw_datatype_core.specs.Forms.{moment_form}
use Rattle.csvw_datatype_core.specs.Instants.{Moment, instant_of, placed_instant}
use Rattle.csvw_datatype_core.specs.LexicalDates.{IsMomentNumber}
use Rattle.csvw_datatype_core.specs.Stamps.{written_instant, written_parts, written_value}
use Rattle.csvw_datatype_core.specs.Values.{moment_value}
use Rattle.csvw_datatype_core.proofs.DateTimeLemmas.{in_range}
use Rattle.csvw_datatype_core.proofs.MomentLemmas.{moment_given}
use Rattle.csvw_datatype_core.proofs.OneDateTime.{IsKept, are_kept, ending, fraction_digits, kept_again, minutes_of, parts_again, second_in_range}
use Rattle.csvw_datatype_core.proofs.StampLemmas.{AreParts, SomeDigits, any_some, are_parts, bind_some}

abbrev instant_in : ℤ × List ℕ × Option ℤ → Moment
instant_in x = placed_instant x.0 x.1 x.2

-- the moment that a value is
abbrev instant_by : DateTime → Option Moment
instant_by (values.Second moment) = Some (moment, [], kinds.Local)
instant_by (values.Written text) = instant_of text

-- the value of a moment
abbrev value_as : InstantKind → ℤ → List ℕ → DateTime
value_as kinds.Local moment ds = local moment ds
value_as kinds.Zoned moment ds = written moment ds (90 ∷ [])

abbrev value_by : Option Moment → DateTime
value_by None = values.Second (pos 0)
value_by (Some a) = value_as a.2 a.0 a.1

-- a value and its moment determine each other
record IsWritten (x : DateTime) (o : Option Moment) : Type 0 where
  instant : instant_by x ≡ o
  value : x ≡ value_by o

-- ---- the text of a value is read again

text_again : (b : Bool) (moment : ℤ) (ds : List ℕ) → IsMomentNumber moment → IsKept ds
    → instant_by (written moment ds (ending b)) ≡ Some (placed_instant moment ds (minutes_of b))
text_again b moment ds range kept =
    ap (λ (l : List ℕ). instant_of l) (append_assoc (moment_form moment) (fraction_text ds) (ending b))
    ∙ ap (λ o. option_map instant_in o) (parts_again b moment ds range kept.0 kept.1)

in_utc_is : (moment : ℤ) (ds : List ℕ) (x : DateTime) (b : Bool) → is_moment_number moment ≡ b → IsKept ds
    → cond b (Some (written moment ds (90 ∷ []))) None ≡ Some x → IsWritten x (Some (moment, ds, kinds.Zoned))
in_utc_is moment ds x false is kept e = cc
in_utc_is moment ds x true is kept e =
    let same = same_Some (written moment ds (90 ∷ [])) x e in
    let stays : (moment +ℤ (pos 0 *ℤ neg_ℤ (pos 60))) ≡ moment = omega (arith, ints) in
    let zoned : ℤ → Option Moment = λ m. Some (m, ds, kinds.Zoned) in
    record { instant = ap instant_by (sym same) ∙ text_again true moment ds (second_in_range moment is) kept ∙ ap zoned stays; value = sym same }

local_is : (moment : ℤ) (ds : List ℕ) (x : DateTime) → IsMomentNumber moment → IsKept ds → Some (local moment ds) ≡ Some x
    → IsWritten x (Some (moment, ds, kinds.Local))
local_is moment [] x range kept e =
    let same = same_Some (values.Second moment) x e in record { instant = ap instant_by (sym same); value = sym same }
local_is moment (d ∷ ds) x range kept e =
    let same = same_Some (written moment (d ∷ ds) []) x e in
    record { instant = ap instant_by (sym same) ∙ text_again false moment (d ∷ ds) range kept; value = sym same }

placed_is : (zone : Zone) (moment : ℤ) (ds : List ℕ) (minutes : Option ℤ) (x : DateTime) → IsMomentNumber moment → IsKept ds
    → placed zone moment ds minutes ≡ Some x → IsWritten x (Some (placed_instant moment ds minutes))
placed_is zone moment ds (Some minutes) x range kept e = in_utc_is (moment +ℤ (minutes *ℤ neg_ℤ (pos 60))) ds x _ refl kept e
placed_is zones.Optional moment ds None x range kept e = local_is moment ds x range kept e
placed_is zones.Required moment ds None x range kept e = cc

value_is : (zone : Zone) (o : Option (ℤ × List ℕ × Option ℤ)) (x : DateTime) → IfSome o AreParts → option_and_then (placed_by zone) o ≡ Some x
    → IsWritten x (option_map instant_in o)
value_is zone None x h e = cc
value_is zone (Some p) x h e = placed_is zone p.0 p.1 p.2 x h.0 h.1 e

-- ---- what a text writes, in a format or without one

plain_parts : (bs : List ℕ) → IfSome (parts_of bs) AreParts
unfolding parts_of
plain_parts bs =
    let front = take 19 bs in
    bind_some (moment_value Seconds front) _ IsMomentNumber AreParts (in_range front (moment_value Seconds front) (moment_given Seconds front))
    (λ moment range. bind_some (fraction_at (drop 19 bs)) _ SomeDigits AreParts (fraction_digits (drop 19 bs))
    (λ y digits. bind_some (zone_at y.1) _ (λ z. Unit {0}) AreParts (any_some (zone_at y.1))
    (λ minutes u. (range, (are_kept y.0 digits, kept_again y.0)))))

some_parts : (f : Option StampFormat) (bs : List ℕ) → IfSome (written_parts f bs) AreParts
some_parts None bs = plain_parts bs
some_parts (Some format) bs = are_parts format bs

is_written : (f : Option StampFormat) (zone : Zone) (text : List ℕ) (x : DateTime) → written_value f zone text ≡ Some x
    → IsWritten x (written_instant f text)
is_written f zone text x e = value_is zone (written_parts f text) x (some_parts f text) e

-- ---- the law

pub moments_at_one_time : (f g : Option StampFormat) (v w : Zone) (s t : List ℕ) (x y : DateTime)
    → written_value f v s ≡ Some x → written_value g w t ≡ Some y → (x ≡ y) ↔ (written_instant f s ≡ written_instant g t)
moments_at_one_time f g v w s t x y e h =
    let a = is_written f v s x e in
    let b = is_written g w t y h in
    (λ same. sym a.instant ∙ ap instant_by same ∙ b.instant, λ same. a.value ∙ ap value_by same ∙ sym b.value)
