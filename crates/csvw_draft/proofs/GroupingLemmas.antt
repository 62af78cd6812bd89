-- The rules of a grouping are lawful: its characters are free, and differ.
use Rattle.std.proofs.Common.{◌≡◌, ◌≢◌, ℕ, Some, IfSome, arith, sym, ◌∙◌}
use Rattle.std.proofs.lemmas.Option.{same_Some}
use Rattle.csvw_datatype_core.specs.Numbers.{IsFree, IsLawful}
use Rattle.csvw_draft.specs.declared.grouping.GroupChar.{GroupChar}
use Rattle.csvw_draft.specs.declared.grouping.GroupChar.TheVariants.{Space, NoBreakSpace, NarrowNoBreakSpace, Apostrophe}
use Rattle.csvw_draft.specs.declared.grouping.Fraction.{Fraction}
use Rattle.csvw_draft.specs.declared.grouping.Fraction.TheVariants as fractions
use Rattle.csvw_draft.specs.declared.grouping.Grouping.{Grouping}
use Rattle.csvw_draft.specs.Groupings.{decimal_char, group_char, rules_of}

space_free : IsFree 32
space_free = record {
  no_digit = λ h. omega arith;
  no_plus = λ e. omega arith;
  no_minus = λ e. omega arith;
  no_percent = λ e. omega arith;
  no_per_mille = λ e. omega arith;
  no_tab = λ e. omega arith;
  no_line_feed = λ e. omega arith;
  no_carriage_return = λ e. omega arith;
}

no_break_space_free : IsFree 160
no_break_space_free = record {
  no_digit = λ h. omega arith;
  no_plus = λ e. omega arith;
  no_minus = λ e. omega arith;
  no_percent = λ e. omega arith;
  no_per_mille = λ e. omega arith;
  no_tab = λ e. omega arith;
  no_line_feed = λ e. omega arith;
  no_carriage_return = λ e. omega arith;
}

narrow_space_free : IsFree 0x202F
narrow_space_free = record {
  no_digit = λ h. omega arith;
  no_plus = λ e. omega arith;
  no_minus = λ e. omega arith;
  no_percent = λ e. omega arith;
  no_per_mille = λ e. omega arith;
  no_tab = λ e. omega arith;
  no_line_feed = λ e. omega arith;
  no_carriage_return = λ e. omega arith;
}

apostrophe_free : IsFree 39
apostrophe_free = record {
  no_digit = λ h. omega arith;
  no_plus = λ e. omega arith;
  no_minus = λ e. omega arith;
  no_percent = λ e. omega arith;
  no_per_mille = λ e. omega arith;
  no_tab = λ e. omega arith;
  no_line_feed = λ e. omega arith;
  no_carriage_return = λ e. omega arith;
}

point_free : IsFree 46
point_free = record {
  no_digit = λ h. omega arith;
  no_plus = λ e. omega arith;
  no_minus = λ e. omega arith;
  no_percent = λ e. omega arith;
  no_per_mille = λ e. omega arith;
  no_tab = λ e. omega arith;
  no_line_feed = λ e. omega arith;
  no_carriage_return = λ e. omega arith;
}

comma_free : IsFree 44
comma_free = record {
  no_digit = λ h. omega arith;
  no_plus = λ e. omega arith;
  no_minus = λ e. omega arith;
  no_percent = λ e. omega arith;
  no_per_mille = λ e. omega arith;
  no_tab = λ e. omega arith;
  no_line_feed = λ e. omega arith;
  no_carriage_return = λ e. omega arith;
}

group_free : (g : GroupChar) → IsFree (group_char g)
group_free Space = space_free
group_free NoBreakSpace = no_break_space_free
group_free NarrowNoBreakSpace = narrow_space_free
group_free Apostrophe = apostrophe_free

decimal_free : (f : Fraction) → IfSome (decimal_char f) IsFree
decimal_free fractions.None = tt
decimal_free fractions.Point = point_free
decimal_free fractions.Comma = comma_free

no_point : (g : GroupChar) → group_char g ≢ 46
no_point Space = λ e. omega arith
no_point NoBreakSpace = λ e. omega arith
no_point NarrowNoBreakSpace = λ e. omega arith
no_point Apostrophe = λ e. omega arith

no_comma : (g : GroupChar) → group_char g ≢ 44
no_comma Space = λ e. omega arith
no_comma NoBreakSpace = λ e. omega arith
no_comma NarrowNoBreakSpace = λ e. omega arith
no_comma Apostrophe = λ e. omega arith

apart : (g : GroupChar) (f : Fraction) (c : ℕ) → decimal_char f ≡ Some c → Some (group_char g) ≡ Some c → ⊥
apart g fractions.None c p q = cc
apart g fractions.Point c p q = no_point g (same_Some (group_char g) 46 (q ∙ sym p))
apart g fractions.Comma c p q = no_comma g (same_Some (group_char g) 44 (q ∙ sym p))

pub lawful : (g : Grouping) → IsLawful (rules_of g)
lawful g = record { decimal_char = decimal_free g.fraction; group_char = group_free g.group_char; differ = apart g.group_char g.fraction }
