-- A text that the pass accepts spells a number.
use Rattle.std.proofs.Common.{◌≡◌, ◌≢◌, ℕ, List, [], ◌∷◌, ◌++◌, refl, sym, ap, subst, ◌∙◌, Bool, true, false, Option, Some, None, IsSome, inl, inr}
use Rattle.std.proofs.Common.{arith, ◌&&◌, ◌==◌}
use Rattle.std.specs.List.{AllByRecursion}
use Rattle.std.specs.Char.{is_ascii_digit, IsAsciiDigit}
use Rattle.std.proofs.lemmas.Bool.{cond_both}
use Rattle.std.proofs.lemmas.Bool.Decides.{nat_tests}
use Rattle.csvw_datatype_core.specs.declared.number.NumberRules.{NumberRules}
use Rattle.csvw_datatype_core.specs.declared.number.Mark.{Mark}
use Rattle.csvw_datatype_core.specs.declared.number.Mark.TheVariants as marks
use Rattle.csvw_datatype_core.specs.declared.number.Kind.{Kind}
use Rattle.csvw_datatype_core.specs.declared.number.Kind.TheVariants as kinds
use Rattle.csvw_datatype_core.specs.declared.number.Place.TheVariants as places
use Rattle.csvw_datatype_core.specs.Scan.{kind_of, next, ends, goes, holds}
use Rattle.csvw_datatype_core.specs.Numbers.{Sign, NoSign, Plus, Minus, Parts, sign_text, fraction_text, mark_text, IsGrouped, IsFraction, IsMarked}
use Rattle.csvw_datatype_core.specs.Numbers.{SpellsNumber}

-- what a character of a kind is
abbrev pub KindFact : NumberRules → ℕ → Kind → Type 0
KindFact rules c (kinds.Digit d) = IsAsciiDigit c
KindFact rules c kinds.Plus = c ≡ 43
KindFact rules c kinds.Minus = c ≡ 45
KindFact rules c kinds.Point = rules.decimal_char ≡ Some c
KindFact rules c kinds.Group = rules.group_char ≡ Some c
KindFact rules c kinds.Percent = (rules.allows_marks ≡ true) × (c ≡ 37)
KindFact rules c kinds.PerMille = (rules.allows_marks ≡ true) × (c ≡ 0x2030)
KindFact rules c kinds.Other = Unit {0}

pub holds-some : (o : Option ℕ) (c : ℕ) → holds o c ≡ true → o ≡ Some c
holds-some None c h = cc
holds-some (Some d) c h = let e : d ≡ c = grind (arith, nat_tests) in ap Some e

both : (a b : Bool) → (a && b) ≡ true → (a ≡ true) × (b ≡ true)
both true b h = (refl, h)
both false b h = cc

pub kind_fact : (rules : NumberRules) (c : ℕ) → KindFact rules c (kind_of rules c)
unfolding kind_of
kind_fact rules c =
    let P : Kind → Type 0 = λ k. KindFact rules c k in
    cond_both (is_ascii_digit c) _ _ P (λ e. grind (arith, nat_tests))
    (λ _. cond_both (c == 43) _ _ P (λ e. grind (arith, nat_tests))
    (λ _. cond_both (c == 45) _ _ P (λ e. grind (arith, nat_tests))
    (λ _. cond_both (holds rules.decimal_char c) _ _ P (λ e. holds-some _ _ e)
    (λ _. cond_both (holds rules.group_char c) _ _ P (λ e. holds-some _ _ e)
    (λ _. cond_both (rules.allows_marks && c == 37) _ _ P (λ e. let b = both _ _ e in (b.0, grind (arith, nat_tests)))
    (λ _. cond_both (rules.allows_marks && c == 0x2030) _ _ P (λ e. let b = both _ _ e in (b.0, grind (arith, nat_tests))) (λ _. tt)))))))

pub never_bad : (rules : NumberRules) (cs : List ℕ) → ends (goes rules places.Bad cs) ≡ true → ⊥
never_bad rules [] h = cc
never_bad rules (c ∷ cs) h = never_bad rules cs h

after_mark : (rules : NumberRules) (cs : List ℕ) → ends (goes rules places.Mark cs) ≡ true → cs ≡ []
after_mark rules [] h = refl
after_mark rules (c ∷ cs) h = absurd (never_bad rules cs h)

-- what follows the decimal character
record FractionRest (rules : NumberRules) (cs : List ℕ) : Type 0 where
  pub digits : List ℕ
  pub mark : Mark
  pub are_digits : AllByRecursion IsAsciiDigit digits
  pub marked : IsMarked rules mark
  pub spelled : cs ≡ digits ++ mark_text mark

fraction_kind : (rules : NumberRules) (c : ℕ) (cs : List ℕ) (k : Kind) → KindFact rules c k
    → (ends (goes rules places.Fraction cs) ≡ true → FractionRest rules cs) → ends (goes rules (next places.Fraction k) cs) ≡ true → FractionRest rules (c ∷ cs)
fraction_kind rules c cs (kinds.Digit d) f rest h =
    let r = rest h in
    record { digits = c ∷ r.digits; mark = r.mark; are_digits = (f, r.are_digits); marked = r.marked; spelled = ap (λ x. c ∷ x) r.spelled }
fraction_kind rules c cs kinds.Percent f rest h =
    let e : c ∷ cs ≡ 37 ∷ [] = ap (λ x. c ∷ x) (after_mark rules cs h) ∙ ap (λ x. x ∷ []) f.1 in
    record { digits = []; mark = marks.Percent; are_digits = tt; marked = f.0; spelled = e }
fraction_kind rules c cs kinds.PerMille f rest h =
    let e : c ∷ cs ≡ 0x2030 ∷ [] = ap (λ x. c ∷ x) (after_mark rules cs h) ∙ ap (λ x. x ∷ []) f.1 in
    record { digits = []; mark = marks.PerMille; are_digits = tt; marked = f.0; spelled = e }
fraction_kind rules c cs _ f rest h = absurd (never_bad rules cs h)

fraction_rest : (rules : NumberRules) (cs : List ℕ) → ends (goes rules places.Fraction cs) ≡ true → FractionRest rules cs
fraction_rest rules [] h = record { digits = []; mark = marks.Plain; are_digits = tt; marked = tt; spelled = refl }
fraction_rest rules (c ∷ cs) h = fraction_kind rules c cs (kind_of rules c) (kind_fact rules c) (fraction_rest rules cs) h

-- what follows a decimal character that has no digit before it
record BareRest (rules : NumberRules) (cs : List ℕ) : Type 0 where
  pub rest : FractionRest rules cs
  pub some : rest.digits ≢ []

bare_kind : (rules : NumberRules) (c : ℕ) (cs : List ℕ) (k : Kind) → KindFact rules c k → ends (goes rules (next places.BarePoint k) cs) ≡ true
    → BareRest rules (c ∷ cs)
bare_kind rules c cs (kinds.Digit d) f h =
    let r = fraction_rest rules cs h in
    record {
      rest = record {
        digits = c ∷ r.digits;
        mark = r.mark;
        are_digits = (f, r.are_digits);
        marked = r.marked;
        spelled = ap (λ x. c ∷ x) r.spelled;
      };
      some = λ e. cc;
    }
bare_kind rules c cs _ f h = absurd (never_bad rules cs h)

bare_rest : (rules : NumberRules) (cs : List ℕ) → ends (goes rules places.BarePoint cs) ≡ true → BareRest rules cs
bare_rest rules [] h = cc
bare_rest rules (c ∷ cs) h = bare_kind rules c cs (kind_of rules c) (kind_fact rules c) h

-- what follows a digit of the whole part, or a group character
record WholeRest (W : List ℕ → Type 0) (rules : NumberRules) (cs : List ℕ) : Type 0 where
  pub whole : List ℕ
  pub fraction : Option (List ℕ)
  pub mark : Mark
  pub grouped : W whole
  pub is_fraction : IsFraction rules fraction
  pub marked : IsMarked rules mark
  pub spelled : cs ≡ whole ++ (fraction_text rules.decimal_char fraction ++ mark_text mark)

abbrev GoesOn : NumberRules → List ℕ → Type 0
GoesOn rules whole = (d : ℕ) → IsAsciiDigit d → IsGrouped rules.group_char (d ∷ whole)

abbrev Begins : NumberRules → List ℕ → Type 0
Begins rules whole = IsGrouped rules.group_char whole

fraction_after : (rules : NumberRules) (c : ℕ) (cs : List ℕ) → rules.decimal_char ≡ Some c → (r : FractionRest rules cs)
    → c ∷ cs ≡ fraction_text rules.decimal_char (Some r.digits) ++ mark_text r.mark
fraction_after rules c cs f r = ap (λ x. c ∷ x) r.spelled ∙ ap (λ o. fraction_text o (Some r.digits) ++ mark_text r.mark) (sym f)

some_point : (o : Option ℕ) (c : ℕ) → o ≡ Some c → IsSome o
some_point o c e = rw e refl

whole_kind : (rules : NumberRules) (c : ℕ) (cs : List ℕ) (k : Kind) → KindFact rules c k
    → (ends (goes rules places.Whole cs) ≡ true → WholeRest (GoesOn rules) rules cs)
    → (ends (goes rules places.Group cs) ≡ true → WholeRest (Begins rules) rules cs) → ends (goes rules (next places.Whole k) cs) ≡ true
    → WholeRest (GoesOn rules) rules (c ∷ cs)
whole_kind rules c cs (kinds.Digit d) f whole group h =
    let r = whole h in
    record {
      whole = c ∷ r.whole;
      fraction = r.fraction;
      mark = r.mark;
      grouped = λ d hd. (hd, inl (r.grouped c f));
      is_fraction = r.is_fraction;
      marked = r.marked;
      spelled = ap (λ x. c ∷ x) r.spelled;
    }
whole_kind rules c cs kinds.Group f whole group h =
    let r = group h in
    record {
      whole = c ∷ r.whole;
      fraction = r.fraction;
      mark = r.mark;
      grouped = λ d hd. (hd, inr (f, r.grouped));
      is_fraction = r.is_fraction;
      marked = r.marked;
      spelled = ap (λ x. c ∷ x) r.spelled;
    }
whole_kind rules c cs kinds.Point f whole group h =
    let r = fraction_rest rules cs h in
    record {
      whole = [];
      fraction = Some r.digits;
      mark = r.mark;
      grouped = λ d hd. hd;
      is_fraction = (some_point _ c f, r.are_digits);
      marked = r.marked;
      spelled = fraction_after rules c cs f r;
    }
whole_kind rules c cs kinds.Percent f whole group h =
    let e : c ∷ cs ≡ 37 ∷ [] = ap (λ x. c ∷ x) (after_mark rules cs h) ∙ ap (λ x. x ∷ []) f.1 in
    record { whole = []; fraction = None; mark = marks.Percent; grouped = λ d hd. hd; is_fraction = tt; marked = f.0; spelled = e }
whole_kind rules c cs kinds.PerMille f whole group h =
    let e : c ∷ cs ≡ 0x2030 ∷ [] = ap (λ x. c ∷ x) (after_mark rules cs h) ∙ ap (λ x. x ∷ []) f.1 in
    record { whole = []; fraction = None; mark = marks.PerMille; grouped = λ d hd. hd; is_fraction = tt; marked = f.0; spelled = e }
whole_kind rules c cs _ f whole group h = absurd (never_bad rules cs h)

group_kind : (rules : NumberRules) (c : ℕ) (cs : List ℕ) (k : Kind) → KindFact rules c k
    → (ends (goes rules places.Whole cs) ≡ true → WholeRest (GoesOn rules) rules cs) → ends (goes rules (next places.Group k) cs) ≡ true
    → WholeRest (Begins rules) rules (c ∷ cs)
group_kind rules c cs (kinds.Digit d) f whole h =
    let r = whole h in
    record {
      whole = c ∷ r.whole;
      fraction = r.fraction;
      mark = r.mark;
      grouped = r.grouped c f;
      is_fraction = r.is_fraction;
      marked = r.marked;
      spelled = ap (λ x. c ∷ x) r.spelled;
    }
group_kind rules c cs _ f whole h = absurd (never_bad rules cs h)

whole_rests : (rules : NumberRules) (cs : List ℕ) → (ends (goes rules places.Whole cs) ≡ true → WholeRest (GoesOn rules) rules cs)
    × (ends (goes rules places.Group cs) ≡ true → WholeRest (Begins rules) rules cs)
whole_rests rules [] = (
  λ h. record
      { whole = []; fraction = None; mark = marks.Plain; grouped = λ d hd. hd; is_fraction = tt; marked = tt; spelled = refl },
  λ h. cc,
)
whole_rests rules (c ∷ cs) =
    let rests = whole_rests rules cs in (
      λ h. whole_kind rules c cs (kind_of rules c) (kind_fact rules c) rests.0 rests.1 h,
      λ h. group_kind rules c cs (kind_of rules c) (kind_fact rules c) rests.0 h,
    )

nonempty : (c : ℕ) (cs ds : List ℕ) → ((c ∷ cs ≡ []) × (ds ≡ [])) → ⊥
nonempty c cs ds h = let e : c ∷ cs ≡ [] = h.0 in cc

-- a number after its sign
with_whole : (rules : NumberRules) (sign : Sign) (c : ℕ) (cs : List ℕ) → IsAsciiDigit c → ends (goes rules places.Whole cs) ≡ true
    → SpellsNumber rules (sign_text sign ++ (c ∷ cs))
with_whole rules sign c cs f h =
    let r = (whole_rests rules cs).0 h in
    let p : Parts = record { sign = sign; whole = c ∷ r.whole; fraction = r.fraction; mark = r.mark } in
    record {
      parts = p;
      is_number = record {
        whole = inr (r.grouped c f);
        fraction = r.is_fraction;
        not_both_missing = nonempty c r.whole _;
        mark = r.marked;
      };
      spelled = ap (λ x. sign_text sign ++ (c ∷ x)) r.spelled;
    }

with_point : (rules : NumberRules) (sign : Sign) (c : ℕ) (cs : List ℕ) → rules.decimal_char ≡ Some c → ends (goes rules places.BarePoint cs) ≡ true
    → SpellsNumber rules (sign_text sign ++ (c ∷ cs))
with_point rules sign c cs f h =
    let b = bare_rest rules cs h in
    let p : Parts = record { sign = sign; whole = []; fraction = Some b.rest.digits; mark = b.rest.mark } in
    record {
      parts = p;
      is_number = record {
        whole = inl refl;
        fraction = (some_point _ c f, b.rest.are_digits);
        not_both_missing = λ e. b.some e.1;
        mark = b.rest.marked;
      };
      spelled = ap (λ x. sign_text sign ++ x) (fraction_after rules c cs f b.rest);
    }

sign_kind : (rules : NumberRules) (sign : Sign) (c : ℕ) (cs : List ℕ) (k : Kind) → KindFact rules c k
    → ends (goes rules (next places.Sign k) cs) ≡ true → SpellsNumber rules (sign_text sign ++ (c ∷ cs))
sign_kind rules sign c cs (kinds.Digit d) f h = with_whole rules sign c cs f h
sign_kind rules sign c cs kinds.Point f h = with_point rules sign c cs f h
sign_kind rules sign c cs _ f h = absurd (never_bad rules cs h)

after_sign : (rules : NumberRules) (sign : Sign) (cs : List ℕ) → ends (goes rules places.Sign cs) ≡ true → SpellsNumber rules (sign_text sign ++ cs)
after_sign rules sign [] h = cc
after_sign rules sign (c ∷ cs) h = sign_kind rules sign c cs (kind_of rules c) (kind_fact rules c) h

start_kind : (rules : NumberRules) (c : ℕ) (cs : List ℕ) (k : Kind) → KindFact rules c k → ends (goes rules (next places.Start k) cs) ≡ true
    → SpellsNumber rules (c ∷ cs)
start_kind rules c cs (kinds.Digit d) f h = with_whole rules NoSign c cs f h
start_kind rules c cs kinds.Point f h = with_point rules NoSign c cs f h
start_kind rules c cs kinds.Plus f h =
    let P : ℕ → Type 0 = λ x. SpellsNumber rules (x ∷ cs) in subst P (sym f) (after_sign rules Plus cs h)
start_kind rules c cs kinds.Minus f h =
    let P : ℕ → Type 0 = λ x. SpellsNumber rules (x ∷ cs) in subst P (sym f) (after_sign rules Minus cs h)
start_kind rules c cs _ f h = absurd (never_bad rules cs h)

-- what the pass accepts is spelled as a number
pub accepted_spells : (rules : NumberRules) (cs : List ℕ) → ends (goes rules places.Start cs) ≡ true → SpellsNumber rules cs
accepted_spells rules [] h = cc
accepted_spells rules (c ∷ cs) h = start_kind rules c cs (kind_of rules c) (kind_fact rules c) h
