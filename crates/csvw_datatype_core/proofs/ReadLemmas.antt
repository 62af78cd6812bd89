-- The result of the pass over a text.
use Rattle.std.proofs.Common.{◌≡◌, ℕ, List, refl, sym, ap, subst, ◌∙◌, true, false, cond, Option, Some, None, ℤ, pos, neg_ℤ}
use Rattle.csvw_datatype_core.specs.declared.number.NumberRules.{NumberRules}
use Rattle.csvw_datatype_core.specs.Scan.{ends}
use Rattle.csvw_datatype_core.specs.Step.{begun, run, count_of}
use Rattle.csvw_datatype_core.specs.Numbers.{Sign, NoSign, Plus, Minus, Parts, text_of, IsNumber, IsLawful, ReadsNumber, SpellsNumber, signed}
use Rattle.csvw_datatype_core.proofs.Accepts.{accepted_spells}
use Rattle.csvw_datatype_core.proofs.Spelled.{HoldsParts, spelled_holds, run_place, is_minus}
use Rattle.csvw_datatype_core.proofs.Answer.{IsAnswer, count_answers}

-- the pass over a text that the parts spell
pub holds_text : (rules : NumberRules) (l : IsLawful rules) (cs : List ℕ) (p : Parts) → IsNumber rules p → cs ≡ text_of rules p
    → HoldsParts p (run rules begun cs)
holds_text rules l cs p n e = let P : List ℕ → Type 0 = λ cs. HoldsParts p (run rules begun cs) in subst P (sym e) (spelled_holds rules l p n)

pub spells_nothing : (rules : NumberRules) (l : IsLawful rules) (cs : List ℕ) → ends (run rules begun cs).place ≡ false → SpellsNumber rules cs → ⊥
spells_nothing rules l cs h s = let e = (holds_text rules l cs s.parts s.is_number s.spelled).ended in cc

pub spells : (rules : NumberRules) (cs : List ℕ) → ends (run rules begun cs).place ≡ true → SpellsNumber rules cs
spells rules cs h = accepted_spells rules cs (ap ends (sym (run_place rules begun cs)) ∙ h)

pub reads_nothing : (rules : NumberRules) (l : IsLawful rules) (cs : List ℕ) → count_of (run rules begun cs) ≡ None → (z : ℤ) → ReadsNumber rules cs z → ⊥
reads_nothing rules l cs h z r =
    let P : Option ℕ → Type 0 = λ o. IsAnswer r.parts o in
    subst P h (count_answers rules r.parts _ r.is_number (holds_text rules l cs r.parts r.is_number r.spelled)) r.count r.small r.is_count

pub signed_is : (sign : Sign) (n : ℕ) → cond (is_minus sign) (neg_ℤ (pos n)) (pos n) ≡ signed sign n
signed_is NoSign n = refl
signed_is Plus n = refl
signed_is Minus n = refl

pub reads : (rules : NumberRules) (l : IsLawful rules) (cs : List ℕ) (n : ℕ) (z : ℤ) → ends (run rules begun cs).place ≡ true
    → count_of (run rules begun cs) ≡ Some n → z ≡ cond (run rules begun cs).minus (neg_ℤ (pos n)) (pos n) → ReadsNumber rules cs z
reads rules l cs n z h c e =
    let s = spells rules cs h in
    let holds = holds_text rules l cs s.parts s.is_number s.spelled in
    let P : Option ℕ → Type 0 = λ o. IsAnswer s.parts o in
    let a = subst P c (count_answers rules s.parts _ s.is_number holds) in
    record {
      parts = s.parts;
      is_number = s.is_number;
      spelled = s.spelled;
      count = n;
      small = a.0;
      is_count = a.1;
      is_value = e
          ∙ ap (λ b. cond b (neg_ℤ (pos n)) (pos n)) holds.minus ∙ signed_is s.parts.sign n;
    }
