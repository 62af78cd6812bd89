-- A map after the value of a name is set.
use Rattle.std.proofs.Common.{◌≡◌, ℕ, ◌<◌, List, [], ◌∷◌, ◌++◌, Bool, true, false, cond, Option, Some, None, get_or, set, length, nat_lt, refl, ap}
use Rattle.std.proofs.Common.{sym, subst, ◌∙◌, position, bytes_eq, arith, suc, zero, ⊎_elim}
use Rattle.std.specs.List.{position_or_len}
use Rattle.std.proofs.lemmas.Bool.{cond_both, cond-true, cond-false, cases_Bool, false≢true, false_from_ne_true}
use Rattle.std.proofs.lemmas.Bool.Decides.{nat_tests}
use Rattle.std.proofs.lemmas.List.Sums.{fails_before_first, passes_at_first}
use Rattle.std.proofs.lemmas.Slice.Eq.{bytes_eq-Decides}
use Rattle.csvw_template.specs.declared.vars.Var.{Var}
use Rattle.csvw_template.specs.Variables.{Variables, put, lookup}

added : (ps : Variables) (name : List ℕ) (v : Var)
    → ((k : ℕ) (d : List ℕ × Var) → k < length ps → bytes_eq (get_or ps k d).0 name ≡ false) → put ps name v ≡ ps ++ (name, v) ∷ []
added [] name v other = refl
added (p ∷ ps) name v other =
    cond-false _ _ _ (other 0 p (omega arith)) ∙ ap (λ x. p ∷ x) (added ps name v (λ k d l. other (suc k) d (omega (arith, l))))

changed : (ps : Variables) (i : ℕ) (name : List ℕ) (v : Var) (d : List ℕ × Var)
    → i < length ps → bytes_eq (get_or ps i d).0 name ≡ true → ((k : ℕ) → k < i → bytes_eq (get_or ps k d).0 name ≡ false)
    → put ps name v ≡ set ps i ((get_or ps i d).0, v)
changed [] i name v d l here other = absurd (omega (arith, l))
changed (p ∷ ps) zero name v d l here other = cond-true _ _ _ here
changed (p ∷ ps) (suc i) name v d l here other =
    cond-false _ _ _ (other 0 (omega arith)) ∙ ap (λ x. p ∷ x) (changed ps i name v d (omega (arith, l)) here (λ k lt. other (suc k) (omega (arith, lt))))

-- how a map is changed, by the place of the name
abbrev pub Puts : Variables → List ℕ → Var → Option ℕ → Type 0
Puts ps name v None = put ps name v ≡ ps ++ (name, v) ∷ []
Puts ps name v (Some i) = (i < length ps) × ((d : List ℕ × Var) → put ps name v ≡ set ps i ((get_or ps i d).0, v))

pub puts : (ps : Variables) (name : List ℕ) (v : Var) → Puts ps name v (position (λ p. bytes_eq p.0 name) ps)
puts ps name v =
    let test : List ℕ × Var → Bool = λ p. bytes_eq p.0 name in
    let i = position_or_len test ps in
    cond_both (nat_lt i (length ps)) (Some i) None (Puts ps name v)
    (λ e. let l : i < length ps = grind (arith, nat_tests) in
    (l, λ d. changed ps i name v d l (passes_at_first test ps d l) (λ k lt. fails_before_first test ps k d lt)))
    (λ e. added ps name v (λ k d l. fails_before_first test ps k d (grind (arith, nat_tests))))

same_text : (a b : List ℕ) → bytes_eq a b ≡ true → a ≡ b
same_text a b e = (bytes_eq-Decides a b).0 e

-- the map's law: the name stands for the value, all others for what they stood for
pub lookup-put : (ps : Variables) (name : List ℕ) (v : Var) (other : List ℕ) → lookup (put ps name v) other ≡ cond (bytes_eq name other) v (lookup ps other)
lookup-put [] name v other = refl
lookup-put (p ∷ ps) name v other =
    cond_both (bytes_eq p.0 name) ((p.0, v) ∷ ps) (p ∷ put ps name v)
    (λ (qs : Variables). lookup qs other ≡ cond (bytes_eq name other) v (cond (bytes_eq p.0 other) p.1 (lookup ps other)))
    (λ e.
    let same = same_text p.0 name e in
    ⊎_elim
    (λ (t : bytes_eq name other ≡ true). cond-true _ _ _ (ap (λ x. bytes_eq x other) same ∙ t) ∙ sym (cond-true _ _ _ t))
    (λ (f : bytes_eq name other ≡ false). cond-false _ _ _ (ap (λ x. bytes_eq x other) same ∙ f)
    ∙ sym (cond-false _ _ _ f ∙ cond-false _ _ _ (ap (λ x. bytes_eq x other) same ∙ f)))
    (cases_Bool (bytes_eq name other)))
    (λ e.
    ap (λ x. cond (bytes_eq p.0 other) p.1 x) (lookup-put ps name v other)
    ∙ ⊎_elim
    (λ (t : bytes_eq p.0 other ≡ true).
    let differs : bytes_eq name other ≡ false = false_from_ne_true _ (λ n. false≢true (sym e ∙ (ap (λ x. bytes_eq p.0 x) (same_text name other n) ∙ t))) in
    cond-true _ _ _ t ∙ sym (cond-false _ _ _ differs ∙ cond-true _ _ _ t))
    (λ (f : bytes_eq p.0 other ≡ false).
    cond-false _ _ _ f ∙ ap (λ x. cond (bytes_eq name other) v x) (sym (cond-false _ _ _ f)))
    (cases_Bool (bytes_eq p.0 other)))

-- where the name has a pair
pub put_at : (ps : Variables) (name : List ℕ) (v : Var) (i : ℕ) → Some i ≡ position (λ p. bytes_eq p.0 name) ps
    → (d : List ℕ × Var) → put ps name v ≡ set ps i ((get_or ps i d).0, v)
put_at ps name v i e = (subst (Puts ps name v) (sym e) (puts ps name v)).1

-- where it has none
pub put_end : (ps : Variables) (name : List ℕ) (v : Var) → None ≡ position (λ p. bytes_eq p.0 name) ps → put ps name v ≡ ps ++ (name, v) ∷ []
put_end ps name v e = subst (Puts ps name v) (sym e) (puts ps name v)
