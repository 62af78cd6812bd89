-- The parts of a text that "-" separates, from its first "-" on.
use Rattle.std.proofs.Common.{refl, sym, ap, ◌∙◌, ◌≡◌, ◌≢◌, ℕ, suc, ◌==◌, ◌<◌, length, Bool, true, false, List, [], ◌∷◌, ◌++◌, arith, ◌&&◌}
use Rattle.std.proofs.Math.ListN.{get_or}
use Rattle.std.proofs.lemmas.Bool.{eqb-true}
use Rattle.std.specs.List.{list_all}
use Rattle.csvw_datatype_core.specs.Languages.{subtags, onto_first, is_subtag}

-- no byte is "-"
abbrev pub HasNoDash : List ℕ → Type 0
HasNoDash bs = (i : ℕ) → i < length bs → get_or bs i 0 ≢ 45

no_dash : (b : ℕ) (same : Bool) → b ≢ 45 → (b == 45) ≡ same → same ≡ false
no_dash b false differs e = refl
no_dash b true differs e = absurd (differs (eqb-true b 45 e))

pub whole_subtag : (bs : List ℕ) → HasNoDash bs → subtags bs ≡ bs ∷ []
whole_subtag [] free = refl
whole_subtag (b ∷ bs) free =
    let is_other = no_dash b (b == 45) (free 0 (omega arith)) refl in
    let rest = whole_subtag bs (λ i low. free (suc i) (omega (arith, low))) in
    rw is_other (ap (λ (parts : List (List ℕ)). onto_first b parts) rest)

pub first_subtag : (part rest : List ℕ) → HasNoDash part → subtags (part ++ (45 ∷ rest)) ≡ part ∷ subtags rest
first_subtag [] rest free = refl
first_subtag (b ∷ bs) rest free =
    let is_other = no_dash b (b == 45) (free 0 (omega arith)) refl in
    let more = first_subtag bs rest (λ i low. free (suc i) (omega (arith, low))) in
    rw is_other (ap (λ (parts : List (List ℕ)). onto_first b parts) more)

all_after : (bs part rest : List ℕ) → bs ≡ part ++ (45 ∷ rest) → HasNoDash part
    → list_all is_subtag (subtags bs) ≡ (is_subtag part && list_all is_subtag (subtags rest))
all_after bs part rest spelled free =
    ap (λ (l : List ℕ). list_all is_subtag (subtags l)) spelled
    ∙ ap (λ (parts : List (List ℕ)). list_all is_subtag parts) (first_subtag part rest free)

-- a first part that is no subtag, and one that is
pub refused : (bs part rest : List ℕ) (b : Bool) → bs ≡ part ++ (45 ∷ rest) → HasNoDash part → b ≡ is_subtag part → b ≡ false
    → false ≡ list_all is_subtag (subtags bs)
refused bs part rest false spelled free is h =
    sym (all_after bs part rest spelled free ∙ ap (λ x. x && list_all is_subtag (subtags rest)) (sym is))
refused bs part rest true spelled free is h = cc

pub passed : (bs part rest : List ℕ) (b : Bool) → bs ≡ part ++ (45 ∷ rest) → HasNoDash part → b ≡ is_subtag part → b ≡ true
    → list_all is_subtag (subtags bs) ≡ list_all is_subtag (subtags rest)
passed bs part rest true spelled free is h =
    all_after bs part rest spelled free ∙ ap (λ x. x && list_all is_subtag (subtags rest)) (sym is)
passed bs part rest false spelled free is h = cc

-- the last part
pub last : (bs : List ℕ) → HasNoDash bs → list_all is_subtag (subtags bs) ≡ (is_subtag bs && true)
last bs free = ap (λ (parts : List (List ℕ)). list_all is_subtag parts) (whole_subtag bs free)

pub same_and_true : (b : Bool) → b ≡ (b && true)
same_and_true true = refl
same_and_true false = refl
