-- Texts that equal an earlier one, and columns that come too early, found one after another as a loop does.
use Rattle.std.proofs.Common.{◌≡◌, ℕ, ◌+◌, ◌<◌, ◌≤◌, ◌&&◌, ◌||◌, not, List, [], ◌∷◌, ◌++◌, length, map, drop, get_or, Bool, true, false, bytes_eq}
use Rattle.std.proofs.Common.{if◌then◌else◌, refl, sym, ap, ap₂, ◌∙◌, append_assoc, arith}
use Rattle.std.specs.Borrow.{Bor}
use Rattle.std.specs.List.{list_any}
use Rattle.std.proofs.lemmas.List.{append-nil, drop_all, map-append}
use Rattle.csvw_description.specs.declared.column.ColumnDescription.{ColumnDescription}
use Rattle.csvw_meta_core.specs.declared.fault.MetaFault.{MetaFault}
use Rattle.csvw_meta.specs.Repeated.{repeated}
use Rattle.csvw_meta.specs.VirtualOrder.{misplaced}
use Rattle.csvw_meta_faults.proofs.ItemsLemmas.{here}

kept_map : {A B : Type 0} (f : A → B) (b : Bool) (x : A) → map f (if b then x ∷ [] else []) ≡ (if b then f x ∷ [] else [])
kept_map f true x = refl
kept_map f false x = refl

kept_text : {A B : Type 0} (f : A → B) (b : Bool) (xs : List A) (x : A)
    → map f (xs ++ (if b then x ∷ [] else [])) ≡ (if b then map f xs ++ f x ∷ [] else map f xs)
kept_text f true xs x = map-append f xs (x ∷ [])
kept_text f false xs x = ap (λ ys. map f ys) (append-nil xs)

-- what is found, then what one more item adds, and then what is left
more_found : (fault : ℕ → MetaFault) (found : List ℕ) (b : Bool) (i : ℕ) (rest total : List MetaFault)
    → map fault found ++ ((if b then fault i ∷ [] else []) ++ rest) ≡ total → map fault (found ++ (if b then i ∷ [] else [])) ++ rest ≡ total
more_found fault found b i rest total so_far =
    ap (λ fs. fs ++ rest) (map-append fault found (if b then i ∷ [] else []) ∙ ap (λ fs. map fault found ++ fs) (kept_map fault b i))
    ∙ (append_assoc (map fault found) (if b then fault i ∷ [] else []) rest ∙ so_far)

module _ (known : ℕ → Bool) (fault : ℕ → MetaFault) (total : List MetaFault) where
  pub repeats : {T : Type 0} (text : T → List ℕ) (found : List ℕ) (before : List T) (i : ℕ) (t : T) (all : List (List ℕ)) (b : Bool) → i < length all
      → text t ≡ get_or all i (text t) → b ≡ (known i && list_any (λ u. bytes_eq u (text t)) (map text before))
      → map fault found ++ repeated known fault (map text before) i (drop i all) ≡ total
      → map fault (found ++ (if b then i ∷ [] else []))
      ++ repeated known fault (map text (before ++ (if known i then t ∷ [] else []))) (i + 1) (drop (i + 1) all) ≡ total
  repeats text found before i t all b lt is e so_far =
      let now = (if known i then map text before ++ text t ∷ [] else map text before) in
      let rest = repeated known fault now (i + 1) (drop (i + 1) all) in
      let step : map fault found ++ ((if b then fault i ∷ [] else []) ++ rest) ≡ total =
      ap (λ x. map fault found ++ ((if x then fault i ∷ [] else []) ++ rest)) e ∙ (rw (here all i (text t) lt is) at so_far) in
      ap (λ bs. map fault (found ++ (if b then i ∷ [] else [])) ++ repeated known fault bs (i + 1) (drop (i + 1) all)) (kept_text text (known i) before t)
      ∙ more_found fault found b i rest total step

  pub repeats_done : (found : List ℕ) (before : List (List ℕ)) (i : ℕ) (all : List (List ℕ)) → length all ≤ i
      → map fault found ++ repeated known fault before i (drop i all) ≡ total → map fault found ≡ total
  repeats_done found before i all le so_far =
      let none : drop i all ≡ [] = drop_all i all le in sym (append-nil (map fault found)) ∙ (rw none at so_far)

  pub misplaces : (found : List ℕ) (behind : Bool) (i : ℕ) (c : ColumnDescription) (all : List ColumnDescription) (b after : Bool) → i < length all
      → c ≡ get_or all i c → b ≡ (known i && (behind && not c.is_virtual)) → after ≡ (behind || (known i && c.is_virtual))
      → map fault found ++ misplaced known fault behind i (drop i all) ≡ total
      → map fault (found ++ (if b then i ∷ [] else [])) ++ misplaced known fault after (i + 1) (drop (i + 1) all) ≡ total
  misplaces found behind i c all b after lt is e f so_far =
      let rest = misplaced known fault (behind || (known i && c.is_virtual)) (i + 1) (drop (i + 1) all) in
      let step : map fault found ++ ((if b then fault i ∷ [] else []) ++ rest) ≡ total =
      ap (λ x. map fault found ++ ((if x then fault i ∷ [] else []) ++ rest)) e ∙ (rw (here all i c lt is) at so_far) in
      ap (λ x. map fault (found ++ (if b then i ∷ [] else [])) ++ misplaced known fault x (i + 1) (drop (i + 1) all)) f
      ∙ more_found fault found b i rest total step

  pub misplaces_done : (found : List ℕ) (behind : Bool) (i : ℕ) (all : List ColumnDescription) → length all ≤ i
      → map fault found ++ misplaced known fault behind i (drop i all) ≡ total → map fault found ≡ total
  misplaces_done found behind i all le so_far =
      let none : drop i all ≡ [] = drop_all i all le in sym (append-nil (map fault found)) ∙ (rw none at so_far)

-- tests that agree below the number of items find the same
pub repeated_same : (k l : ℕ → Bool) (fault : ℕ → MetaFault) (before : List (List ℕ)) (i : ℕ) (ts : List (List ℕ))
    → ((j : ℕ) → i ≤ j → j < i + length ts → k j ≡ l j) → repeated k fault before i ts ≡ repeated l fault before i ts
repeated_same k l fault before i [] same = refl
repeated_same k l fault before i (t ∷ ts) same =
    let here_same : k i ≡ l i = same i (omega arith) (omega arith) in
    let rest : (bs : List (List ℕ)) → repeated k fault bs (i + 1) ts ≡ repeated l fault bs (i + 1) ts =
    λ bs. repeated_same k l fault bs (i + 1) ts (λ j low high. same j (omega arith) (omega arith)) in
    ap₂ (λ x fs. (if x && list_any (λ u. bytes_eq u t) before then fault i ∷ [] else []) ++ fs) here_same
    (rest (if k i then before ++ t ∷ [] else before) ∙ ap (λ x. repeated l fault (if x then before ++ t ∷ [] else before) (i + 1) ts) here_same)

pub misplaced_same : (k l : ℕ → Bool) (fault : ℕ → MetaFault) (behind : Bool) (i : ℕ) (cs : List ColumnDescription)
    → ((j : ℕ) → i ≤ j → j < i + length cs → k j ≡ l j) → misplaced k fault behind i cs ≡ misplaced l fault behind i cs
misplaced_same k l fault behind i [] same = refl
misplaced_same k l fault behind i (c ∷ cs) same =
    let here_same : k i ≡ l i = same i (omega arith) (omega arith) in
    let rest : (b : Bool) → misplaced k fault b (i + 1) cs ≡ misplaced l fault b (i + 1) cs =
    λ b. misplaced_same k l fault b (i + 1) cs (λ j low high. same j (omega arith) (omega arith)) in
    ap₂ (λ x fs. (if x && (behind && not c.is_virtual) then fault i ∷ [] else []) ++ fs) here_same
    (rest (behind || (k i && c.is_virtual)) ∙ ap (λ x. misplaced l fault (behind || (x && c.is_virtual)) (i + 1) cs) here_same)

pub any_now : (texts : List (Bor (List ℕ))) (text : List ℕ)
    → list_any (λ t. bytes_eq t text) (map (λ t. t.now) texts) ≡ list_any (λ t. bytes_eq t.now text) texts
any_now [] text = refl
any_now (t ∷ ts) text = ap (λ b. bytes_eq t.now text || b) (any_now ts text)
