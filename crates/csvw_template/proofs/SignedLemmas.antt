-- Values one after another.
use Rattle.std.proofs.Common.{◌≡◌, ℕ, ◌<◌, ◌+◌, List, [], ◌∷◌, ◌++◌, Bool, true, false, Option, Some, None, take, get_or, length, flat_map, map, refl}
use Rattle.std.proofs.Common.{ap, sym, subst, ◌∙◌, append_assoc, append-nil}
use Rattle.std.specs.List.{cons_option, filter_map}
use Rattle.std.proofs.lemmas.Bool.{false≢true}
use Rattle.std.proofs.lemmas.List.{take_more}
use Rattle.std.proofs.lemmas.List.Folds.{flat_map-map}
use Rattle.std.proofs.lemmas.Grind.{flat_map-append}
use Rattle.std.proofs.lemmas.List.Elements.{filter_map-append}
use Rattle.csvw_template.specs.declared.part.Operator.{Operator}
use Rattle.csvw_template.specs.Name.{after_comma, listed}
use Rattle.csvw_template.specs.Expand.{signed, sign, lead, Adds, encoded}

abbrev pub is_none : List (List ℕ) → Bool
is_none [] = true
is_none (text ∷ texts) = false

pub more : (operator : Operator) (vs : List (List ℕ)) (text : List ℕ)
    → signed operator (vs ++ text ∷ []) ≡ signed operator vs ++ (lead operator (is_none vs) ++ text)
more operator [] text = ap (λ x. sign operator ++ x) (append-nil text)
more operator (v ∷ vs) text =
    ap (λ x. sign operator ++ (v ++ x)) (flat_map-append after_comma vs (text ∷ []))
    ∙ ap (λ x. sign operator ++ (v ++ (flat_map after_comma vs ++ x))) (append-nil (44 ∷ text))
    ∙ ap (λ x. sign operator ++ x) (sym (append_assoc v (flat_map after_comma vs) (44 ∷ text)))
    ∙ sym (append_assoc (sign operator) (v ++ flat_map after_comma vs) (44 ∷ text))

-- what was written, and whether nothing was
pub record Wrote (operator : Operator) (start : List ℕ) (vs : List (List ℕ)) (is_first : Bool) (out : List ℕ) : Type 0 where
  pub first : is_first ≡ is_none vs
  pub written : out ≡ start ++ signed operator vs

none-more : (vs : List (List ℕ)) (text : List ℕ) → false ≡ is_none (vs ++ text ∷ [])
none-more [] text = refl
none-more (v ∷ vs) text = refl

some : (operator : Operator) (start : List ℕ) (vs : List (List ℕ)) (b : Bool) (v : Option (List ℕ)) (old new : List ℕ)
    → Wrote operator start vs b old → Adds operator b v true old new → Wrote operator start (vs ++ cons_option v []) false new
some operator start vs b None old new w a = absurd (false≢true (sym a.0))
some operator start vs b (Some text) old new w a = record {
  first = none-more vs text;
  written =
      a.1 ∙ ap (λ x. x ++ (lead operator b ++ text)) w.written ∙ append_assoc start (signed operator vs) (lead operator b ++ text)
      ∙ ap (λ f. start ++ (signed operator vs ++ (lead operator f ++ text))) w.first ∙ ap (λ x. start ++ x) (sym (more operator vs text));
}

none : (operator : Operator) (start : List ℕ) (vs : List (List ℕ)) (b : Bool) (v : Option (List ℕ)) (old new : List ℕ)
    → Wrote operator start vs b old → Adds operator b v false old new → Wrote operator start (vs ++ cons_option v []) b new
none operator start vs b None old new w a = record {
  first = w.first ∙ ap is_none (sym (append-nil vs));
  written = a.1 ∙ w.written ∙ ap (λ x. start ++ signed operator x) (sym (append-nil vs));
}
none operator start vs b (Some text) old new w a = absurd (false≢true a.0)

-- what each of these gives, where it gives something
module _ {A : Type 0} (operator : Operator) (gives : A → Option (List ℕ)) (xs : List A) (i : ℕ) (x : A) (lt : i < length xs) (is : x ≡ get_or xs i x)
    (start : List ℕ) (b : Bool) (old new : List ℕ) (w : Wrote operator start (filter_map gives (take i xs)) b old) where
  pub next : filter_map gives (take i xs) ++ cons_option (gives x) [] ≡ filter_map gives (take (i + 1) xs)
  next =
      sym (filter_map-append gives (take i xs) (x ∷ []))
      ∙ ap (λ y. filter_map gives (take i xs ++ y ∷ [])) is ∙ sym (ap (filter_map gives) (take_more xs i x lt))

  pub goes_on : Adds operator b (gives x) true old new → Wrote operator start (filter_map gives (take (i + 1) xs)) false new
  goes_on a = let P : List (List ℕ) → Type 0 = λ vs. Wrote operator start vs false new in subst P next (some operator start _ b _ old new w a)

  pub stays : Adds operator b (gives x) false old new → Wrote operator start (filter_map gives (take (i + 1) xs)) b new
  stays a = let P : List (List ℕ) → Type 0 = λ vs. Wrote operator start vs b new in subst P next (none operator start _ b _ old new w a)

-- a list, item by item
pub list_written : (operator : Operator) (out front first : List ℕ) (others : List (List ℕ))
    → out ++ front ++ encoded operator first ++ flat_map (λ item. after_comma (encoded operator item)) others
    ≡ out ++ (front ++ listed (map (encoded operator) (first ∷ others)))
list_written operator out front first others =
    append_assoc (out ++ front) (encoded operator first) (flat_map (λ item. after_comma (encoded operator item)) others)
    ∙ append_assoc out front (encoded operator first ++ flat_map (λ item. after_comma (encoded operator item)) others)
    ∙ ap (λ x. out ++ (front ++ (encoded operator first ++ x))) (sym (flat_map-map after_comma (encoded operator) others))
