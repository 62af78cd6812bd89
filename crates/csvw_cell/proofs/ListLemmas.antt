-- The parts of a list and their items, one after the other.
use Rattle.std.proofs.Common.{◌≡◌, ◌∙◌, ℕ, ◌+◌, ◌<◌, Bool, true, false, List, [], ◌∷◌, ◌++◌, length, map, take, drop, refl, sym, ap, subst}
use Rattle.std.proofs.Common.{append_assoc, get_or, add-one}
use Rattle.std.proofs.lemmas.List.{map-append}
use Rattle.std.proofs.Math.Seq.{take-suc}
use Rattle.std.specs.Prelude.{not, Some, if◌then◌else◌}
use Rattle.std.specs.Str.Pattern.{FindsText}
use Rattle.csvw_fault.specs.declared.fault.Code.{Code}
use Rattle.csvw_datatype.specs.declared.datatype.Datatype.{Datatype}
use Rattle.csvw_columns_core.specs.declared.properties.Properties.{Properties}
use Rattle.csvw_cell.specs.declared.cell.Item.{Item}
use Rattle.csvw_cell.specs.CellOf.{ArePartsBy, AreItems, IsItem, is_null, item_text, texts_of}

-- one more part in front
pub one_more : (separator rest part behind : List ℕ) (i j : ℕ) (more : List (List ℕ)) → FindsText separator rest (Some (i, j)) → part ≡ take i rest
    → behind ≡ drop j rest
    → ArePartsBy separator behind more → ArePartsBy separator rest (part ∷ more)
one_more separator rest part behind i j [] f p e h = absurd h
one_more separator rest part behind i j (next ∷ parts) f p e h = (i, j, f, p, subst (λ b. ArePartsBy separator b (next ∷ parts)) e h)

-- one more item behind
pub items_snoc : (d : Datatype) (texts : List (List ℕ)) (items : List Item) (codes : List Code) (text : List ℕ) (item : Item) (its : List Code)
    → AreItems d texts items codes → IsItem d text item its → AreItems d (texts ++ text ∷ []) (items ++ item ∷ []) (codes ++ its)
items_snoc d [] items codes text item its h k =
    (item, [], its, [], ap (λ l. l ++ item ∷ []) h.0, ap (λ l. l ++ its) h.1 ∙ sym (nothing_more its), k, (refl, refl))
  where
    nothing_more : (l : List Code) → l ++ [] ≡ l
    nothing_more [] = refl
    nothing_more (x ∷ xs) = ap (λ l. x ∷ l) (nothing_more xs)
items_snoc d (t ∷ texts) items codes text item its (i, others, c, theirs, e, f, g, h) k = (
  i,
  others ++ item ∷ [],
  c,
  theirs ++ its,
  ap (λ l. l ++ item ∷ []) e,
  ap (λ l. l ++ its) f ∙ append_assoc c theirs its,
  g,
  items_snoc d texts others theirs text item its h k,
)

-- a part that is null, and one that isn't
texts_null : (p : Properties) (parts : List (List ℕ)) (part : List ℕ) → is_null p.null (item_text p part) ≡ true
    → texts_of p (parts ++ part ∷ []) ≡ texts_of p parts
texts_null p [] part e = rw e refl
texts_null p (x ∷ parts) part e = kept (not (is_null p.null (item_text p x))) (item_text p x) (texts_null p parts part e)
  where
    kept : (b : Bool) (x : List ℕ) {l m : List (List ℕ)} → l ≡ m → (if b then x ∷ l else l) ≡ (if b then x ∷ m else m)
    kept b x e = ap (λ l. if b then x ∷ l else l) e

pub texts_kept : (p : Properties) (parts : List (List ℕ)) (part : List ℕ) → is_null p.null (item_text p part) ≡ false
    → texts_of p (parts ++ part ∷ []) ≡ texts_of p parts ++ item_text p part ∷ []
texts_kept p [] part e = rw e refl
texts_kept p (x ∷ parts) part e = kept (not (is_null p.null (item_text p x))) (item_text p x) _ _ _ (texts_kept p parts part e)
  where
    kept : (b : Bool) (x : List ℕ) (l m n : List (List ℕ)) → l ≡ m ++ n → (if b then x ∷ l else l) ≡ (if b then x ∷ m else m) ++ n
    kept true x l m n e = ap (λ k. x ∷ k) e
    kept false x l m n e = e

take_map_suc : {R : Type 0} (f : R → List ℕ) (parts : List R) (i : ℕ) (d : R) → i < length parts
    → map f (take (i + 1) parts) ≡ map f (take i parts) ++ f (get_or parts i d) ∷ []
take_map_suc f parts i d lt = ap (λ n. map f (take n parts)) (add-one i) ∙ ap (map f) (take-suc parts i d lt)
    ∙ map-append f (take i parts) (get_or parts i d ∷ [])

-- the items of one more part
pub one_item : {R : Type 0} (f : R → List ℕ) (p : Properties) (parts : List R) (i : ℕ) (d : R) (text : List ℕ) (item : Item) (its : List Code)
    (items new_items : List Item) (codes new_codes : List Code) → i < length parts → text ≡ item_text p (f (get_or parts i d)) → is_null p.null text ≡ false
    → IsItem p.datatype text item its → new_items ≡ items ++ item ∷ [] → new_codes ≡ codes ++ its
    → AreItems p.datatype (texts_of p (map f (take i parts))) items codes → AreItems p.datatype (texts_of p (map f (take (i + 1) parts))) new_items new_codes
one_item f p parts i d text item its items new_items codes new_codes lt e n j g h so_far =
    let front : List (List ℕ) = map f (take i parts) in
    let t : texts_of p (map f (take (i + 1) parts)) ≡ texts_of p front ++ text ∷ [] =
    ap (texts_of p) (take_map_suc f parts i d lt) ∙ texts_kept p front (f (get_or parts i d)) (sym (ap (is_null p.null) e) ∙ n)
    ∙ ap (λ x. texts_of p front ++ x ∷ []) (sym e) in
    subst (λ texts. AreItems p.datatype texts new_items new_codes) (sym t)
    (subst (λ x. AreItems p.datatype (texts_of p front ++ text ∷ []) x new_codes) (sym g)
    (subst (λ x. AreItems p.datatype (texts_of p front ++ text ∷ []) (items ++ item ∷ []) x) (sym h)
    (items_snoc p.datatype (texts_of p front) items codes text item its so_far j)))

-- the same items where one more part is null
pub no_item : {R : Type 0} (f : R → List ℕ) (p : Properties) (parts : List R) (i : ℕ) (d : R) (text : List ℕ) (items : List Item) (codes : List Code)
    → i < length parts → text ≡ item_text p (f (get_or parts i d)) → is_null p.null text ≡ true
    → AreItems p.datatype (texts_of p (map f (take i parts))) items codes → AreItems p.datatype (texts_of p (map f (take (i + 1) parts))) items codes
no_item f p parts i d text items codes lt e n so_far =
    let t : texts_of p (map f (take (i + 1) parts)) ≡ texts_of p (map f (take i parts)) =
    ap (texts_of p) (take_map_suc f parts i d lt) ∙ texts_null p (map f (take i parts)) (f (get_or parts i d)) (sym (ap (is_null p.null) e) ∙ n) in
    subst (λ texts. AreItems p.datatype texts items codes) (sym t) so_far
