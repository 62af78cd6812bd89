-- What is listed for one key more, and for the keys of one table more.
use Rattle.std.proofs.Common.{◌≡◌, ◌∙◌, ◌+◌, ◌<◌, ℕ, suc, List, [], ◌∷◌, ◌++◌, sym, ap, append_assoc, arith, flat_map, get_or, length, length-append, map, take}
use Rattle.std.proofs.lemmas.Grind.{flat_map-append}
use Rattle.std.proofs.lemmas.List.{append-nil, map_more, take_more}
use Rattle.csvw_keys.specs.KeyRules.{KeyRule}
use Rattle.csvw_row_keys.specs.declared.listing.Listing.{Listing}
use Rattle.csvw_row_keys.specs.Listings.{listings_for, listings_from}

pub listings_append : (n : ℕ) (xs ys : List KeyRule) → listings_from n (xs ++ ys) ≡ listings_from n xs ++ listings_from (n + length xs) ys
listings_append n [] ys = let e : n ≡ n + 0 = omega arith in ap (λ k. listings_from k ys) e
listings_append n (x ∷ xs) ys =
    let e : suc n + length xs ≡ n + length (x ∷ xs) = omega arith in
    ap (λ l. listings_for n x ++ l) (listings_append (suc n) xs ys)
    ∙ sym (append_assoc (listings_for n x) (listings_from (suc n) xs) (listings_from (suc n + length xs) ys))
    ∙ ap (λ k. listings_from n (x ∷ xs) ++ listings_from k ys) e

one_key : (n : ℕ) (xs : List KeyRule) (x : KeyRule) → listings_from n xs ++ listings_for (n + length xs) x ≡ listings_from n (xs ++ x ∷ [])
one_key n xs x =
    ap (λ l. listings_from n xs ++ l) (sym (append-nil (listings_for (n + length xs) x))) ∙ sym (listings_append n xs (x ∷ []))

module _ {X : Type 0} (rule : X → KeyRule) (keys : List X) (i : ℕ) (key : X) (lt : i < length keys) (is : key ≡ get_or keys i key) where
  more_keys : map rule (take (i + 1) keys) ≡ map rule (take i keys) ++ rule key ∷ []
  more_keys = map_more rule keys i key lt ∙ ap (λ k. map rule (take i keys) ++ rule k ∷ []) (sym is)

  pub key_listed : (n next : ℕ) (before so_far now : List Listing) → so_far ≡ before ++ listings_from n (map rule (take i keys))
      → next ≡ n + length (map rule (take i keys)) → now ≡ so_far ++ listings_for next (rule key)
      → now ≡ before ++ listings_from n (map rule (take (i + 1) keys))
  key_listed n next before so_far now listed number added =
      let xs = map rule (take i keys) in
      added ∙ ap (λ l. l ++ listings_for next (rule key)) listed
      ∙ append_assoc before (listings_from n xs) (listings_for next (rule key))
      ∙ ap (λ k. before ++ (listings_from n xs ++ listings_for k (rule key))) number
      ∙ ap (λ l. before ++ l) (one_key n xs (rule key) ∙ ap (listings_from n) (sym more_keys))

  pub key_counted : (n next now : ℕ) → next ≡ n + length (map rule (take i keys)) → now ≡ next + 1 → now ≡ n + length (map rule (take (i + 1) keys))
  key_counted n next now number is_next =
      let xs = map rule (take i keys) in
      let more : length (map rule (take (i + 1) keys)) ≡ length xs + 1 = ap length more_keys ∙ length-append xs (rule key ∷ []) in
      omega (arith, number, is_next, more)

module _ {X : Type 0} (rules : X → List KeyRule) (tables : List X) (i : ℕ) (table : X) (lt : i < length tables) (is : table ≡ get_or tables i table) where
  more_tables : flat_map rules (take (i + 1) tables) ≡ flat_map rules (take i tables) ++ rules table
  more_tables =
      ap (flat_map rules) (take_more tables i table lt ∙ ap (λ t. take i tables ++ t ∷ []) (sym is))
      ∙ flat_map-append rules (take i tables) (table ∷ [])
      ∙ ap (λ l. flat_map rules (take i tables) ++ l) (append-nil (rules table))

  pub table_listed : (n next : ℕ) (so_far now : List Listing) → so_far ≡ listings_from n (flat_map rules (take i tables))
      → next ≡ n + length (flat_map rules (take i tables)) → now ≡ so_far ++ listings_from next (rules table)
      → now ≡ listings_from n (flat_map rules (take (i + 1) tables))
  table_listed n next so_far now listed number added =
      let xs = flat_map rules (take i tables) in
      added ∙ ap (λ l. l ++ listings_from next (rules table)) listed
      ∙ ap (λ k. listings_from n xs ++ listings_from k (rules table)) number
      ∙ sym (listings_append n xs (rules table)) ∙ ap (listings_from n) (sym more_tables)

  pub table_counted : (n next now : ℕ) → next ≡ n + length (flat_map rules (take i tables)) → now ≡ next + length (rules table)
      → now ≡ n + length (flat_map rules (take (i + 1) tables))
  table_counted n next now number is_next =
      let xs = flat_map rules (take i tables) in
      let more : length (flat_map rules (take (i + 1) tables)) ≡ length xs + length (rules table) = ap length more_tables ∙ length-append xs (rules table) in
      omega (arith, number, is_next, more)
