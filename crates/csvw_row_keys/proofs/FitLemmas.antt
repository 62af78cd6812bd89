-- The records that are written fit their lines.
use Rattle.std.proofs.Common.{◌≡◌, ◌∙◌, ◌≤◌, ◌<◌, ◌+◌, ◌-◌, ◌==◌, ◌||◌, ℕ, List, [], ◌∷◌, ◌++◌, Bool, true, false, refl, sym, ap, subst}
use Rattle.std.proofs.Common.{All, arith, drop, flat_map, get_or, length, take, Result, Ok, Err, OnOk, if◌then◌else◌}
use Rattle.std.specs.List.{list_any}
use Rattle.std.proofs.Math.Seq.{take-add}
use Rattle.std.proofs.lemmas.Bool.{false≢true}
use Rattle.std.proofs.lemmas.Grind.{flat_map-append}
use Rattle.std.proofs.lemmas.List.{append-nil, take_all, take_more}
use Rattle.std.proofs.lemmas.List.Elements.{All-append, All-cons, All-get_or, All-nil}
use Rattle.csvw_key_records.specs.declared.record.KeyRecord.{KeyRecord}
use Rattle.csvw_key_records.specs.Records.{Fits, IsKey}
use Rattle.csvw_keys.specs.declared.key.KeyCell.{KeyCell}
use Rattle.csvw_keys.specs.declared.recording.KeyedRow.{KeyedRow}
use Rattle.csvw_keys.specs.KeyRules.{KeyRule, is_recorded}
use Rattle.csvw_row_keys.specs.declared.listing.Listing.{Listing}
use Rattle.csvw_row_keys.specs.Listings.{is_listed, listed_record, listed_records}
use Rattle.csvw_row_keys.specs.Spelling.{spelling}
use Rattle.csvw_row_keys.specs.SpellingLaws.{is_special}
use Rattle.csvw_row_keys.proofs.PlainLemmas.{key_plain}

-- ---- keys

no_comma : (b : ℕ) → is_special b ≡ false → (b == 44) ≡ false
no_comma b e = grind arith

no_line_feed : (b : ℕ) → is_special b ≡ false → (b == 10) ≡ false
no_line_feed b e = grind arith

none_of : (a b : Bool) → (a || b) ≡ false → (a ≡ false) × (b ≡ false)
none_of true b e = absurd (false≢true (sym e))
none_of false b e = (refl, e)

neither : (a b : Bool) → a ≡ false → b ≡ false → (a || b) ≡ false
neither true b e f = e
neither false b e f = f

none_such : (p : ℕ → Bool) → ((b : ℕ) → is_special b ≡ false → p b ≡ false) → (bytes : List ℕ) → list_any is_special bytes ≡ false → list_any p bytes ≡ false
none_such p each [] e = refl
none_such p each (b ∷ bytes) e =
    let parts = none_of (is_special b) (list_any is_special bytes) e in
    neither _ _ (each b parts.0) (none_such p each bytes parts.1)

pub spelled_key : (key : List KeyCell) → IsKey (spelling key)
spelled_key key = record {
  comma = none_such (λ b. b == 44) no_comma (spelling key) (key_plain key);
  line_feed = none_such (λ b. b == 10) no_line_feed (spelling key) (key_plain key);
}

-- ---- rows

module _ (listing : Listing) (row : KeyedRow) where
  by_test : (test : Bool) → (test ≡ true → Fits (listed_record listing row)) → All Fits (if test then listed_record listing row ∷ [] else [])
  by_test true fits = All-cons Fits (listed_record listing row) [] (fits refl) (All-nil Fits)
  by_test false fits = All-nil Fits

  pub row_fits : (is_listed listing.role row.key ≡ true → Fits (listed_record listing row)) → All Fits (listed_records listing row)
  row_fits fits = by_test (is_listed listing.role row.key) fits

-- ---- lists of rows

back : (n m : ℕ) → n ≤ m → n + (m - n) ≡ m
back n m h = omega arith

module _ {X : Type 0} (f : X → List KeyRecord) (xs : List X) where
  pub fit_next : (i : ℕ) (x : X) → i < length xs → x ≡ get_or xs i x → All Fits (flat_map f (take i xs)) → All Fits (f x)
      → All Fits (flat_map f (take (i + 1) xs))
  fit_next i x lt is before now =
      subst (All Fits)
      (ap (λ t. flat_map f (take i xs) ++ t) (sym (append-nil (f x)))
      ∙ sym (flat_map-append f (take i xs) (x ∷ []))
      ∙ ap (flat_map f) (sym (take_more xs i x lt ∙ ap (λ y. take i xs ++ y ∷ []) (sym is))))
      (All-append Fits (flat_map f (take i xs)) (f x) before now)

  pub fit_between : (n m : ℕ) → n ≤ m → All Fits (flat_map f (take n xs)) → All Fits (flat_map f (take (m - n) (drop n xs)))
      → All Fits (flat_map f (take m xs))
  fit_between n m h before now =
      subst (All Fits)
      (sym (flat_map-append f (take n xs) (take (m - n) (drop n xs)))
      ∙ ap (flat_map f) (sym (take-add n (m - n) xs) ∙ ap (λ k. take k xs) (back n m h)))
      (All-append Fits _ _ before now)

  pub all_fit : (n : ℕ) → length xs ≤ n → All Fits (flat_map f (take n xs)) → All Fits (flat_map f xs)
  all_fit n h fit = subst (λ ys. All Fits (flat_map f ys)) (take_all n xs h) fit

pub is_there : (rules : List KeyRule) (listings : List Listing) (i : ℕ) (listing : Listing) → i < length listings → listing ≡ get_or listings i listing
    → All (λ l. is_recorded l.table l.columns rules ≡ true) listings → is_recorded listing.table listing.columns rules ≡ true
is_there rules listings i listing lt is all =
    let there = λ (l : Listing). is_recorded l.table l.columns rules ≡ true in
    subst there (sym is) (All-get_or there listings i listing lt all)

pub on_any : {A E P : Type 0} (r : Result A E) → P → OnOk r P
on_any (Ok a) p = p
on_any (Err e) p = tt
