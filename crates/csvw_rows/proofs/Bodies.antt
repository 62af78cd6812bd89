-- Body, with one more row.
use Rattle.std.proofs.Common.{◌≡◌, ℕ, zero, suc, ◌+◌, ◌<◌, ◌==◌, Bool, true, false, ◌&&◌, if◌then◌else◌, List, [], ◌∷◌, ◌++◌, map, length, drop}
use Rattle.std.proofs.Common.{Option, Some, None, refl, ap, ◌∙◌, arith, append-nil, length-append, encode_utf8_all}
use Rattle.std.specs.Prelude.{filter_map}
use Rattle.std.specs.List.{enumerate_from, cons_option, list_all}
use Rattle.std.specs.Char.{encode_utf8}
use Rattle.std.proofs.lemmas.Str.{length-encode, len_utf8_bounds}
use Rattle.std.proofs.lemmas.Bool.Decides.{nat_tests}
use Rattle.csvw_records.specs.declared.dialect.Dialect.{Dialect}
use Rattle.csvw_records.specs.declared.dialect.Trim.{Trim}
use Rattle.csvw_records.specs.Grammar.{trimmed}
use Rattle.csvw_records.specs.Files.{Row, Body, given, remaining, remaining_fields, is_empty}

enumerate_append : {X : Type 0} → (n : ℕ) (xs ys : List X) → enumerate_from n (xs ++ ys) ≡ enumerate_from n xs ++ enumerate_from (n + length xs) ys
enumerate_append n [] ys = ap (λ k. enumerate_from k ys) (let e : n ≡ n + 0 = omega arith in e)
enumerate_append n (x ∷ xs) ys = ap (λ l. (n, x) ∷ l) (enumerate_append (n + 1) xs ys
    ∙ ap (λ k. enumerate_from (n + 1) xs ++ enumerate_from k ys) (let e : n + 1 + length xs ≡ n + length (x ∷ xs) = omega arith in e))

cons_append : {X : Type 0} → (o : Option X) (xs ys : List X) → cons_option o (xs ++ ys) ≡ cons_option o xs ++ ys
cons_append None xs ys = refl
cons_append (Some x) xs ys = refl

filter_append : {X Y : Type 0} → (h : X → Option Y) (xs ys : List X) → filter_map h (xs ++ ys) ≡ filter_map h xs ++ filter_map h ys
filter_append h [] ys = refl
filter_append h (x ∷ xs) ys = ap (cons_option (h x)) (filter_append h xs ys) ∙ cons_append (h x) (filter_map h xs) (filter_map h ys)

map_append : {X Y : Type 0} → (f : X → Y) (xs ys : List X) → map f (xs ++ ys) ≡ map f xs ++ map f ys
map_append f [] ys = refl
map_append f (x ∷ xs) ys = ap (λ l. f x ∷ l) (map_append f xs ys)

pub remaining_append : (d : Dialect) (n : ℕ) (xs ys : List Row) → remaining d n (xs ++ ys) ≡ remaining d n xs ++ remaining d (n + length xs) ys
remaining_append d n xs ys =
    ap (filter_map (λ (r : ℕ × Row). remaining_fields d r.0 r.1.fields)) (enumerate_append n xs ys)
    ∙ filter_append (λ (r : ℕ × Row). remaining_fields d r.0 r.1.fields) (enumerate_from n xs) (enumerate_from (n + length xs) ys)

-- Body of some rows begins Body of more
pub Body_append : (d : Dialect) (xs ys : List Row)
    → Body d (xs ++ ys) ≡ Body d xs ++ map (given d) (enumerate_from (0 + length (remaining d 1 xs)) (remaining d (1 + length xs) ys))
Body_append d xs ys =
    ap (λ l. map (given d) (enumerate_from 0 l)) (remaining_append d 1 xs ys)
    ∙ ap (map (given d)) (enumerate_append 0 (remaining d 1 xs) (remaining d (1 + length xs) ys))
    ∙ map_append (given d) (enumerate_from 0 (remaining d 1 xs)) (enumerate_from (0 + length (remaining d 1 xs)) (remaining d (1 + length xs) ys))

-- a row that gives nothing
pub none_given : (d : Dialect) (rows : List Row) (row : Row) → remaining_fields d (1 + length rows) row.fields ≡ None
    → (Body d (rows ++ row ∷ []) ≡ Body d rows) × (length (remaining d 1 (rows ++ row ∷ [])) ≡ length (remaining d 1 rows))
none_given d rows row e =
    let last : remaining d (1 + length rows) (row ∷ []) ≡ [] = ap (λ o. cons_option o []) e in
    let all = remaining_append d 1 rows (row ∷ []) ∙ ap (λ l. remaining d 1 rows ++ l) last ∙ append-nil (remaining d 1 rows) in
    (ap (λ l. map (given d) (enumerate_from 0 l)) all, ap length all)

-- a row that is given
pub one_given : (d : Dialect) (rows : List Row) (row : Row) (fields : List (List ℕ))
    → remaining_fields d (1 + length rows) row.fields ≡ Some (1 + length rows, fields)
    → (Body d (rows ++ row ∷ []) ≡ Body d rows ++ given d (length (remaining d 1 rows), (1 + length rows, fields)) ∷ [])
    × (length (remaining d 1 (rows ++ row ∷ [])) ≡ length (remaining d 1 rows) + 1)
one_given d rows row fields e =
    let last : remaining d (1 + length rows) (row ∷ []) ≡ (1 + length rows, fields) ∷ [] = ap (λ o. cons_option o []) e in
    let all = remaining_append d 1 rows (row ∷ []) ∙ ap (λ l. remaining d 1 rows ++ l) last in
    let place : 0 + length (remaining d 1 rows) ≡ length (remaining d 1 rows) = omega arith in (
      Body_append d rows (row ∷ []) ∙ ap (λ l. Body d rows ++ map (given d) (enumerate_from (0 + length (remaining d 1 rows)) l)) last
          ∙ ap (λ n. Body d rows ++ given d (n, (1 + length rows, fields)) ∷ []) place,
      ap length all ∙ length-append (remaining d 1 rows) ((1 + length rows, fields) ∷ []),
    )

-- the texts of fields
pub texts_of : (t : Trim) (n : ℕ) (values : List (List ℕ))
    → drop n (map (λ x. encode_utf8_all (trimmed t x)) values) ≡ map encode_utf8_all (drop n (map (trimmed t) values))
texts_of t zero [] = refl
texts_of t zero (v ∷ vs) = ap (λ l. encode_utf8_all (trimmed t v) ∷ l) (texts_of t zero vs)
texts_of t (suc n) [] = refl
texts_of t (suc n) (v ∷ vs) = texts_of t n vs

empty_text : (text : List ℕ) → (length (encode_utf8_all text) == 0) ≡ is_empty text
empty_text [] = refl
empty_text (c ∷ cs) = let h = (len_utf8_bounds c).0 in
    some (length (encode_utf8_all (c ∷ cs))) (omega (arith, h, length-append (encode_utf8 c) (encode_utf8_all cs), length-encode c))
  where
    some : (n : ℕ) → 0 < n → (n == 0) ≡ false
    some n h = grind (arith, nat_tests)

pub blank_texts : (t : Trim) (values : List (List ℕ))
    → list_all (λ x. length x == 0) (map (λ x. encode_utf8_all (trimmed t x)) values) ≡ list_all is_empty (map (trimmed t) values)
blank_texts t [] = refl
blank_texts t (v ∷ vs) = ap (λ b. b && list_all (λ x. length x == 0) (map (λ x. encode_utf8_all (trimmed t x)) vs)) (empty_text (trimmed t v))
    ∙ ap (λ b. is_empty (trimmed t v) && b) (blank_texts t vs)

-- what remains of a row with fields
pub blank_none : (d : Dialect) (n : ℕ) (fields : List (List ℕ)) → (d.skip_blank_rows && list_all is_empty fields) ≡ true
    → remaining_fields d n (Some fields) ≡ None
blank_none d n fields e = ap (λ (b : Bool). if b then None else Some (n, fields)) e

pub some_remain : (d : Dialect) (n : ℕ) (fields : List (List ℕ)) → (d.skip_blank_rows && list_all is_empty fields) ≡ false
    → remaining_fields d n (Some fields) ≡ Some (n, fields)
some_remain d n fields e = ap (λ (b : Bool). if b then None else Some (n, fields)) e
