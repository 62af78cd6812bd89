-- The numbers of rows after others.
use Rattle.std.proofs.Common.{◌≡◌, ◌∙◌, ℕ, ◌+◌, List, [], ◌∷◌, ◌++◌, map, length, ap, arith}
use Rattle.std.proofs.lemmas.List.{map-append}
use Rattle.std.proofs.lemmas.List.Elements.{filter_map-append}
use Rattle.std.specs.List.{enumerate_from, filter_map}
use Rattle.csvw_records.specs.declared.dialect.Dialect.{Dialect}
use Rattle.csvw_records.specs.Files.{Row, given, remaining, remaining_fields}
use Rattle.csvw_part_laws.specs.Parts.{NumbersGoOn}

numbered_join : {X : Type 0} (n : ℕ) (xs ys : List X) → enumerate_from n (xs ++ ys) ≡ enumerate_from n xs ++ enumerate_from (n + length xs) ys
numbered_join n [] ys = ap (λ (k : ℕ). enumerate_from k ys) (let e : n ≡ n + 0 = omega arith in e)
numbered_join n (x ∷ xs) ys =
    ap (λ l. (n, x) ∷ l)
    (numbered_join (n + 1) xs ys ∙ ap (λ (k : ℕ). enumerate_from (n + 1) xs ++ enumerate_from k ys)
    (let e : (n + 1) + length xs ≡ n + length (x ∷ xs) = omega arith in e))

remaining_join : (d : Dialect) (n : ℕ) (xs ys : List Row) → remaining d n (xs ++ ys) ≡ remaining d n xs ++ remaining d (n + length xs) ys
remaining_join d n xs ys =
    ap (filter_map (λ (r : ℕ × Row). remaining_fields d r.0 r.1.fields)) (numbered_join n xs ys)
    ∙ filter_map-append (λ (r : ℕ × Row). remaining_fields d r.0 r.1.fields) (enumerate_from n xs) (enumerate_from (n + length xs) ys)

pub numbers_go_on : NumbersGoOn
numbers_go_on d rows more =
    let behind = remaining d (length rows + 1) more in
    let same : 1 + length rows ≡ length rows + 1 = omega arith in
    ap (λ l. map (given d) (enumerate_from 0 l)) (remaining_join d 1 rows more ∙ ap (λ (n : ℕ). remaining d 1 rows ++ remaining d n more) same)
    ∙ ap (map (given d)) (numbered_join 0 (remaining d 1 rows) behind)
    ∙ map-append (given d) (enumerate_from 0 (remaining d 1 rows)) (enumerate_from (0 + length (remaining d 1 rows)) behind)
    ∙ ap (λ (n : ℕ). map (given d) (enumerate_from 0 (remaining d 1 rows)) ++ map (given d) (enumerate_from n behind))
    (let e : 0 + length (remaining d 1 rows) ≡ length (remaining d 1 rows) = omega arith in e)
