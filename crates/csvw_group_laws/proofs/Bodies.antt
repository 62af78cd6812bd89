-- The header rows and data rows of a file begin with those of its first rows.
use Rattle.std.proofs.Common.{◌≡◌, ℕ, ◌+◌, List, [], ◌∷◌, ◌++◌, ap, ◌∙◌, arith, length, map}
use Rattle.std.specs.Prelude.{filter_map}
use Rattle.std.specs.List.{enumerate_from}
use Rattle.std.proofs.lemmas.List.{map-append}
use Rattle.std.proofs.lemmas.List.Elements.{filter_map-append}
use Rattle.csvw_records.specs.declared.dialect.Dialect.{Dialect}
use Rattle.csvw_records.specs.Files.{Row as FileRow, Body, given, remaining, remaining_fields}
use Rattle.csvw_records.specs.RowValue.{Given}

numbered : {X : Type 0} (n : ℕ) (xs ys : List X) → enumerate_from n (xs ++ ys) ≡ enumerate_from n xs ++ enumerate_from (n + length xs) ys
numbered n [] ys = ap (λ k. enumerate_from k ys) (let e : n ≡ n + 0 = omega arith in e)
numbered n (x ∷ xs) ys =
    let e : n + 1 + length xs ≡ n + length (x ∷ xs) = omega arith in
    ap (λ l. (n, x) ∷ l) (numbered (n + 1) xs ys ∙ ap (λ k. enumerate_from (n + 1) xs ++ enumerate_from k ys) e)

remain : (d : Dialect) (rows more : List FileRow) → remaining d 1 (rows ++ more) ≡ remaining d 1 rows ++ remaining d (1 + length rows) more
remain d rows more =
    ap (filter_map (λ (r : ℕ × FileRow). remaining_fields d r.0 r.1.fields)) (numbered 1 rows more)
    ∙ filter_map-append (λ (r : ℕ × FileRow). remaining_fields d r.0 r.1.fields) (enumerate_from 1 rows) (enumerate_from (1 + length rows) more)

pub body_begins : (d : Dialect) (rows more : List FileRow) → (behind : List Given) × (Body d (rows ++ more) ≡ Body d rows ++ behind)
body_begins d rows more =
    let first = remaining d 1 rows in
    let rest = remaining d (1 + length rows) more in (
      map (given d) (enumerate_from (0 + length first) rest),
      ap (λ l. map (given d) (enumerate_from 0 l)) (remain d rows more) ∙ ap (map (given d)) (numbered 0 first rest)
          ∙ map-append (given d) (enumerate_from 0 first) (enumerate_from (0 + length first) rest),
    )
