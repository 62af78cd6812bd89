-- One list of rows, and fronts that grow.
use Rattle.std.proofs.Common.{◌≡◌, ℕ, zero, suc, ◌+◌, ◌<◌, ◌≤◌, Bool, true, false, List, [], ◌∷◌, ◌++◌, length, take, refl, sym, ap, ◌∙◌, subst}
use Rattle.std.proofs.Common.{arith, append_assoc, append-nil, length-append, ◌⊎◌, inl, inr}
use Rattle.std.proofs.lemmas.Bool.{cases_lt}
use Rattle.csvw_records.specs.declared.dialect.Dialect.{Dialect}
use Rattle.csvw_records.specs.Lawful.{IsLawful}
use Rattle.csvw_records.specs.Files.{Row, IsRow, AreRows, AreAllRows, EndsOpen, KeepsLimits, Front, content}
use Rattle.csvw_records.specs.Stops.{Begins}
use Rattle.csvw_records.specs.ListLaws.{HaveOneList, FrontsGrow, StopsPart, FirstBegin, FirstStay}
use Rattle.csvw_records.proofs.RowLaws.{row_unique, rows_prefix}
use Rattle.csvw_records.proofs.Lookahead.{rows_again}
use Rattle.csvw_records.proofs.Stands.{no_more, no_row_in_last, begins_front}
use Rattle.csvw_records.proofs.Utf8.{content_more}
use Rattle.csvw_records.specs.FrontLaws.{Begun}

-- the longer of two lists has one more
one_more : (d : Dialect) (text : List ℕ) (xs ys : List Row) (rest later : List ℕ) → IsLawful d → AreRows d 0 text xs rest → AreRows d 0 text ys later
    → length xs < length ys
    → (b : Row) × (bs : List Row) × AreRows d (length xs) rest (b ∷ bs) later
one_more d text xs ys rest later w r s h = split (rows_prefix d 0 text xs ys rest later w r s (omega arith))
  where
    split : (more : List Row) × (ys ≡ xs ++ more) × AreRows d (0 + length xs) rest more later
        → (b : Row) × (bs : List Row) × AreRows d (length xs) rest (b ∷ bs) later
    split ([], e, rows) = absurd (let n : length ys ≡ length (xs ++ []) = ap length e in omega (arith, length-append xs (let k : List Row = [] in k)))
    split (b ∷ bs, e, rows) = (b, bs, subst (λ (n : ℕ). AreRows d n rest (b ∷ bs) later) (let z : 0 + length xs ≡ length xs = omega arith in z) rows)

pub by_file : (d : Dialect) (text : List ℕ) (rows front : List Row) (rest : List ℕ) → IsLawful d → AreRows d 0 text rows rest ⊎ EndsOpen d text rows
    → AreAllRows d text front → Begun rows front
by_file d text rows front rest w (inl are) (inl all) =
    elim (cases_lt (length front) (length rows)) [
      | inl h ↦ let m = one_more d text front rows [] rest w all are h in absurd (no_more d (length front) m.0 m.1 rest m.2)
      | inr h ↦ let m = rows_prefix d 0 text rows front rest [] w are all h in (m.0, m.1)
    ]
by_file d text rows front rest w (inl are) (inr o) =
    elim (cases_lt (length o.front) (length rows)) [
      | inl h ↦ let m = one_more d text o.front rows o.last.text rest w o.before are h in
          absurd (no_row_in_last d (length o.front) o.last m.0 m.1 rest w o.is_row m.2)
      | inr h ↦ let m = rows_prefix d 0 text rows o.front rest o.last.text w are o.before h in
          (m.0 ++ o.last ∷ [], o.all ∙ ap (λ l. l ++ o.last ∷ []) m.1 ∙ append_assoc rows m.0 (o.last ∷ []))
    ]
by_file d text rows front rest w (inr o) (inl all) =
    elim (cases_lt (length o.front) (length front)) [
      | inl h ↦ let m = one_more d text o.front front o.last.text [] w o.before all h in
          absurd (no_row_in_last d (length o.front) o.last m.0 m.1 [] w o.is_row m.2)
      | inr h ↦ absurd (ended (rows_prefix d 0 text front o.front [] o.last.text w all o.before h))
    ]
  where
    ended : (more : List Row) × (o.front ≡ front ++ more) × AreRows d (0 + length front) [] more o.last.text → ⊥
    ended ([], e, r) = o.not_empty (sym r)
    ended (b ∷ bs, e, r) = no_more d (0 + length front) b bs o.last.text r
by_file d text rows front rest w (inr o) (inr k) =
    elim (cases_lt (length o.front) (length k.front)) [
      | inl h ↦ let m = one_more d text o.front k.front o.last.text k.last.text w o.before k.before h in
          absurd (no_row_in_last d (length o.front) o.last m.0 m.1 k.last.text w o.is_row m.2)
      | inr h ↦ elim (cases_lt (length k.front) (length o.front)) [
        | inl g ↦ let m = one_more d text k.front o.front k.last.text o.last.text w k.before o.before g in
            absurd (no_row_in_last d (length k.front) k.last m.0 m.1 o.last.text w k.is_row m.2)
        | inr g ↦ same (rows_prefix d 0 text k.front o.front k.last.text o.last.text w k.before o.before h) g
      ]
    ]
  where
    same : (more : List Row) × (o.front ≡ k.front ++ more) × AreRows d (0 + length k.front) k.last.text more o.last.text
        → length o.front ≤ length k.front → Begun rows front
    same ([], e, r) g =
        let fronts : o.front ≡ k.front = e ∙ append-nil k.front in
        let lasts = row_unique true d (length k.front) k.last o.last [] [] w (ap (λ l. l ++ []) r) k.is_row (inr (refl, refl))
        (subst (λ (f : List Row). IsRow d (length f) o.last []) fronts o.is_row) (inr (refl, refl)) in
        ([], k.all ∙ ap (λ f. f ++ k.last ∷ []) (sym fronts) ∙ ap (λ x. o.front ++ x ∷ []) lasts.row ∙ sym o.all ∙ sym (append-nil rows))
    same (b ∷ bs, e, r) g = absurd (let n : length o.front ≡ length (k.front ++ b ∷ bs) = ap length e in omega (arith, length-append k.front (b ∷ bs)))

no_rest : (xs ys more less : List Row) → xs ≡ ys ++ more → ys ≡ xs ++ less → xs ≡ ys
no_rest xs ys [] less e f = e ∙ append-nil ys
no_rest xs ys (b ∷ bs) less e f = absurd (let n : length xs ≡ length (ys ++ b ∷ bs) = ap length e in
    let m : length ys ≡ length (xs ++ less) = ap length f in omega (arith, length-append ys (b ∷ bs), length-append xs less))

-- a text has one list of rows
all_same : (d : Dialect) (text : List ℕ) (rows others : List Row) → IsLawful d → AreAllRows d text rows → AreAllRows d text others → rows ≡ others
all_same d text rows others w a b =
    let m = by_file d text rows others [] w a b in
    let k = by_file d text others rows [] w b a in
    no_rest rows others k.0 m.0 k.1 m.1

pub one_list : HaveOneList
one_list d max bytes rows others w a b = all_same d (content bytes) rows others w a.are_rows b.are_rows

-- rows that were read begin the front
pub begins_front_of : (d : Dialect) (max : ℕ) (bytes : List ℕ) (ended : Bool) (rows front : List Row) (rest : List ℕ) → IsLawful d → KeepsLimits max rows
    → AreRows d 0 (content bytes) rows rest → Front d max bytes ended front → Begun rows front
begins_front_of d max bytes ended rows front rest w k are (inl (e, f)) = by_file d (content bytes) rows front rest w (inl are) f.are_rows
begins_front_of d max bytes ended rows front rest w k are (inr (n, longest)) =
    let m = rows_prefix d 0 (content bytes) rows front rest longest.0.rest w are longest.0.are_rows
    (longest.1 rows (record { rest = rest; are_rows = are; limits = k })) in (m.0, m.1)

-- they begin all that the bytes go on to
pub rows_later : (d : Dialect) (bytes more : List ℕ) (rows : List Row) (rest : List ℕ) → AreRows d 0 (content bytes) rows rest
    → (after : List ℕ) × AreRows d 0 (content (bytes ++ more)) rows after
rows_later d bytes more rows rest are =
    let a = rows_again d 0 (content bytes) rows rest are in
    let c = content_more bytes more in
    let joined : content (bytes ++ more) ≡ a.front ++ (rest ++ c.0) = c.1 ∙ ap (λ l. l ++ c.0) a.spelled ∙ append_assoc a.front rest c.0 in
    (rest ++ c.0, subst (λ (l : List ℕ). AreRows d 0 l rows (rest ++ c.0)) (sym joined) (a.again (rest ++ c.0)))

-- and the front of it
pub begins_later_front : (d : Dialect) (max : ℕ) (bytes more : List ℕ) (ended : Bool) (rows later : List Row) (rest : List ℕ) → IsLawful d
    → KeepsLimits max rows → AreRows d 0 (content bytes) rows rest
    → Front d max (bytes ++ more) ended later → Begun rows later
begins_later_front d max bytes more ended rows later rest w k are g =
    let a = rows_later d bytes more rows rest are in
    begins_front_of d max (bytes ++ more) ended rows later a.0 w k a.1 g

pub fronts_grow : FrontsGrow
fronts_grow d max bytes more ended front later w f g = by_front f
  where
    by_front : Front d max bytes false front → (rest : List Row) × (later ≡ front ++ rest)
    by_front (inl (e, x)) = absurd cc
    by_front (inr (n, longest)) = begins_later_front d max bytes more ended front later longest.0.rest w longest.0.limits longest.0.are_rows g

take_take : (m n : ℕ) (l : List ℕ) → m ≤ n → take m (take n l) ≡ take m l
take_take zero n l h = refl
take_take (suc m) zero l h = absurd (omega arith)
take_take (suc m) (suc n) [] h = refl
take_take (suc m) (suc n) (x ∷ xs) h = ap (λ l. x ∷ l) (take_take m n xs (omega arith))

pub stops_part : StopsPart
stops_part d max text n s = (s.shorter, λ k h b. s.none (subst (Begins d max) (take_take n k text h) (begins_front d max (take k text) n b)))

pub first_begin : FirstBegin
first_begin d max bytes ended rows front w (inl b) f = begins_front_of d max bytes ended rows front b.rest w b.limits b.are_rows f
first_begin d max bytes ended rows front w (inr (e, k)) (inl (t, f)) = by_file d (content bytes) rows front [] w k.are_rows f.are_rows
first_begin d max bytes ended rows front w (inr (e, k)) (inr (n, longest)) = absurd (n e rows k)

pub first_stay : FirstStay
first_stay d max bytes more ended rows (inl b) = let a = rows_later d bytes more rows b.rest b.are_rows in
    inl (record { rest = a.0; are_rows = a.1; limits = b.limits })
first_stay d max bytes more ended rows (inr (e, k)) = absurd cc
