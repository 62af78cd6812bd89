-- Front and the place of a stop, by the row at which the rows of a text end.
use Rattle.std.proofs.Common.{◌≡◌, ◌≢◌, ℕ, suc, ◌+◌, ◌-◌, ◌<◌, ◌≤◌, true, List, [], ◌∷◌, ◌++◌, length, take, drop, refl, sym, ap, ◌∙◌, subst, arith}
use Rattle.std.proofs.Common.{append_assoc, append-nil, length-append, ◌⊎◌, inl, inr, zero-add}
use Rattle.std.proofs.lemmas.Grind.{common_steps}
use Rattle.std.proofs.lemmas.Bool.{cases_lt}
use Rattle.std.proofs.lemmas.List.{take-append-le, take-append-drop}
use Rattle.std.proofs.lemmas.List.Elements.{All-head, All-tail, All-nil, All-cons}
use Rattle.std.specs.List.{All}
use Rattle.csvw_records.specs.declared.dialect.Dialect.{Dialect}
use Rattle.csvw_records.specs.Grammar.{terminator_len}
use Rattle.csvw_records.specs.Lawful.{IsLawful}
use Rattle.csvw_records.specs.Lengths.{byte_len, row_limit}
use Rattle.csvw_records.specs.Files.{Row, IsRow, AreRows, AreAllRows, KeepsLimits, BeginsWithRows, IsLongest}
use Rattle.csvw_records.specs.NextRow.{terminator_of}
use Rattle.csvw_records.specs.PartOfRow.{Goes, Ends, NoRow, NoLast, FirstEnd}
use Rattle.csvw_records.specs.Stops.{AreRowsWithin, Begins, StopsAt}
use Rattle.csvw_records.proofs.RowLaws.{row_unique, rows_prefix}
use Rattle.csvw_records.proofs.Continue.{term_some, term_len}
use Rattle.csvw_records.specs.RowLaws.{Again}
use Rattle.csvw_records.proofs.Texts.{IsShort, within_of, within_less, within_are, within_behind}
use Rattle.csvw_records.proofs.Complete.{nothing_ends}

nil_none : (n : ℕ) (l : List ℕ) → n ≡ length l → drop n l ≡ []
nil_none n l e = ap (λ k. drop k l) e ∙ drop_all l
  where
    drop_all : (l : List ℕ) → drop (length l) l ≡ []
    drop_all l = grind (arith, common_steps)

-- rows and then the beginning of one more begin a file
pub goes_begins : (d : Dialect) (max : ℕ) (text : List ℕ) (rows : List Row) (rest part : List ℕ) → IsLawful d → (a : Again d 0 text rows rest)
    → KeepsLimits max rows
    → Goes d max (length rows) part → Begins d max (a.front ++ part)
goes_begins d max text rows rest part w a k (inl e) =
    let inner = within_of d 0 0 (a.front ++ []) rows [] [] (a.again []) k.1 refl in
    let count : length (a.front ++ []) - length (let e : List ℕ = [] in e) + 0 ≡ length (a.front ++ part) =
    omega (arith, ap length (append-nil a.front), ap length e, length-append a.front part) in
    let same : a.front ++ [] ≡ (a.front ++ part) ++ [] = ap (λ l. a.front ++ l) (sym e) ∙ sym (append-nil (a.front ++ part)) in
    record {
      more = [];
      rows = rows;
      are_rows = subst (λ (n : ℕ). AreRowsWithin d 0 n ((a.front ++ part) ++ []) rows) count
          (subst (λ (l : List ℕ). AreRowsWithin d 0 (length (a.front ++ []) - length (let e : List ℕ = [] in e) + 0) l rows) same
          (subst (λ (l : List Row). AreRowsWithin d 0 (length (a.front ++ []) - length (let e : List ℕ = [] in e) + 0) (a.front ++ []) l)
          (append-nil rows) inner));
      few = k.0;
    }
goes_begins d max text rows rest part w a k (inr (few, f)) =
    let whole = a.front ++ (part ++ f.more) in
    let last : AreRowsWithin d (0 + length rows) (length part) (part ++ f.more) (f.row ∷ []) = (
      terminator_of d,
      f.spelled,
      subst (λ (n : ℕ). IsRow d n f.row (terminator_of d)) (sym (zero-add (length rows))) f.is_row,
      term_some d w,
      f.short,
      nil_none (terminator_len d (terminator_of d)) (terminator_of d) (term_len d w),
    ) in
    let inner = within_of d 0 (length part) whole rows (f.row ∷ []) (part ++ f.more) (a.again (part ++ f.more)) k.1 last in
    let count : length whole - length (part ++ f.more) + length part ≡ length (a.front ++ part) =
    omega (arith, length-append a.front (part ++ f.more), length-append part f.more, length-append a.front part) in
    record {
      more = f.more;
      rows = rows ++ f.row ∷ [];
      are_rows = subst (λ (n : ℕ). AreRowsWithin d 0 n ((a.front ++ part) ++ f.more) (rows ++ f.row ∷ [])) count
          (subst (λ (l : List ℕ). AreRowsWithin d 0 (length whole - length (part ++ f.more) + length part) l (rows ++ f.row ∷ []))
          (sym (append_assoc a.front part f.more)) inner);
      few = (let h = k.0 in omega (arith, few, length-append rows (f.row ∷ [])));
    }

pub begins_front : (d : Dialect) (max : ℕ) (text : List ℕ) (k : ℕ) → Begins d max text → Begins d max (take k text)
begins_front d max text k b =
    let same : text ++ b.more ≡ take k text ++ (drop k text ++ b.more) = ap (λ l. l ++ b.more) (sym (take-append-drop k text))
    ∙ append_assoc (take k text) (drop k text) b.more in
    let less : length (take k text) ≤ length text = omega (arith, ap length (take-append-drop k text), length-append (take k text) (drop k text)) in
    record {
      more = drop k text ++ b.more;
      rows = b.rows;
      are_rows = subst (λ (l : List ℕ). AreRowsWithin d 0 (length (take k text)) l b.rows) same
          (within_less d 0 (length text) (length (take k text)) (text ++ b.more) b.rows b.are_rows less);
      few = b.few;
    }

no_back : (a b : List ℕ) → [] ≡ a ++ b → b ≡ []
no_back [] b e = sym e
no_back (c ∷ cs) b e = absurd cc

-- no row with its terminator stands in no text
pub no_more : (d : Dialect) (i : ℕ) (b : Row) (bs : List Row) (rest : List ℕ) → AreRows d i [] (b ∷ bs) rest → ⊥
no_more d i b bs rest (after, e, r, t, rows) = nothing_ends d (let P : List ℕ → Type 0 = λ x. 0 < terminator_len d x in subst P (no_back b.text after e) t)

-- where no row begins behind them, rows begin no file
pub ends_not : (d : Dialect) (max : ℕ) (text : List ℕ) (rows : List Row) (rest part : List ℕ) → IsLawful d → (a : Again d 0 text rows rest)
    → Ends d max (length rows) part → Begins d max (a.front ++ part) → ⊥
ends_not d max text rows rest part w a n b = elim (cases_lt (length b.rows) (length rows)) [
  | inl h ↦ fewer h (rows_prefix d 0 whole b.rows rows [] (part ++ b.more) w theirs mine (omega (arith, h)))
  | inr h ↦ more (rows_prefix d 0 whole rows b.rows (part ++ b.more) [] w mine theirs h)
]
  where
    whole : List ℕ
    whole = a.front ++ (part ++ b.more)

    mine : AreRows d 0 whole rows (part ++ b.more)
    mine = a.again (part ++ b.more)

    counted : AreRowsWithin d 0 (length (a.front ++ part)) whole b.rows
    counted = subst (λ (l : List ℕ). AreRowsWithin d 0 (length (a.front ++ part)) l b.rows) (append_assoc a.front part b.more) b.are_rows

    theirs : AreRows d 0 whole b.rows []
    theirs = within_are d 0 (length (a.front ++ part)) whole b.rows counted

    fewer : length b.rows < length rows → (ms : List Row) × (rows ≡ b.rows ++ ms) × AreRows d (0 + length b.rows) [] ms (part ++ b.more) → ⊥
    fewer h ([], e, r) = omega (arith, h, ap length e, ap length (append-nil b.rows))
    fewer h (m ∷ ms, e, r) = no_more d (0 + length b.rows) m ms (part ++ b.more) r

    no_part : (p q : List ℕ) → p ++ q ≡ [] → p ≡ []
    no_part [] q e = refl
    no_part (c ∷ cs) q e = absurd cc

    more : (ms : List Row) × (b.rows ≡ rows ++ ms) × AreRows d (0 + length rows) (part ++ b.more) ms [] → ⊥
    more ([], e, r) = n.some (no_part part b.more r)
    more (m ∷ ms, e, r) =
        let behind = within_behind d 0 (length (a.front ++ part)) whole rows (m ∷ ms) (part ++ b.more) mine
        (subst (λ (l : List Row). AreRowsWithin d 0 (length (a.front ++ part)) whole l) e counted) in
        let count : length (a.front ++ part) - (length whole - length (part ++ b.more)) ≡ length part =
        omega (arith, length-append a.front (part ++ b.more), length-append part b.more, length-append a.front part) in
        let few : length rows < max = (let k = b.few in omega (arith, k, ap length e, length-append rows (m ∷ ms))) in
        n.none few m b.more behind.0 behind.1 (subst (λ (k : ℕ). IsRow d k m behind.0) (zero-add (length rows)) behind.2) behind.3
        (subst (λ (k : ℕ). byte_len (take k m.text) ≤ row_limit) count behind.4)

take_past : (front rest : List ℕ) (n : ℕ) → take (length front + n) (front ++ rest) ≡ front ++ take n rest
take_past [] rest n = ap (λ k. take k rest) (zero-add n)
take_past (x ∷ xs) rest n = ap (λ k. take k (x ∷ xs ++ rest)) (let e : length (x ∷ xs) + n ≡ suc (length xs + n) = omega arith in e)
    ∙ ap (λ l. x ∷ l) (take_past xs rest n)

-- the stop stands where no row begins any more
pub stops_at : (d : Dialect) (max : ℕ) (text : List ℕ) (rows : List Row) (rest : List ℕ) (n : ℕ) → IsLawful d → (a : Again d 0 text rows rest)
    → KeepsLimits max rows
    → (f : FirstEnd d max (length rows) rest n) → n ≤ length rest → StopsAt d max text (length a.front + f.at)
stops_at d max text rows rest n w a k f h = record {
  within = (let m = f.within in omega (arith, m, h, ap length a.spelled, length-append a.front rest));
  none = λ b. ends_not d max text rows rest (take f.at rest) w a f.ends
      (subst (Begins d max) (ap (take (length a.front + f.at)) a.spelled ∙ take_past a.front rest f.at) b);
  shorter = λ j less. elim (cases_lt j (length a.front)) [
    | inl before ↦
        let whole = goes_begins d max text rows rest [] w a k (inl refl) in
        subst (Begins d max) (take-append-le j a.front [] (omega (arith, before))
        ∙ sym (ap (take j) a.spelled ∙ take-append-le j a.front rest (omega (arith, before))))
        (begins_front d max (a.front ++ []) j whole)
    | inr past ↦
        let e : j ≡ length a.front + (j - length a.front) = omega (arith, past) in
        let goes = f.before (j - length a.front) (omega (arith, past, less)) in
        subst (Begins d max) (sym (take_past a.front rest (j - length a.front)) ∙ ap (take (length a.front + (j - length a.front))) (sym a.spelled)
        ∙ ap (λ n. take n text) (sym e))
        (goes_begins d max text rows rest (take (j - length a.front) rest) w a k goes)
  ];
}

pub rows_before : (d : Dialect) (text : List ℕ) (rows : List Row) (rest : List ℕ) (n : ℕ) → (a : Again d 0 text rows rest)
    → AreRows d 0 (take (length a.front + n) text) rows (take n rest)
rows_before d text rows rest n a =
    subst (λ (l : List ℕ). AreRows d 0 l rows (take n rest)) (sym (ap (take (length a.front + n)) a.spelled ∙ take_past a.front rest n)) (a.again (take n rest))

-- of rows some come behind others
pub All-behind : (xs ys : List Row) → All IsShort (xs ++ ys) → All IsShort ys
All-behind [] ys h = h
All-behind (x ∷ xs) ys h = All-behind xs ys (All-tail IsShort x (xs ++ ys) h)

pub All-before : (xs ys : List Row) → All IsShort (xs ++ ys) → All IsShort xs
All-before [] ys h = All-nil IsShort
All-before (x ∷ xs) ys h = All-cons IsShort x xs (All-head IsShort x (xs ++ ys) h) (All-before xs ys (All-tail IsShort x (xs ++ ys) h))

-- the rows in front are the most that there are
pub are_longest : (d : Dialect) (max : ℕ) (text : List ℕ) (rows : List Row) (rest : List ℕ) → IsLawful d → AreRows d 0 text rows rest → KeepsLimits max rows
    → NoRow d max (length rows) rest → IsLongest (BeginsWithRows d max text) rows
are_longest d max text rows rest w are k none =
    (record { rest = rest; are_rows = are; limits = k }, λ others b. by_length others b (cases_lt (length rows) (length others)))
  where
    one : (others : List Row) → BeginsWithRows d max text others → length rows < length others
        → (more : List Row) × (others ≡ rows ++ more) × ((later : List ℕ) × AreRows d (0 + length rows) rest more later) → ⊥
    one others b h ([], e, r) = omega (arith, h, ap length e, ap length (append-nil rows))
    one others b h (m ∷ ms, e, (later, (after, e', r, t, are'))) =
        let few : length rows < max = (let c = b.limits.0 in omega (arith, c, h)) in
        let short = All-head IsShort m ms (All-behind rows (m ∷ ms) (subst (All IsShort) e b.limits.1)) in
        none few m after e' (subst (λ (n : ℕ). IsRow d n m after) (zero-add (length rows)) r) t short

    by_length : (others : List Row) → BeginsWithRows d max text others → (length rows < length others) ⊎ (length others ≤ length rows)
        → length others ≤ length rows
    by_length others b (inl h) =
        let m = rows_prefix d 0 text rows others rest b.rest w are b.are_rows (omega (arith, h)) in
        absurd (one others b h (m.0, m.1, (b.rest, m.2)))
    by_length others b (inr h) = h

-- a last row has no row in it
pub no_row_in_last : (d : Dialect) (i : ℕ) (last b : Row) (bs : List Row) (rest : List ℕ) → IsLawful d → IsRow d i last []
    → AreRows d i last.text (b ∷ bs) rest → ⊥
no_row_in_last d i last b bs rest w l (after, e, r, t, rows) =
    let same = row_unique true d i last b [] after w (append-nil last.text ∙ e) l (inr (refl, refl)) r (inl t) in
    nothing_ends d (let P : List ℕ → Type 0 = λ x. 0 < terminator_len d x in subst P (sym same.rest) t)

-- a text isn't all rows where neither a row nor the last one comes behind those in front
pub not_all : (d : Dialect) (max : ℕ) (text : List ℕ) (rows : List Row) (rest : List ℕ) → IsLawful d → AreRows d 0 text rows rest → KeepsLimits max rows
    → NoRow d max (length rows) rest → NoLast d max (length rows) rest → rest ≢ [] → (others : List Row) → AreAllRows d text others → KeepsLimits max others → ⊥
not_all d max text rows rest w are k none last some others (inl all) limits =
    let less = (are_longest d max text rows rest w are k none).1 others (record { rest = []; are_rows = all; limits = limits }) in
    behind (rows_prefix d 0 text others rows [] rest w all are less)
  where
    behind : (more : List Row) × (rows ≡ others ++ more) × AreRows d (0 + length others) [] more rest → ⊥
    behind ([], e, r) = some (sym r)
    behind (m ∷ ms, e, r) = no_more d (0 + length others) m ms rest r
not_all d max text rows rest w are k none last some others (inr o) limits =
    let few : length o.front ≤ max = (let c = limits.0 in omega (arith, c, ap length o.all, length-append o.front (o.last ∷ []))) in
    let front : KeepsLimits max o.front = (few, All-before o.front (o.last ∷ []) (subst (All IsShort) o.all limits.1)) in
    let less = (are_longest d max text rows rest w are k none).1 o.front (record { rest = o.last.text; are_rows = o.before; limits = front }) in
    behind (rows_prefix d 0 text o.front rows o.last.text rest w o.before are less)
  where
    behind : (more : List Row) × (rows ≡ o.front ++ more) × AreRows d (0 + length o.front) o.last.text more rest → ⊥
    behind ([], e, r) =
        let same : length rows ≡ length o.front = ap length (e ∙ append-nil o.front) in
        let few : length rows < max = (let c = limits.0 in omega (arith, c, same, ap length o.all, length-append o.front (o.last ∷ []))) in
        last few o.last (sym r) (subst (λ (n : ℕ). IsRow d n o.last []) (sym same) o.is_row)
        (All-head IsShort o.last [] (All-behind o.front (o.last ∷ []) (subst (All IsShort) o.all limits.1)))
    behind (m ∷ ms, e, r) = no_row_in_last d (0 + length o.front) o.last m ms rest w
        (subst (λ (n : ℕ). IsRow d n o.last []) (sym (zero-add (length o.front))) o.is_row) r
