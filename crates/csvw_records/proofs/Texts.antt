-- The place where a text can no longer begin a file, by the row at which its rows end.
use Rattle.std.proofs.Common.{◌≡◌, ◌≢◌, ℕ, zero, suc, ◌+◌, ◌-◌, ◌<◌, ◌≤◌, false, List, [], ◌∷◌, ◌++◌, length, take, drop, refl, sym, ap, ◌∙◌, subst}
use Rattle.std.proofs.Common.{arith, append_assoc, length-append, length-drop, ◌⊎◌, inl, inr, encode_utf8_all}
use Rattle.std.proofs.lemmas.Grind.{common_steps}
use Rattle.std.proofs.lemmas.Bool.{cases_lt}
use Rattle.std.proofs.lemmas.Str.{encodes-append}
use Rattle.std.proofs.lemmas.List.{take-append-le, take-append-drop, append_cancel_left}
use Rattle.std.proofs.lemmas.List.Elements.{All-head, All-tail}
use Rattle.std.specs.List.{All}
use Rattle.csvw_records.specs.declared.dialect.Dialect.{Dialect}
use Rattle.csvw_records.specs.declared.stop.RowStop.{RowStop}
use Rattle.csvw_records.specs.Grammar.{terminator_len}
use Rattle.csvw_records.specs.Lawful.{IsLawful}
use Rattle.csvw_records.specs.Lengths.{byte_len, row_limit}
use Rattle.csvw_records.specs.Files.{Row, IsRow, AreRows}
use Rattle.csvw_records.specs.Scan.{finish}
use Rattle.csvw_records.specs.NextRow.{unsettled, terminator_of, found_row}
use Rattle.csvw_records.specs.PartOfRow.{Continues, Breaks, HasRow, Goes, Ends, NoRow, FirstEnd}
use Rattle.csvw_records.specs.Stops.{AreRowsWithin}
use Rattle.csvw_records.specs.PassLaws.{goes_on}
use Rattle.csvw_records.proofs.IgnoredRows.{never_ignored}
use Rattle.csvw_records.proofs.RowLaws.{row_unique}
use Rattle.csvw_records.proofs.Continue.{term_some, other_found, fields_next}
use Rattle.csvw_records.proofs.Sees.{sees, run_on}
use Rattle.csvw_records.proofs.Lookahead.{term_within, row_stays, term_stays, rows_again}

-- lengths in bytes
byte_len_append : (a b : List ℕ) → byte_len (a ++ b) ≡ byte_len a + byte_len b
byte_len_append a b = ap length (encodes-append a b) ∙ length-append (encode_utf8_all a) (encode_utf8_all b)

pub byte_len_take : (n : ℕ) (l : List ℕ) → byte_len (take n l) ≤ byte_len l
byte_len_take n l = omega (arith, byte_len_append (take n l) (drop n l), ap byte_len (take-append-drop n l))

take_take : (m n : ℕ) (l : List ℕ) → m ≤ n → take m (take n l) ≡ take m l
take_take zero n l h = refl
take_take (suc m) zero l h = absurd (omega arith)
take_take (suc m) (suc n) [] h = refl
take_take (suc m) (suc n) (x ∷ xs) h = ap (λ l. x ∷ l) (take_take m n xs (omega arith))

pub byte_len_less : (m n : ℕ) (l : List ℕ) → m ≤ n → byte_len (take m l) ≤ byte_len (take n l)
byte_len_less m n l h = let k = byte_len_take m (take n l) in omega (arith, ap byte_len (take_take m n l h))

take_all : (n : ℕ) (l : List ℕ) → length l ≤ n → take n l ≡ l
take_all n l h = grind (arith, common_steps)

pub same_front : (a x b y : List ℕ) (n : ℕ) → a ++ x ≡ b ++ y → n ≤ length a → n ≤ length b → take n a ≡ take n b
same_front a x b y n e h k = sym (take-append-le n a x h) ∙ ap (take n) e ∙ take-append-le n b y k

-- a rule that is broken leaves no row
pub breaks_none : (d : Dialect) (i : ℕ) (part : List ℕ) (stop : RowStop) → IsLawful d → Breaks d i part stop
    → (row : Row) (more after : List ℕ) → part ++ more ≡ row.text ++ after → IsRow d i row after → 0 < terminator_len d after → ⊥
breaks_none d i part stop w b row more after e r h =
    let passed = run_on d part more ∙ ap (λ o. goes_on d o (unsettled d part ++ more)) b.broken in
    let found = sym (fields_next false d i (part ++ more) (never_ignored d i part more b.not_ignored b.may_not)
    ∙ ap (λ o. found_row d (finish o false)) passed) ∙ other_found d i part more after row w e r h in
    absurd cc

cases_le : (a b : ℕ) → (a ≤ b) ⊎ (b < a)
cases_le a b = elim (cases_lt b a) [ inl h ↦ inr h | inr h ↦ inl h ]

-- a part goes on to a row, or begins none that isn't too long
decide_seen : (d : Dialect) (max i : ℕ) (part rest : List ℕ) → IsLawful d → part ≢ [] → i < max → NoRow d max i (part ++ rest)
    → HasRow d i part ⊎ (((len : ℕ) × Continues d i part len) ⊎ ((stop : RowStop) × Breaks d i part stop)) → Goes d max i part ⊎ Ends d max i part
decide_seen d max i part rest w some few free (inl r) = inr (record {
  some = some;
  none = λ h row more after e is ends short.
      let same = row_unique false d i r.row row (r.after ++ more) after w (sym (append_assoc r.row.text r.after more) ∙ ap (λ l. l ++ more) (sym r.spelled) ∙ e)
      (row_stays d i r.row r.after more r.is_row r.ends) (inl (let k = r.ends in omega (arith, term_stays d r.after more r.ends))) is (inl ends) in
      let fits : length row.text ≤ length part =
      omega (arith, ap length r.spelled, length-append r.row.text r.after, ap (λ (x : Row). length x.text) same.row) in
      let whole : byte_len row.text ≤ row_limit = omega (arith, short, ap byte_len (take_all (length part) row.text fits)) in
      free few r.row (r.after ++ rest) (ap (λ l. l ++ rest) r.spelled ∙ append_assoc r.row.text r.after rest) (row_stays d i r.row r.after rest r.is_row r.ends)
      (let k = r.ends in omega (arith, term_stays d r.after rest r.ends)) (omega (arith, whole, ap (λ (x : Row). byte_len x.text) same.row));
})
decide_seen d max i part rest w some few free (inr (inl (len, c))) = elim (cases_le (byte_len (take len part)) row_limit) [
  | inl h ↦ inl (inr (few, record { row = c.row; more = c.more; spelled = c.spelled; is_row = c.is_row; short = omega (arith, h, ap byte_len c.fits) }))
  | inr h ↦ inr (record {
    some = some;
    none = λ _ row more after e is ends short.
        let sure = c.sure row more after e is ends in
        let within = c.within in
        let k = byte_len_less len (length part) row.text within in
        omega (arith, h, k, short, ap byte_len (same_front part more row.text after len e within sure));
  })
]
decide_seen d max i part rest w some few free (inr (inr (stop, b))) =
    inr (record { some = some; none = λ _ row more after e is ends short. breaks_none d i part stop w b row more after e is ends })

pub decide_part : (d : Dialect) (max i : ℕ) (part rest : List ℕ) → IsLawful d → NoRow d max i (part ++ rest) → Goes d max i part ⊎ Ends d max i part
decide_part d max i [] rest w free = inl (inl refl)
decide_part d max i (c ∷ cs) rest w free = elim (cases_lt i max) [
  | inl few ↦ decide_seen d max i (c ∷ cs) rest w (λ e. cc) few free (sees d i (c ∷ cs) w)
  | inr many ↦ inr (record { some = λ e. cc; none = λ few row more after e is ends short. omega (arith, few, many) })
]

pub decide : (d : Dialect) (max i : ℕ) (text : List ℕ) → IsLawful d → NoRow d max i text → (k : ℕ) → Goes d max i (take k text) ⊎ Ends d max i (take k text)
decide d max i text w free k = decide_part d max i (take k text) (drop k text) w (subst (NoRow d max i) (sym (take-append-drop k text)) free)

pub not_both : (d : Dialect) (max i : ℕ) (part : List ℕ) → IsLawful d → Goes d max i part → Ends d max i part → ⊥
not_both d max i part w (inl e) n = n.some e
not_both d max i part w (inr (few, f)) n = n.none few f.row f.more (terminator_of d) f.spelled f.is_row (term_some d w) f.short

-- the first of some numbers at which a test turns
pub search : (P Q : ℕ → Type 0) → ((k : ℕ) → P k ⊎ Q k) → (n : ℕ) → ((k : ℕ) → k < n → P k) ⊎ ((m : ℕ) × (m < n) × Q m × ((k : ℕ) → k < m → P k))
search P Q test zero = inl (λ k h. absurd (omega (arith, h)))
search P Q test (suc n) = step (search P Q test n) (test n)
  where
    last : (k : ℕ) → k < suc n → ((j : ℕ) → j < n → P j) → P n → P k
    last k h f p = elim (cases_lt k n) [ inl b ↦ f k b | inr b ↦ subst P (let e : n ≡ k = omega arith in e) p ]

    step : ((k : ℕ) → k < n → P k) ⊎ ((m : ℕ) × (m < n) × Q m × ((k : ℕ) → k < m → P k)) → P n ⊎ Q n
        → ((k : ℕ) → k < suc n → P k) ⊎ ((m : ℕ) × (m < suc n) × Q m × ((k : ℕ) → k < m → P k))
    step (inl f) (inl p) = inl (λ k h. last k h f p)
    step (inl f) (inr q) = inr (n, (let h : n < suc n = omega arith in h), q, f)
    step (inr (m, h, q, f)) t = inr (m, (let k : m < suc n = omega arith in k), q, f)

pub first_end : (d : Dialect) (max i : ℕ) (text : List ℕ) (n : ℕ) → IsLawful d → NoRow d max i text → Ends d max i (take n text) → FirstEnd d max i text n
first_end d max i text n w free e = found (search (λ k. Goes d max i (take k text)) (λ k. Ends d max i (take k text)) (decide d max i text w free) (suc n))
  where
    found : ((k : ℕ) → k < suc n → Goes d max i (take k text)) ⊎
        ((m : ℕ) × (m < suc n) × Ends d max i (take m text) × ((k : ℕ) → k < m → Goes d max i (take k text))) → FirstEnd d max i text n
    found (inl f) = absurd (not_both d max i (take n text) w (f n (omega arith)) e)
    found (inr (m, h, q, f)) = record { at = m; within = omega (arith, h); ends = q; before = f }

-- rows in a text, and those that count
abbrev pub IsShort : Row → Type 0
IsShort row = byte_len row.text ≤ row_limit

pub rows_len : (d : Dialect) (i : ℕ) (text : List ℕ) (rows : List Row) (rest : List ℕ) → AreRows d i text rows rest → length rest ≤ length text
rows_len d i text rows rest a = let g = rows_again d i text rows rest a in omega (arith, ap length g.spelled, length-append g.front rest)

pub within_of : (d : Dialect) (i m : ℕ) (text : List ℕ) (rows more : List Row) (rest : List ℕ) → AreRows d i text rows rest → All IsShort rows
    → AreRowsWithin d (i + length rows) m rest more → AreRowsWithin d i (length text - length rest + m) text (rows ++ more)
within_of d i m text [] more rest a s ms =
    let place : i + length (let e : List Row = [] in e) ≡ i = omega arith in
    let count : m ≡ length text - length rest + m = omega (arith, ap length a) in
    subst (λ (n : ℕ). AreRowsWithin d i n text more) count
    (subst (λ (l : List ℕ). AreRowsWithin d i m l more) (sym a) (subst (λ (n : ℕ). AreRowsWithin d n m rest more) place ms))
within_of d i m text (row ∷ rows) more rest (after, e, r, h, are) s ms =
    let behind = drop (terminator_len d after) after in
    let place : i + length (row ∷ rows) ≡ i + 1 + length rows = omega arith in
    let n = length text - length rest + m in
    let short = All-head IsShort row rows s in
    let fits : byte_len (take n row.text) ≤ row_limit = (let k = byte_len_take n row.text in omega (arith, k, short)) in
    let inner = within_of d (i + 1) m behind rows more rest are (All-tail IsShort row rows s) (subst (λ (n : ℕ). AreRowsWithin d n m rest more) place ms) in
    let reach = rows_len d (i + 1) behind rows rest are in
    let tl = term_within d after h in
    let count : length behind - length rest + m ≡ n - (length row.text + terminator_len d after) =
    omega (arith, reach, tl, length-drop (terminator_len d after) after, ap length e, length-append row.text after) in
    (after, e, r, h, fits, subst (λ (n : ℕ). AreRowsWithin d (i + 1) n behind (rows ++ more)) count inner)

pub within_less : (d : Dialect) (i n m : ℕ) (text : List ℕ) (rows : List Row) → AreRowsWithin d i n text rows → m ≤ n → AreRowsWithin d i m text rows
within_less d i n m text [] a h = a
within_less d i n m text (row ∷ rows) (after, e, r, t, s, a) h =
    let k = byte_len_less m n row.text h in (
      after,
      e,
      r,
      t,
      (let x : byte_len (take m row.text) ≤ row_limit = omega (arith, k, s) in x),
      within_less d (i + 1) (n - (length row.text + terminator_len d after)) (m - (length row.text + terminator_len d after))
          (drop (terminator_len d after) after) rows a (omega arith),
    )

pub within_are : (d : Dialect) (i n : ℕ) (text : List ℕ) (rows : List Row) → AreRowsWithin d i n text rows → AreRows d i text rows []
within_are d i n text [] a = a
within_are d i n text (row ∷ rows) (after, e, r, t, s, a) =
    (after, e, r, t, within_are d (i + 1) (n - (length row.text + terminator_len d after)) (drop (terminator_len d after) after) rows a)

-- the rows behind others
pub within_behind : (d : Dialect) (i n : ℕ) (text : List ℕ) (rows more : List Row) (rest : List ℕ) → AreRows d i text rows rest
    → AreRowsWithin d i n text (rows ++ more)
    → AreRowsWithin d (i + length rows) (n - (length text - length rest)) rest more
within_behind d i n text [] more rest e a =
    let place : i ≡ i + length (let e : List Row = [] in e) = omega arith in
    let count : n ≡ n - (length text - length rest) = omega (arith, ap length e) in
    subst (λ (k : ℕ). AreRowsWithin d k (n - (length text - length rest)) rest more) place
    (subst (λ (k : ℕ). AreRowsWithin d i k rest more) count (subst (λ (l : List ℕ). AreRowsWithin d i n l more) e a))
within_behind d i n text (row ∷ rows) more rest (after, e, r, h, are) (after', e', r', h', s, a) =
    let same : after' ≡ after = append_cancel_left row.text after' after (sym e' ∙ e) in
    let behind = drop (terminator_len d after) after in
    let k = n - (length row.text + terminator_len d after) in
    let inner : AreRowsWithin d (i + 1) k behind (rows ++ more) =
    subst (λ (l : List ℕ). AreRowsWithin d (i + 1) (n - (length row.text + terminator_len d l)) (drop (terminator_len d l) l) (rows ++ more)) same a in
    let deeper = within_behind d (i + 1) k behind rows more rest are inner in
    let place : i + 1 + length rows ≡ i + length (row ∷ rows) = omega arith in
    let reach = rows_len d (i + 1) behind rows rest are in
    let tl = term_within d after h in
    let count : k - (length behind - length rest) ≡ n - (length text - length rest) =
    omega (arith, reach, tl, length-drop (terminator_len d after) after, ap length e, length-append row.text after) in
    subst (λ (x : ℕ). AreRowsWithin d x (n - (length text - length rest)) rest more) place
    (subst (λ (x : ℕ). AreRowsWithin d (i + 1 + length rows) x rest more) count deeper)
