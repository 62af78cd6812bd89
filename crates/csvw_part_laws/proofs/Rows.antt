-- The rows of a text that is cut where a row ends.
use Rattle.std.proofs.Common.{◌≡◌, ◌≢◌, ◌∙◌, ℕ, ◌+◌, ◌<◌, ◌≤◌, Bool, true, false, ◌&&◌, if◌then◌else◌, List, [], ◌∷◌, ◌++◌, length, drop, refl}
use Rattle.std.proofs.Common.{sym, ap, subst, arith, append_assoc, append-nil, length-append, inl, inr}
use Rattle.std.proofs.lemmas.List.{append_cancel_left}
use Rattle.std.proofs.lemmas.List.Elements.{All-append, All-tail}
use Rattle.csvw_records.specs.declared.dialect.Dialect.{Dialect}
use Rattle.csvw_records.specs.Lawful.{IsLawful}
use Rattle.csvw_records.specs.Grammar.{terminator_len}
use Rattle.csvw_records.specs.Lengths.{byte_len, row_limit}
use Rattle.csvw_records.specs.Files.{Row, IsRow, AreRows, AreAllRows, EndsOpen, File, content, text_of}
use Rattle.csvw_records.specs.RecordLaws.{RecordLaws}
use Rattle.csvw_part_laws.specs.Parts.{AreShort, AreWholeRows, EndsOpenAt, AreAllFrom, IsRest, IsParted, RowsOfParts}
use Rattle.csvw_part_laws.proofs.Texts.{is_text_join, is_text_after, content_join}

-- rows, and then more rows
are_join : (d : Dialect) (i : ℕ) (text : List ℕ) (rows : List Row) (middle : List ℕ) (more : List Row) (rest : List ℕ) → AreRows d i text rows middle
    → AreRows d (i + length rows) middle more rest → AreRows d i text (rows ++ more) rest
are_join d i text [] middle more rest e are =
    subst (λ (t : List ℕ). AreRows d i t more rest) (sym e) (subst (λ (n : ℕ). AreRows d n middle more rest) (let z : i + 0 ≡ i = omega arith in z) are)
are_join d i text (row ∷ rows) middle more rest (after, spelled, is_row, ends, behind) are = (
  after,
  spelled,
  is_row,
  ends,
  are_join d (i + 1) (drop (terminator_len d after) after) rows middle more rest behind
      (subst (λ (n : ℕ). AreRows d n middle more rest) (let z : i + length (row ∷ rows) ≡ (i + 1) + length rows = omega arith in z) are),
)

open_join : (d : Dialect) (text : List ℕ) (rows : List Row) (middle : List ℕ) (more : List Row) → AreRows d 0 text rows middle
    → EndsOpenAt d (length rows) middle more → EndsOpen d text (rows ++ more)
open_join d text rows middle more are o = record {
  front = rows ++ o.front;
  last = o.last;
  all = ap (λ l. rows ++ l) o.all ∙ sym (append_assoc rows o.front (o.last ∷ []));
  before = are_join d 0 text rows middle o.front o.last.text are
      (subst (λ (n : ℕ). AreRows d n middle o.front o.last.text) (let z : length rows ≡ 0 + length rows = omega arith in z) o.before);
  is_row = subst (λ (n : ℕ). IsRow d n o.last []) (sym (length-append rows o.front)) o.is_row;
  not_empty = o.not_empty;
}

all_join : (d : Dialect) (text : List ℕ) (rows : List Row) (middle : List ℕ) (more : List Row) → AreRows d 0 text rows middle
    → AreAllFrom d (length rows) middle more → AreAllRows d text (rows ++ more)
all_join d text rows middle more are (inl all) =
    inl (are_join d 0 text rows middle more [] are
    (subst (λ (n : ℕ). AreRows d n middle more []) (let z : length rows ≡ 0 + length rows = omega arith in z) all))
all_join d text rows middle more are (inr o) = inr (open_join d text rows middle more are o)

-- an empty text has no terminator
no_terminator : (d : Dialect) → 0 < terminator_len d [] → ⊥
no_terminator d h = none d.line_terminators.crlf d.line_terminators.lf h
  where
    none : (a b : Bool) → 0 < (if a && false then 2 else (if b && false then 1 else 0)) → ⊥
    none true true h = omega (arith, h)
    none true false h = omega (arith, h)
    none false true h = omega (arith, h)
    none false false h = omega (arith, h)

-- two lists, of which one has its last item apart, and the other some of its last items
record Parted (X : Type 0) (front : List X) (last : X) (xs ys : List X) : Type 0 where
  between : List X
  front_is : front ≡ xs ++ between
  rest_is : ys ≡ between ++ last ∷ []

not_nil : {X : Type 0} (xs : List X) (x : X) (ys : List X) → xs ++ x ∷ ys ≡ [] → ⊥
not_nil xs x ys e = let n : length (xs ++ x ∷ ys) ≡ 0 = ap length e in omega (arith, length-append xs (x ∷ ys), n)

last_part : {X : Type 0} (front : List X) (last : X) (xs : List X) (y : X) (ys : List X) → xs ++ y ∷ ys ≡ front ++ last ∷ []
    → Parted X front last xs (y ∷ ys)
last_part front last [] y ys e = record { between = front; front_is = refl; rest_is = e }
last_part [] last (x ∷ xs) y ys e = absurd (not_nil xs y ys cc)
last_part (f ∷ fs) last (x ∷ xs) y ys e =
    let p = last_part fs last xs y ys cc in
    record { between = p.between; front_is = let k = p.front_is in cc; rest_is = p.rest_is }

short_after : (rows more : List Row) → AreShort (rows ++ more) → AreShort more
short_after [] more h = h
short_after (row ∷ rows) more h = short_after rows more (All-tail (λ (r : Row). byte_len r.text ≤ row_limit) row (rows ++ more) h)

module _ (laws : RecordLaws) where
  -- the text after rows has the other rows
  behind : (d : Dialect) (i : ℕ) (text : List ℕ) (rows : List Row) (middle : List ℕ) (more : List Row) (rest : List ℕ) → IsLawful d
      → AreRows d i text rows middle → AreRows d i text (rows ++ more) rest → AreRows d (i + length rows) middle more rest
  behind d i text [] middle more rest w e are =
      subst (λ (n : ℕ). AreRows d n middle more rest) (let z : i ≡ i + 0 = omega arith in z) (subst (λ (t : List ℕ). AreRows d i t more rest) e are)
  behind d i text (row ∷ rows) middle more rest w (after, spelled, is_row, ends, others) (later, also, is_too, ends_too, all) =
      let same = laws.rows.row_unique false d i row row after later w (sym spelled ∙ also) is_row (inl ends) is_too (inl ends_too) in
      subst (λ (n : ℕ). AreRows d n middle more rest) (let z : (i + 1) + length rows ≡ i + length (row ∷ rows) = omega arith in z)
      (behind d (i + 1) (drop (terminator_len d after) after) rows middle more rest w others
      (subst (λ (l : List ℕ). AreRows d (i + 1) (drop (terminator_len d l) l) (rows ++ more) rest) (sym same.rest) all))

  -- a last row without a terminator isn't one with a terminator
  not_ended : (d : Dialect) (text : List ℕ) (rows : List Row) (middle : List ℕ) → IsLawful d → AreRows d 0 text rows middle
      → (o : EndsOpen d text rows) → ⊥
  not_ended d text rows middle w are o =
      let last = behind d 0 text o.front o.last.text (o.last ∷ []) middle w o.before
      (subst (λ (l : List Row). AreRows d 0 text l middle) o.all are) in
      let none : last.0 ≡ [] = append_cancel_left o.last.text last.0 [] (sym last.1 ∙ sym (append-nil o.last.text)) in
      no_terminator d (subst (λ (l : List ℕ). 0 < terminator_len d l) none last.3)

  open_after : (d : Dialect) (text : List ℕ) (rows : List Row) (middle : List ℕ) (more : List Row) → IsLawful d → AreRows d 0 text rows middle
      → EndsOpen d text (rows ++ more) → EndsOpenAt d (length rows) middle more
  open_after d text rows middle [] w are o =
      absurd (not_ended d text (rows ++ []) middle w (subst (λ (l : List Row). AreRows d 0 text l middle) (sym (append-nil rows)) are) o)
  open_after d text rows middle (m ∷ ms) w are o =
      let p = last_part o.front o.last rows m ms o.all in
      record {
        front = p.between;
        last = o.last;
        all = p.rest_is;
        before = subst (λ (n : ℕ). AreRows d n middle p.between o.last.text) (let z : 0 + length rows ≡ length rows = omega arith in z)
            (behind d 0 text rows middle p.between o.last.text w are (subst (λ (l : List Row). AreRows d 0 text l o.last.text) p.front_is o.before));
        is_row = subst (λ (n : ℕ). IsRow d n o.last []) (ap length p.front_is ∙ length-append rows p.between) o.is_row;
        not_empty = o.not_empty;
      }

  all_after : (d : Dialect) (text : List ℕ) (rows : List Row) (middle : List ℕ) (more : List Row) → IsLawful d → AreRows d 0 text rows middle
      → AreAllRows d text (rows ++ more) → AreAllFrom d (length rows) middle more
  all_after d text rows middle more w are (inl all) =
      inl (subst (λ (n : ℕ). AreRows d n middle more []) (let z : 0 + length rows ≡ length rows = omega arith in z)
      (behind d 0 text rows middle more [] w are all))
  all_after d text rows middle more w are (inr o) = inr (open_after d text rows middle more w are o)

  -- a text with a row is not empty
  has_text : (d : Dialect) (text : List ℕ) (rows : List Row) (rest : List ℕ) → 0 < length rows → AreRows d 0 text rows rest → text ≢ []
  has_text d text [] rest h are e = omega (arith, h)
  has_text d text (row ∷ rows) rest h are e =
      laws.rows.no_more d 0 row rows rest (subst (λ (t : List ℕ). AreRows d 0 t (row ∷ rows) rest) e are)

  -- the text of the whole begins with the rows of the front
  begun : (d : Dialect) (front rest : List ℕ) (rows : List Row) → AreWholeRows d front rows → AreRows d 0 (content (front ++ rest)) rows (text_of rest)
  begun d front rest rows h =
      let a = laws.rows.rows_again d 0 (content front) rows [] h.are_rows in
      let some = has_text d (content front) rows [] h.some h.are_rows in
      let joined : content (front ++ rest) ≡ a.front ++ text_of rest
      = content_join laws.texts front rest h.is_utf8 some ∙ ap (λ l. l ++ text_of rest) (a.spelled ∙ append-nil a.front) in
      subst (λ (l : List ℕ). AreRows d 0 l rows (text_of rest)) (sym joined) (a.again (text_of rest))

  join : (d : Dialect) (max : ℕ) (front rest : List ℕ) (rows more : List Row) → AreWholeRows d front rows
      → IsRest d max (length rows) rest more → File d max (front ++ rest) (rows ++ more)
  join d max front rest rows more h r = record {
    is_utf8 = is_text_join laws.texts front rest h.is_utf8 r.is_utf8;
    are_rows = all_join d (content (front ++ rest)) rows (text_of rest) more (begun d front rest rows h) r.are_rows;
    limits = (let f = r.few in omega (arith, length-append rows more, f), All-append (λ (row : Row). byte_len row.text ≤ row_limit) rows more h.short r.short);
  }

  file_after : (d : Dialect) (max : ℕ) (front rest : List ℕ) (rows more : List Row) → IsLawful d → AreWholeRows d front rows
      → File d max (front ++ rest) (rows ++ more) → IsRest d max (length rows) rest more
  file_after d max front rest rows more w h f = record {
    is_utf8 = is_text_after laws.texts front rest h.is_utf8 f.is_utf8;
    are_rows = all_after d (content (front ++ rest)) rows (text_of rest) more w (begun d front rest rows h) f.are_rows;
    few = let l = f.limits.0 in omega (arith, length-append rows more, l);
    short = short_after rows more f.limits.1;
  }

  parted : (d : Dialect) (max : ℕ) (front rest : List ℕ) (rows all : List Row) → IsLawful d → AreWholeRows d front rows
      → File d max (front ++ rest) all → IsParted d max rest rows all
  parted d max front rest rows all w h f =
      let b = laws.fronts.by_file d (content (front ++ rest)) rows all (text_of rest) w (inl (begun d front rest rows h)) f.are_rows in
      record {
        more = b.0;
        all_are = b.1;
        is_rest = file_after d max front rest rows b.0 w h (subst (λ (l : List Row). File d max (front ++ rest) l) b.1 f);
      }

  pub rows_of_parts : RowsOfParts
  rows_of_parts = record { join = λ d max front rest rows more w. join d max front rest rows more; parted = parted }
