-- A row ends before the bytes that are unread.
use Rattle.std.proofs.Common.{◌≡◌, ◌≢◌, ◌∙◌, ℕ, ◌+◌, ◌<◌, ◌≤◌, ◌==◌, Bool, true, false, if◌then◌else◌, List, [], ◌∷◌, ◌++◌, length, take, drop}
use Rattle.std.proofs.Common.{refl, sym, ap, subst, arith, append_assoc, append-nil, length-append, inl, inr, chars, encode_utf8_all}
use Rattle.std.specs.Prelude.{IsUtf8}
use Rattle.std.specs.Str.{is_utf8}
use Rattle.std.specs.Str.Lossy.{utf8_valid_len}
use Rattle.std.proofs.lemmas.Grind.{common_steps}
use Rattle.std.proofs.lemmas.Bool.{eq-eqb}
use Rattle.std.proofs.lemmas.List.{append_cancel_right, take-append-drop}
use Rattle.std.proofs.lemmas.Str.{IsUtf8-from_is_utf8, is_utf8-from_IsUtf8, chars-append, encodes-append, encodes-chars, utf8_valid_len-IsUtf8}
use Rattle.csvw_records.specs.declared.dialect.Dialect.{Dialect}
use Rattle.csvw_records.specs.Files.{AreRows, content, text_of, without_mark}
use Rattle.csvw_records.specs.RecordLaws.{RecordLaws}
use Rattle.csvw_records.specs.RowValue.{Given}
use Rattle.csvw_rows.specs.declared.rows.Rows.{Rows}
use Rattle.csvw_rows.specs.RowsState.{Holds, reading_of}
use Rattle.csvw_rows.specs.SourceState.{rest_bytes, rest_of}
use Rattle.csvw_rows.specs.Skips.{EndsRow, RowEnds}
use Rattle.csvw_rows.proofs.Skips.{has_text}
use Rattle.csvw_rows.proofs.TextLemmas.{front_text, front_valid, take_all, take_front}

-- the characters before the rest of a text, with the mark that may begin it
record Marked (text front rest : List ℕ) : Type 0 where
  all : List ℕ
  spelled : text ≡ all ++ rest
  unmarked : without_mark all ≡ front

marked : (text front rest : List ℕ) → without_mark text ≡ front ++ rest → front ≢ [] → Marked text front rest
marked [] [] rest e n = absurd (n refl)
marked [] (x ∷ xs) rest e n = absurd cc
marked (c ∷ cs) front rest e n = by_mark (c == 65279) refl e
  where
    by_mark : (b : Bool) → (c == 65279) ≡ b → (if b then cs else c ∷ cs) ≡ front ++ rest → Marked (c ∷ cs) front rest
    by_mark true is e = record { all = c ∷ front; spelled = ap (λ l. c ∷ l) e; unmarked = rw is refl }
    by_mark false is e = plain front e n
      where
        plain : (front : List ℕ) → c ∷ cs ≡ front ++ rest → front ≢ [] → Marked (c ∷ cs) front rest
        plain [] e n = absurd (n refl)
        plain (x ∷ xs) e n =
            let same : x ≡ c = cc in
            record { all = x ∷ xs; spelled = e; unmarked = rw (same, is) refl }

-- a text that ends with the rest, and the bytes in front of it
record Parted (text rest all : List ℕ) : Type 0 where
  front : List ℕ
  spelled : text ≡ front ++ rest
  is_utf8 : IsUtf8 front
  characters : chars front ≡ all

parted : (text rest all : List ℕ) → IsUtf8 text → IsUtf8 rest → chars text ≡ all ++ chars rest → Parted text rest all
parted text rest all u v e =
    let spelled : text ≡ encode_utf8_all all ++ rest = sym (encodes-chars text u) ∙ ap encode_utf8_all e ∙ encodes-append all (chars rest)
    ∙ ap (λ l. encode_utf8_all all ++ l) (encodes-chars rest v) in
    let front = encode_utf8_all all in
    let behind : drop (length front) text ≡ rest = ap (drop (length front)) spelled ∙ backs front rest in
    let within : length front ≤ length text = (let k = ap length spelled in omega (arith, k, length-append front rest)) in
    let valid : IsUtf8 front = subst IsUtf8 (ap (take (length front)) spelled ∙ take_front front rest)
    (front_text text (length front) u within (ap is_utf8 behind ∙ is_utf8-from_IsUtf8 rest v)) in
    record {
      front = front;
      spelled = spelled;
      is_utf8 = valid;
      characters = append_cancel_right (chars front) all (chars rest) (sym (chars-append front rest valid) ∙ ap chars (sym spelled) ∙ e);
    }
  where
    backs : (a b : List ℕ) → drop (length a) (a ++ b) ≡ b
    backs a b = grind (arith, common_steps)

is_text_of : (front : List ℕ) → IsUtf8 front → text_of front ≡ chars front
is_text_of front u =
    let n : utf8_valid_len front ≡ length front = utf8_valid_len-IsUtf8 front u in
    ap chars (take_all (utf8_valid_len front) front (omega (arith, n)))

module _ (laws : RecordLaws) where
  -- the rows of a text that goes on with unread bytes
  ends_row : (s : Rows) (d : Dialect) (max : ℕ) (bytes : List ℕ) (given : List Given) (h : Holds s d max bytes false given) → 1 < reading_of s
      → AreRows d 0 (content bytes) h.rows (rest_of s.source) → EndsRow s d bytes given
  ends_row s d max bytes given h some are =
      let a = laws.rows.rows_again d 0 (content bytes) h.rows (rest_of s.source) are in
      let many : 0 < length h.rows = (let e = h.row_is in omega (arith, some, e)) in
      let alone : AreRows d 0 a.front h.rows [] = subst (λ (l : List ℕ). AreRows d 0 l h.rows []) (append-nil a.front) (a.again []) in
      let m = marked (text_of bytes) a.front (rest_of s.source) a.spelled (has_text laws d a.front h.rows many alone) in
      let text = take (utf8_valid_len bytes) bytes in
      let p = parted text (rest_bytes s.source) m.all (front_valid bytes) (IsUtf8-from_is_utf8 (rest_bytes s.source) s.source.is_text) m.spelled in
      let whole : content p.front ≡ a.front = ap without_mark (is_text_of p.front p.is_utf8 ∙ p.characters) ∙ m.unmarked in
      let cut = drop (utf8_valid_len bytes) bytes in
      record {
        front = p.front;
        unread = rest_bytes s.source ++ cut;
        spelled = sym (take-append-drop (utf8_valid_len bytes) bytes) ∙ ap (λ l. l ++ cut) p.spelled ∙ append_assoc p.front (rest_bytes s.source) cut;
        count = length-append (rest_bytes s.source) cut ∙ ap (λ (l : List ℕ). length (rest_bytes s.source) + length l) (sym h.decodes.pending);
        rows = h.rows;
        are_rows = record {
          is_utf8 = eq-eqb (utf8_valid_len p.front) (length p.front) (utf8_valid_len-IsUtf8 p.front p.is_utf8);
          are_rows = subst (λ (l : List ℕ). AreRows d 0 l h.rows []) (sym whole) alone;
          some = many;
          short = h.read.limits.1;
        };
        body = sym h.given_is;
        reading = ap (λ (n : ℕ). n + 1) h.row_is;
        remained = h.remained_is;
      }

  pub row_ends : RowEnds
  row_ends s d max bytes given h some = elim h.read.reached [
    | inl are ↦ ends_row s d max bytes given h some are
    | inr o ↦ absurd (let e : false ≡ true = o.0 in cc)
  ]
