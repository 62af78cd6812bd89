-- A line among the bytes and among the characters.
use Rattle.std.proofs.Common.{◌≡◌, ◌∙◌, ℕ, suc, ◌<◌, ◌≤◌, if◌then◌else◌, Bool, false, true, List, [], ◌∷◌, ◌++◌, length, take, drop, get_or, Option, Some}
use Rattle.std.proofs.Common.{None, refl, sym, ap, subst, arith, append_assoc, append-nil, length-append, drop-cons, ◌⊎◌, inl, inr, chars, nat_lt, zero}
use Rattle.std.specs.Prelude.{IsUtf8, encode_utf8_all}
use Rattle.std.specs.Str.{is_utf8}
use Rattle.std.specs.Char.{len_utf8}
use Rattle.std.proofs.lemmas.Bool.{cases_lt}
use Rattle.std.proofs.lemmas.Bool.Decides.{nat_tests}
use Rattle.std.proofs.lemmas.Grind.{common_steps}
use Rattle.std.proofs.lemmas.List.{take-append-drop}
use Rattle.std.proofs.lemmas.Str.{is_utf8-from_IsUtf8, IsUtf8-drop, IsCharBoundary-before_ascii, chars-nil, encodes-chars, encodes-append}
use Rattle.csvw_records.specs.declared.dialect.Dialect.{Dialect}
use Rattle.csvw_records.specs.Grammar.{terminator_len}
use Rattle.csvw_records.specs.Lengths.{byte_len}
use Rattle.csvw_records.specs.NextRow.{settled, unsettled, line_of}
use Rattle.csvw_rows.specs.IgnoredRows.{NoneBegins, IsSearched}
use Rattle.csvw_rows.proofs.TextLemmas.{split_chars, front_text, text_gone, drop_more}
use Rattle.csvw_rows.proofs.ByteLens.{byte_len_past}
use Rattle.csvw_records.specs.TerminatorLaws.{is_break, BeginsBreak}
use Rattle.csvw_records.specs.PassLaws.{Clear}
use Rattle.csvw_fields.specs.Drafts.{NoneArises}
use Rattle.csvw_records.specs.RecordLaws.{RecordLaws}

clear_at : (d : Dialect) (text after : List ℕ) → Clear d text after → NoneArises d text after
clear_at d [] after h k l = absurd (omega (arith, l))
clear_at d (c ∷ cs) after h zero l = h.0
clear_at d (c ∷ cs) after h (suc k) l = clear_at d cs after h.1 k (omega (arith, l))

-- a place among the characters is one among the bytes
front_past : (cs : List ℕ) (k : ℕ) → drop (length (encode_utf8_all (take k cs))) (encode_utf8_all cs) ≡ encode_utf8_all (drop k cs)
front_past cs k =
    ap (drop (length (encode_utf8_all (take k cs)))) (ap encode_utf8_all (sym (take-append-drop k cs)) ∙ encodes-append (take k cs) (drop k cs))
    ∙ past (encode_utf8_all (take k cs)) (encode_utf8_all (drop k cs))
  where
    past : (a b : List ℕ) → drop (length a) (a ++ b) ≡ b
    past a b = grind (arith, common_steps)

some_bytes : (c : ℕ) → 0 < len_utf8 c
some_bytes c = grind (arith, nat_tests)

before_end : (front : List ℕ) (k : ℕ) → k < length front → length (encode_utf8_all (take k front)) < byte_len front
before_end front k h = omega (arith, byte_len_past front k h, some_bytes (get_or front k 0))

take_of : (a b : List ℕ) (k : ℕ) → k < length a → take k (a ++ b) ≡ take k a
take_of a b k h = grind (arith, common_steps)

module _ (laws : RecordLaws) (d : Dialect) (rest : List ℕ) (n : ℕ) (u : IsUtf8 rest) (within : n ≤ length rest) (back : is_utf8 (drop n rest) ≡ true)
    (none : NoneBegins d rest 0 n) where
  abbrev front : List ℕ
  front = chars (take n rest)

  abbrev after : List ℕ
  after = chars (drop n rest)

  spelled : chars rest ≡ front ++ after
  spelled = split_chars rest n (front_text rest n u within back)

  bytes : byte_len front ≡ length (take n rest)
  bytes = ap length (encodes-chars (take n rest) (front_text rest n u within back))

  short : length (take n rest) ≤ n
  short = grind (arith, common_steps)

  none_char : (k : ℕ) → k < length front → terminator_len d (drop k (front ++ after)) ≡ 0
  none_char k h = by_end (cases_lt 0 (terminator_len d (drop k (front ++ after))))
    where
      j : ℕ
      j = length (encode_utf8_all (take k (front ++ after)))

      low : j < n
      low = let b = before_end front k h in let s = short in omega (arith, b, s, bytes, ap (λ l. length (encode_utf8_all l)) (take_of front after k h))

      whole : encode_utf8_all (front ++ after) ≡ rest
      whole = ap encode_utf8_all (sym spelled) ∙ encodes-chars rest u

      here : drop j rest ≡ encode_utf8_all (drop k (front ++ after))
      here = ap (drop j) (sym whole) ∙ front_past (front ++ after) k

      by_end : (0 < terminator_len d (drop k (front ++ after))) ⊎ (terminator_len d (drop k (front ++ after)) ≤ 0)
          → terminator_len d (drop k (front ++ after)) ≡ 0
      by_end (inl e) = let t = laws.terminators.term_codes d (drop k (front ++ after)) e in absurd
          (omega (arith, t, ap (terminator_len d) here, none j (omega arith) low))
      by_end (inr z) = omega (arith, z)

  -- the line goes on behind them
  pub line_past : (f : Bool) → line_of f d (chars rest) ≡ line_of f d after
  line_past f = ap (line_of f d) spelled ∙ places front after none_char
    where
      places : (front after : List ℕ) → ((k : ℕ) → k < length front → terminator_len d (drop k (front ++ after)) ≡ 0)
          → line_of f d (front ++ after) ≡ line_of f d after
      places [] after h = refl
      places (c ∷ cs) after h = ap (λ n. if nat_lt 0 n then Some (c ∷ cs ++ after) else line_of f d (cs ++ after)) (h 0 (omega arith))
          ∙ places cs after (λ k l. h (suc k) (omega (arith, l)))

module _ (laws : RecordLaws) where
  -- the line ends there
  pub line_here : (f : Bool) (d : Dialect) (rest : List ℕ) (n : ℕ) → IsUtf8 rest → n ≤ length rest → is_utf8 (drop n rest) ≡ true
      → NoneBegins d rest 0 n → 0 < terminator_len d (chars (drop n rest))
      → line_of f d (chars rest) ≡ Some (chars (drop n rest))
  line_here f d rest n u within back none ends = line_past laws d rest n u within back none f
      ∙ laws.rows.line_complete f d [] (chars (drop n rest)) tt (inl ends)

-- or with the text
gone : (l : List ℕ) → drop (length l) l ≡ []
gone l = grind (arith, common_steps)

module _ (laws : RecordLaws) where
  pub line_whole : (f : Bool) (d : Dialect) (rest : List ℕ) → IsUtf8 rest → NoneBegins d rest 0 (length rest) → line_of f d (chars rest) ≡ line_of f d []
  line_whole f d rest u none = line_past laws d rest (length rest) u (omega arith) (text_gone rest (length rest) refl) none f
      ∙ ap (line_of f d) (ap chars (gone rest) ∙ chars-nil)

  pub line_last : (d : Dialect) (rest : List ℕ) → IsUtf8 rest → NoneBegins d rest 0 (length rest)
      → line_of true d (chars rest) ≡ Some (chars (drop (length rest) rest))
  line_last d rest u none = line_whole true d rest u none ∙ ap Some (sym (ap chars (gone rest) ∙ chars-nil))

  -- a terminator begins between two characters
  pub ends_text : (d : Dialect) (rest : List ℕ) (n : ℕ) → IsUtf8 rest → n < length rest → 0 < terminator_len d (drop n rest) → is_utf8 (drop n rest) ≡ true
  ends_text d rest n u h ends =
      let c = get_or rest n 0 in
      let here : BeginsBreak (c ∷ drop (suc n) rest) = subst BeginsBreak (drop-cons rest n 0 h) (laws.terminators.terminator_breaks d (drop n rest) ends) in
      is_utf8-from_IsUtf8 (drop n rest) (IsUtf8-drop rest n u (IsCharBoundary-before_ascii rest n h (low c here)))
    where
      low : (c : ℕ) → is_break c ≡ true → c < 128
      low c e = grind (arith, nat_tests)

  -- the line doesn't end
  pub line_open : (d : Dialect) (rest : List ℕ) → IsUtf8 rest → NoneBegins d rest 0 (length rest) → line_of false d (settled d (chars rest)) ≡ None
  line_open d rest u none = by_line (line_of false d (settled d (chars rest))) refl
    where
      by_line : (o : Option (List ℕ)) → line_of false d (settled d (chars rest)) ≡ o → o ≡ None
      by_line None e = refl
      by_line (Some after) e =
          let z = sym (line_whole false d rest u none) ∙ ap (line_of false d) (sym (laws.passes.settled_all d (chars rest)))
          ∙ laws.passes.line_joins d false (settled d (chars rest)) (unsettled d (chars rest)) after (laws.passes.clear_all d (chars rest)) e in
          absurd cc

  -- nothing that follows makes a terminator of what is settled
  pub settled_searched : (d : Dialect) (rest : List ℕ) (n : ℕ) → n ≡ length (settled d rest) → NoneBegins d rest 0 (length rest) → IsSearched d n rest
  settled_searched d rest n e none more k h l =
      let s = settled d rest in
      let t = unsettled d rest in
      let low : k < length s = omega (arith, l, e) in
      let all : rest ≡ s ++ t = sym (laws.passes.settled_all d rest) in
      let here : drop k rest ≡ drop k s ++ (t ++ []) = ap (drop k) (all ∙ ap (λ l. s ++ l) (sym (append-nil t)))
      ∙ drop_more k s (t ++ []) (omega (arith, low)) in
      let grown : drop k (rest ++ more) ≡ drop k s ++ (t ++ more) = ap (drop k) (ap (λ l. l ++ more) all ∙ append_assoc s t more)
      ∙ drop_more k s (t ++ more) (omega (arith, low)) in
      ap (terminator_len d) grown ∙ clear_at d s (t ++ more) (laws.passes.settled_clear d rest more) k low
      ∙ sym (clear_at d s (t ++ []) (laws.passes.settled_clear d rest []) k low)
      ∙ ap (terminator_len d) (sym here) ∙ none k (omega arith) (omega (arith, low, ap length all, length-append s t))

-- nor does one in what was read on
pub none_before : (d : Dialect) (rest : List ℕ) (n to : ℕ) → IsSearched d n rest → NoneBegins d rest n to → NoneBegins d rest 0 to
none_before d rest n to i none k h l = by_place (cases_lt k n)
  where
    by_place : (k < n) ⊎ (n ≤ k) → terminator_len d (drop k rest) ≡ 0
    by_place (inl e) = ap (λ x. terminator_len d (drop k x)) (sym (append-nil rest)) ∙ i [] k h e
    by_place (inr e) = none k e l

-- more bytes come
pub searched_grows : (d : Dialect) (n : ℕ) (rest more : List ℕ) → IsSearched d n rest → IsSearched d n (rest ++ more)
searched_grows d n rest more i after = λ k h l. ap (λ x. terminator_len d (drop k x)) (append_assoc rest more after) ∙ i (more ++ after) k h l
