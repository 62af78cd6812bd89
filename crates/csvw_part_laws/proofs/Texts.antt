-- The characters of bytes after a text.
use Rattle.std.proofs.Common.{◌≡◌, ◌≢◌, ◌∙◌, ℕ, List, [], ◌∷◌, ◌++◌, length, drop, refl, sym, ap, subst, arith}
use Rattle.std.proofs.lemmas.Bool.{eqb-true, eq-eqb}
use Rattle.std.proofs.lemmas.List.{length-drop}
use Rattle.std.proofs.lemmas.Str.{utf8_valid_len_le}
use Rattle.std.proofs.Math.Seq.{drop-length}
use Rattle.std.specs.Prelude.{IsTrue}
use Rattle.std.specs.Str.Lossy.{utf8_valid_len}
use Rattle.csvw_records.specs.Files.{text_of, content, without_mark, is_text}
use Rattle.csvw_records.specs.TextLaws.{TextLaws}

-- what is not text at the end of the bytes
abbrev left : List ℕ → List ℕ
left bytes = drop (utf8_valid_len bytes) bytes

none_left : (bytes : List ℕ) → IsTrue (is_text bytes) → left bytes ≡ []
none_left bytes h =
    subst (λ (n : ℕ). drop n bytes ≡ []) (sym (eqb-true (utf8_valid_len bytes) (length bytes) h)) (drop-length bytes)

text_if_none : (bytes : List ℕ) → left bytes ≡ [] → IsTrue (is_text bytes)
text_if_none bytes h =
    let n : length (left bytes) ≡ 0 = ap length h in
    eq-eqb (utf8_valid_len bytes) (length bytes) (omega (arith, length-drop (utf8_valid_len bytes) bytes, utf8_valid_len_le bytes, n))

module _ (laws : TextLaws) where
  left_after : (front rest : List ℕ) → IsTrue (is_text front) → left (front ++ rest) ≡ left rest
  left_after front rest h =
      laws.pending_on front rest ∙ ap (λ (l : List ℕ). drop (utf8_valid_len (l ++ rest)) (l ++ rest)) (none_left front h)

  pub is_text_join : (front rest : List ℕ) → IsTrue (is_text front) → IsTrue (is_text rest) → IsTrue (is_text (front ++ rest))
  is_text_join front rest h k = text_if_none (front ++ rest) (left_after front rest h ∙ none_left rest k)

  pub is_text_after : (front rest : List ℕ) → IsTrue (is_text front) → IsTrue (is_text (front ++ rest)) → IsTrue (is_text rest)
  is_text_after front rest h k = text_if_none rest (sym (left_after front rest h) ∙ none_left (front ++ rest) k)

  text_join : (front rest : List ℕ) → IsTrue (is_text front) → text_of (front ++ rest) ≡ text_of front ++ text_of rest
  text_join front rest h = laws.text_more front rest ∙ ap (λ (l : List ℕ). text_of front ++ text_of (l ++ rest)) (none_left front h)

  mark_join : (t c : List ℕ) → t ≢ [] → without_mark (t ++ c) ≡ without_mark t ++ c
  mark_join [] c h = absurd (h refl)
  mark_join (x ∷ xs) c h = laws.by_begun (x ∷ xs) c

  -- the characters of the whole, where the front has some
  pub content_join : (front rest : List ℕ) → IsTrue (is_text front) → content front ≢ [] → content (front ++ rest) ≡ content front ++ text_of rest
  content_join front rest h some =
      ap without_mark (text_join front rest h)
      ∙ mark_join (text_of front) (text_of rest) (λ e. some (ap without_mark e))
