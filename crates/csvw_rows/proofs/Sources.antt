-- The bytes that a source has decoded.
use Rattle.std.proofs.Common.{◌≡◌, ℕ, zero, suc, Bool, true, false, not, ◌==◌, if◌then◌else◌, List, [], ◌∷◌, ◌++◌, length, take, drop, refl, sym, ap, ◌∙◌}
use Rattle.std.proofs.Common.{arith, chars}
use Rattle.std.specs.Prelude.{is_some}
use Rattle.std.specs.Str.Lossy.{utf8_valid_len, utf8_error_len}
use Rattle.std.proofs.lemmas.Bool.Decides.{nat_tests}
use Rattle.std.proofs.lemmas.Str.{utf8_valid_len_le}
use Rattle.csvw_rows.specs.declared.source.Source.{Source}
use Rattle.csvw_records.specs.Files.{text_of, content, without_mark, is_empty}
use Rattle.csvw_rows.specs.SourceState.{Decodes, rest_of, is_bad_of, pending_of, begun_of}
use Rattle.csvw_rows.proofs.TextLemmas.{take_len, text_none}
use Rattle.csvw_records.specs.RecordLaws.{RecordLaws}

empty_more : (begun : Bool) (t c : List ℕ) → begun ≡ not (is_empty t) → (if begun then true else not (length c == 0)) ≡ not (is_empty (t ++ c))
empty_more begun (x ∷ xs) c e = rw e refl
empty_more begun [] [] e = rw e refl
empty_more begun [] (y ∷ ys) e = rw e (let z : (length (y ∷ ys) == 0) ≡ false = grind (arith, nat_tests) in ap not z)

module _ (laws : RecordLaws) where
  -- a source that decodes a piece
  pub pushes : (old new : Source) (piece bytes text : List ℕ) → Decodes old bytes
      → text ≡ take (utf8_valid_len (pending_of old ++ piece)) (pending_of old ++ piece)
      → begun_of new ≡ (if begun_of old then true else not (length (chars text) == 0)) → pending_of new ≡ drop (length text) (pending_of old ++ piece)
      → is_bad_of new ≡ is_some (utf8_error_len (drop (utf8_valid_len (pending_of old ++ piece)) (pending_of old ++ piece)))
      → rest_of new ≡ rest_of old ++ (if begun_of old then chars text else without_mark (chars text))
      → Decodes new (bytes ++ piece) × ((more : List ℕ) × (rest_of new ≡ rest_of old ++ more) × (content (bytes ++ piece) ≡ content bytes ++ more))
  pushes old new piece bytes text h t begun pending bad rest =
      let p = drop (utf8_valid_len bytes) bytes ++ piece in
      let same : pending_of old ++ piece ≡ p = ap (λ l. l ++ piece) h.pending in
      let c : chars text ≡ text_of p = ap chars (t ∙ ap (λ l. take (utf8_valid_len l) l) same) in
      let len : length text ≡ utf8_valid_len p =
      (let k = utf8_valid_len_le p in ap length (t ∙ ap (λ l. take (utf8_valid_len l) l) same) ∙ take_len (utf8_valid_len p) p k) in
      let all = laws.texts.text_more bytes piece in (
        record {
          begun = begun ∙ empty_more (begun_of old) (text_of bytes) (chars text) h.begun ∙ ap (λ l. not (is_empty (text_of bytes ++ l))) c
              ∙ ap (λ l. not (is_empty l)) (sym all);
          pending = pending ∙ ap (λ n. drop n (pending_of old ++ piece)) len ∙ ap (drop (utf8_valid_len p)) same ∙ sym (laws.texts.pending_on bytes piece);
          bad = bad ∙ ap (λ l. is_some (utf8_error_len (drop (utf8_valid_len l) l))) same
              ∙ ap (λ l. is_some (utf8_error_len l)) (sym (laws.texts.pending_on bytes piece));
        },
        (
          (if begun_of old then chars text else without_mark (chars text)),
          rest,
          ap without_mark all ∙ laws.texts.by_begun (text_of bytes) (text_of p)
              ∙ ap (λ (b : Bool). content bytes ++ (if b then text_of p else without_mark (text_of p))) (sym h.begun)
              ∙ ap (λ l. content bytes ++ (if begun_of old then l else without_mark l)) (sym c),
        ),
      )

drop_none : (n : ℕ) → drop n (let e : List ℕ = [] in e) ≡ []
drop_none zero = refl
drop_none (suc n) = refl

no_error : is_some (utf8_error_len (let e : List ℕ = [] in e)) ≡ false
unfolding utf8_error_len
no_error = refl

pub new_decodes : (s : Source) → begun_of s ≡ false → pending_of s ≡ [] → is_bad_of s ≡ false → Decodes s []
new_decodes s b p e = record {
  begun = b ∙ ap (λ l. not (is_empty l)) (sym text_none);
  pending = p ∙ sym (drop_none (utf8_valid_len []));
  bad = e ∙ sym (ap (λ l. is_some (utf8_error_len l)) (drop_none (utf8_valid_len [])) ∙ no_error);
}
