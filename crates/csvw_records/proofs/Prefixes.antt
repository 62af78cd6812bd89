-- Prefixes among the bytes of a text and among its characters.
use Rattle.std.proofs.Common.{◌≡◌, ◌∙◌, ℕ, Bool, false, true, List, ◌++◌, refl, sym, ap, chars, nat_eq}
use Rattle.std.specs.Prelude.{IsUtf8, encode_utf8_all}
use Rattle.std.specs.List.{starts_with}
use Rattle.std.proofs.lemmas.Str.{chars-append, encodes-chars, encodes-append}
use Rattle.csvw_records.proofs.Continue.{starts_split, starts_itself}
use Rattle.csvw_records.proofs.IgnoredRows.{starts_stays}

-- a text that doesn't begin with the bytes of the prefix doesn't begin with its characters
no_prefix : (rest prefix : List ℕ) → IsUtf8 rest → IsUtf8 prefix → starts_with nat_eq rest prefix ≡ false
    → starts_with nat_eq (chars rest) (chars prefix) ≡ false
no_prefix rest prefix u v e = by_test (starts_with nat_eq (chars rest) (chars prefix)) refl
  where
    by_test : (b : Bool) → starts_with nat_eq (chars rest) (chars prefix) ≡ b → b ≡ false
    by_test false t = refl
    by_test true t =
        let s = starts_split (chars rest) (chars prefix) t in
        let spelled : rest ≡ prefix ++ encode_utf8_all s.0 =
        sym (encodes-chars rest u) ∙ ap encode_utf8_all s.1 ∙ encodes-append (chars prefix) s.0 ∙ ap (λ l. l ++ encode_utf8_all s.0) (encodes-chars prefix v) in
        sym (starts_stays prefix prefix (encode_utf8_all s.0) (starts_itself prefix)) ∙ ap (λ l. starts_with nat_eq l prefix) (sym spelled) ∙ e

-- a text begins with the bytes of the prefix where it begins with its characters
pub same_start : (rest prefix : List ℕ) → IsUtf8 rest → IsUtf8 prefix → starts_with nat_eq rest prefix ≡ starts_with nat_eq (chars rest) (chars prefix)
same_start rest prefix u v = by_test (starts_with nat_eq rest prefix) refl
  where
    by_test : (b : Bool) → starts_with nat_eq rest prefix ≡ b → b ≡ starts_with nat_eq (chars rest) (chars prefix)
    by_test false e = sym (no_prefix rest prefix u v e)
    by_test true e =
        let s = starts_split rest prefix e in
        sym (ap (λ l. starts_with nat_eq l (chars prefix)) (ap chars s.1 ∙ chars-append prefix s.0 v)
        ∙ starts_stays (chars prefix) (chars prefix) (chars s.0) (starts_itself (chars prefix)))
