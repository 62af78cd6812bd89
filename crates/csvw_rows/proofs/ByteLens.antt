-- The number of bytes of characters.
use Rattle.std.proofs.Common.{◌≡◌, ℕ, ◌+◌, ◌<◌, ◌≤◌, List, [], ◌∷◌, ◌++◌, length, take, get_or, ap, ◌∙◌, arith, append-nil, length-append, encode_utf8_all}
use Rattle.std.proofs.Common.{drop}
use Rattle.std.proofs.lemmas.Grind.{common_steps}
use Rattle.std.proofs.lemmas.Str.{encodes-append, length-encode}
use Rattle.std.proofs.lemmas.List.{take_more, take-append-drop}
use Rattle.std.specs.Char.{len_utf8, encode_utf8}
use Rattle.csvw_records.specs.Files.{Row}
use Rattle.csvw_records.specs.Lengths.{byte_len, row_limit}

-- one character more
pub byte_len_more : (xs : List ℕ) (i : ℕ) → i < length xs → byte_len (take (i + 1) xs) ≡ byte_len (take i xs) + len_utf8 (get_or xs i 0)
byte_len_more xs i h =
    let c = get_or xs i 0 in
    let one : length (encode_utf8_all (c ∷ [])) ≡ len_utf8 c = ap length (append-nil (encode_utf8 c)) ∙ length-encode c in
    ap byte_len (take_more xs i 0 h) ∙ ap length (encodes-append (take i xs) (c ∷ []))
    ∙ length-append (encode_utf8_all (take i xs)) (encode_utf8_all (c ∷ [])) ∙ ap (λ n. byte_len (take i xs) + n) one

take_all : (l : List ℕ) → take (length l) l ≡ l
take_all l = grind (arith, common_steps)

byte_len_append : (a b : List ℕ) → byte_len (a ++ b) ≡ byte_len a + byte_len b
byte_len_append a b = ap length (encodes-append a b) ∙ length-append (encode_utf8_all a) (encode_utf8_all b)

-- the characters up to one more are some of all
pub byte_len_past : (xs : List ℕ) (i : ℕ) → i < length xs → byte_len (take i xs) + len_utf8 (get_or xs i 0) ≤ byte_len xs
byte_len_past xs i h = omega (arith, byte_len_more xs i h, byte_len_append (take (i + 1) xs) (drop (i + 1) xs), ap byte_len (take-append-drop (i + 1) xs))

pub byte_len_take : (n : ℕ) (l : List ℕ) → byte_len (take n l) ≤ byte_len l
byte_len_take n l = omega (arith, byte_len_append (take n l) (drop n l), ap byte_len (take-append-drop n l))

-- a row that isn't too long
abbrev pub IsShort : Row → Type 0
IsShort row = byte_len row.text ≤ row_limit
