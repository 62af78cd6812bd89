-- The symbols of base64 are neither `=` nor spaces: this is computed of the table.
use Rattle.std.proofs.Common.{◌≡◌, ℕ, ◌==◌, ◌/◌, ◌%◌, ◌*◌, ◌+◌, Bool, true, not, ◌&&◌, List, [], ◌∷◌, slice_index, length, refl, arith, inl, inr}
use Rattle.std.specs.List.{All, AllByRecursion}
use Rattle.std.proofs.lemmas.Bool.{cases_lt}
use Rattle.std.proofs.lemmas.List.{get_or_past}
use Rattle.std.proofs.lemmas.List.Elements.{All-from_recursion}
use Rattle.base64.specs.Rfc4648.{encode_symbols}
use Rattle.base64.specs.Engines.{standard}
use Rattle.base64.specs.GeneralPurpose.{engine_symbols}
use Rattle.base64.specs.Tables.{all_below}
use Rattle.base64.proofs.Tables.{all_below_at}

-- `A` to `Z`, `a` to `z`, `0` to `9`, `+` and `/`
abbrev pub symbols : List ℕ
symbols = engine_symbols standard

abbrev pub is_plain : ℕ → Bool
is_plain c = not (c == 61) && not (c == 32)

abbrev pub IsPlain : ℕ → Type 0
IsPlain c = is_plain c ≡ true

table_is_plain : all_below (λ k. is_plain (slice_index symbols k)) 64 ≡ true
table_is_plain = refl

table_length : length symbols ≡ 64
table_length = refl

table_plain : (i : ℕ) → IsPlain (slice_index symbols i)
table_plain i = elim (cases_lt i 64) [
  | inl below ↦ all_below_at (λ k. is_plain (slice_index symbols k)) 64 i table_is_plain below
  | inr past ↦
      let zero : slice_index symbols i ≡ 0 = get_or_past symbols i 0 (omega (arith, table_length, past)) in
      rw zero refl
]

each_symbol : (P : ℕ → Type 0) (t m : List ℕ) → ((i : ℕ) → P (slice_index t i)) → AllByRecursion P (encode_symbols t m)
unfolding encode_symbols
each_symbol P t [] h = tt
each_symbol P t (a ∷ []) h = (h (a / 4), (h (a % 4 * 16), tt))
each_symbol P t (a ∷ b ∷ []) h = (h (a / 4), (h (a % 4 * 16 + b / 16), (h (b % 16 * 4), tt)))
each_symbol P t (a ∷ b ∷ c ∷ rest) h =
    (h (a / 4), (h (a % 4 * 16 + b / 16), (h (b % 16 * 4 + c / 64), (h (c % 64), each_symbol P t rest h))))

pub plain_symbols : (m : List ℕ) → All IsPlain (encode_symbols symbols m)
plain_symbols m = All-from_recursion IsPlain (encode_symbols symbols m) (each_symbol IsPlain symbols m table_plain)
