-- The lexical form of a number is ASCII, so its bytes are its characters.
use Rattle.std.proofs.Common.{◌≡◌, ◌∙◌, ℕ, zero, suc, ◌<◌, ◌⊎◌, inl, inr, Option, Some, None, List, [], ◌∷◌, ◌++◌, refl, sym, ap, subst, arith, ℤ}
use Rattle.std.proofs.Common.{encode_utf8_all}
use Rattle.std.specs.List.{AllByRecursion}
use Rattle.std.specs.Char.{IsAsciiDigit}
use Rattle.std.specs.Str.{chars, IsAscii}
use Rattle.std.proofs.lemmas.Str.{chars-IsAscii, encode_ascii}
use Rattle.csvw_datatype_core.specs.declared.number.Mark.{Mark}
use Rattle.csvw_datatype_core.specs.declared.number.Mark.TheVariants.{Plain, Percent, PerMille}
use Rattle.csvw_datatype_core.specs.Numbers.{Sign, NoSign, Plus, Minus, sign_text, fraction_text, mark_text, IsGrouped, IsFraction, IsMarked, ReadsNumber}
use Rattle.csvw_datatype_core.specs.LexicalNumbers.{plain_rules, IsLexicalNumber}

-- all bytes are below 128
unfoldable pub AllAscii : List ℕ → Type 0
AllAscii cs = AllByRecursion (λ c. c < 128) cs

pub appended : (xs ys : List ℕ) → AllAscii xs → AllAscii ys → AllAscii (xs ++ ys)
unfolding AllAscii
appended [] ys h k = k
appended (x ∷ xs) ys h k = (h.0, appended xs ys h.1 k)

digits : (ds : List ℕ) → AllByRecursion IsAsciiDigit ds → AllAscii ds
unfolding AllAscii
digits [] h = tt
digits (d ∷ ds) h = (omega (arith, h.0), digits ds h.1)

sign : (s : Sign) → AllAscii (sign_text s)
unfolding AllAscii
sign NoSign = tt
sign Plus = (omega arith, tt)
sign Minus = (omega arith, tt)

grouped : (cs : List ℕ) → IsGrouped None cs → AllAscii cs
unfolding AllAscii
grouped [] h = absurd h
grouped (c ∷ []) h = (omega (arith, h), tt)
grouped (c ∷ d ∷ cs) h = (omega (arith, h.0), elim h.1 [ inl r ↦ grouped (d ∷ cs) r | inr r ↦ absurd (cc (r.0)) ])

whole : (cs : List ℕ) → (cs ≡ []) ⊎ IsGrouped None cs → AllAscii cs
unfolding AllAscii
whole cs h = elim h [ inl e ↦ let P : List ℕ → Type 0 = λ cs. AllAscii cs in subst P (sym e) tt | inr g ↦ grouped cs g ]

fraction : (f : Option (List ℕ)) → IsFraction plain_rules f → AllAscii (fraction_text (Some 46) f)
unfolding AllAscii
fraction None h = tt
fraction (Some ds) h = (omega arith, digits ds h.1)

mark : (m : Mark) → IsMarked plain_rules m → AllAscii (mark_text m)
unfolding AllAscii
mark Plain h = tt
mark Percent h = cc
mark PerMille h = cc

number : (cs : List ℕ) (z : ℤ) → ReadsNumber plain_rules cs z → AllAscii cs
number cs z r =
    let p = r.parts in
    let n = r.is_number in
    let P : List ℕ → Type 0 = λ cs. AllAscii cs in
    subst P (sym r.spelled) (appended _ _ (sign p.sign)
    (appended _ _ (whole p.whole n.whole) (appended _ _ (fraction p.fraction n.fraction) (mark p.mark n.mark))))

pub is_ascii : (cs : List ℕ) → AllAscii cs → IsAscii cs
unfolding AllAscii
is_ascii [] h i = omega arith
is_ascii (c ∷ cs) h zero = h.0
is_ascii (c ∷ cs) h (suc i) = is_ascii cs h.1 i

-- so what is said of its bytes is said of its characters
pub as_characters : (z : ℤ) (bytes : List ℕ) → IsLexicalNumber bytes z → IsLexicalNumber (chars bytes) z
as_characters z bytes l =
    let P : List ℕ → Type 0 = λ cs. IsLexicalNumber cs z in
    subst P (sym (chars-IsAscii bytes (is_ascii bytes (number bytes z l.reads)))) l

in_bytes : (cs : List ℕ) → AllAscii cs → encode_utf8_all cs ≡ cs
unfolding AllAscii
in_bytes [] h = refl
in_bytes (c ∷ cs) h = ap (λ x. x ++ encode_utf8_all cs) (encode_ascii c h.0) ∙ ap (λ x. c ∷ x) (in_bytes cs h.1)

-- and its characters in UTF-8 are they themselves
pub bytes_of : (z : ℤ) (cs : List ℕ) → IsLexicalNumber cs z → encode_utf8_all cs ≡ cs
bytes_of z cs l = in_bytes cs (number cs z l.reads)
