-- Each pair of doubled quotes adds a quote to a field inside quotes.
use Rattle.std.proofs.Common.{◌≡◌, ◌∙◌, ℕ, zero, suc, ◌+◌, ◌<◌, ◌≤◌, Bool, true, false, ◌&&◌, ◌==◌, if◌then◌else◌, List, [], ◌∷◌, ◌++◌, length, take, drop}
use Rattle.std.proofs.Common.{get_or, Some, refl, sym, ap, subst, arith, add-one, append-nil, append_assoc, length-take, inr, chars}
use Rattle.std.specs.Prelude.{IsUtf8, slice_index}
use Rattle.std.specs.Str.{IsCharBoundary}
use Rattle.std.proofs.lemmas.Bool.Decides.{nat_tests}
use Rattle.std.proofs.lemmas.List.{get_or-take}
use Rattle.std.proofs.lemmas.Str.{chars-nil, chars-IsAscii, IsUtf8-from_ascii, IsCharBoundary-start, IsCharBoundary-after_ascii}
use Rattle.csvw_records.specs.Lawful.{IsLawful}
use Rattle.csvw_records.specs.declared.dialect.Dialect.{Dialect}
use Rattle.csvw_fields.specs.FieldText.{AreDoubled}
use Rattle.csvw_fields.proofs.CleanLemmas.{alone}
use Rattle.csvw_fields.proofs.CutLemmas.{no_term}
use Rattle.csvw_fields.proofs.Ascii.{split_chars}
use Rattle.csvw_fields.proofs.Tests.{differs, no_end}
use Rattle.csvw_records.specs.PassLaws.{act_run, ends_at}
use Rattle.csvw_records.specs.Grammar.{terminator_len}
use Rattle.csvw_records.specs.Scan.{quote_is, step_of, run}
use Rattle.csvw_records.specs.declared.scan.State.{State}
use Rattle.csvw_records.specs.declared.scan.State.TheVariants.{Inside, Closed}
use Rattle.csvw_records.specs.declared.stop.RowStop.TheVariants.{TextAfterQuote}
use Rattle.csvw_records.specs.declared.scan.Step.{Step}
use Rattle.csvw_records.specs.declared.scan.Step.TheVariants.{Keep, Skip, Next, End, Stop}

-- each is this character
abbrev pub AllAre : ℕ → List ℕ → Type 0
AllAre q [] = Unit {0}
AllAre q (c ∷ cs) = (c ≡ q) × AllAre q cs

pub all_are : (q : ℕ) (l : List ℕ) → ((k : ℕ) → k < length l → slice_index l k ≡ q) → AllAre q l
all_are q [] h = tt
all_are q (c ∷ cs) h = (h 0 (omega arith), all_are q cs (λ k m. h (suc k) (omega (arith, m))))

module _ (d : Dialect) (q : ℕ) (law : IsLawful d) (double : d.double_quote ≡ true) (is : d.quote_char ≡ Some q) where
  no_break : (c : ℕ) (rest : List ℕ) → c ≡ q → terminator_len d (c ∷ rest) ≡ 0
  no_break c [] e = alone d c (λ f. law.quote_lf (is ∙ ap Some (sym e ∙ f)))
  no_break c (x ∷ rest) e = no_term d c x rest (λ f. law.quote_lf (is ∙ ap Some (sym e ∙ f)))
      (inr (test d.line_terminators.crlf (c == 13) (differs c 13 (λ f. law.quote_cr (is ∙ ap Some (sym e ∙ f))))))
    where
      test : (a b : Bool) → b ≡ false → (a && b) ≡ false
      test a b f = grind arith

  quoted : (c : ℕ) → c ≡ q → quote_is d.quote_char c ≡ true
  quoted c e = ap (λ o. quote_is o c) is ∙ same c q e
    where
      same : (a b : ℕ) → a ≡ b → (a == b) ≡ true
      same a b e = grind (arith, nat_tests)

  closes : (c : ℕ) (ends : Bool) → c ≡ q → step_of d Inside c ends ≡ Skip Closed
  closes c ends e = test (quote_is d.quote_char c) _ (quoted c e)
    where
      test : (b : Bool) (s : Step) → b ≡ true → (if b then Skip Closed else s) ≡ Skip Closed
      test b s f = rw f refl

  opens : (c : ℕ) (rest : List ℕ) → c ≡ q → step_of d Closed c (ends_at d (c ∷ rest)) ≡ Keep Inside
  opens c rest e = test (ends_at d (c ∷ rest)) (c == d.delimiter) d.double_quote (quote_is d.quote_char c) (no_end d (c ∷ rest) (no_break c rest e))
      (differs c d.delimiter (λ f. law.apart (is ∙ ap Some (sym e ∙ f)))) double (quoted c e)
    where
      test : (ends b dbl quote : Bool) → ends ≡ false → b ≡ false → dbl ≡ true → quote ≡ true
          → (if ends then End else (if b then Next else (if dbl && quote then Keep Inside else Stop TextAfterQuote))) ≡ Keep Inside
      test ends b dbl quote f g h i = rw (f, g, h, i) refl

  doubled_run : (vs : List (List ℕ)) (cur xs ys after : List ℕ) → AllAre q xs → AllAre q ys → length xs ≡ length ys + length ys
      → run d Inside vs cur (xs ++ after) ≡ run d Inside vs (cur ++ ys) after
  doubled_run vs cur [] [] after a b e = ap (λ l. run d Inside vs l after) (sym (append-nil cur))
  doubled_run vs cur [] (y ∷ ys) after a b e = absurd (omega (arith, e))
  doubled_run vs cur (x ∷ []) [] after a b e = absurd (omega (arith, e))
  doubled_run vs cur (x ∷ []) (y ∷ ys) after a b e = absurd (omega (arith, e))
  doubled_run vs cur (x ∷ z ∷ xs) [] after a b e = absurd (omega (arith, e))
  doubled_run vs cur (x ∷ z ∷ xs) (y ∷ ys) after (first, (second, others)) b e =
      ap (act_run d vs cur x (z ∷ xs ++ after)) (closes x (ends_at d (x ∷ z ∷ xs ++ after)) first)
      ∙ ap (act_run d vs cur z (xs ++ after)) (opens z (xs ++ after) second)
      ∙ doubled_run vs (cur ++ z ∷ []) xs ys after others b.1 (omega (arith, e))
      ∙ ap (λ l. run d Inside vs l after) (append_assoc cur (z ∷ []) ys)
      ∙ ap (λ c. run d Inside vs (cur ++ c ∷ ys) after) (second ∙ sym b.0)

-- a front of ASCII characters
pub ascii_boundary : (l : List ℕ) (n : ℕ) → IsUtf8 l → n ≤ length l → ((k : ℕ) → k < n → slice_index l k < 128) → IsCharBoundary l n
ascii_boundary l zero u h low = IsCharBoundary-start l u
ascii_boundary l (suc k) u h low = subst (IsCharBoundary l) (add-one k) (IsCharBoundary-after_ascii l k u (omega (arith, h)) (low k (omega arith)))

taken_at : (l : List ℕ) (n q : ℕ) → n ≤ length l → ((k : ℕ) → k < n → slice_index l k ≡ q) → (k : ℕ) → k < length (take n l) → slice_index (take n l) k ≡ q
taken_at l n q h same k m = let here : k < n = omega (arith, m, h, length-take n l) in get_or-take n l k 0 here ∙ same k here

pub ascii_front : (l : List ℕ) (n q : ℕ) → q < 128 → n ≤ length l → ((k : ℕ) → k < n → slice_index l k ≡ q)
    → IsUtf8 (take n l) × (chars (take n l) ≡ take n l)
ascii_front l n q a h same = (IsUtf8-from_ascii (take n l) low, chars-IsAscii (take n l) low)
  where
    low : (i : ℕ) → get_or (take n l) i 0 < 128
    low i = by_place (take n l) i (taken_at l n q h same)
      where
        by_place : (x : List ℕ) (i : ℕ) → ((k : ℕ) → k < length x → slice_index x k ≡ q) → get_or x i 0 < 128
        by_place [] i f = omega arith
        by_place (y ∷ ys) zero f = let e = f 0 (omega arith) in omega (arith, e, a)
        by_place (y ∷ ys) (suc i) f = by_place ys i (λ k m. f (suc k) (omega (arith, m)))

pub quotes_run : (d : Dialect) (st : State) (vs : List (List ℕ)) (cur rest : List ℕ) (n : ℕ) → IsLawful d → AreDoubled d st rest n
    → run d st vs cur (chars rest) ≡ run d st vs (cur ++ chars (take n rest)) (chars (drop (n + n) rest))
quotes_run d st vs cur rest zero law h = ap (λ l. run d st vs l (chars rest)) (sym (append-nil cur) ∙ ap (λ l. cur ++ l) (sym chars-nil))
quotes_run d st vs cur rest (suc m) law h =
    let n = suc m in
    let some : 0 < n = omega arith in
    let within = h.within in
    let less : n ≤ length rest = omega (arith, within) in
    let two = ascii_front rest (n + n) h.quote h.ascii within h.quotes in
    let one = ascii_front rest n h.quote h.ascii less (λ k j. h.quotes k (omega (arith, j))) in
    let xs = all_are h.quote (take (n + n) rest) (taken_at rest (n + n) h.quote within h.quotes) in
    let ys = all_are h.quote (take n rest) (taken_at rest n h.quote less (λ k j. h.quotes k (omega (arith, j)))) in
    let long : length (take (n + n) rest) ≡ length (take n rest) + length (take n rest) =
    omega (arith, within, length-take (n + n) rest, length-take n rest) in
    ap (λ s. run d s vs cur (chars rest)) (h.inside some)
    ∙ ap (run d Inside vs cur) (split_chars rest (n + n) two.0 ∙ ap (λ l. l ++ chars (drop (n + n) rest)) two.1)
    ∙ doubled_run d h.quote law (h.double some) (h.quote_is some) vs cur (take (n + n) rest) (take n rest) (chars (drop (n + n) rest)) xs ys long
    ∙ ap (λ l. run d Inside vs (cur ++ l) (chars (drop (n + n) rest))) (sym one.1)
    ∙ ap (λ s. run d s vs (cur ++ chars (take n rest)) (chars (drop (n + n) rest))) (sym (h.inside some))
