-- A document whose bytes are read line by line: what was read and what is left make up the whole.
use Rattle.std.proofs.Common.{◌≡◌, ◌<◌, ◌+◌, ℕ, zero, suc, List, [], ◌∷◌, ◌++◌, Bool, true, false, length, take, drop, get_or, refl, sym, ap, ◌∙◌, subst}
use Rattle.std.proofs.Common.{arith, append_assoc, append-nil, length-append, ◌⊎◌, inl, inr, chars, Option, Some, None, ◌==◌}
use Rattle.std.specs.Prelude.{IsUtf8, encode_utf8_all, is_some, option_to_list}
use Rattle.std.specs.List.{slice_split, AllByRecursion}
use Rattle.std.proofs.lemmas.Grind.{common_steps}
use Rattle.std.proofs.lemmas.Bool.Decides.{nat_tests}
use Rattle.std.proofs.Math.Seq.{get_or-append_seam}
use Rattle.std.proofs.lemmas.Str.{IsUtf8-nil, IsUtf8-append, IsUtf8-take, IsUtf8-drop, IsUtf8-from_ascii}
use Rattle.std.proofs.lemmas.Str.{IsCharBoundary-before_ascii, IsCharBoundary-after_ascii, chars-nil, chars-append, chars-IsAscii, encodes-chars, encode_ascii}
use Rattle.csvw_ntriples.specs.Character.{is_break}
use Rattle.csvw_ntriples.specs.Grammar.{AreLines, Denotes}
use Rattle.csvw_ntriples.specs.Passing.{Passes, IsFirstLine, BeginsWrong, BytesGive}
use Rattle.csvw_ntriples.specs.declared.term.NtTriple.{NtTriple}
use Rattle.csvw_ntriples.proofs.Lines.{NoBreak, line_front, line_none, split_no_break}
use Rattle.csvw_ntriples.proofs.Once.{denotes_once}

-- a line break is ASCII
low : (c : ℕ) → is_break c ≡ true → c < 128
low c e = by_test (c == 13) refl
  where
    by_test : (b : Bool) → (c == 13) ≡ b → c < 128
    by_test true k = let x : c ≡ 13 = grind (arith, nat_tests) in omega (arith, x)
    by_test false k =
        let y : (c == 10) ≡ true = grind arith in
        let x : c ≡ 10 = grind (arith, nat_tests) in
        omega (arith, x)

ascii_one : (c : ℕ) → c < 128 → (i : ℕ) → get_or (c ∷ []) i 0 < 128
ascii_one c h zero = h
ascii_one c h (suc i) = omega arith

chars_break : (a b : List ℕ) (c : ℕ) → c < 128 → IsUtf8 a → chars (a ++ c ∷ b) ≡ chars a ++ c ∷ chars b
chars_break a b c h u =
    let one : chars (c ∷ b) ≡ c ∷ chars b = chars-append (c ∷ []) b (IsUtf8-from_ascii (c ∷ []) (ascii_one c h))
    ∙ ap (λ l. l ++ chars b) (chars-IsAscii (c ∷ []) (ascii_one c h)) in
    chars-append a (c ∷ b) u ∙ ap (λ l. chars a ++ l) one

utf8_up : (a b : List ℕ) (c : ℕ) → c < 128 → IsUtf8 a → IsUtf8 b → IsUtf8 (a ++ c ∷ b)
utf8_up a b c h u v = IsUtf8-append a (c ∷ b) u (IsUtf8-append (c ∷ []) b (IsUtf8-from_ascii (c ∷ []) (ascii_one c h)) v)

take_seam : (a b : List ℕ) → take (length a) (a ++ b) ≡ a
take_seam a b = grind (arith, common_steps)

drop_seam : (a b : List ℕ) (c : ℕ) → drop (length a + 1) (a ++ c ∷ b) ≡ b
drop_seam [] b c = refl
drop_seam (x ∷ a) b c = ap (λ n. drop n (x ∷ a ++ c ∷ b)) (let e : length (x ∷ a) + 1 ≡ suc (length a + 1) = omega arith in e) ∙ drop_seam a b c

utf8_down : (a b : List ℕ) (c : ℕ) → c < 128 → IsUtf8 (a ++ c ∷ b) → IsUtf8 a × IsUtf8 b
utf8_down a b c h u =
    let whole = a ++ c ∷ b in
    let n = length a in
    let within : n < length whole = omega (arith, length-append a (c ∷ b)) in
    let ascii : get_or whole n 0 < 128 = omega (arith, get_or-append_seam a c b 0, h) in (
      subst IsUtf8 (take_seam a (c ∷ b)) (IsUtf8-take whole n u (IsCharBoundary-before_ascii whole n within ascii)),
      subst IsUtf8 (drop_seam a b c) (IsUtf8-drop whole (n + 1) u (IsCharBoundary-after_ascii whole n u within ascii)),
    )

-- the lines on both sides of a line break
abbrev Some_lines : List ℕ → Type 0
Some_lines text = (line : List ℕ) × (more : List (List ℕ)) × (slice_split is_break text ≡ line ∷ more)

some_lines : (text : List ℕ) → Some_lines text
some_lines [] = ([], [], refl)
some_lines (x ∷ text) = by_test (is_break x) refl (some_lines text)
  where
    by_test : (b : Bool) → is_break x ≡ b → Some_lines text → Some_lines (x ∷ text)
    by_test true e h = ([], slice_split is_break text, rw e refl)
    by_test false e h = (x ∷ h.0, h.1, rw (e, h.2) refl)

abbrev Joins : List ℕ → List ℕ → ℕ → Type 0
Joins a b c = slice_split is_break (a ++ c ∷ b) ≡ slice_split is_break a ++ slice_split is_break b

split_join : (a b : List ℕ) (c : ℕ) → is_break c ≡ true → Joins a b c
split_join [] b c e = rw e refl
split_join (x ∷ a) b c e = by_test (is_break x) refl (split_join a b c e)
  where
    by_test : (t : Bool) → is_break x ≡ t → Joins a b c → Joins (x ∷ a) b c
    by_test true k h = rw (k, h) refl
    by_test false k h = let s = some_lines a in rw (k, h, s.2) refl

lines_up : (ls ms : List (List ℕ)) (xs ys : List NtTriple) → AreLines ls xs → AreLines ms ys → AreLines (ls ++ ms) (xs ++ ys)
lines_up [] ms xs ys f g = subst (λ (z : List NtTriple). AreLines ms (z ++ ys)) (sym f) g
lines_up (l ∷ ls) ms xs ys (inl f) g = inl (f.0, lines_up ls ms xs ys f.1 g)
lines_up (l ∷ ls) ms xs ys (inr f) g = inr (f.0, f.1 ++ ys, ap (λ z. z ++ ys) f.2, f.3, lines_up ls ms f.1 ys f.4 g)

lines_down : (ls ms : List (List ℕ)) (ts : List NtTriple) → AreLines (ls ++ ms) ts
    → (xs ys : List NtTriple) × (ts ≡ xs ++ ys) × AreLines ls xs × AreLines ms ys
lines_down [] ms ts f = ([], ts, refl, refl, f)
lines_down (l ∷ ls) ms ts (inl f) = let r = lines_down ls ms ts f.1 in (r.0, r.1, r.2, inl (f.0, r.3), r.4)
lines_down (l ∷ ls) ms ts (inr f) =
    let r = lines_down ls ms f.1 f.4 in
    (f.0 ∷ r.0, r.1, f.2 ∙ ap (λ z. f.0 ∷ z) r.2, inr (f.0, r.0, refl, f.3, r.3), r.4)

-- a document with a line break is two documents
joined_lines : (a b : List ℕ) (c : ℕ) → is_break c ≡ true → IsUtf8 a
    → slice_split is_break (chars (a ++ c ∷ b)) ≡ slice_split is_break (chars a) ++ slice_split is_break (chars b)
joined_lines a b c k u = ap (slice_split is_break) (chars_break a b c (low c k) u) ∙ split_join (chars a) (chars b) c k

join : (a b : List ℕ) (c : ℕ) (xs ys : List NtTriple) → is_break c ≡ true → Denotes a xs → Denotes b ys → Denotes (a ++ c ∷ b) (xs ++ ys)
join a b c xs ys k f g = (
  utf8_up a b c (low c k) f.0 g.0,
  subst (λ (z : List (List ℕ)). AreLines z (xs ++ ys)) (sym (joined_lines a b c k f.0))
      (lines_up (slice_split is_break (chars a)) (slice_split is_break (chars b)) xs ys f.1 g.1),
)

part : (a b : List ℕ) (c : ℕ) (ts : List NtTriple) → is_break c ≡ true → Denotes (a ++ c ∷ b) ts
    → (xs ys : List NtTriple) × (ts ≡ xs ++ ys) × Denotes a xs × Denotes b ys
part a b c ts k f =
    let u = utf8_down a b c (low c k) f.0 in
    let lines = subst (λ (z : List (List ℕ)). AreLines z ts) (joined_lines a b c k u.0) f.1 in
    let r = lines_down (slice_split is_break (chars a)) (slice_split is_break (chars b)) ts lines in
    (r.0, r.1, r.2, (u.0, r.3), (u.1, r.4))

nothing : Denotes [] []
nothing = (IsUtf8-nil, subst (λ (z : List ℕ). AreLines (slice_split is_break z) []) (sym chars-nil) (inl (tt, refl)))

only_nothing : (ts : List NtTriple) → Denotes [] ts → ts ≡ []
only_nothing ts f = denotes_once [] ts [] f nothing

-- a line without its break
all_right : (xs ys : List ℕ) → AllByRecursion NoBreak (xs ++ ys) → AllByRecursion NoBreak ys
all_right [] ys h = h
all_right (x ∷ xs) ys h = all_right xs ys h.1

chars_unbroken : (cs : List ℕ) → AllByRecursion NoBreak (encode_utf8_all cs) → AllByRecursion NoBreak cs
chars_unbroken [] h = tt
chars_unbroken (c ∷ cs) h = (by_test (is_break c) refl, chars_unbroken cs (all_right _ (encode_utf8_all cs) h))
  where
    by_test : (b : Bool) → is_break c ≡ b → is_break c ≡ false
    by_test false e = e
    by_test true e = (subst (λ (l : List ℕ). AllByRecursion NoBreak (l ++ encode_utf8_all cs)) (encode_ascii c (low c e)) h).0

one_line : (line : List ℕ) → IsUtf8 line → AllByRecursion NoBreak line → slice_split is_break (chars line) ≡ chars line ∷ []
one_line line u h = split_no_break (chars line) (chars_unbroken (chars line) (subst (AllByRecursion NoBreak) (sym (encodes-chars line u)) h))

pub line_denotes : (line : List ℕ) (o : Option NtTriple) → AllByRecursion NoBreak line → BytesGive line o → Denotes line (option_to_list o)
line_denotes line o h g =
    let one = subst (AreLines (chars line ∷ [])) (append-nil (option_to_list o)) (line_front (chars line) [] o [] g.1 refl) in
    (g.0, subst (λ (z : List (List ℕ)). AreLines z (option_to_list o)) (sym (one_line line g.0 h)) one)

pub line_wrong : (line : List ℕ) (ts : List NtTriple) → AllByRecursion NoBreak line → ((o : Option NtTriple) → BytesGive line o → ⊥) → Denotes line ts → ⊥
line_wrong line ts h none d =
    line_none (chars line) [] ts (λ o g. none o (d.0, g)) (subst (λ (z : List (List ℕ)). AreLines z ts) (one_line line d.0 h) d.1)

-- one line more, and more of it
pub passes_first : (bytes line rest : List ℕ) (ts : List NtTriple) → IsFirstLine bytes line rest → Denotes line ts → Passes bytes ts rest
passes_first bytes line rest ts (n, inl f) d = inr (inr (f.1, subst (λ (z : List ℕ). Denotes z ts) (sym f.0) d))
passes_first bytes line rest ts (n, inr f) d = inr (inl (line, f.0, f.1, f.2, d))

pub passes_on : (a b c : List ℕ) (xs ys : List NtTriple) → Passes a xs b → Passes b ys c → Passes a (xs ++ ys) c
passes_on a b c xs ys (inl f) g =
    subst (λ (z : List NtTriple). Passes a (z ++ ys) c) (sym f.1) (subst (λ (z : List ℕ). Passes z ys c) (sym f.0) g)
passes_on a b c xs ys (inr f) (inl g) =
    subst (λ (z : List NtTriple). Passes a (xs ++ z) c) (sym g.1)
    (subst (λ (z : List NtTriple). Passes a z c) (sym (append-nil xs)) (subst (Passes a xs) g.0 (inr f)))
passes_on a b c xs ys (inr (inl f)) (inr (inl g)) =
    let whole = f.2 ∙ ap (λ z. f.0 ++ f.1 ∷ z) g.2 ∙ sym (append_assoc f.0 (f.1 ∷ g.0) (g.1 ∷ c)) in
    inr (inl (f.0 ++ f.1 ∷ g.0, g.1, whole, g.3, join f.0 g.0 f.1 xs ys f.3 f.4 g.4))
passes_on a b c xs ys (inr (inl f)) (inr (inr g)) =
    inr (inr (g.0, subst (λ (z : List ℕ). Denotes z (xs ++ ys)) (sym f.2) (join f.0 b f.1 xs ys f.3 f.4 g.1)))
passes_on a b c xs ys (inr (inr f)) (inr (inl g)) =
    absurd (omega (arith, ap length f.0, ap length g.2, length-append g.0 (g.1 ∷ c)))
passes_on a b c xs ys (inr (inr f)) (inr (inr g)) =
    let none = only_nothing ys (subst (λ (z : List ℕ). Denotes z ys) f.0 g.1) in
    let same : xs ≡ xs ++ ys = sym (append-nil xs) ∙ ap (λ z. xs ++ z) (sym none) in
    inr (inr (g.0, subst (Denotes a) same f.1))

pub passes_all : (bytes : List ℕ) (ts : List NtTriple) → Passes bytes ts [] → Denotes bytes ts
passes_all bytes ts (inl f) = subst (λ (z : List ℕ). Denotes z ts) (sym f.0) (subst (Denotes []) (sym f.1) nothing)
passes_all bytes ts (inr (inl f)) =
    subst (λ (z : List ℕ). Denotes z ts) (sym f.2)
    (subst (Denotes (f.0 ++ f.1 ∷ [])) (append-nil ts) (join f.0 [] f.1 ts [] f.3 f.4 nothing))
passes_all bytes ts (inr (inr f)) = f.1

pub passes_up : (bytes rest : List ℕ) (ts us : List NtTriple) → Passes bytes ts rest → Denotes rest us → Denotes bytes (ts ++ us)
passes_up bytes rest ts us p d = passes_all bytes (ts ++ us) (passes_on bytes rest [] ts us p (inr (inr (refl, d))))

pub passes_down : (bytes rest : List ℕ) (ts all : List NtTriple) → Passes bytes ts rest → Denotes bytes all
    → (us : List NtTriple) × (all ≡ ts ++ us) × Denotes rest us
passes_down bytes rest ts all (inl f) d = (all, ap (λ z. z ++ all) (sym f.1), subst (λ (z : List ℕ). Denotes z all) f.0 d)
passes_down bytes rest ts all (inr (inl f)) d =
    let r = part f.0 rest f.1 all f.3 (subst (λ (z : List ℕ). Denotes z all) f.2 d) in
    (r.1, r.2 ∙ ap (λ z. z ++ r.1) (denotes_once f.0 r.0 ts r.3 f.4), r.4)
passes_down bytes rest ts all (inr (inr f)) d =
    ([], denotes_once bytes all ts d f.1 ∙ sym (append-nil ts), subst (λ (z : List ℕ). Denotes z []) (sym f.0) nothing)

pub wrong_denotes_none : (bytes : List ℕ) (ts : List NtTriple) → BeginsWrong bytes → Denotes bytes ts → ⊥
wrong_denotes_none bytes ts (line, rest, (n, inl f), none) d = none ts (subst (λ (z : List ℕ). Denotes z ts) f.0 d)
wrong_denotes_none bytes ts (line, rest, (n, inr f), none) d =
    let r = part line rest f.0 ts f.2 (subst (λ (z : List ℕ). Denotes z ts) f.1 d) in none r.0 r.3

-- a first line that denotes nothing is never passed
clash : (c d : ℕ) → is_break c ≡ true → is_break d ≡ false → c ≡ d → ⊥
clash c d e n same = let z : true ≡ false = sym e ∙ ap is_break same ∙ n in absurd cc

abbrev Reaches : List ℕ → ℕ → List ℕ → Type 0
Reaches line k front = (front ≡ line) ⊎ ((more : List ℕ) × (front ≡ line ++ k ∷ more))

reaches : (line front rest new : List ℕ) (k c : ℕ) → AllByRecursion NoBreak line → is_break c ≡ true → front ++ c ∷ new ≡ line ++ k ∷ rest
    → Reaches line k front
reaches [] [] rest new k c n e w = inl refl
reaches [] (x ∷ front) rest new k c n e w = inr (front, ap (λ z. z ∷ front) (let h : x ≡ k = ap (λ z. get_or z 0 0) w in h))
reaches (l ∷ line) [] rest new k c n e w = absurd (clash c l e n.0 (ap (λ z. get_or z 0 0) w))
reaches (l ∷ line) (x ∷ front) rest new k c n e w =
    let h : x ≡ l = ap (λ z. get_or z 0 0) w in
    elim (reaches line front rest new k c n.1 e (ap (drop 1) w)) [
      | inl same ↦ inl (ap (λ z. z ∷ front) h ∙ ap (λ z. l ∷ z) same)
      | inr more ↦ inr (more.0, ap (λ z. z ∷ front) h ∙ ap (λ z. l ∷ z) more.1)
    ]

unended : (line front new : List ℕ) (c : ℕ) → AllByRecursion NoBreak line → is_break c ≡ true → front ++ c ∷ new ≡ line → ⊥
unended [] [] new c n e w = absurd cc
unended [] (x ∷ front) new c n e w = absurd cc
unended (l ∷ line) [] new c n e w = clash c l e n.0 (ap (λ z. get_or z 0 0) w)
unended (l ∷ line) (x ∷ front) new c n e w = unended line front new c n.1 e (ap (drop 1) w)

pub still_wrong : (bytes rest : List ℕ) (t : NtTriple) → BeginsWrong bytes → Passes bytes (t ∷ []) rest → ⊥
still_wrong bytes rest t w (inl (same, none)) = absurd cc
still_wrong bytes rest t w (inr (inr f)) = wrong_denotes_none bytes (t ∷ []) w f.1
still_wrong bytes rest t (line, after, (n, inl g), none) (inr (inl f)) = unended line f.0 rest f.1 n f.3 (sym f.2 ∙ g.0)
still_wrong bytes rest t (line, after, (n, inr g), none) (inr (inl f)) =
    elim (reaches line f.0 after rest g.0 f.1 n f.3 (sym f.2 ∙ g.1)) [
      | inl same ↦ none (t ∷ []) (subst (λ (z : List ℕ). Denotes z (t ∷ [])) same f.4)
      | inr more ↦
          let r = part line more.0 g.0 (t ∷ []) g.2 (subst (λ (z : List ℕ). Denotes z (t ∷ [])) more.1 f.4) in
          none r.0 r.3
    ]

pub never_left : (bytes rest : List ℕ) → length rest ≡ 0 → Passes bytes [] rest → BeginsWrong bytes → ⊥
never_left bytes [] n p w = wrong_denotes_none bytes [] w (passes_all bytes [] p)
never_left bytes (x ∷ rest) n p w = absurd (omega (arith, n))

-- one line is read
module _ (a b line rest : List ℕ) (o : Option NtTriple) (p : Passes a [] b) (f : IsFirstLine b line rest) (g : BytesGive line o) where
  pub line_read : Passes a (option_to_list o) rest
  line_read = passes_on a b rest [] (option_to_list o) p (passes_first b line rest (option_to_list o) f (line_denotes line o f.0 g))

  pub line_idle : is_some o ≡ false → Passes a [] rest
  line_idle n = subst (λ (z : List NtTriple). Passes a z rest) (none_of o n) line_read
    where
      none_of : (x : Option NtTriple) → is_some x ≡ false → option_to_list x ≡ []
      none_of None e = refl
      none_of (Some t) e = absurd cc

  pub line_stays : is_some o ≡ true → BeginsWrong a → ⊥
  line_stays s w = by_some o s line_read
    where
      by_some : (x : Option NtTriple) → is_some x ≡ true → Passes a (option_to_list x) rest → ⊥
      by_some None e h = absurd cc
      by_some (Some t) e h = still_wrong a rest t w h

pub line_refused : (b line rest : List ℕ) → IsFirstLine b line rest → ((o : Option NtTriple) → BytesGive line o → ⊥) → BeginsWrong b
line_refused b line rest f none = (line, rest, f, λ ts. line_wrong line ts f.0 none)

-- all lines are read
pub read_on : (bytes old new : List ℕ) (before after : List NtTriple) (t : NtTriple) → Passes bytes before old → Passes old (t ∷ []) new
    → after ≡ before ++ t ∷ [] → Passes bytes after new
read_on bytes old new before after t p q e =
    subst (λ (z : List NtTriple). Passes bytes z new) (sym e) (passes_on bytes old new before (t ∷ []) p q)

pub read_all : (bytes old new : List ℕ) (before all : List NtTriple) → Passes bytes before old → Passes old [] new → new ≡ [] → all ≡ before
    → Denotes bytes all
read_all bytes old new before all p q e s =
    let whole = passes_on bytes old new before [] p q in
    let same : before ++ [] ≡ all = append-nil before ∙ sym s in
    passes_all bytes all (subst (λ (z : List NtTriple). Passes bytes z []) same (subst (Passes bytes (before ++ [])) e whole))

pub read_none : (bytes old new : List ℕ) (before ts : List NtTriple) → Passes bytes before old → Passes old [] new → BeginsWrong new
    → Denotes bytes ts → ⊥
read_none bytes old new before ts p q w d =
    let r = passes_down bytes new (before ++ []) ts (passes_on bytes old new before [] p q) d in
    wrong_denotes_none new r.0 w r.2
