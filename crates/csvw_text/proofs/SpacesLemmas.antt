-- The pass writes the collapsed text.
use Rattle.std.proofs.Common.{◌≡◌, ℕ, true, false, cond, List, [], ◌∷◌, ◌++◌, refl, sym, ap, ap₂, ◌∙◌, ⊎_elim, ◌==◌, append_assoc, arith}
use Rattle.std.proofs.Common.{encode_utf8, encode_utf8_all}
use Rattle.std.proofs.lemmas.Bool.{cases_Bool, cond-true, cond-false}
use Rattle.std.proofs.lemmas.Bool.Decides.{nat_tests}
use Rattle.std.proofs.lemmas.List.Concat.{flat_map-append}
use Rattle.csvw_text.specs.declared.spaces.Stand.{Stand}
use Rattle.csvw_text.specs.declared.spaces.Stand.TheVariants.{Front, Word, Gap}
use Rattle.csvw_text.specs.Collapse.{is_break, is_space, spaced, unled, before_word, single, collapse}
use Rattle.csvw_text.specs.Spaces.{next, pushed, with_gap, rest}

unled_twice : (xs : List ℕ) → unled (unled xs) ≡ unled xs
unled_twice [] = refl
unled_twice (c ∷ cs) =
    ⊎_elim (λ (t : (c == 32) ≡ true). ap unled (cond-true _ _ _ t) ∙ unled_twice cs ∙ sym (cond-true (c == 32) (unled cs) (c ∷ cs) t))
    (λ (f : (c == 32) ≡ false). ap unled (cond-false _ _ _ f)) (cases_Bool (c == 32))

unled-before_word : (xs : List ℕ) → unled (before_word xs) ≡ unled xs
unled-before_word [] = refl
unled-before_word (c ∷ cs) = refl

-- a space, and another character, after step 1
spaced_white : (c : ℕ) → is_space c ≡ true → cond (is_break c) 32 c ≡ 32
spaced_white c h = grind (arith, nat_tests)

spaced_other : (c : ℕ) → is_space c ≡ false → (cond (is_break c) 32 c ≡ c) × ((c == 32) ≡ false)
spaced_other c h = (grind (arith, nat_tests), grind (arith, nat_tests))

-- what each stand makes of the single spaces of the rest
abbrev made : Stand → List ℕ → List ℕ
made Front xs = unled xs
made Word xs = xs
made Gap xs = before_word (unled xs)

made_white : (s : Stand) (xs : List ℕ) → made s (before_word (unled xs)) ≡ made (next s true) xs
made_white Front xs = unled-before_word (unled xs) ∙ unled_twice xs
made_white Word xs = refl
made_white Gap xs = ap before_word (unled-before_word (unled xs) ∙ unled_twice xs)

made_other : (s : Stand) (c : ℕ) (xs : List ℕ) → (c == 32) ≡ false → made s (c ∷ xs) ≡ with_gap s c ++ xs
made_other Front c xs h = cond-false _ _ _ h
made_other Word c xs h = refl
made_other Gap c xs h = ap before_word (cond-false _ _ _ h)

made_nil : (s : Stand) → [] ≡ made s []
made_nil Front = refl
made_nil Word = refl
made_nil Gap = refl

next_word : (s : Stand) → next s false ≡ Word
next_word Front = refl
next_word Word = refl
next_word Gap = refl

pub rest_made : (s : Stand) (cs : List ℕ) → rest s cs ≡ made s (single (spaced cs))
rest_made s [] = made_nil s
rest_made s (c ∷ cs) =
    let tail = single (spaced cs) in
    let S : ℕ → List ℕ = λ x. made s (cond (x == 32) (before_word (unled tail)) (x ∷ tail)) in
    ⊎_elim
    (λ (t : is_space c ≡ true).
    ap (λ b. cond b [] (with_gap s c) ++ rest (next s b) cs) t ∙ rest_made (next s true) cs ∙ sym (made_white s tail) ∙ sym (ap S (spaced_white c t)))
    (λ (f : is_space c ≡ false).
    let o = spaced_other c f in
    ap (λ b. cond b [] (with_gap s c) ++ rest (next s b) cs) f
    ∙ ap (λ xs. with_gap s c ++ xs) (rest_made (next s false) cs ∙ ap (λ q. made q tail) (next_word s))
    ∙ sym (made_other s c tail o.1) ∙ sym (ap (made s) (cond-false (c == 32) (before_word (unled tail)) (c ∷ tail) o.1)) ∙ sym (ap S o.0))
    (cases_Bool (is_space c))

pub rest_collapse : (cs : List ℕ) → rest Front cs ≡ collapse cs
rest_collapse cs = rest_made Front cs

-- what the pass has written and what it writes for the rest, one character on
pub goes_on : (out longer : List ℕ) (stand after : Stand) (yielded : List ℕ) (c : ℕ) → longer ≡ out ++ encode_utf8_all (pushed stand c)
    → after ≡ next stand (is_space c)
    → ((tail : List ℕ) → out ++ encode_utf8_all (rest stand tail) ≡ encode_utf8_all (rest Front (yielded ++ tail))) → (tail : List ℕ)
    → longer ++ encode_utf8_all (rest after tail) ≡ encode_utf8_all (rest Front ((yielded ++ c ∷ []) ++ tail))
goes_on out longer stand after yielded c pushes moves written tail =
    ap₂ (λ l s. l ++ encode_utf8_all (rest s tail)) pushes moves
    ∙ append_assoc out (encode_utf8_all (pushed stand c)) (encode_utf8_all (rest (next stand (is_space c)) tail))
    ∙ ap (λ l. out ++ l) (sym (flat_map-append encode_utf8 (pushed stand c) (rest (next stand (is_space c)) tail))) ∙ written (c ∷ tail)
    ∙ ap (λ l. encode_utf8_all (rest Front l)) (sym (append_assoc yielded (c ∷ []) tail))
