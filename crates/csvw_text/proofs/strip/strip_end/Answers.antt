use Rattle.std.proofs.Common.{◌≡◌, ◌∙◌, ◌∷◌, [], ◌++◌, List, ℕ, length, chars, arith, refl, sym, ap}
use Rattle.std.specs.Prelude.{encode_utf8}
use Rattle.std.proofs.lemmas.Str.{IsUtf8-from_is_utf8, is_utf8-from_IsUtf8}
use Rattle.csvw_text.specs.Strip.{strip_end}
use Rattle.csvw_text.proofs.StripLemmas.{no_chars, take_whole}
use Rattle.csvw_text.proofs.StripLemmas.{end_stays, end_goes, last_char, front_less}
use Rattle.csvw_text.proofs.strip.strip_end.Goals as goal

pub loop-c-init : goal.loop-c-init
loop-c-init c =
    let text : List ℕ = c.args.text.now in
    record { within = omega arith; front = take_whole text; is_text = is_utf8-from_IsUtf8 text c.utf8.text; same = refl }

pub chars-before-requires-text-self : goal.chars-before-requires-text-self
chars-before-requires-text-self c = λ a. IsUtf8-from_is_utf8 c.loop-c.rest.now c.loop-c.invariant.is_text

pub returns-in_default-clause-chars : goal.returns-in_default-clause-chars
returns-in_default-clause-chars c =
    let none = no_chars c.loop-c.rest.now (ap length (sym c.chars-before.ensures.rest) ∙ c.in_default.ensures.steps.0) in
    none ∙ sym (c.loop-c.invariant.same ∙ ap strip_end none)

pub returns-then-not-is_white-clause-chars : goal.returns-then-not-is_white-clause-chars
returns-then-not-is_white-clause-chars c =
    let rest : List ℕ = c.loop-c.rest.now in
    let before : List ℕ = c.as_str-front.result.now in
    let k = c.in-Some.c in
    let i = c.loop-c.invariant in
    let spelled : rest ≡ before ++ encode_utf8 k = sym c.chars-before.ensures.rest ∙ c.in-Some.ensures.steps
    ∙ ap (λ l. l ++ encode_utf8 k) (sym c.as_str-front.ensures) in
    let same : chars rest ≡ chars before ++ k ∷ [] = last_char rest before k (IsUtf8-from_is_utf8 rest i.is_text) c.as_str-front.utf8 spelled in
    same ∙ sym (i.same ∙ ap strip_end same ∙ end_stays (chars before) k (sym c.is_white.ensures ∙ c.if-not-is_white.true))

pub loop-c-preserved : goal.loop-c-preserved
loop-c-preserved c =
    let text : List ℕ = c.args.text.now in
    let rest : List ℕ = c.loop-c.rest.now in
    let before : List ℕ = c.as_str-front.result.now in
    let k = c.in-Some.c in
    let i = c.loop-c.invariant in
    let spelled : rest ≡ before ++ encode_utf8 k = sym c.chars-before.ensures.rest ∙ c.in-Some.ensures.steps
    ∙ ap (λ l. l ++ encode_utf8 k) (sym c.as_str-front.ensures) in
    let same : chars rest ≡ chars before ++ k ∷ [] = last_char rest before k (IsUtf8-from_is_utf8 rest i.is_text) c.as_str-front.utf8 spelled in
    let b = front_less text rest before (encode_utf8 k) i.within i.front spelled in
    record {
      within = b.0;
      front = b.1;
      is_text = is_utf8-from_IsUtf8 before c.as_str-front.utf8;
      same = i.same ∙ ap strip_end same ∙ end_goes (chars before) k (sym c.is_white.ensures ∙ c.if-not-is_white.false);
    }
