use Rattle.std.proofs.Common.{◌≡◌, ◌∙◌, ◌-◌, ◌∷◌, ◌++◌, List, ℕ, length, drop, chars, arith, refl, sym, ap}
use Rattle.std.specs.Prelude.{encode_utf8}
use Rattle.std.proofs.lemmas.Str.{IsUtf8-from_is_utf8, is_utf8-from_IsUtf8, chars_past_char}
use Rattle.csvw_text.specs.Strip.{strip_start}
use Rattle.csvw_text.proofs.StripLemmas.{back_more, no_chars}
use Rattle.csvw_text.proofs.StripLemmas.{start_stays, start_goes}
use Rattle.csvw_text.proofs.strip.strip_start.Goals as goal

pub loop-c-init : goal.loop-c-init
loop-c-init c =
    let text : List ℕ = c.args.text.now in
    record {
      within = omega arith;
      back = ap (λ n. drop n text) (let z : length text - length text ≡ 0 = omega arith in z);
      is_text = is_utf8-from_IsUtf8 text c.utf8.text;
      same = refl;
    }

pub chars-behind-requires-text-self : goal.chars-behind-requires-text-self
chars-behind-requires-text-self c = λ a. IsUtf8-from_is_utf8 c.loop-c.rest.now c.loop-c.invariant.is_text

pub returns-in_default-clause-chars : goal.returns-in_default-clause-chars
returns-in_default-clause-chars c =
    let none = no_chars c.loop-c.rest.now (ap length (sym c.chars-behind.ensures.rest) ∙ c.in_default.ensures.steps.0.0) in
    none ∙ sym (c.loop-c.invariant.same ∙ ap strip_start none)

pub returns-then-not-is_white-clause-chars : goal.returns-then-not-is_white-clause-chars
returns-then-not-is_white-clause-chars c =
    let rest : List ℕ = c.loop-c.rest.now in
    let behind : List ℕ = c.next.new.self.rest.now in
    let k = c.in-Some.c in
    let i = c.loop-c.invariant in
    let same : chars rest ≡ k ∷ chars behind =
    chars_past_char rest behind k (IsUtf8-from_is_utf8 rest i.is_text) (sym c.chars-behind.ensures.rest ∙ c.in-Some.ensures.steps.0) in
    same ∙ sym (i.same ∙ ap strip_start same ∙ start_stays k (chars behind) (sym c.is_white.ensures ∙ c.if-not-is_white.true))

pub loop-c-preserved : goal.loop-c-preserved
loop-c-preserved c =
    let text : List ℕ = c.args.text.now in
    let rest : List ℕ = c.loop-c.rest.now in
    let behind : List ℕ = c.as_str-rest.result.now in
    let k = c.in-Some.c in
    let i = c.loop-c.invariant in
    let u = IsUtf8-from_is_utf8 rest i.is_text in
    let spelled : rest ≡ encode_utf8 k ++ behind = sym c.chars-behind.ensures.rest ∙ c.in-Some.ensures.steps.0
    ∙ ap (λ l. encode_utf8 k ++ l) (sym c.as_str-rest.ensures) in
    let b = back_more text rest (encode_utf8 k) behind i.within i.back spelled in
    record {
      within = b.0;
      back = b.1;
      is_text = is_utf8-from_IsUtf8 behind c.as_str-rest.utf8;
      same = i.same ∙ ap strip_start (chars_past_char rest behind k u spelled) ∙ start_goes k (chars behind) (sym c.is_white.ensures ∙ c.if-not-is_white.false);
    }
