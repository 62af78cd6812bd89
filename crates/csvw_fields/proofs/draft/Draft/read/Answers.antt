use Rattle.std.proofs.Common.{◌≡◌, ◌∙◌, ◌-◌, ◌++◌, List, ℕ, length, drop, chars, arith, refl, sym, ap}
use Rattle.csvw_records.specs.RecordLaws.{laws_of}
use Rattle.std.specs.Prelude.{encode_utf8}
use Rattle.std.specs.Str.{is_utf8}
use Rattle.std.proofs.lemmas.Str.{IsUtf8-from_is_utf8, is_utf8-from_IsUtf8}
use Rattle.csvw_fields.specs.Drafts.{values_of, runs_on}
use Rattle.csvw_records.specs.Scan.{Found, Broken}
use Rattle.csvw_fields.proofs.DraftLemmas.{over_char, back_more, no_chars}
use Rattle.csvw_fields.proofs.draft.Draft.read.Goals as goal

pub loop-left-init : goal.loop-left-init
loop-left-init c =
    let text : List ℕ = c.args.text.now in
    record {
      within = omega arith;
      back = ap (λ n. drop n text) (let z : length text - length text ≡ 0 = omega arith in z);
      is_text = is_utf8-from_IsUtf8 text c.utf8.text;
      read = refl;
      runs = refl;
    }

pub keep_text-requires-text-rest : goal.keep_text-requires-text-rest
keep_text-requires-text-rest c = λ a. IsUtf8-from_is_utf8 c.loop-left.rest.now c.loop-left.invariant.is_text

pub chars-behind-requires-text-self : goal.chars-behind-requires-text-self
chars-behind-requires-text-self c = λ a. IsUtf8-from_is_utf8 c.in_ok-left.left.now c.in_ok-left.ensures.keeps.is_text

pub returns-in_default : goal.returns-in_default
returns-in_default c =
    let d = c.args.rules.now.dialect in
    let i = c.loop-left.invariant in
    let k = c.in_ok-left.ensures.keeps in
    let e = c.in_default.ensures.steps.0.0 in
    (c.requires, i.runs ∙ k.runs ∙ ap (runs_on d c.keep_text.new.self) (no_chars c.in_ok-left.left.now (ap length (sym c.chars-behind.ensures.rest) ∙ e)))

pub loop-left-preserved : goal.loop-left-preserved
loop-left-preserved c =
    let d = c.args.rules.now.dialect in
    let text : List ℕ = c.args.text.now in
    let left : List ℕ = c.in_ok-left.left.now in
    let behind : List ℕ = c.as_str-rest.result.now in
    let k = c.in-Some.c in
    let i = c.loop-left.invariant in
    let q = c.in_ok-left.ensures.keeps in
    let spelled : left ≡ encode_utf8 k ++ behind = sym c.chars-behind.ensures.rest ∙ c.in-Some.ensures.steps.0
    ∙ ap (λ l. encode_utf8 k ++ l) (sym c.as_str-rest.ensures) in
    let m = over_char (laws_of c.record_laws.ensures) d text _ left behind k _ _ i.within i.back q.back q.is_text spelled
    c.as_bytes.ensures.value c.terminator_at-ends.ensures.value in
    let b = back_more text left (encode_utf8 k) behind m.within m.back spelled in
    let s = rw c.in-Unfinished.is at c.in_ok-step.ensures.steps in
    record {
      within = b.0;
      back = b.1;
      is_text = is_utf8-from_IsUtf8 behind c.as_str-rest.utf8;
      read = c.in_ok-step.ensures.read ∙ c.in_ok-left.ensures.read ∙ i.read;
      runs = i.runs ∙ q.runs ∙ ap (runs_on d c.keep_text.new.self) m.same ∙ s (chars behind) m.ends;
    }

pub returns-in-Ended : goal.returns-in-Ended
returns-in-Ended c =
    let d = c.args.rules.now.dialect in
    let text : List ℕ = c.args.text.now in
    let left : List ℕ = c.in_ok-left.left.now in
    let i = c.loop-left.invariant in
    let q = c.in_ok-left.ensures.keeps in
    let m = over_char (laws_of c.record_laws.ensures) d text _ left _ c.in-Some.c _ _ i.within i.back q.back q.is_text
    (sym c.chars-behind.ensures.rest ∙ c.in-Some.ensures.steps.0)
    c.as_bytes.ensures.value c.terminator_at-ends.ensures.value in
    let s = rw c.in-Ended.is at c.in_ok-step.ensures.steps in
    let w = m.within in
    let r = c.requires in (
      length text - length left,
      record {
        read = omega (arith, r, w);
        within = omega arith;
        back = ap is_utf8 m.back ∙ q.is_text;
        found = i.runs ∙ q.runs ∙ ap (runs_on d c.keep_text.new.self) m.same ∙ s (chars c.next.new.self.rest.now) m.ends
            ∙ ap (Found (values_of c.step.new.self)) m.again;
      },
    )

pub returns-in-Broken : goal.returns-in-Broken
returns-in-Broken c =
    let d = c.args.rules.now.dialect in
    let text : List ℕ = c.args.text.now in
    let left : List ℕ = c.in_ok-left.left.now in
    let i = c.loop-left.invariant in
    let q = c.in_ok-left.ensures.keeps in
    let m = over_char (laws_of c.record_laws.ensures) d text _ left _ c.in-Some.c _ _ i.within i.back q.back q.is_text
    (sym c.chars-behind.ensures.rest ∙ c.in-Some.ensures.steps.0)
    c.as_bytes.ensures.value c.terminator_at-ends.ensures.value in
    let s = rw c.in-Broken.is at c.in_ok-step.ensures.steps in
    let w = m.within in
    let r = c.requires in (
      length text - length left,
      record {
        read = omega (arith, r, w);
        within = omega arith;
        back = ap is_utf8 m.back ∙ q.is_text;
        broken = i.runs ∙ q.runs ∙ ap (runs_on d c.keep_text.new.self) m.same ∙ s (chars c.next.new.self.rest.now) m.ends
            ∙ ap (Broken c.in-Broken.stop) m.again;
      },
    )
