-- The digits at the front are the only ones that can be read.
use Rattle.std.proofs.Common.{◌≡◌, ℕ, List, ◌++◌, length, take, sym, ap, subst, ◌∙◌}
use Rattle.std.specs.Char.{IsScalar}
use Rattle.std.specs.Str.Parse.{AllDigits, digits_value}
use Rattle.std.proofs.Math.Seq.{take-append_seam}
use Rattle.std.proofs.lemmas.List.{take-append-drop}
use Rattle.csvw_ntriples.proofs.reading.enclosed.numbered.Goals as goal

is_front : (count : ℕ) (text front digits rest : List ℕ) → front ≡ take count text → text ≡ digits ++ rest → length digits ≡ count → digits ≡ front
is_front count text front digits rest is split long =
    sym (is ∙ ap (take count) split ∙ subst (λ k. take k (digits ++ rest) ≡ digits) long (take-append_seam digits rest))

pub returns : goal.returns
returns c =
    let s = c.split_at.ensures in
    let value = c.in_ok-c.ensures.value in (
      c.split_at.result.0.now,
      rw (s.front, s.back) (sym (take-append-drop c.args.count c.args.text.now)),
      s.front_len,
      c.in_ok-value.ensures.0,
      sym c.in_ok-value.ensures.1 ∙ sym value.1,
      subst IsScalar (sym value.1) value.0,
    )

pub returns-in_err-value : goal.returns-in_err-value
returns-in_err-value c = rw c.from_residual.ensures (λ v rest b.
    c.in_err-value.ensures (subst (AllDigits 16) (is_front _ _ _ b.0 rest c.split_at.ensures.front b.1 b.2) b.3))

pub returns-in_err-c : goal.returns-in_err-c
returns-in_err-c c = rw c.from_residual-in_err-c.ensures (λ v rest b.
    let same = is_front _ _ _ b.0 rest c.split_at.ensures.front b.1 b.2 in
    c.in_err-c.ensures.value (subst IsScalar (sym b.4 ∙ ap (digits_value 16) same ∙ sym c.in_ok-value.ensures.1) b.5))
