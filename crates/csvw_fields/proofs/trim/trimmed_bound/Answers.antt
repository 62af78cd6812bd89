use Rattle.std.proofs.Common.{◌≡◌, ◌∙◌, ◌+◌, ◌≤◌, List, ℕ, length, take, drop, true, chars, refl, sym, ap, subst}
use Rattle.std.specs.Prelude.{encode_utf8_all, slice_range}
use Rattle.std.specs.Str.{is_utf8}
use Rattle.csvw_fields.specs.declared.bound.Bound.{Bound}
use Rattle.csvw_records.specs.Grammar.{trimmed}
use Rattle.csvw_fields.proofs.TrimLemmas.{kept_range}
use Rattle.csvw_fields.proofs.BoundLemmas.{apart_bound}
use Rattle.csvw_fields.proofs.trim.trimmed_bound.Goals as goal

pub returns-clause-apart : goal.returns-clause-apart
returns-clause-apart c =
    let texts : List ℕ = c.args.texts.now in
    let b = c.args.bound in
    let start = c.kept-start.result.0 in
    let len = c.kept-start.result.1 in
    let new : Bound = record { from = b.from + start; to = b.from + start + len; apart = true } in
    let text : c.text_at.result.now ≡ slice_range texts b.from b.to = c.text_at.ensures ∙ (apart_bound texts texts b c.requires).1 in
    (kept_range texts b new start len c.requires (subst (λ (l : List ℕ). start + len ≤ length l) text c.kept-start.ensures.within)
    (ap (λ l. is_utf8 (take len (drop start l))) (sym text) ∙ c.kept-start.ensures.text) refl refl refl).0

pub returns-clause-text : goal.returns-clause-text
returns-clause-text c =
    let texts : List ℕ = c.args.texts.now in
    let b = c.args.bound in
    let start = c.kept-start.result.0 in
    let len = c.kept-start.result.1 in
    let new : Bound = record { from = b.from + start; to = b.from + start + len; apart = true } in
    let text : c.text_at.result.now ≡ slice_range texts b.from b.to = c.text_at.ensures ∙ (apart_bound texts texts b c.requires).1 in
    (kept_range texts b new start len c.requires (subst (λ (l : List ℕ). start + len ≤ length l) text c.kept-start.ensures.within)
    (ap (λ l. is_utf8 (take len (drop start l))) (sym text) ∙ c.kept-start.ensures.text) refl refl refl).1
    ∙ ap (λ l. take len (drop start l)) (sym text) ∙ c.kept-start.ensures.value ∙ ap (λ l. encode_utf8_all (trimmed c.args.trim (chars l))) text
