use Rattle.std.proofs.Common.{◌≡◌, ◌∷◌, ◌∙◌, ℕ, List, Bool, sym, ap, chars, if◌then◌else◌}
use Rattle.std.proofs.lemmas.Str.{chars_past_char}
use Rattle.csvw_records.specs.Files.{without_mark}
use Rattle.csvw_rows.proofs.source.unmarked.Goals as goal

pub returns-in-Some-eq65279 : goal.returns-in-Some-eq65279
returns-in-Some-eq65279 c =
    let text : List ℕ = c.args.text.now in
    let rest : List ℕ = c.next.new.self.rest.now in
    let e = c.in-Some-eq65279.ensures.steps in
    let spelled = sym c.chars-rest.ensures.rest ∙ e.0 in
    let all : chars text ≡ 65279 ∷ chars rest = chars_past_char text rest c.in-Some-eq65279.field-0 c.utf8.text spelled
    ∙ ap (λ k. k ∷ chars rest) c.in-Some-eq65279.field-0-test in
    ap chars c.as_str.ensures ∙ sym (ap (λ (b : Bool). if b then chars text else without_mark (chars text)) c.if-begun.false ∙ ap without_mark all)
