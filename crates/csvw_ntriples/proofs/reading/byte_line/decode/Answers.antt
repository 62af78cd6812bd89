-- The characters of the text are those of its bytes.
use Rattle.std.proofs.Common.{◌≡◌, ◌∙◌, ◌++◌, rules, ap, sym, List, ℕ}
use Rattle.std.specs.Prelude.{chars}
use Rattle.std.proofs.lemmas.Str.{Chars-Drains, encodes-chars}
use Rattle.csvw_ntriples.proofs.reading.byte_line.decode.Goals as goal

pub returns-in-Ok-extend-clause-decoded : goal.returns-in-Ok-extend-clause-decoded
returns-in-Ok-extend-clause-decoded c =
    let ran = c.in-Ok-extend.ensures.ran in
    let is_text = c.in-Ok.ensures.cases.1 in
    let rest : ran.0.rest.now ≡ c.args.bytes.now = search rules in
    let same : ran.1 ≡ chars c.args.bytes.now = Chars-Drains (chars c.args.bytes.now) ran.1 ran.0 (encodes-chars c.args.bytes.now is_text ∙ sym rest) ran.4 in
    (is_text, ran.3.0 ∙ (ap (λ (l : List ℕ). l ++ ran.1) c.clear.ensures.items ∙ same))
