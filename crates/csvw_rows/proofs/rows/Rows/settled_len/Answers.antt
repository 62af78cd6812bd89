use Rattle.std.proofs.Common.{◌≡◌, ◌∙◌, ℕ, List, length, take, chars, sym, ap}
use Rattle.std.specs.Str.{is_utf8}
use Rattle.std.proofs.lemmas.Str.{is_utf8-from_IsUtf8}
use Rattle.csvw_records.specs.NextRow.{settled}
use Rattle.csvw_rows.specs.SourceState.{rest_bytes}
use Rattle.csvw_rows.proofs.rows.Rows.settled_len.Goals as goal

pub returns : goal.returns
returns c =
    let s = c.args.self.now in
    let d = s.rules.dialect in
    let text : List ℕ = c.settled.result.now in
    let front : text ≡ take (length text) (rest_bytes s.source) = c.settled.ensures.front ∙ ap (take (length text)) c.rest.ensures.value in
    record {
      bytes = ap length c.settled.ensures.bytes ∙ ap (λ l. length (settled d l)) c.rest.ensures.value;
      chars = ap chars (sym front) ∙ c.settled.ensures.chars ∙ ap (λ l. settled d (chars l)) c.rest.ensures.value;
      text = ap is_utf8 (sym front) ∙ is_utf8-from_IsUtf8 text c.settled.utf8;
    }
