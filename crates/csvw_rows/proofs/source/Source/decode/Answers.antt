use Rattle.std.proofs.Common.{◌∙◌, ap, Bool, true, not, ◌==◌, List, ℕ, length, drop, take, if◌then◌else◌, chars}
use Rattle.csvw_records.specs.RecordLaws.{laws_of}
use Rattle.std.specs.Prelude.{is_some}
use Rattle.std.specs.Str.Lossy.{utf8_valid_len, utf8_error_len}
use Rattle.csvw_rows.proofs.Sources.{pushes}
use Rattle.csvw_rows.proofs.source.Source.decode.Goals as goal

pub returns-clause-grows : goal.returns-clause-grows
returns-clause-grows c = (_, c.in_ok-add.ensures.rest)

pub returns-clause-pushes : goal.returns-clause-pushes
returns-clause-pushes c = λ piece all bytes h.
    let s = c.args.self.now in
    let text = c.valid_front-is_bad.result.0.now in
    pushes (laws_of c.record_laws.ensures) s _ piece bytes text h
    (c.valid_front-is_bad.ensures.text ∙ ap (λ (l : List ℕ). take (utf8_valid_len l) l) all)
    (c.has_begun-self.ensures ∙ ap (λ (b : Bool). if b then true else not (length (chars text) == 0)) c.add.ensures.begun)
    (c.in_ok-pending.ensures ∙ ap (drop (length text)) all)
    (c.valid_front-is_bad.ensures.bad ∙ ap (λ (l : List ℕ). is_some (utf8_error_len (drop (utf8_valid_len l) l))) all)
    c.in_ok-add.ensures.rest
