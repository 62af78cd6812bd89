use Rattle.std.proofs.Common.{◌∙◌, List, ℕ, length, take, chars, sym, ap}
use Rattle.std.specs.Prelude.{encode_utf8_all}
use Rattle.std.specs.Str.{is_utf8}
use Rattle.std.proofs.lemmas.Str.{is_utf8-from_IsUtf8}
use Rattle.csvw_records.specs.Grammar.{trimmed}
use Rattle.csvw_text.specs.Strip.{strip_end}
use Rattle.csvw_fields.proofs.DraftLemmas.{take_whole}
use Rattle.csvw_fields.proofs.TrimLemmas.{text_itself}
use Rattle.csvw_fields.proofs.trim.kept.Goals as goal

pub returns-in-No-clause-text : goal.returns-in-No-clause-text
returns-in-No-clause-text c =
    let text : List ℕ = c.args.text.now in
    ap is_utf8 (take_whole text) ∙ is_utf8-from_IsUtf8 text c.utf8.text

pub returns-in-No-clause-value : goal.returns-in-No-clause-value
returns-in-No-clause-value c =
    let text : List ℕ = c.args.text.now in
    take_whole text ∙ text_itself text c.utf8.text ∙ sym (ap (λ t. encode_utf8_all (trimmed t (chars text))) c.in-No.is)

pub returns-in-Start-clause-text : goal.returns-in-Start-clause-text
returns-in-Start-clause-text c =
    let rest : List ℕ = c.strip_start-rest.result.now in
    ap (λ l. is_utf8 (take (length rest) l)) (sym c.strip_start-rest.ensures.value) ∙ ap is_utf8 (take_whole rest)
    ∙ is_utf8-from_IsUtf8 rest c.strip_start-rest.utf8

pub returns-in-Start-clause-value : goal.returns-in-Start-clause-value
returns-in-Start-clause-value c =
    let rest : List ℕ = c.strip_start-rest.result.now in
    ap (take (length rest)) (sym c.strip_start-rest.ensures.value) ∙ take_whole rest ∙ text_itself rest c.strip_start-rest.utf8
    ∙ ap encode_utf8_all c.strip_start-rest.ensures.chars
    ∙ sym (ap (λ t. encode_utf8_all (trimmed t (chars c.args.text.now))) c.in-Start.is)

pub returns-in-End-clause-text : goal.returns-in-End-clause-text
returns-in-End-clause-text c = ap is_utf8 (sym c.strip_end.ensures.value) ∙ is_utf8-from_IsUtf8 c.strip_end.result.now c.strip_end.utf8

pub returns-in-End-clause-value : goal.returns-in-End-clause-value
returns-in-End-clause-value c =
    let rest : List ℕ = c.strip_end.result.now in
    sym c.strip_end.ensures.value ∙ text_itself rest c.strip_end.utf8 ∙ ap encode_utf8_all c.strip_end.ensures.chars
    ∙ sym (ap (λ t. encode_utf8_all (trimmed t (chars c.args.text.now))) c.in-End.is)

pub returns-in-Both-clause-text : goal.returns-in-Both-clause-text
returns-in-Both-clause-text c =
    let rest : List ℕ = c.strip_end-in-Both.result.now in
    ap (λ l. is_utf8 (take (length rest) l)) (sym c.strip_start-rest-in-Both.ensures.value) ∙ ap is_utf8 (sym c.strip_end-in-Both.ensures.value)
    ∙ is_utf8-from_IsUtf8 rest c.strip_end-in-Both.utf8

pub returns-in-Both-clause-value : goal.returns-in-Both-clause-value
returns-in-Both-clause-value c =
    let rest : List ℕ = c.strip_end-in-Both.result.now in
    ap (take (length rest)) (sym c.strip_start-rest-in-Both.ensures.value) ∙ sym c.strip_end-in-Both.ensures.value ∙ text_itself rest c.strip_end-in-Both.utf8
    ∙ ap encode_utf8_all (c.strip_end-in-Both.ensures.chars ∙ ap strip_end c.strip_start-rest-in-Both.ensures.chars)
    ∙ sym (ap (λ t. encode_utf8_all (trimmed t (chars c.args.text.now))) c.in-Both.is)
