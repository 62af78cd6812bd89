use Rattle.std.proofs.Common.{◌≤◌, ◌∙◌, List, [], ℕ, length, take, drop, chars, sym, ap, subst}
use Rattle.std.specs.Prelude.{unwrap_or}
use Rattle.std.proofs.lemmas.Str.{IsCharBoundary-start, IsUtf8-take, chars-nil}
use Rattle.memchr.specs.Find.{IsFirstByte, is_byte2, is_byte3}
use Rattle.csvw_fields.specs.FieldText.{IsClean}
use Rattle.csvw_records.specs.declared.scan.State.{State}
use Rattle.csvw_fields.proofs.CleanLemmas.{plain_clean, inside_clean, nothing_clean}
use Rattle.csvw_fields.proofs.leads.Leads.clean_len.Goals as goal

pub returns-in-Plain-clause-clean : goal.returns-in-Plain-clause-clean
returns-in-Plain-clause-clean c =
    let d = c.args.d.now in
    let l = c.args.self in
    let text : List ℕ = c.args.text.now in
    let n = c.place_before.result in
    let p = c.place_before.ensures in
    let h = subst (λ (x : List ℕ). IsFirstByte (is_byte3 l.delimiter l.quote 10) x c.memchr3-found.result) c.as_bytes-bytes.ensures.value
    c.memchr3-found.ensures in
    let w = subst (λ (m : ℕ). n ≤ m)
    (c.unwrap_or.ensures ∙ ap (λ (x : List ℕ). unwrap_or c.memchr3-found.result (length x)) c.as_bytes-bytes.ensures.value) p.within in
    subst (λ (st : State). IsClean d st (chars (take n text)) (chars (drop n text))) (sym c.in-Plain.is)
    (plain_clean d l text c.memchr3-found.result n c.requires c.utf8.text (IsUtf8-take text n c.utf8.text p.boundary) h w p.settled)

pub returns-in-Inside-clause-clean : goal.returns-in-Inside-clause-clean
returns-in-Inside-clause-clean c =
    let d = c.args.d.now in
    let l = c.args.self in
    let text : List ℕ = c.args.text.now in
    let n = c.boundary_at.result in
    let p = c.boundary_at.ensures in
    let h = subst (λ (x : List ℕ). IsFirstByte (is_byte2 l.quote l.escape) x c.memchr2-found.result) c.as_bytes-bytes.ensures.value c.memchr2-found.ensures in
    let w = subst (λ (m : ℕ). n ≤ m) (c.unwrap_or-in-Inside.ensures
    ∙ ap (λ (x : List ℕ). unwrap_or c.memchr2-found.result (length x)) c.as_bytes-bytes.ensures.value) p.within in
    subst (λ (st : State). IsClean d st (chars (take n text)) (chars (drop n text))) (sym c.in-Inside.is)
    (inside_clean d l text c.memchr2-found.result n c.requires (IsUtf8-take text n c.utf8.text p.boundary) h w)

pub returns-in-Start : goal.returns-in-Start
returns-in-Start c = record {
  boundary = IsCharBoundary-start c.args.text.now c.utf8.text;
  clean = nothing_clean c.args.d.now c.args.state (chars []) (chars c.args.text.now) chars-nil;
}
