use Rattle.std.proofs.Common.{◌≡◌, ◌∙◌, ◌-◌, List, ℕ, length, chars, arith, sym, ap, subst}
use Rattle.csvw_records.specs.RecordLaws.{laws_of}
use Rattle.std.specs.Prelude.{slice_index}
use Rattle.csvw_fields.proofs.DraftLemmas.{settled_cut, settled_none}
use Rattle.csvw_fields.proofs.draft.settled.Goals as goal
use Rattle.csvw_fields.proofs.draft.settled.Goals.{else-d-via-then-d+then-len-gt0+else-as_bytes-len-eq13, else-d-via-then-d+else-len-gt0, else-d-via-else-d}

pub returns-then-as_bytes-len-eq13-clause-chars : goal.returns-then-as_bytes-len-eq13-clause-chars
returns-then-as_bytes-len-eq13-clause-chars c =
    let text : List ℕ = c.args.text.now in
    ap chars c.split_at.ensures.front ∙ settled_cut c.args.d.now text c.utf8.text c.if-d.true c.if-len-gt0.true
    (subst (λ (l : List ℕ). slice_index l (length text - 1) ≡ 13) c.as_bytes.ensures.value c.if-as_bytes-len-eq13.true)

pub returns-else-d-clause-chars : goal.returns-else-d-clause-chars
returns-else-d-clause-chars c =
    let text : List ℕ = c.args.text.now in
    settled_none (laws_of c.record_laws.ensures) c.args.d.now text c.utf8.text (λ crlf some cr. elim c.else-d.branch [
      | else-d-via-then-d+then-len-gt0+else-as_bytes-len-eq13 w ↦ w.if-as_bytes-len-eq13.false
          (subst (λ (l : List ℕ). slice_index l (length text - 1) ≡ 13) (sym w.as_bytes.ensures.value) cr)
      | else-d-via-then-d+else-len-gt0 w ↦ (let h = w.if-len-gt0.false in absurd (omega (arith, h, some)))
      | else-d-via-else-d w ↦ (let z = sym w.if-d.false ∙ crlf in cc)
    ])

pub returns-then-as_bytes-len-eq13-clause-bytes : goal.returns-then-as_bytes-len-eq13-clause-bytes
returns-then-as_bytes-len-eq13-clause-bytes c =
    let text : List ℕ = c.args.text.now in
    c.split_at.ensures.front ∙ (laws_of c.record_laws.ensures).passes.settled_last c.args.d.now text c.if-d.true c.if-len-gt0.true
    (subst (λ (l : List ℕ). slice_index l (length text - 1) ≡ 13) c.as_bytes.ensures.value c.if-as_bytes-len-eq13.true)

pub returns-else-d-clause-bytes : goal.returns-else-d-clause-bytes
returns-else-d-clause-bytes c =
    let text : List ℕ = c.args.text.now in
    (laws_of c.record_laws.ensures).passes.settled_same c.args.d.now text (λ crlf some cr. elim c.else-d.branch [
      | else-d-via-then-d+then-len-gt0+else-as_bytes-len-eq13 w ↦ w.if-as_bytes-len-eq13.false
          (subst (λ (l : List ℕ). slice_index l (length text - 1) ≡ 13) (sym w.as_bytes.ensures.value) cr)
      | else-d-via-then-d+else-len-gt0 w ↦ (let h = w.if-len-gt0.false in absurd (omega (arith, h, some)))
      | else-d-via-else-d w ↦ (let z = sym w.if-d.false ∙ crlf in cc)
    ])
