use Rattle.std.proofs.Common.{◌≡◌, ◌<◌, ◌-◌, true, refl, sym, ◌∙◌, arith}
use Rattle.std.specs.Prelude.{slice_index}
use Rattle.csvw_fields.proofs.CutLemmas.{crlf_cut, lf_cut}
use Rattle.csvw_fields.proofs.cut.cut_last.Goals as goal
use Rattle.csvw_fields.proofs.cut.cut_last.Goals.{else-d-via-then-d+then-at-gt0+else-rest-at-eq13, else-d-via-then-d+else-at-gt0, else-d-via-else-d}

pub returns-then-rest-at-eq13 : goal.returns-then-rest-at-eq13
returns-then-rest-at-eq13 c spare =
    let q = c.requires in
    crlf_cut c.args.d.now c.args.symbols c.args.rest.now spare c.args.at _ q.lawful q.symbols q.text q.within q.first c.if-d.true c.if-at-gt0.true
    q.stands c.if-rest-at-eq13.true c.lent.ensures refl refl

pub returns-then-d-2 : goal.returns-then-d-2
returns-then-d-2 c spare =
    let q = c.requires in
    let d = c.args.d.now in
    let r = c.args.rest.now in
    let at = c.args.at in
    let none : d.line_terminators.crlf ≡ true → 0 < at → slice_index r (at - 1) ≡ 13 → ⊥ = λ crlf some cr. elim c.else-d.branch [
      | else-d-via-then-d+then-at-gt0+else-rest-at-eq13 w ↦ w.if-rest-at-eq13.false cr
      | else-d-via-then-d+else-at-gt0 w ↦ (let h = w.if-at-gt0.false in omega (arith, h, some))
      | else-d-via-else-d w ↦ (let z = sym w.if-d.false ∙ crlf in cc)
    ] in
    lf_cut d c.args.symbols r spare at _ q.lawful q.symbols q.text q.within q.first q.stands none c.if-d-2.true c.lent-then-d-2.ensures refl refl
