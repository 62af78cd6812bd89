use Rattle.std.proofs.Common.{rules, sym, ap, ◌∙◌, ℤ, FitsSigned, subst}
use mir.Syntax.{w128}
use Rattle.std.specs.Str.{chars}
use Rattle.std.proofs.lemmas.Int.{to_z-of_z}
use Rattle.csvw_datatype_core.specs.declared.number.Scan.{Scan}
use Rattle.csvw_datatype_core.specs.Scan.{ends}
use Rattle.csvw_datatype_core.specs.Step.{count_of}
use Rattle.csvw_datatype_core.specs.Numbers.{ReadsNumber}
use Rattle.csvw_datatype_core.proofs.ReadLemmas.{spells_nothing, spells, reads_nothing, reads}
use Rattle.csvw_datatype_core.proofs.number.any_number.Goals as goal

pub returns-then-not-ends : goal.returns-then-not-ends
returns-then-not-ends c =
    spells_nothing c.args.rules.now c.requires (chars c.args.text.now)
    (ap (λ (s : Scan). ends s.place) (sym c.scan_text-scan.ensures.value) ∙ sym c.ends.ensures ∙ c.if-not-ends.true)

pub returns-in-None : goal.returns-in-None
returns-in-None c = (
  spells c.args.rules.now (chars c.args.text.now)
      (ap (λ (s : Scan). ends s.place) (sym c.scan_text-scan.ensures.value) ∙ sym c.ends.ensures ∙ c.if-not-ends.false),
  reads_nothing c.args.rules.now c.requires (chars c.args.text.now)
      (ap count_of (sym c.scan_text-scan.ensures.value) ∙ sym c.count.ensures.value ∙ c.in-None.is),
)

pub returns-in-Some : goal.returns-in-Some
returns-in-Some c =
    let fits : FitsSigned w128 c.signed.result = search rules in
    let P : ℤ → Type 0 = λ z. ReadsNumber c.args.rules.now (chars c.args.text.now) z in
    subst P (sym (to_z-of_z w128 c.signed.result fits))
    (reads c.args.rules.now c.requires (chars c.args.text.now) c.in-Some.count c.signed.result
    (ap (λ (s : Scan). ends s.place) (sym c.scan_text-scan.ensures.value) ∙ sym c.ends.ensures ∙ c.if-not-ends.false)
    (ap count_of (sym c.scan_text-scan.ensures.value) ∙ sym c.count.ensures.value ∙ c.in-Some.is)
    (cc))
