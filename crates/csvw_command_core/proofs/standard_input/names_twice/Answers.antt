-- Standard input is named for one file more, or for no other.
use Rattle.std.proofs.Common.{◌≡◌, ◌∙◌, arith, length, refl, sym}
use Rattle.csvw_command_core.proofs.Counting.{met_one, met_other, met_first, met_twice, met_all}
use Rattle.csvw_command_core.proofs.standard_input.names_twice.Goals as goal
use Rattle.csvw_command_core.proofs.standard_input.names_twice.Goals.{then-is_standard+else-seen, else-is_standard}

pub loop-file-init : goal.loop-file-init
loop-file-init c = met_one c.args.meta.now c.is_standard-seen.result (sym c.is_standard-seen.ensures)

pub returns-then-seen-clause-twice : goal.returns-then-seen-clause-twice
returns-then-seen-clause-twice c = λ t.
    met_twice (λ file. file.now) c.args.meta.now c.args.files.now c.args.files.now
    refl c.loop-file.file-index _ c.loop-file.seen
    c.loop-file-test.true c.loop-file.invariant c.if-seen.true (sym c.is_standard.ensures ∙ c.if-is_standard.true)

pub loop-file-preserved : goal.loop-file-preserved
loop-file-preserved c =
    elim c.if-is_standard.branch [
      | then-is_standard+else-seen w ↦ met_first (λ file. file.now) c.args.meta.now c.args.files.now
          c.args.files.now refl c.loop-file.file-index _ c.loop-file.seen c.if-is_standard.seen
          c.loop-file-test.true c.loop-file.invariant w.if-seen.false (sym c.is_standard.ensures ∙ w.if-is_standard.true) w.seen-is
      | else-is_standard w ↦ met_other (λ file. file.now) c.args.meta.now c.args.files.now c.args.files.now
          refl c.loop-file.file-index _ c.loop-file.seen c.if-is_standard.seen
          c.loop-file-test.true c.loop-file.invariant (sym c.is_standard.ensures ∙ w.if-is_standard.false) w.seen-is
    ]

pub returns-clause-once : goal.returns-clause-once
returns-clause-once c = λ f.
    let end : c.loop-file.file-index ≡ length c.args.files.now =
    (let test = c.loop-file-test.false in let bound = c.loop-file.auto.file-index-end in omega (arith, test, bound)) in
    met_all (λ file. file.now) c.args.meta.now c.args.files.now c.args.files.now c.loop-file.file-index
    c.loop-file.seen refl end c.loop-file.invariant
