-- The first row, annotated or refused.
use Rattle.std.proofs.Common.{arith, inr, subst, Some}
use Rattle.std.proofs.lemmas.Result.{err_from_is_err_and}
use Rattle.csvw_rows.specs.RowValue.{row_of}
use Rattle.csvw_engine_core.specs.Heads.{Settled}
use Rattle.csvw_engine_core.specs.Stepping.{BeginsWrong}
use Rattle.csvw_engine_core.proofs.head.Head.begin.Goals as goal

pub returns-in_err-annotated-in-Some : goal.returns-in_err-annotated-in-Some
returns-in_err-annotated-in-Some c =
    let p = err_from_is_err_and c.from_residual-in_err-annotated-in-Some.result c.from_residual-in_err-annotated-in-Some.ensures.1 in
    let no_header = c.if-plan-gt0.false in
    let wrong : BeginsWrong c.args.plan.now (row_of c.args.raw.now) c.args.self.now c.settle.new.self c.in_err-annotated-in-Some.field-0.0 =
    inr (inr (record {
      without = omega (arith, no_header);
      settled = subst (λ n. Settled c.args.plan.now (Some n) c.args.self.now c.settle.new.self) c.len.ensures c.in_ok-settle.ensures;
      columns = c.in-Some.columns;
      known = c.in-Some.is;
      annotates = c.in_err-annotated-in-Some.ensures c.in-Some.columns c.annotate_into-row.ensures;
    })) in
    rw (p.1, p.2) wrong

pub returns : goal.returns
returns c =
    let no_header = c.if-plan-gt0.false in
    record {
      without = omega (arith, no_header);
      settled = subst (λ n. Settled c.args.plan.now (Some n) c.args.self.now c.settle.new.self) c.len.ensures c.in_ok-settle.ensures;
      columns = c.in-Some.columns;
      known = c.in-Some.is;
      annotates = c.in_ok-annotated-in-Some.ensures c.in-Some.columns c.annotate_into-row.ensures;
    }
