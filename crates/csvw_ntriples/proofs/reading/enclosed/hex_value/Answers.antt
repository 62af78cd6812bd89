use Rattle.std.proofs.Common.{◌<◌, ◌≤◌, ◌*◌, ◌+◌, ◌^◌, length, length-take, take, arith}
use Rattle.csvw_ntriples.proofs.Hex.{hex_step, no_digit, product_fits}
use Rattle.csvw_ntriples.proofs.reading.enclosed.hex_value.Goals as goal

pub loop-d-preserved : goal.loop-d-preserved
loop-d-preserved c =
    let l : c.loop-d.d-index < length c.args.digits.now = omega arith in
    let s = hex_step c.args.digits.now c.loop-d.d-index c.loop-d.value c.in_ok-value.field-0 c.d-item.result l c.requires c.loop-d.invariant.digits
    c.loop-d.invariant.value c.d-item.is c.in_ok-value.ensures.value.0 c.in_ok-value.ensures.value.1 in
    record { digits = s.0; value = s.1 }

pub overflow_add-value : goal.overflow_add-value
overflow_add-value c =
    let l : c.loop-d.d-index < length c.args.digits.now = omega arith in
    let s = hex_step c.args.digits.now c.loop-d.d-index c.loop-d.value c.in_ok-value.field-0 c.d-item.result l c.requires c.loop-d.invariant.digits
    c.loop-d.invariant.value c.d-item.is c.in_ok-value.ensures.value.0 c.in_ok-value.ensures.value.1 in
    let fits : c.loop-d.value * 16 + c.in_ok-value.field-0 < 2 ^ 32 = s.2 in omega arith

pub overflow_mul-value : goal.overflow_mul-value
overflow_mul-value c =
    let n : length (take c.loop-d.d-index c.args.digits.now) ≤ 7 = simp length-take (omega arith) in
    let fits : c.loop-d.value * 16 < 2 ^ 32 =
    product_fits c.loop-d.value (take c.loop-d.d-index c.args.digits.now) c.loop-d.invariant.value c.loop-d.invariant.digits n in omega arith

pub returns-in_err-value : goal.returns-in_err-value
returns-in_err-value c =
    let l : c.loop-d.d-index < length c.args.digits.now = omega arith in
    rw c.from_residual.ensures (no_digit c.args.digits.now c.loop-d.d-index c.d-item.result l c.d-item.is c.in_err-value.ensures.value)
