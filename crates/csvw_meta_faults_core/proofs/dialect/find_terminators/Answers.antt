-- If there are items, only they have faults.
use Rattle.std.proofs.Common.{◌≡◌, ◌==◌, ◌∙◌, sym, false, arith, length}
use Rattle.std.proofs.lemmas.Bool.Decides.{nat_tests}
use Rattle.csvw_meta_core.specs.Pointer.{text_of}
use Rattle.csvw_meta_faults_core.proofs.DialectLemmas.{some_terminators}
use Rattle.csvw_meta_faults_core.proofs.dialect.find_terminators.Goals as goal

pub returns : goal.returns
returns c =
    let some : (length c.args.items.now == 0) ≡ false = sym c.is_empty.ensures ∙ c.if-is_empty.false in
    rw (some_terminators (text_of c.args.part.now.at) c.args.items.now (λ (none : length c.args.items.now ≡ 0). grind (arith, nat_tests)))
    c.find_each.ensures
