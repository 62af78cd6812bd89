-- The document is too long, or not.
use Rattle.std.proofs.Common.{◌≡◌, ◌++◌, ◌∙◌, ◌∷◌, [], List, OnOk, ap, arith, false, length, nat_lt, subst, sym, true}
use Rattle.std.proofs.lemmas.Bool.Decides.{nat_tests}
use Rattle.csvw_meta_core.specs.declared.fault.MetaCode.TheVariants.{TooLong}
use Rattle.csvw_meta_core.specs.declared.fault.MetaFault.{MetaFault}
use Rattle.csvw_meta.specs.declared.document.TheConstants.{MAX_DOCUMENT}
use Rattle.csvw_meta_faults.proofs.DocumentLemmas.{faults_long, faults_short}
use Rattle.csvw_meta_faults.proofs.document.find_in_document.Goals as goal

pub returns-then-bytes-gt-MAX_DOCUMENT : goal.returns-then-bytes-gt-MAX_DOCUMENT
returns-then-bytes-gt-MAX_DOCUMENT c =
    let long : nat_lt MAX_DOCUMENT (length c.args.bytes.now) ≡ true = grind (arith, nat_tests) in
    c.in_ok-push.ensures.items
    ∙ (ap (λ p. c.args.faults.now.items ++ record { code = TooLong; pointer = p } ∷ []) c.new.ensures
    ∙ ap (λ fs. c.args.faults.now.items ++ fs) (sym (faults_long c.args.profile c.args.base.now c.args.bytes.now long)))

pub returns : goal.returns
returns c =
    let short : nat_lt MAX_DOCUMENT (length c.args.bytes.now) ≡ false = grind (arith, nat_tests) in
    subst (λ (fs : List MetaFault). OnOk c.find_in_short.result (c.find_in_short.new.faults.items ≡ c.args.faults.now.items ++ fs))
    (sym (faults_short c.args.profile c.args.base.now c.args.bytes.now short)) c.find_in_short.ensures
