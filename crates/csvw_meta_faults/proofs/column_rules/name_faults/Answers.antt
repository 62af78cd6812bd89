-- The names that are known are those that the definition says.
use Rattle.std.proofs.Common.{◌≡◌, ◌∙◌, [], IfOk, List, ap, arith, false, get_or, length, subst, sym, ℕ}
use Rattle.csvw_description.specs.Name.{numbered_names}
use Rattle.csvw_meta_core.specs.declared.fault.MetaCode.TheVariants.{DuplicateName}
use Rattle.csvw_meta_core.specs.declared.fault.MetaFault.{MetaFault}
use Rattle.csvw_meta_core.specs.Pointer.{item_at, text_of}
use Rattle.csvw_meta.specs.NamesRead.{name_known}
use Rattle.csvw_meta_faults.specs.Flags.{AreFlags}
use Rattle.csvw_meta_faults.proofs.ColumnsLemmas.{length_names}
use Rattle.csvw_meta_faults.proofs.RepeatedLemmas.{repeated_same}
use Rattle.csvw_meta_faults.proofs.column_rules.name_faults.Goals as goal

pub repeated_at-requires : goal.repeated_at-requires
repeated_at-requires c =
    ap length c.as_slice.ensures.value
    ∙ (c.in_ok-known.ensures.size ∙ sym (ap length (c.as_slice-2.ensures ∙ c.in_ok-names.ensures) ∙ length_names 0 c.args.columns.now))

pub returns : goal.returns
returns c =
    let at = text_of c.args.part.now.at in
    let own = c.args.own.now in
    let cs = c.args.columns.now in
    let fault : ℕ → MetaFault = λ i. record { code = DuplicateName; pointer = item_at at i } in
    let found = rw (c.as_slice.ensures.value, c.as_slice-2.ensures, c.in_ok-names.ensures) at (c.in_ok-indices.ensures fault) in
    let known : AreFlags (name_known own at cs) (length cs) c.in_ok-known.known.items = c.in_ok-known.ensures in
    let same = repeated_same (λ i. get_or c.in_ok-known.known.items i false) (name_known own at cs) fault [] 0 (numbered_names 0 cs)
    (λ j low high. known.each j (omega (arith, high, length_names 0 cs))) in
    subst (λ (all : List MetaFault). IfOk c.faults_at_items.result (λ fs. fs ≡ all)) (found ∙ same) (rw c.as_slice-3.ensures at c.faults_at_items.ensures)
