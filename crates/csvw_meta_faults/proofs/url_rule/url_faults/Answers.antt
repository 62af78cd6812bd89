-- The URLs that are known are those that the definition says.
use Rattle.std.proofs.Common.{◌≡◌, ◌∙◌, [], IfOk, List, ap, arith, codes, false, get_or, length, map, subst, sym, ℕ}
use Rattle.csvw_meta_core.specs.declared.fault.MetaCode.TheVariants.{DuplicateTable}
use Rattle.csvw_meta_core.specs.declared.fault.MetaFault.{MetaFault}
use Rattle.csvw_meta_core.specs.Pointer.{below, item_at, text_of}
use Rattle.csvw_meta_core.specs.Rules.{could_read_property}
use Rattle.csvw_meta.specs.Group.{url_of}
use Rattle.csvw_meta_faults.specs.Flags.{AreFlags}
use Rattle.csvw_meta_faults.specs.Seen.{as_table}
use Rattle.csvw_meta_faults.proofs.ColumnsLemmas.{length_urls}
use Rattle.csvw_meta_faults.proofs.RepeatedLemmas.{repeated_same}
use Rattle.csvw_meta_faults.proofs.url_rule.url_faults.Goals as goal

pub repeated_at-requires : goal.repeated_at-requires
repeated_at-requires c =
    ap length c.as_slice.ensures.value
    ∙ (c.in_ok-known.ensures.size ∙ sym (ap length (c.as_slice-2.ensures ∙ c.in_ok-urls.ensures) ∙ length_urls c.args.tables.now))

pub returns : goal.returns
returns c =
    let at = text_of c.args.part.now.at in
    let ts = c.args.tables.now in
    let test = λ (i : ℕ). could_read_property c.args.own.now (item_at at i) (codes "url") in
    let fault : ℕ → MetaFault = λ i. record { code = DuplicateTable; pointer = below (item_at at i) (codes "url") } in
    let found = rw (c.as_slice.ensures.value, c.as_slice-2.ensures, c.in_ok-urls.ensures) at (c.in_ok-indices.ensures fault) in
    let known : AreFlags test (length ts) c.in_ok-known.known.items = c.in_ok-known.ensures in
    let same = repeated_same (λ i. get_or c.in_ok-known.known.items i false) test fault [] 0 (map url_of (map as_table ts))
    (λ j low high. known.each j (omega (arith, high, length_urls ts))) in
    subst (λ (all : List MetaFault). IfOk c.faults_at_members.result (λ fs. fs ≡ all)) (found ∙ same) (rw c.as_slice-3.ensures at c.faults_at_members.ensures)
