-- If each text could be read, the rule over the texts that could be read reports the same faults.
use Rattle.std.proofs.Common.{◌≡◌, ℕ, [], true, Contains, rules, subst, map, codes}
use Rattle.csvw_meta_core.specs.declared.fault.MetaCode.TheVariants.{DuplicateTable}
use Rattle.csvw_meta_core.specs.declared.fault.MetaFault.{MetaFault}
use Rattle.csvw_meta_core.specs.Pointer.{below, item_at, text_of}
use Rattle.csvw_meta.specs.Repeated.{repeated}
use Rattle.csvw_meta.specs.Group.{url_faults, url_of}
use Rattle.csvw_meta.proofs.ReadLemmas.{told_at}
use Rattle.csvw_meta.proofs.group.check_urls.Goals as goal

pub returns-in-None : goal.returns-in-None
returns-in-None c =
    let at = text_of c.args.part.now.at in
    let fault : ℕ → MetaFault = λ i. record { code = DuplicateTable; pointer = below (item_at at i) (codes "url") } in
    let same : c.as_slice.result.now ≡ map url_of c.args.tables.now = search rules in
    subst (λ ts. repeated (λ i. true) fault [] 0 ts ≡ []) same (c.in-None.ensures fault)

pub returns : goal.returns
returns c =
    let at = text_of c.args.part.now.at in
    let fault : ℕ → MetaFault = λ i. record { code = DuplicateTable; pointer = below (item_at at i) (codes "url") } in
    let same : c.as_slice.result.now ≡ map url_of c.args.tables.now = search rules in
    told_at c.refused.result (fault c.in-Some.i) (url_faults at [] c.args.tables.now)
    (subst (λ ts. Contains (repeated (λ i. true) fault [] 0 ts) (fault c.in-Some.i)) same (c.in-Some.ensures fault))
    (rw (c.member.ensures.at, c.item-table.ensures.at) at c.refused.ensures)
