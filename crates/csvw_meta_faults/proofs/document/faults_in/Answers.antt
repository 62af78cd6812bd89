-- The list is that of the definition.
use Rattle.std.proofs.Common.{◌++◌, ◌∙◌, ◌==◌, Contains, ap, length, subst, sym}
use Rattle.csvw_meta.specs.Document.{document_by, document_faults}
use Rattle.csvw_meta_faults.proofs.DocumentLemmas.{nil_if_described}
use Rattle.csvw_meta_faults.proofs.document.faults_in.Goals as goal

pub returns-clause-order : goal.returns-clause-order
returns-clause-order c =
    let all = document_faults (document_by c.args.profile c.args.base.now c.args.bytes.now) in
    c.of.ensures ∙ (c.in_ok-find_in_document.ensures ∙ ap (λ fs. fs ++ all) c.new-faults.ensures.items)

pub returns-clause-faults : goal.returns-clause-faults
returns-clause-faults c = λ f h.
    let all = document_faults (document_by c.args.profile c.args.base.now c.args.bytes.now) in
    let same = c.of.ensures ∙ (c.in_ok-find_in_document.ensures ∙ ap (λ fs. fs ++ all) c.new-faults.ensures.items) in
    subst (λ fs. Contains fs f) same h

pub returns-clause-all : goal.returns-clause-all
returns-clause-all c = λ f h.
    let all = document_faults (document_by c.args.profile c.args.base.now c.args.bytes.now) in
    let same = c.of.ensures ∙ (c.in_ok-find_in_document.ensures ∙ ap (λ fs. fs ++ all) c.new-faults.ensures.items) in
    subst (λ fs. Contains fs f) (sym same) h

pub returns-clause-none : goal.returns-clause-none
returns-clause-none c =
    let x = document_by c.args.profile c.args.base.now c.args.bytes.now in
    let same = c.of.ensures ∙ (c.in_ok-find_in_document.ensures ∙ ap (λ fs. fs ++ document_faults x) c.new-faults.ensures.items) in
    ap (λ fs. length fs == 0) same ∙ nil_if_described x
