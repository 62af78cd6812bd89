-- There is no fault in the document.
use Rattle.csvw_meta.specs.Document.{document_by, judged}
use Rattle.csvw_meta.proofs.FitDocument.{group_plannable}
use Rattle.csvw_meta.proofs.OverLemmas.{group_read}
use Rattle.csvw_meta.proofs.document.read_by.Goals as goal

pub returns-in-Ok-clause-found : goal.returns-in-Ok-clause-found
returns-in-Ok-clause-found c =
    group_read (judged (document_by c.args.profile c.args.base.now c.args.bytes.now)) c.in-Ok.description c.in-Ok.ensures

pub returns-in-Ok-clause-plannable : goal.returns-in-Ok-clause-plannable
returns-in-Ok-clause-plannable c =
    let x = document_by c.args.profile c.args.base.now c.args.bytes.now in
    group_plannable c.datatypes_fit.ensures c.dialects_fit.ensures x c.in-Ok.description (group_read (judged x) c.in-Ok.description c.in-Ok.ensures)
