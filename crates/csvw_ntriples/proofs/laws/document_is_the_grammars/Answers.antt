use Rattle.csvw_ntriples.proofs.Documents.{document_is_the_grammars as the_document_is_the_grammars}
use Rattle.csvw_ntriples.proofs.laws.document_is_the_grammars.Goals as goal

pub returns : goal.returns
returns c = the_document_is_the_grammars
