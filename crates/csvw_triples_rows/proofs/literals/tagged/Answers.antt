-- The datatype is rdf:langString.
use Rattle.csvw_triples_rows.proofs.Tagged.{is_tagged}
use Rattle.csvw_triples_rows.proofs.literals.tagged.Goals as goal

pub returns : goal.returns
returns c = is_tagged c.args.text.now c.args.datatype.now c.args.tag.now _ c.requires
