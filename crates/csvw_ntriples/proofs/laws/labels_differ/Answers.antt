use Rattle.csvw_ntriples.proofs.LabelParts.{labels_differ as the_labels_differ}
use Rattle.csvw_ntriples.proofs.laws.labels_differ.Goals as goal

pub returns : goal.returns
returns c = the_labels_differ
