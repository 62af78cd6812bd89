-- By the length of the text with its prefix replaced.
use Rattle.csvw_iri.proofs.LongLemmas as lemmas
use Rattle.csvw_iri.proofs.links.long_texts_have_no_link.Goals as goal

pub returns : goal.returns
returns c = lemmas.long_texts_have_no_link
