use Rattle.csvw_ntriples.proofs.Denoted.{written_denotes as the_written_denotes}
use Rattle.csvw_ntriples.proofs.laws.written_denotes.Goals as goal

pub returns : goal.returns
returns c = the_written_denotes
