use Rattle.std.proofs.Common.{arith}
use Rattle.csvw_ntriples.proofs.EscapeLemmas.{plain_from_lanes}
use Rattle.csvw_ntriples.proofs.unescaped.is_plain_8.Goals as goal

pub returns : goal.returns
returns c = plain_from_lanes c.args.bytes.now c.args.at 8 c.requires (omega arith)
