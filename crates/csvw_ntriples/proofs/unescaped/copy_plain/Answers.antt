-- If no byte is escaped, the bytes are written as they are.
use Rattle.csvw_ntriples.proofs.EscapeLemmas.{escaped_on_copy}
use Rattle.csvw_ntriples.proofs.unescaped.copy_plain.Goals as goal

pub returns-then-bytes-lt16 : goal.returns-then-bytes-lt16
returns-then-bytes-lt16 c = escaped_on_copy c.copy_plain_short.result c.args.bytes.now _ c.copy_plain_short.ensures

pub returns-else-bytes-lt16 : goal.returns-else-bytes-lt16
returns-else-bytes-lt16 c = escaped_on_copy c.copy_plain_long.result c.args.bytes.now _ c.copy_plain_long.ensures
