-- The bytes before the last block are copied already.
use Rattle.std.proofs.Common.{arith}
use Rattle.csvw_ntriples.proofs.CopyLemmas.{copied_less}
use Rattle.csvw_ntriples.proofs.copy.copy_name.Goals as goal

pub copy_at-requires-then-len-le32-clause-copied : goal.copy_at-requires-then-len-le32-clause-copied
copy_at-requires-then-len-le32-clause-copied c =
    let few = c.if-len-le32.true in
    let some = c.if-len-gt64.false in
    copied_less c.args.bytes.now _ _ 16 (omega (arith, few)) some.0 c.copy_at.ensures

pub copy_at-requires-else-len-le32-2-clause-copied : goal.copy_at-requires-else-len-le32-2-clause-copied
copy_at-requires-else-len-le32-2-clause-copied c =
    let many = c.if-len-le32.false in
    let some = c.if-len-gt64.false in
    copied_less c.args.bytes.now _ _ 32 (omega (arith, some)) (omega (arith, many)) c.copy_at-else-len-le32.ensures
