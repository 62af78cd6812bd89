-- The bytes of a document, once it ended or is too long.
use Rattle.std.proofs.Common.{◌≡◌, length, arith}
use Rattle.csvw_streams.specs.Counted.{inner_of}
use Rattle.csvw_files.proofs.Documents.{read_to_end, read_enough}
use Rattle.csvw_files.proofs.document.read_document.Goals as goal

pub returns-then-not-branch-clause-document : goal.returns-then-not-branch-clause-document
returns-then-not-branch-clause-document g c =
    let end = rw c.if-not-branch.true at c.in_ok-read_piece.ensures in
    read_to_end
    g.R.Read.remaining
    (g.R.Read.remaining (inner_of c.args.reader.now))
    c.loop-room.reader
    c.read_piece.new.reader
    c.loop-room.bytes.items
    c.read_piece.new.bytes.items
    c.loop-room.invariant.consumed
    c.loop-room.invariant.few
    end

pub returns-clause-document : goal.returns-clause-document
returns-clause-document g c =
    let many : length c.loop-room.bytes.items ≡ 1_048_577 = omega (arith, c.loop-room-test.false, c.len.ensures, c.loop-room.invariant.few) in
    read_enough
    (g.R.Read.remaining (inner_of c.args.reader.now))
    (g.R.Read.remaining (inner_of c.loop-room.reader))
    c.loop-room.bytes.items
    c.loop-room.invariant.consumed
    many
