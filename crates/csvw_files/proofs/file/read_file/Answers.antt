-- The file is read, or its reader fails.
use Rattle.csvw_files.proofs.FileLemmas.{is_lost, is_read}
use Rattle.csvw_files.proofs.file.read_file.Goals as goal

pub returns-clause-read : goal.returns-clause-read
returns-clause-read g c =
    is_read g.O.Opener.opens g.O.Opener.closes g.O.Reader.Read.remaining c.args.path.now c.args.opener.now c.open.result c.open.new.self c.in-Some.reader
    c.new-reader.result c.read_document-read.new.reader c.close.new.self c.open.ensures c.in-Some.is c.new-reader.ensures.inner c.new-reader.ensures.failures
    c.close.ensures c.read_document-read.result c.read_document-read.ensures.document c.read_document-read.ensures.steady

pub returns-clause-stop : goal.returns-clause-stop
returns-clause-stop g c =
    is_lost g.O.Opener.opens g.O.Opener.closes g.O.Reader.Read.remaining c.args.path.now c.args.opener.now c.open.result c.open.new.self c.in-Some.reader
    c.new-reader.result c.read_document-read.new.reader c.close.new.self c.open.ensures c.in-Some.is c.new-reader.ensures.inner c.new-reader.ensures.failures
    c.close.ensures c.read_document-read.result c.read_document-read.ensures.stop
