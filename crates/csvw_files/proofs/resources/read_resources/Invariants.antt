-- The resources in front were read.
use Rattle.std.proofs.Common.{take}
use Rattle.csvw_files.specs.ResourceFiles.{ReadsResources}
use Rattle.csvw_files.proofs.resources.read_resources.Given as goal

abbrev pub invariant-loop-file : goal.invariant-loop-file
invariant-loop-file g l =
    ReadsResources g.O.Opener.opens g.O.Opener.closes g.O.Reader.Read.remaining (take l.file-index l.files) l.initial.opener l.resources.items l.opener
