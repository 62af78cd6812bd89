-- Whether there is a `resource` is part of what is read.
use Rattle.std.proofs.Common.{None}
use Rattle.csvw_meta_faults_parts.proofs.reference.find_schema.Goals as goal

pub returns : goal.returns
returns c = rw c.has_resource.ensures at (c.find_property.ensures None)
