-- None of the resources before has the URL.
use Rattle.std.proofs.Common.{◌≡◌, drop}
use Rattle.csvw_bundle.specs.Bundles.{find}
use Rattle.csvw_bundle.proofs.named.find.Given as goal

abbrev pub invariant-loop-resource : goal.invariant-loop-resource
invariant-loop-resource l = find (drop l.resource-index l.resources) l.url ≡ find l.resources l.url
