-- The form is the one of the definition, and there is none if the text isn't a double.
use Rattle.std.proofs.Common.{◌∙◌}
use Rattle.csvw_double.proofs.FaultLemmas.{form_is}
use Rattle.csvw_double.proofs.double.double_of.Goals as goal

pub returns : goal.returns
returns c = c.ok.ensures.value ∙ form_is c.args.text.now _ c.in_ok-canonical_double.ensures
