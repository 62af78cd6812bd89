use Rattle.std.proofs.Common.{◌≡◌, take, false, bytes_eq}
use Rattle.std.specs.List.{list_any}
use Rattle.csvw_meta.proofs.repeated.has_text.Given as goal

abbrev pub invariant-loop-earlier : goal.invariant-loop-earlier
invariant-loop-earlier l = list_any (λ t. bytes_eq t l.text) (take l.earlier-index l.texts) ≡ false
