-- The law is two lemmas, one for each direction.
use Rattle.std.proofs.Common.{subst, sym, List}
use Rattle.csvw_ntriples.specs.Grammar.{Denotes}
use Rattle.csvw_ntriples.specs.declared.term.NtTriple.{NtTriple}
use Rattle.csvw_ntriples.proofs.Passing.{passes_down, passes_up}
use Rattle.csvw_ntriples.proofs.laws.passed_then_rest.Goals as goal

pub returns : goal.returns
returns c = λ bytes rest ts all p. (
  λ d. passes_down bytes rest ts all p d,
  λ r. subst (λ (z : List NtTriple). Denotes bytes z) (sym r.1) (passes_up bytes rest ts r.0 p r.2),
)
