-- The call strips the heading exactly if it is there.
use Rattle.std.proofs.Common.{◌≡◌, ◌≢◌, ◌++◌, ℕ, List, subst}
use Rattle.std.specs.Prelude.{MatchOption}
use Rattle.std.proofs.lemmas.Bool.Decides.{Decides-eqb}
use Rattle.std.proofs.lemmas.Slice.Eq.{strip_prefix_is}
use Rattle.csvw_reports.proofs.reading.after_heading.Goals as goal

pub returns : goal.returns
returns c =
    let text = c.args.text.now in
    let stripped = strip_prefix_is Decides-eqb text c.as_bytes.result.now c.strip_prefix.result c.strip_prefix.ensures.cases in
    let P = λ (p : List ℕ). MatchOption c.strip_prefix.result ((rest : List ℕ) → text ≢ p ++ rest) (λ x. text ≡ p ++ x.now) in
    subst P c.as_bytes.ensures.value stripped
