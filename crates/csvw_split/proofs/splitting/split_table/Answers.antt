-- The file was read whole, and its pieces were added.
use Rattle.std.proofs.Common.{◌≡◌, List, ℕ, Option, [], refl, subst}
use Rattle.std.specs.Prelude.{IfSome}
use Rattle.csvw_columns.specs.declared.plan.TablePlan.{TablePlan}
use Rattle.csvw_streams.specs.Counted.{inner_of}
use Rattle.csvw_split.specs.Adding.{AddsFile, AreCutsOf}
use Rattle.csvw_split.specs.Cuts.{Cuts}
use Rattle.csvw_split.proofs.SplitLemmas.{on_ok}
use Rattle.csvw_split.proofs.splitting.split_table.Goals as goal

pub returns-clause-adds : goal.returns-clause-adds
returns-clause-adds g c =
    let t = c.args.table.now in
    let known = g.R.Read.remaining (inner_of c.args.file.now.reader) in
    let before = c.args.pieces.now.pieces in
    let after = c.add.new.self.pieces in
    let begun : Cuts c.in-Some.cuts t [] = subst (λ o. IfSome o (λ f. Cuts f t [])) c.in-Some.is c.in-Ok.ensures.cuts in
    let Added = (u : TablePlan) (k : Option (List ℕ)) → u.number ≡ t.number → AreCutsOf u k c.in_ok-whole.whole → AddsFile u k before after in
    on_ok c.add.result Added (AddsFile t known before after) (λ adds. adds t known refl (c.in_ok-whole.ensures t begun)) c.add.ensures.adds
