-- No bytes were read.
use Rattle.std.proofs.Common.{◌≡◌, None, [], ap, subst, rules}
use Rattle.std.proofs.lemmas.List.Elements.{All-same, All-nil}
use Rattle.csvw_split.specs.Cuts.{IsAfterFront, IsCut}
use Rattle.csvw_split.specs.FileState.{Follows}
use Rattle.csvw_split.proofs.cuts.FileCuts.new.Goals as goal

pub returns-clause-cuts : goal.returns-clause-cuts
returns-clause-cuts c =
    let t = c.args.table.now in
    let same : c.in_ok-dialect.dialect ≡ t.dialect = c.in_ok-dialect.ensures in
    let no_cuts : c.new-2.result ≡ [] = c.new-2.ensures in
    record {
      follows = subst (λ d. Follows c.in_ok-new.field-0 d []) same c.in_ok-new.ensures;
      bytes = search rules;
      skipped = ap (λ d. d.skip_rows) same;
      needed = c.front_rows.ensures;
      front = tt;
      cuts = All-same (IsCut t.dialect []) c.new-2.result [] no_cuts (All-nil (IsCut t.dialect []));
      after_front = All-same (IsAfterFront None) c.new-2.result [] no_cuts (All-nil (IsAfterFront None));
    }
