use Rattle.std.proofs.Common.{◌+◌, ℕ, List, arith, drop, subst}
use Rattle.std.specs.Prelude.{IfSome}
use Rattle.csvw_fields.specs.Cuts.{IsBehind, IsCut}
use Rattle.csvw_fields.proofs.CutLemmas.{quoted_cut, some_gives}
use Rattle.csvw_fields.proofs.Escapes.{quote_ahead, left_some, left_first}
use Rattle.csvw_fields.proofs.cutter.Cutter.cut_quoted.Goals as goal

pub returns-clause-cut : goal.returns-clause-cut
returns-clause-cut c =
    let q = c.requires in
    let d = c.args.self.dialect.now in
    let s = c.args.self.symbols in
    let text : List ℕ = c.args.self.text.now in
    let start = c.args.start in
    let r : List ℕ = drop start text in
    let m = c.in-Some.first in
    let spare : List ℕ = c.args.spare.now.items in
    let within = q.within in
    let a = quote_ahead s text start 1 m (omega (arith, within)) c.in-Some.ensures.ahead in
    let behind = subst (λ (l : List ℕ). IfSome c.behind.result (IsBehind d s l c.lent.result (m + 2))) c.split_at.ensures.back c.behind.ensures in
    some_gives (IsBehind d s r c.lent.result (m + 2)) (IsCut d r spare) c.behind.result
    (λ cut b. quoted_cut d s r spare m cut c.args.self.same_symbols q.text (left_some text start within) q.quoted (left_first text start s.quote q.quote)
    a.0 a.1 a.2
    (subst (λ x. IsBehind d s r x (m + 2) cut) c.lent.ensures b))
    behind
