use Rattle.std.proofs.Common.{◌≡◌, ℕ, List, ◌+◌, arith, drop, subst}
use Rattle.memchr.specs.Find.{is_byte3, Nowhere, Passes, IsFirstByte}
use Rattle.csvw_fields.proofs.MarkLemmas.{far_ahead}
use Rattle.csvw_fields.proofs.marks.look_on.Goals as goal

pub returns-clause-ahead : goal.returns-clause-ahead
returns-clause-ahead c =
    let test = is_byte3 c.args.delimiter c.args.quote 10 in
    let text : List ℕ = c.args.text.now in
    let at = c.args.at in
    let n = c.in_ok-len.len in
    let m = c.marks_from.ensures in
    let to : c.marks_from.result.from + c.marks_from.result.len ≡ at + 64 = (let a = m.from in let b = m.len in omega (arith, a, b)) in
    let none : Nowhere (Passes test text) at (at + 64) = subst (λ (k : ℕ). Nowhere (Passes test text) at k) to (c.in_default.ensures test text m.marks) in
    let found : IsFirstByte test (drop (at + 64) text) c.memchr3-2.result =
    subst (λ (l : List ℕ). IsFirstByte test l c.memchr3-2.result) c.split_at-2.ensures.back c.memchr3-2.ensures in
    let first = rw c.in_ok-len.was at found in
    far_ahead test text at (at + 64) n _ (omega arith) (omega arith) none first.0 first.1
