-- Two blocks that overlap cover all bytes.
use Rattle.std.proofs.Common.{ℕ, ◌+◌, ◌-◌, ◌<◌, ◌≤◌, Bool, true, false, List, length, take_all, sym, ◌∙◌, ⊎_elim, arith}
use Rattle.std.specs.Bool.{OnTrue}
use Rattle.std.proofs.lemmas.Bool.{cases_lt}
use Rattle.csvw_ntriples.specs.Escape.{PlainBetween}
use Rattle.csvw_ntriples.specs.PlainCopy.{IsCopied, IsPlainCopy}
use Rattle.csvw_ntriples.proofs.unescaped.copy_plain_short.Goals as goal

both_looks : (r : Bool) (n : ℕ) (bytes room : List ℕ) → n ≤ length bytes → length bytes ≤ n + n → PlainBetween bytes 0 n
    → OnTrue r (IsCopied bytes room (length bytes - n + n)) → OnTrue r (PlainBetween bytes (length bytes - n) (length bytes - n + n))
    → OnTrue r (IsPlainCopy bytes room)
both_looks true n bytes room within twice front copied back = (
  sym (take_all _ room (omega (arith, copied.0, within))) ∙ copied.1 ∙ take_all _ bytes (omega arith),
  λ k _ lt. ⊎_elim (λ (l : k < n). front k (omega arith) l) (λ (l : n ≤ k). back k (omega arith) (omega arith)) (cases_lt k n),
)
both_looks false n bytes room within twice front copied back = tt

pub returns-then-copy_plain_8 : goal.returns-then-copy_plain_8
returns-then-copy_plain_8 c =
    let last = c.copy_plain_8-then-copy_plain_8 in
    both_looks last.result 8 c.args.bytes.now last.new.room c.if-len-ge8.true c.requires.short c.if-copy_plain_8.ensures.plain
    last.ensures.copied last.ensures.plain

pub returns-then-copy_plain_4 : goal.returns-then-copy_plain_4
returns-then-copy_plain_4 c =
    let last = c.copy_plain_4-then-copy_plain_4 in
    both_looks last.result 4 c.args.bytes.now last.new.room c.if-len-ge4.true (omega arith) c.if-copy_plain_4.ensures.plain
    last.ensures.copied last.ensures.plain
