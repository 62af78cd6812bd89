use Rattle.std.proofs.Common.{ℕ, List, sym, subst, ap, ◌∙◌, take}
use Rattle.std.specs.Str.{IsAscii}
use Rattle.csvw_datatype_core.proofs.DateTimeLemmas.{digits_ascii}
use Rattle.csvw_datatype_core.proofs.date_time.digits_at.Goals as goal

pub returns-else-count-eq0-clause-ascii : goal.returns-else-count-eq0-clause-ascii
returns-else-count-eq0-clause-ascii c =
    let bs = c.args.bytes.now in
    let P : List ℕ → Type 0 = λ l. IsAscii l in
    subst P (sym (c.split_at.ensures.front ∙ ap (λ n. take n bs) c.digit_count-count.ensures)) (digits_ascii bs)
