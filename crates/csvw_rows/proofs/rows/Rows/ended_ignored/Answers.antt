use Rattle.std.proofs.Common.{◌≡◌, ◌∙◌, ◌+◌, length, drop, arith, ap}
use Rattle.csvw_records.specs.RecordLaws.{laws_of}
use Rattle.csvw_records.specs.Grammar.{terminator_len}
use Rattle.csvw_rows.specs.SourceState.{rest_bytes}
use Rattle.csvw_rows.proofs.DraftRows.{ignored_has, ignored_stops}
use Rattle.csvw_rows.proofs.rows.Rows.ended_ignored.Goals as goal

pub returns : goal.returns
returns c =
    let s = c.args.self.now in
    let len = c.args.len in
    let behind : c.split_at.result.1.now ≡ drop len (rest_bytes s.source) = c.split_at.ensures.back
    ∙ ap (drop len) (c.as_bytes.ensures.value ∙ c.rest.ensures.value) in
    let past = c.if-len-gt-ROW_LIMIT.false in
    ignored_has (laws_of c.record_laws.ensures) s len _ c.requires.next c.requires.read (omega (arith, past))
    (ap (λ n. len + n) (c.terminator_at.ensures.value ∙ ap (terminator_len s.rules.dialect) behind))
    (omega (arith, c.terminator_at.ensures.value ∙ ap (terminator_len s.rules.dialect) behind, c.terminator_at.ensures.within, ap length behind))

pub returns-then-len-gt-ROW_LIMIT : goal.returns-then-len-gt-ROW_LIMIT
returns-then-len-gt-ROW_LIMIT c = ignored_stops
    (laws_of c.record_laws.ensures) c.args.self.now c.args.len c.requires.next c.requires.read c.if-len-gt-ROW_LIMIT.true
