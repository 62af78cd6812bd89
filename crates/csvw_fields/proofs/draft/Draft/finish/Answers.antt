use Rattle.std.proofs.Common.{◌∙◌, List, ℕ, drop, sym, subst, inl, inr}
use Rattle.csvw_records.specs.RecordLaws.{laws_of}
use Rattle.std.proofs.lemmas.Str.{IsUtf8-from_is_utf8, IsCharBoundary-from_drop}
use Rattle.csvw_fields.specs.declared.draft.Reading.TheVariants as reading
use Rattle.csvw_fields.specs.Drafts.{Reads, read_of}
use Rattle.csvw_fields.proofs.DraftRuns.{last_ended, last_open, last_broken, last_left}
use Rattle.csvw_fields.proofs.draft.Draft.finish.Goals as goal

pub split_at-requires : goal.split_at-requires
split_at-requires c =
    let i = c.requires in
    IsCharBoundary-from_drop c.args.rest.now c.args.self.now.read i.within (IsUtf8-from_is_utf8 (drop c.args.self.now.read c.args.rest.now) i.back)

pub returns-in_ok-close_field-in-Unfinished : goal.returns-in_ok-close_field-in-Unfinished
returns-in_ok-close_field-in-Unfinished c =
    let d = c.args.rules.now.dialect in
    let s = c.args.self.now in
    let rest : List ℕ = c.args.rest.now in
    let t = c.read.new.self in
    let u = c.close_field.new.self in
    let k : Reads d s t c.split_at.result.1.now reading.Unfinished = rw c.in-Unfinished.is at c.in_ok-read.ensures in
    let r : Reads d s t (drop (read_of s) rest) reading.Unfinished = subst (λ (l : List ℕ). Reads d s t l reading.Unfinished) c.split_at.ensures.back k in
    last_open (laws_of c.record_laws.ensures) d s rest c.utf8.rest c.requires t u r.0 r.1
    (sym c.is_quoted.ensures ∙ c.if-is_quoted.false) c.close_field.ensures.read c.in_ok-close_field-in-Unfinished.ensures.values

pub returns-in-Ended : goal.returns-in-Ended
returns-in-Ended c =
    let d = c.args.rules.now.dialect in
    let s = c.args.self.now in
    let rest : List ℕ = c.args.rest.now in
    let t = c.read.new.self in
    let k : Reads d s t c.split_at.result.1.now reading.Ended = rw c.in-Ended.is at c.in_ok-read.ensures in
    let r : Reads d s t (drop (read_of s) rest) reading.Ended = subst (λ (l : List ℕ). Reads d s t l reading.Ended) c.split_at.ensures.back k in
    last_ended (laws_of c.record_laws.ensures) d s rest c.utf8.rest c.requires t r.0 r.1

pub returns-then-is_quoted : goal.returns-then-is_quoted
returns-then-is_quoted c =
    let d = c.args.rules.now.dialect in
    let s = c.args.self.now in
    let rest : List ℕ = c.args.rest.now in
    let t = c.read.new.self in
    let k : Reads d s t c.split_at.result.1.now reading.Unfinished = rw c.in-Unfinished.is at c.in_ok-read.ensures in
    let r : Reads d s t (drop (read_of s) rest) reading.Unfinished = subst (λ (l : List ℕ). Reads d s t l reading.Unfinished) c.split_at.ensures.back k in
    inr (last_left (laws_of c.record_laws.ensures) d s rest c.utf8.rest c.requires t r.0 r.1 (sym c.is_quoted.ensures ∙ c.if-is_quoted.true))

pub returns-in-Broken : goal.returns-in-Broken
returns-in-Broken c =
    let d = c.args.rules.now.dialect in
    let s = c.args.self.now in
    let rest : List ℕ = c.args.rest.now in
    let t = c.read.new.self in
    let stop = c.in-Broken.stop in
    let k : Reads d s t c.split_at.result.1.now (reading.Broken stop) = rw c.in-Broken.is at c.in_ok-read.ensures in
    let r : Reads d s t (drop (read_of s) rest) (reading.Broken stop) = subst (λ (l : List ℕ). Reads d s t l (reading.Broken stop)) c.split_at.ensures.back k in
    inl (last_broken (laws_of c.record_laws.ensures) d s rest c.utf8.rest c.requires t stop r.0 r.1)
