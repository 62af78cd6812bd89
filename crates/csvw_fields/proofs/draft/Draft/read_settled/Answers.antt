use Rattle.std.proofs.Common.{◌∙◌, List, ℕ, length, take, drop, chars, ap}
use Rattle.csvw_records.specs.RecordLaws.{laws_of}
use Rattle.std.proofs.lemmas.Str.{IsUtf8-from_is_utf8, IsCharBoundary-from_drop}
use Rattle.csvw_records.specs.NextRow.{settled}
use Rattle.csvw_fields.proofs.DraftRuns.{reads_goes}
use Rattle.csvw_fields.proofs.draft.Draft.read_settled.Goals as goal

pub split_at-requires : goal.split_at-requires
split_at-requires c =
    let i = c.requires in
    IsCharBoundary-from_drop c.args.rest.now c.args.self.now.read i.within (IsUtf8-from_is_utf8 (drop c.args.self.now.read c.args.rest.now) i.back)

pub returns : goal.returns
returns c =
    let d = c.args.rules.now.dialect in
    let s = c.args.self.now in
    let rest : List ℕ = c.args.rest.now in
    let back = c.split_at.ensures.back in
    let text : List ℕ = c.settled-text.result.now in
    reads_goes (laws_of c.record_laws.ensures) d s c.read.new.self rest text c.read.result c.utf8.rest c.settled-text.utf8 c.requires
    (c.settled-text.ensures.front ∙ ap (take (length text)) back) (c.settled-text.ensures.chars ∙ ap (λ l. settled d (chars l)) back) c.read.ensures
