use Rattle.std.proofs.Common.{refl, sym, subst}
use Rattle.csvw_fields.specs.FieldLaws.{field_laws_of}
use Rattle.csvw_records.specs.RecordLaws.{laws_of}
use Rattle.std.specs.Prelude.{encode_utf8_all}
use Rattle.csvw_fields.specs.Drafts.{IsDraft}
use Rattle.csvw_rows.specs.SourceState.{rest_bytes}
use Rattle.csvw_rows.proofs.TextLemmas.{bytes_more}
use Rattle.csvw_rows.proofs.States.{feed_holds}
use Rattle.csvw_rows.specs.IgnoredRows.{IsSearched}
use Rattle.csvw_rows.proofs.IgnoredLemmas.{searched_grows}
use Rattle.csvw_rows.proofs.rows.Rows.feed.Goals as goal

pub invariant_of-self-clause-drafted : goal.invariant_of-self-clause-drafted
invariant_of-self-clause-drafted c =
    let s = c.args.self.now in
    let g = c.in-Ok.ensures.grows in
    let b = bytes_more (rest_bytes s.source) (rest_bytes c.push.new.self) g.0 s.source.is_text c.push.new.self.is_text g.1 in
    subst (IsDraft s.rules.dialect s.draft) (sym b.0) ((field_laws_of c.field_laws.ensures).draft_grows s.rules.dialect s.draft (rest_bytes s.source)
    (encode_utf8_all g.0) s.drafted b.1)

pub invariant_of-self-clause-none_ends : goal.invariant_of-self-clause-none_ends
invariant_of-self-clause-none_ends c =
    let s = c.args.self.now in
    let g = c.in-Ok.ensures.grows in
    let b = bytes_more (rest_bytes s.source) (rest_bytes c.push.new.self) g.0 s.source.is_text c.push.new.self.is_text g.1 in
    subst (IsSearched s.rules.dialect s.searched) (sym b.0) (searched_grows s.rules.dialect s.searched (rest_bytes s.source) (encode_utf8_all g.0) s.none_ends)

pub invariant_of-self-in-Err-clause-drafted : goal.invariant_of-self-in-Err-clause-drafted
invariant_of-self-in-Err-clause-drafted c =
    (field_laws_of c.field_laws.ensures).fresh_draft c.args.self.now.rules.dialect c.clear-in-Err.new.self
    (rest_bytes c.push.new.self) c.clear-in-Err.ensures c.push.new.self.is_text

pub returns-in-Ok-clause-feeds : goal.returns-in-Ok-clause-feeds
returns-in-Ok-clause-feeds c = λ d max bytes given h.
    feed_holds (laws_of c.record_laws.ensures) c.args.self.now _ d max bytes c.args.piece.now given h refl refl refl refl refl refl c.in-Ok.ensures.pushes

pub invariant_of-self-clause-marked : goal.invariant_of-self-clause-marked
invariant_of-self-clause-marked c s is = c.none-self.ensures _ _

pub invariant_of-self-in-Err-clause-marked : goal.invariant_of-self-in-Err-clause-marked
invariant_of-self-in-Err-clause-marked c s is = c.none-self.ensures _ _
