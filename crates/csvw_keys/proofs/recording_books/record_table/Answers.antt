-- What the primary key needs is still recorded once what the foreign keys need is.
use Rattle.std.proofs.Common.{◌≡◌, true, map, sym, subst, All}
use Rattle.std.proofs.lemmas.Grind.{flat_map-append}
use Rattle.std.proofs.lemmas.List.Elements.{All-append, All-weaker}
use Rattle.csvw_keys.specs.Books.{is_served, purposes_of}
use Rattle.csvw_keys.specs.KeyRules.{KeyRule, primary_rules, recorded_for, recorded_rules, reference_rule}
use Rattle.csvw_keys.proofs.ServingLemmas.{served_still, still_more}
use Rattle.csvw_keys.proofs.recording_books.record_table.Goals as goal

pub returns-clause-more : goal.returns-clause-more
returns-clause-more c = still_more _ _ _ c.in_ok-record_primary.ensures.more c.in_ok-record_references.ensures.more

pub returns-clause-served : goal.returns-clause-served
returns-clause-served c =
    let plan = c.args.plan.now in
    let books = c.record_primary.new.books.items in
    let more = c.record_references.new.books.items in
    let primary = primary_rules plan.number plan.primary_key in
    let references = map (reference_rule plan.number) plan.foreign_keys in
    let before = λ (rule : KeyRule). is_served (purposes_of books) rule ≡ true in
    let after = λ (rule : KeyRule). is_served (purposes_of more) rule ≡ true in
    subst (All after) (sym (flat_map-append recorded_for primary references))
    (All-append after (recorded_rules primary) (recorded_rules references)
    (All-weaker before after (served_still books more c.in_ok-record_references.ensures.more) _ (rw c.as_slice.ensures at c.in_ok-record_primary.ensures.served))
    (rw c.as_slice-2.ensures at c.in_ok-record_references.ensures.served))
