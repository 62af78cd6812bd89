-- The lists have the lines of the records, and each is recorded.
use Rattle.std.proofs.Common.{◌≡◌, ◌∙◌, List, ℕ, true, All, IfErr, OnOk, subst, sym}
use Rattle.csvw_key_records.specs.declared.record.KeyRecord.{KeyRecord}
use Rattle.csvw_key_records.specs.Records.{Fits}
use Rattle.csvw_keys.specs.KeyRules.{is_recorded, recorded_rules, rules_of}
use Rattle.csvw_report.specs.Stops.{StopsAt}
use Rattle.csvw_row_keys.specs.declared.listing.Listing.{Listing}
use Rattle.csvw_row_keys.proofs.LineLemmas.{all_recorded, lines_are, records_are}
use Rattle.csvw_streams.specs.Streams.{stream_of, Sends}
use Rattle.csvw_row_keys.proofs.writing.write_records.Goals as goal

pub returns-in-Ok-clause-ok : goal.returns-in-Ok-clause-ok
returns-in-Ok-clause-ok g c = λ tables keeps.
    let rules = rules_of c.args.plan.now in
    let sent = stream_of g.V.Write.contents c.args.w.now c.write_listings.new.w in
    let listed = c.as_slice.ensures.value ∙ c.in-Ok.ensures in
    let all = subst (All (λ (l : Listing). is_recorded l.table l.columns (recorded_rules rules) ≡ true)) (sym listed) (all_recorded 1 rules) in
    subst (λ (text : List ℕ). OnOk c.write_listings.result (Sends sent text)) (lines_are tables 1 rules)
    (rw listed at (c.write_listings.ensures.ok (recorded_rules rules) tables keeps all))

pub returns-in-Ok-clause-stop : goal.returns-in-Ok-clause-stop
returns-in-Ok-clause-stop g c = λ tables keeps.
    let rules = rules_of c.args.plan.now in
    let sent = stream_of g.V.Write.contents c.args.w.now c.write_listings.new.w in
    let listed = c.as_slice.ensures.value ∙ c.in-Ok.ensures in
    let all = subst (All (λ (l : Listing). is_recorded l.table l.columns (recorded_rules rules) ≡ true)) (sym listed) (all_recorded 1 rules) in
    subst (λ (text : List ℕ). IfErr c.write_listings.result (λ stop. StopsAt sent text stop)) (lines_are tables 1 rules)
    (rw listed at (c.write_listings.ensures.stop (recorded_rules rules) tables keeps all))

pub returns-in-Ok-clause-fit : goal.returns-in-Ok-clause-fit
returns-in-Ok-clause-fit g c = λ tables keeps.
    let rules = rules_of c.args.plan.now in
    let listed = c.as_slice.ensures.value ∙ c.in-Ok.ensures in
    let all = subst (All (λ (l : Listing). is_recorded l.table l.columns (recorded_rules rules) ≡ true)) (sym listed) (all_recorded 1 rules) in
    subst (λ (records : List KeyRecord). OnOk c.write_listings.result (All Fits records)) (records_are tables 1 rules)
    (rw listed at (c.write_listings.ensures.fit (recorded_rules rules) tables keeps all))
