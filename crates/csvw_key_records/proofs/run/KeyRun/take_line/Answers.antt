-- The line is that of a record, whose fault is written; or the run stops there.
use Rattle.std.proofs.Common.{◌≡◌, ◌∙◌, List, [], ◌∷◌, ◌++◌, flat_map, sym, subst}
use Rattle.std.specs.Option.{option_to_list}
use Rattle.csvw_fault.specs.declared.fault.Fault.{Fault}
use Rattle.csvw_report.specs.Report.{line}
use Rattle.csvw_streams.specs.Streams.{IsCut, Sends, stream_of}
use Rattle.csvw_key_records.specs.declared.judge.KeyJudge.{KeyJudge}
use Rattle.csvw_key_records.specs.declared.record.KeyRecord.{KeyRecord}
use Rattle.csvw_key_records.specs.declared.stop.KeyStop.TheVariants as stop
use Rattle.csvw_key_records.specs.Judging.{Holds}
use Rattle.csvw_key_records.specs.Records.{line_of}
use Rattle.csvw_key_records.specs.Runs.{GoesOn, StopsIn}
use Rattle.csvw_key_records.proofs.Running.{goes_on, halts_at, halts_cut, halts_no_record, if_err, on_ok}
use Rattle.csvw_key_records.proofs.run.KeyRun.take_line.Goals as goal

pub returns-in-Ok-clause-ok : goal.returns-in-Ok-clause-ok
returns-in-Ok-clause-ok g c =
    let contents = g.W.Write.contents in
    let r = c.in-Some.ensures.1 in
    let is : c.args.text.now ≡ line_of r = sym c.in-Some.ensures.0 ∙ c.in-Some.ensures.3.text in
    let holds = λ (records : List KeyRecord) (faults : List Fault) (before : Holds c.args.self.now.judge records faults).
    subst (λ (judge : KeyJudge). Holds judge (records ++ r ∷ []) (faults ++ option_to_list c.in-Ok.fault)) (sym c.settle.ensures.judge)
    (c.in-Ok.ensures.ok r records faults c.in-Some.ensures.2 c.in-Some.ensures.3 before) in
    on_ok c.settle.result (Sends (stream_of contents c.args.out.now c.settle.new.out) (flat_map line (option_to_list c.in-Ok.fault)))
    (GoesOn contents c.args.self.now c.settle.new.self c.args.out.now c.settle.new.out c.args.text.now)
    (goes_on contents c.args.self.now c.settle.new.self c.args.out.now c.settle.new.out c.args.text.now r c.in-Ok.fault is holds c.settle.ensures.lines
    c.settle.ensures.valid) c.settle.ensures.ok

pub returns-in-Ok-clause-stop : goal.returns-in-Ok-clause-stop
returns-in-Ok-clause-stop g c =
    let contents = g.W.Write.contents in
    let r = c.in-Some.ensures.1 in
    let is : c.args.text.now ≡ line_of r = sym c.in-Some.ensures.0 ∙ c.in-Some.ensures.3.text in
    let holds = λ (records : List KeyRecord) (faults : List Fault) (before : Holds c.args.self.now.judge records faults).
    subst (λ (judge : KeyJudge). Holds judge (records ++ r ∷ []) (faults ++ option_to_list c.in-Ok.fault)) (sym c.settle.ensures.judge)
    (c.in-Ok.ensures.ok r records faults c.in-Some.ensures.2 c.in-Some.ensures.3 before) in
    if_err c.settle.result (λ reason. (reason ≡ stop.Write) × IsCut (stream_of contents c.args.out.now c.settle.new.out) (flat_map line (option_to_list c.in-Ok.fault)))
    (StopsIn contents c.args.self.now c.args.out.now c.settle.new.out c.args.text.now)
    (λ reason cut. halts_cut contents c.args.self.now c.settle.new.self c.args.out.now c.settle.new.out c.args.text.now r c.in-Ok.fault is holds
    c.settle.ensures.lines c.settle.ensures.valid reason cut.0 cut.1) c.settle.ensures.cut

pub returns-in-Err-clause-stop : goal.returns-in-Err-clause-stop
returns-in-Err-clause-stop g c =
    let r = c.in-Some.ensures.1 in
    subst (StopsIn g.W.Write.contents c.args.self.now c.args.out.now c.args.out.now c.args.text.now) (sym c.stop_of.ensures)
    (halts_at g.W.Write.contents c.args.self.now c.args.out.now c.args.text.now c.in-Err.disorder r c.in-Some.ensures.2
    (sym c.in-Some.ensures.0 ∙ c.in-Some.ensures.3.text)
    (λ records faults holds. c.in-Err.ensures.disorder r records faults c.in-Some.ensures.2 c.in-Some.ensures.3 holds))

pub returns-in_default-clause-stop : goal.returns-in_default-clause-stop
returns-in_default-clause-stop g c =
    subst (StopsIn g.W.Write.contents c.args.self.now c.args.out.now c.args.out.now c.args.text.now) (sym c.wrong.ensures)
    (halts_no_record g.W.Write.contents c.args.self.now c.args.out.now c.args.text.now c.requires c.in_default.ensures)
