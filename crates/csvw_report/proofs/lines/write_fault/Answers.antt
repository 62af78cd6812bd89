-- The record of the fault's fields is its line.
use Rattle.std.proofs.Common.{◌≢◌, ◌∙◌, arith, subst}
use Rattle.std.specs.Io.KnownBytes.{Appends}
use Rattle.csv.specs.Writing.{text_written}
use Rattle.csv.specs.declared.writer.QuoteStyle.TheVariants as style
use Rattle.csvw_report.proofs.LineFacts.{row-line}
use Rattle.csvw_report.proofs.lines.write_fault.Goals as goal

pub returns-clause-text : goal.returns-clause-text
returns-clause-text g c =
    let plain : c.args.rows.now.cfg.style ≢ style.NonNumeric = rw c.requires.setup (λ e. cc e) in
    let is = row-line c.args.fault.now c.args.rows.now.cfg _ _ _ _ _ c.requires.setup (omega arith) (omega arith) (omega arith)
    (c.as_bytes.ensures.value ∙ c.kind_name.ensures) (c.as_bytes-2.ensures.value ∙ c.name.ensures) (c.as_bytes-3.ensures.value ∙ c.format.ensures.text)
    (c.as_bytes-4.ensures.value ∙ c.format-2.ensures.text) (c.as_bytes-5.ensures.value ∙ c.format-3.ensures.text) in
    let Grows = Appends (text_written g.W.Write.contents c.args.rows.now) (text_written g.W.Write.contents c.write_fields.new.self) in
    subst Grows is (c.in_ok-write_fields.ensures.bytes c.requires.no_field c.requires.no_byte plain)
