use Rattle.csvw_datatype.specs.declared.simple.Simple.TheVariants as simples
use Rattle.csvw_datatype.proofs.LawLemmas.{writable_answer, writable_answers}
use Rattle.csvw_datatype.proofs.datatype.Datatype.read_with.Goals as goal

pub returns-in-Day-clause-writable : goal.returns-in-Day-clause-writable
returns-in-Day-clause-writable c =
    writable_answer c.values_of_texts.ensures.writable simples.Day c.args.self.now.format c.args.text.now c.read_day.result c.read_day.ensures

pub returns-in-Moment-clause-writable : goal.returns-in-Moment-clause-writable
returns-in-Moment-clause-writable c = writable_answer c.values_of_texts.ensures.writable simples.Moment c.args.self.now.format c.args.text.now
    c.read_date_time.result c.read_date_time.ensures

pub returns-in-Other-clause-writable : goal.returns-in-Other-clause-writable
returns-in-Other-clause-writable c =
    writable_answers c.values_of_texts.ensures.writable (simples.Other c.in-Other.text_type) c.args.self.now.format c.args.text.now c.read_text.result
    c.read_text.ensures
