-- The URI template that a value of a document is, and its fault (Metadata Vocabulary for Tabular Data, section 5.1.3).
use Rattle.std.specs.Prelude.{ℕ, List, [], Result, Ok, Err}
use Rattle.serde_json.specs.Data.{Data}
use Rattle.serde_json.specs.Find.{as_str}
use Rattle.csvw_template.specs.declared.fault.TemplateFault.{TemplateFault}
use Rattle.csvw_template.specs.declared.fault.TemplateFault.TheVariants as template
use Rattle.csvw_template.specs.declared.part.Part.{Part}
use Rattle.csvw_template.specs.Reading as reading
use Rattle.csvw_meta_core.specs.declared.fault.MetaCode.{MetaCode}
use Rattle.csvw_meta_core.specs.declared.fault.MetaCode.TheVariants.{Memory, TooLong, BadTemplate, TemplateLevel}
use Rattle.csvw_meta_core.specs.Read.{Read, fine, faulty, on_kind}

-- the code of a template's fault
abbrev pub template_code : TemplateFault → MetaCode
template_code template.Memory = Memory
template_code template.TooLong = TooLong
template_code template.BadTemplate = BadTemplate
template_code template.TemplateLevel = TemplateLevel

-- the parts of a template, or its fault
abbrev pub told_template : List ℕ → Result (List Part) TemplateFault → Read (List Part)
told_template at (Ok parts) = fine parts
told_template at (Err fault) = faulty (template_code fault) at []

-- a text that is a template
abbrev pub template_text : List ℕ → Data → Read (List Part)
template_text at d = on_kind at d [] (as_str d) (λ s. told_template at (reading.template s))
