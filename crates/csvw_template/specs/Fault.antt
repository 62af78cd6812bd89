-- Faults of a template: steps that may fail, one after the other, and the fault that is reported.
use Rattle.std.specs.Prelude.{Option, Some, None, Result, Ok, Err}
use Rattle.csvw_template.specs.declared.fault.TemplateFault.{TemplateFault}
use Rattle.csvw_template.specs.declared.fault.TemplateFault.TheVariants.{Memory}

infixl 10 ◌>>=◌
abbrev pub ◌>>=◌ : {A B : Type 0} → Result A TemplateFault → (A → Result B TemplateFault) → Result B TemplateFault
(Ok a) >>= f = f a
(Err e) >>= f = Err e

-- the fault of the text; `Memory` is not one
abbrev pub told : TemplateFault → Option TemplateFault
told Memory = None
told fault = Some fault
