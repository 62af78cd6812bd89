-- The result of a call that reads a part of a document.
use Rattle.std.specs.Prelude.{◌≡◌, List, Contains, Result, Ok, Err}
use Rattle.csvw_meta_core.specs.declared.fault.MetaFault.{MetaFault}
use Rattle.csvw_meta_core.specs.declared.fault.Refusal.{Refusal}
use Rattle.csvw_meta_core.specs.declared.fault.Refusal.TheVariants as refusal
use Rattle.csvw_meta_core.specs.Read.{Read, fine}

abbrev pub Fails : Refusal → List MetaFault → Type 0
Fails refusal.Memory faults = Unit {0}
Fails (refusal.Fault f) faults = Contains faults f

-- It returns the value of a part without faults, or a fault of the part, unless memory runs out.
abbrev pub Reads : {A : Type 0} → Result A Refusal → Read A → Type 0
Reads (Ok a) r = r ≡ fine a
Reads (Err e) r = Fails e r.faults
