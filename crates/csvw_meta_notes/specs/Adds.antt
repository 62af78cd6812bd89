-- The result of a call that reads a part of a document and adds its values to a list.
use Rattle.std.specs.Prelude.{◌≡◌, List, ◌++◌, Result, Ok, Err, ⊤}
use Rattle.csvw_meta_core.specs.declared.fault.Refusal.{Refusal}
use Rattle.csvw_meta_core.specs.Read.{Read, fine}
use Rattle.csvw_meta_core.specs.Reads.{Fails}

-- the list that was there before, followed by what a part says
abbrev pub with_front : {A : Type 0} → List A → Read (List A) → Read (List A)
with_front front r = record { faults = r.faults; value = front ++ r.value }

-- The list ends with what the part says, or the call returns a fault of the part, unless memory runs out.
abbrev pub Adds : {A : Type 0} → Result ⊤ Refusal → List A → List A → Read (List A) → Type 0
Adds (Ok u) old new r = with_front old r ≡ fine new
Adds (Err e) old new r = Fails e r.faults
