-- What becomes of a value that may be of a kind that isn't permitted: `Judged` (Metadata Vocabulary for Tabular Data, section 5.1).
use Rattle.std.specs.Prelude.{ℕ, List, [], ◌∷◌, Bool, true, false, if◌then◌else◌, Option, Some, None}
use Rattle.serde_json.specs.Data.{Data, string}
use Rattle.csvw_meta_core.specs.declared.fault.MetaFault.{MetaFault}
use Rattle.csvw_meta_core.specs.declared.fault.MetaCode.{MetaCode}
use Rattle.csvw_meta_core.specs.declared.fault.MetaCode.TheVariants.{BadProperty, NotSupported}

pub record Judged : Type 0 where
  -- the values in it that are ignored or read as texts, each as the fault that it is in the profile core
  pub faults : List MetaFault
  -- whether the property that has the value is warned of
  pub is_ignored : Bool
  -- what the value is then, or none if the property is as if it weren't there
  pub value : Option Data

-- A permitted value stays.
abbrev pub stays : Data → Judged
stays d = record { faults = []; is_ignored = false; value = Some d }

-- the value at a place, as a fault
abbrev pub fault_at : MetaCode → List ℕ → List MetaFault
fault_at code at = record { code = code; pointer = at } ∷ []

-- A value of another kind is ignored.
abbrev pub ignored : List ℕ → Judged
ignored at = record { faults = fault_at BadProperty at; is_ignored = true; value = None }

-- A value of another kind is ignored, and counts as this one.
abbrev pub replaced : List ℕ → Data → Judged
replaced at d = record { faults = fault_at BadProperty at; is_ignored = true; value = Some d }

-- A number that isn't whole is this text.
abbrev pub as_text : List ℕ → List ℕ → Judged
as_text at s = record { faults = fault_at NotSupported at; is_ignored = false; value = Some (string s) }

abbrev pub if_permitted : Bool → List ℕ → Data → Judged
if_permitted is_permitted at d = if is_permitted then stays d else ignored at
