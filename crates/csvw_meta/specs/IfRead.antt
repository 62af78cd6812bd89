-- The value of a part that could be read: `if_read`. Another value takes the place of one that couldn't: `value_or` (Metadata
-- Vocabulary for Tabular Data, section 5).
use Rattle.std.specs.Prelude.{List, [], ◌∷◌, Option, Some, None, unwrap_or}
use Rattle.csvw_meta_core.specs.declared.fault.MetaFault.{MetaFault}
use Rattle.csvw_meta_core.specs.Read.{Read}

-- none if there are faults
abbrev pub unless : {A : Type 0} → List MetaFault → A → Option A
unless [] a = Some a
unless (f ∷ fs) a = None

abbrev pub if_read : {A : Type 0} → Read A → Option A
if_read r = unless r.faults r.value

abbrev pub value_or : {A : Type 0} → A → Read A → A
value_or default r = unwrap_or (if_read r) default
