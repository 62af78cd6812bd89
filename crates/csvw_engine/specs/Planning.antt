-- The stop that a fault of a metadata document becomes.
use Rattle.std.specs.Prelude.{◌≡◌, ◌≢◌, ◌⊎◌}
use Rattle.csvw_meta_core.specs.declared.fault.MetaCode.TheVariants.{Memory}
use Rattle.csvw_meta_core.specs.declared.fault.MetaFault.{MetaFault}
use Rattle.csvw_meta.specs.Document.{Document, IsFault}
use Rattle.csvw_engine_core.specs.declared.stop.Stop.{Stop}
use Rattle.csvw_engine_core.specs.declared.stop.Stop.TheVariants as stop

-- Memory becomes Memory
abbrev pub TellsFault : MetaFault → Stop → Type 0
TellsFault fault reason = ((fault.code ≡ Memory) × (reason ≡ stop.Memory)) ⊎ ((fault.code ≢ Memory) × (reason ≡ stop.Meta fault))

-- Memory, or one of the faults of the document
abbrev pub IsMetaStop : Document → Stop → Type 0
IsMetaStop described stop.Memory = Unit {0}
IsMetaStop described (stop.Meta fault) = IsFault described fault
IsMetaStop described other = ⊥
