-- A list of faults for each type so far.
use Rattle.std.proofs.Common.{◌≡◌, List, Option, ℕ, map, take}
use Rattle.serde_json.specs.View.{view}
use Rattle.csvw_fault.specs.declared.fault.Place.{Place}
use Rattle.csvw_meta_core.specs.Pointer.{text_of}
use Rattle.csvw_meta_datatype.specs.Datatypes.{of_type}
use Rattle.csvw_meta_faults_parts.proofs.based.faults_of_each.Given as goal

abbrev pub invariant-loop-simple : goal.invariant-loop-simple
invariant-loop-simple l =
    (id : Option (List ℕ)) (place : Place) → l.lists.items
    ≡ map (λ s. (of_type l.profile id place (text_of l.part.at) (view l.part.value.now) s).faults) (take l.simple-index l.simples)
