-- What is left of a document has other bytes exactly if something isn't as it was.
use Rattle.std.proofs.Common.{List, [], ◌∷◌, ℕ, Some, None, refl}
use Rattle.serde_json.specs.Data.{Data}
use Rattle.csvw_meta_core.specs.declared.fault.MetaFault.{MetaFault}
use Rattle.csvw_meta_core.specs.Read.{Read, under}
use Rattle.csvw_defaults.specs.Documents.{AreBytes, AreNew, IsLeftOf, IsOf}

other : (fs : List MetaFault) (value : Data) (old new : List ℕ) → AreNew fs value (Some new) → AreBytes old fs (Some value) new
other [] value old new h = absurd h
other (f ∷ fs) value old new h = h

same : (fs : List MetaFault) (value : Data) (old : List ℕ) → AreNew fs value None → AreBytes old fs (Some value) old
same [] value old h = refl
same (f ∷ fs) value old h = absurd h

pub becomes_other : (left : Read Data) (old new : List ℕ) (faults : List MetaFault) → IsLeftOf left (Some new) faults → IsOf (under Some left) old new faults
becomes_other left old new faults h = record { faults = h.faults_are; bytes = other left.faults left.value old new h.bytes_are }

pub stays_same : (left : Read Data) (old : List ℕ) (faults : List MetaFault) → IsLeftOf left None faults → IsOf (under Some left) old old faults
stays_same left old faults h = record { faults = h.faults_are; bytes = same left.faults left.value old h.bytes_are }
