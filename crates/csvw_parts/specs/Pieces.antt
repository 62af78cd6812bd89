-- One read of a part: `GivesPiece`.
use Rattle.std.specs.Prelude.{◌≡◌, ◌<◌, ◌≤◌, ℕ, List, [], length, take, Option, Result, Ok, Err}
use Rattle.std.specs.Io.KnownBytes.{Consumes, IsAtEnd}
use Rattle.csvw_streams.specs.declared.counted.Counted.{Counted}
use Rattle.csvw_streams.specs.Count.{one_more}
use Rattle.csvw_streams.specs.Counted.{inner_of, failures_of}
use Rattle.csvw_parts.specs.declared.fault.PartFault.{PartFault}
use Rattle.csvw_parts.specs.declared.fault.PartFault.TheVariants as fault

-- one read gave so many bytes, at least one and at most those that are left; or it reported the end, or it failed
abbrev pub GivesPiece : {R : Type 0} → (R → Option (List ℕ)) → Counted R → Counted R → List ℕ → ℕ → Result ℕ PartFault → Type 0
GivesPiece remaining old new room left (Ok n) = (0 < n) × (n ≤ left) × (n ≤ length room)
    × Consumes (remaining (inner_of old)) (remaining (inner_of new)) (take n room) × (failures_of new ≡ failures_of old)
GivesPiece remaining old new room left (Err fault.ShortFile) = Consumes (remaining (inner_of old)) (remaining (inner_of new)) []
    × IsAtEnd (remaining (inner_of new)) × (failures_of new ≡ failures_of old)
GivesPiece remaining old new room left (Err fault.Read) = Consumes (remaining (inner_of old)) (remaining (inner_of new)) []
    × (failures_of new ≡ one_more (failures_of old))
GivesPiece remaining old new room left (Err other) = ⊥
