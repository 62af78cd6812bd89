-- The bytes of a metadata document: `IsDocument`; and the stop if its reader fails: `IsReadStop`.
use Rattle.std.specs.Prelude.{◌≡◌, ◌⊎◌, ◌<◌, ◌≤◌, ℕ, Bool, true, false, List, [], ◌++◌, length, take, Option, IfSome, Result, Ok, Err}
use Rattle.std.specs.Io.KnownBytes.{Consumes, IsAtEnd}
use Rattle.csvw_streams.specs.declared.counted.Counted.{Counted}
use Rattle.csvw_streams.specs.Count.{one_more}
use Rattle.csvw_streams.specs.Counted.{inner_of, failures_of}
use Rattle.csvw_engine_core.specs.declared.stop.Stop.{Stop}
use Rattle.csvw_engine_core.specs.declared.stop.Stop.TheVariants as stop
use Rattle.csvw_files.specs.declared.document.TheConstants.{DOCUMENT_BYTES}

-- the bytes that a reader has, as far as they show whether a document is too long, which is at most 2^20 bytes
abbrev pub IsDocument : Option (List ℕ) → List ℕ → Type 0
IsDocument known bytes = IfSome known (λ xs. bytes ≡ take DOCUMENT_BYTES xs)

-- this reader failed, or there was no memory for what it gave
abbrev pub IsReadStop : {R : Type 0} → Counted R → Counted R → Stop → Type 0
IsReadStop old new reason = (reason ≡ stop.Memory) ⊎ ((reason ≡ stop.Read) × (failures_of new ≡ one_more (failures_of old)))

-- one read gave a piece, which has a byte and is at most as long as the room for it
pub record GavePiece {R : Type 0} (remaining : R → Option (List ℕ)) (old new : Counted R) (room : ℕ) (before after : List ℕ) : Type 0 where
  pub piece : List ℕ
  pub added : after ≡ before ++ piece
  pub some : 0 < length piece
  pub within : length piece ≤ room
  pub consumed : Consumes (remaining (inner_of old)) (remaining (inner_of new)) piece
  pub steady : failures_of new ≡ failures_of old

-- one read reported the end
pub record GaveEnd {R : Type 0} (remaining : R → Option (List ℕ)) (old new : Counted R) (before after : List ℕ) : Type 0 where
  pub same : after ≡ before
  pub consumed : Consumes (remaining (inner_of old)) (remaining (inner_of new)) []
  pub at_end : IsAtEnd (remaining (inner_of new))
  pub steady : failures_of new ≡ failures_of old

-- after one read: whether the document goes on, or why it can't be read
abbrev pub ReadsOn : {R : Type 0} → (R → Option (List ℕ)) → Counted R → Counted R → ℕ → List ℕ → List ℕ → Result Bool Stop → Type 0
ReadsOn remaining old new room before after (Ok true) = GavePiece remaining old new room before after
ReadsOn remaining old new room before after (Ok false) = GaveEnd remaining old new before after
ReadsOn remaining old new room before after (Err reason) = IsReadStop old new reason
