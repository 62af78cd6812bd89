-- A file that is opened, read and handed back: `ReadsFile`; and why it isn't read: `ReadsNot`.
use Rattle.std.specs.Prelude.{◌≡◌, ◌⊎◌, ℕ, List, Option, None, Some}
use Rattle.csvw_streams.specs.declared.counted.Counted.{Counted}
use Rattle.csvw_streams.specs.Counted.{inner_of, failures_of}
use Rattle.csvw_engine_core.specs.declared.stop.Stop.{Stop}
use Rattle.csvw_engine_core.specs.declared.stop.Stop.TheVariants as stop
use Rattle.csvw_files.specs.Documents.{IsDocument, IsReadStop}

-- The file is opened and read: its reader, which had not failed, was read without a failure, and was handed back as it was left.
pub record ReadsFile {O R : Type 0} (opens : O → List ℕ → Option R → O → Type 0) (closes : O → Counted R → O → Type 0) (remaining : R → Option (List ℕ))
    (path : List ℕ) (old new : O) (bytes : List ℕ) : Type 0 where
  pub reader : Counted R
  pub between : O
  pub opened : opens old path (Some (inner_of reader)) between
  pub fresh : failures_of reader ≡ 0
  pub has : IsDocument (remaining (inner_of reader)) bytes
  pub left : Counted R
  pub steady : failures_of left ≡ 0
  pub closed : closes between left new

-- The file is opened, and its reader, which had not failed, fails, or memory runs out. The reader is handed back as it was left.
pub record LosesFile {O R : Type 0} (opens : O → List ℕ → Option R → O → Type 0) (closes : O → Counted R → O → Type 0) (path : List ℕ) (old new : O)
    (reason : Stop) : Type 0 where
  pub reader : Counted R
  pub between : O
  pub opened : opens old path (Some (inner_of reader)) between
  pub fresh : failures_of reader ≡ 0
  pub left : Counted R
  pub reason_is : IsReadStop reader left reason
  pub closed : closes between left new

-- why a file isn't read
abbrev pub ReadsNot : {O R : Type 0} → (O → List ℕ → Option R → O → Type 0) → (O → Counted R → O → Type 0) → List ℕ → O → O → Stop → Type 0
ReadsNot opens closes path old new reason = ((reason ≡ stop.Read) × opens old path None new) ⊎ LosesFile opens closes path old new reason
