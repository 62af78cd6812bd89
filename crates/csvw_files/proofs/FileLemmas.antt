-- A file that is opened, read and handed back. The result is that of the reading, so each of its cases is taken apart.
use Rattle.std.proofs.Common.{◌≡◌, ◌∙◌, ℕ, List, Option, Some, Result, Ok, Err, IfOk, IfErr, OnOk, Vec, Global, sym, subst, ap, inr}
use Rattle.csvw_streams.specs.declared.counted.Counted.{Counted}
use Rattle.csvw_streams.specs.Counted.{inner_of, failures_of}
use Rattle.csvw_engine_core.specs.declared.stop.Stop.{Stop}
use Rattle.csvw_files.specs.Documents.{IsDocument, IsReadStop}
use Rattle.csvw_files.specs.Files.{ReadsFile, ReadsNot}

module _ {O R : Type 0} (opens : O → List ℕ → Option R → O → Type 0) (closes : O → Counted R → O → Type 0) (remaining : R → Option (List ℕ))
    (path : List ℕ) (old : O) (gave : Option R) (between : O) (reader : R) (fresh left : Counted R) (new : O)
    (opened : opens old path gave between) (some : gave ≡ Some reader) (inner : inner_of fresh ≡ reader) (steady : failures_of fresh ≡ 0)
    (closed : closes between left new) where
  is_opened : opens old path (Some (inner_of fresh)) between
  is_opened = subst (λ x. opens old path x between) (some ∙ ap Some (sym inner)) opened

  pub is_read : (result : Result (Vec ℕ Global) Stop) → IfOk result (λ bytes. IsDocument (remaining (inner_of fresh)) bytes.items)
      → OnOk result (failures_of left ≡ failures_of fresh) → IfOk result (λ bytes. ReadsFile opens closes remaining path old new bytes.items)
  is_read (Ok bytes) has same = record {
    reader = fresh;
    between = between;
    opened = is_opened;
    fresh = steady;
    has = has;
    left = left;
    steady = same ∙ steady;
    closed = closed;
  }
  is_read (Err reason) has same = tt

  pub is_lost : (result : Result (Vec ℕ Global) Stop) → IfErr result (IsReadStop fresh left) → IfErr result (ReadsNot opens closes path old new)
  is_lost (Ok bytes) stops = tt
  is_lost (Err reason) stops = inr (record {
    reader = fresh;
    between = between;
    opened = is_opened;
    fresh = steady;
    left = left;
    reason_is = stops;
    closed = closed;
  })
