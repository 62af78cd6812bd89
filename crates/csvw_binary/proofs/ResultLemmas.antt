-- A result that is `Ok` is no error.
use Rattle.std.proofs.Common.{◌≡◌, Result, Ok, Err}
use Rattle.std.specs.Prelude.{IsOk}

pub not_both : {A E : Type 0} (r : Result A E) (e : E) → IsOk r → r ≡ Err e → ⊥
not_both (Ok x) e ok is = cc is
not_both (Err d) e ok is = cc ok
