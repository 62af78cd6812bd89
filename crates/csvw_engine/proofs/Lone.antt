-- A run over one reader.
use Rattle.std.proofs.Common.{◌≡◌, ℕ, List, [], ◌∷◌, length, refl, sym, ap, ◌∙◌, subst, arith, Option, Result, slice_index_or}
use Rattle.csvw_streams.specs.declared.counted.Counted.{Counted}
use Rattle.csvw_streams.specs.Streams.{Stream}
use Rattle.csvw_meta.specs.Document.{Document}
use Rattle.csvw_triples_core.specs.declared.mode.Mode.{Mode}
use Rattle.csvw_report.specs.declared.outcome.Outcome.{Outcome}
use Rattle.csvw_session.specs.Events.{Event}
use Rattle.csvw_engine_core.specs.declared.stop.Stop.{Stop}
use Rattle.csvw_engine.specs.Runs.{Runs}

-- a list of one item
lone : {X : Type 0} (xs : List X) (d : X) → length xs ≡ 1 → xs ≡ slice_index_or xs 0 d ∷ []
lone [] d e = cc
lone (x ∷ []) d e = refl
lone (x ∷ (y ∷ xs)) d e = absurd (omega (arith, e))

pub runs_lone : {R : Type 0} (remaining : R → Option (List ℕ)) (order : ℕ → List Event → Type 0) (described : Document) (m : Mode) (old : Counted R)
    (olds given news : List (Counted R)) (out report_out : Stream)
    → (result : Result Outcome Stop) → olds ≡ old ∷ [] → given ≡ news → length news ≡ 1 → Runs remaining order described m olds news out report_out result
    → Runs remaining order described m (old ∷ []) (slice_index_or given 0 old ∷ []) out report_out result
runs_lone remaining order described m old olds given news out report_out result is final one runs =
    subst (λ xs. Runs remaining order described m (old ∷ []) xs out report_out result) (lone news old one ∙ ap (λ xs. slice_index_or xs 0 old ∷ []) (sym final))
    (subst (λ xs. Runs remaining order described m xs news out report_out result) is runs)
