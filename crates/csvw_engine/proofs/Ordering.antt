-- Before any read the events are in each order.
use Rattle.std.proofs.Common.{◌≡◌, ℕ, List, [], ◌∷◌, ◌++◌, arith, refl, sym, subst}
use Rattle.csvw_session.specs.Events.{Event}
use Rattle.csvw_engine.specs.ReadOrder.{AreEndedBefore, AreReadEqually, AreReadIn}
use Rattle.csvw_engine.specs.Rooms.{IsOrder}
use Rattle.csvw_engine.specs.Texts.{piece_limit}
use Rattle.csvw_engine.specs.declared.room.Order.{Order}
use Rattle.csvw_engine.specs.declared.room.Order.TheVariants as order
use Rattle.csvw_engine.proofs.Converting.{none_in}

-- what comes first in no events is none
none_first : (front rest : List Event) → [] ≡ front ++ rest → front ≡ []
none_first [] rest e = refl
none_first (x ∷ xs) rest e = cc

no_event : (front rest : List Event) (event : Event) → [] ≡ front ++ event ∷ rest → ⊥
no_event [] rest event e = cc
no_event (x ∷ xs) rest event e = cc

in_each : (o : Order) (many : ℕ) → IsOrder o many []
in_each order.TableByTable many = λ front rest e. subst (λ events. AreEndedBefore many events) (sym (none_first front rest e))
    (λ t u some below last read. absurd (omega (arith, read)))
in_each order.InTurns many = λ front rest e. subst (λ events. AreReadEqually many events) (sym (none_first front rest e))
    (λ t u some below last goes on. (omega arith, omega arith))

pub none_in_order : (o : Order) (many : ℕ) → AreReadIn (IsOrder o) many piece_limit []
none_in_order o many = record {
  reads = record {
    in_order = record {
      known = λ event c. absurd (none_in event c);
      before_end = λ front rest event e. absurd (no_event front rest event e);
    };
    pieces = λ t piece c. absurd (none_in _ c);
    few = omega arith;
  };
  order = in_each o many;
}
