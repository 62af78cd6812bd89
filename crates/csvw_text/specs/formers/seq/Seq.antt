-- `Seq` as a type that may hold the type that holds it. Its value is the list of its elements. Their places are those of the vector.
use mathlib.Core.Path.{◌≡◌, refl, sym}
use mathlib.Core.List.{List, []}
use mathlib.Core.Former.{Former, this, list, via, children}
use base.Stored.{code_map}
use denote.RattleType.{RattleType}
use denote.HoleLaws.{Alike}
use denote.HolePlaces.{Recodes, struct_places, laid}
use denote.Hole.Carrier.{listed, list-listed}
use denote.Hole.Fix.{over}
use denote.Param.Weighed.{Weighed, w_list}
use denote.Model.Placed.{view_places}
use Rattle.std.specs.formers.vec.Vec as vec
use Rattle.std.specs.declared.alloc.Global.{Global}
use Rattle.std.specs.contracts.alloc.Global as heap
use Rattle.std.specs.contracts.impls.GlobalAllocator.TheImpl.{ghosts}
use Rattle.csvw_text.specs.declared.seq.Seq.TheInside.{Inside}
use Rattle.csvw_text.specs.declared.seq.Seq.TheView.{view, invariant}
use Rattle.csvw_text.specs.contracts.seq.Seq as outer
use Rattle.csvw_text.specs.contracts.seq.Seq.TheInside as inner

abbrev pub the_former : Former {0} → Former {0}
the_former f = list f

abbrev pub the_weighed : {f : Former {0}} → Weighed f → Weighed (the_former f)
the_weighed weighed = w_list weighed

abbrev pub the_empty : List ⊥
the_empty = []

abbrev pub the_items : (X : Type 0) → List X → List X
the_items X xs = xs

pub the_items_listed : (X : Type 0) (xs : List X) → listed _ (children (the_former this) X xs) ≡ the_items X xs
the_items_listed X xs = list-listed X xs

-- the one field
abbrev fields : Former {0}
fields = via (vec.the_former this Global) Inside (λ X i. i.inner) (λ X v. record { inner = v }) (λ X i. refl) (λ X v. refl)

module _ (A B : RattleType) (h : A.Denot → B.Denot) where
  pub the_places : Alike A B h → Alike (outer.the_row A) (outer.the_row B) ((the_former this).map A.Denot B.Denot h)
  the_places alike =
      view_places fields (list this) view (λ X Y k u. refl) (λ X u. refl) A.Denot B.Denot h (outer.the_row A).coded (outer.the_row B).coded
      (invariant A.Denot) (invariant B.Denot) (λ u p q. refl) (λ u p q. refl) (λ u e. tt) (λ u e. tt)
      (over (inner.the_row A)) (over (inner.the_row B))
      (struct_places (inner.the_type A) (inner.the_type B) (vec.mapped h, tt) _ (λ d. refl) refl
      (laid _ _ _ (vec.the_places heap.the_row ghosts A B h alike), tt))

  pub the_codes_placed : Recodes A B h → Recodes (outer.the_row A) (outer.the_row B) ((the_former this).map A.Denot B.Denot h)
  the_codes_placed same xs = sym (code_map A.coded.code B.coded.code h (λ x. sym (same x)) xs)
