-- The facets that are read fit their type and each other, even if there is a fault in them.
use Rattle.std.specs.Prelude.{◌≡◌, ℕ, ◌&&◌, ◌||◌, not, Bool, true, false, List, Option, Some, None, IfSome, codes, ℤ}
use Rattle.std.proofs.Common.{refl, ap, cond}
use Rattle.serde_json.specs.Data.{Data, null, boolean, number, string, array, object}
use Rattle.serde_json.specs.Find.{get, as_integer}
use Rattle.csvw_datatype.specs.declared.value.Value.{Value}
use Rattle.csvw_datatype.specs.declared.simple.Simple.{Simple}
use Rattle.csvw_datatype.specs.declared.datatype.Facets.{Facets}
use Rattle.csvw_datatype.specs.Bounds.{bound_of, bound_of_whole}
use Rattle.csvw_datatype.specs.Breaks.{no_facets, has_lengths}
use Rattle.csvw_datatype.specs.Sound.{IsBoundOf, AreBoundsOf, lengths_apply, lengths_agree, bounds_agree, agree}
use Rattle.csvw_datatype.specs.Strings.{has_length}
use Rattle.csvw_meta_core.specs.declared.fault.MetaCode.TheVariants.{BadDatatype, BadProperty}
use Rattle.csvw_meta_core.specs.Pointer.{below}
use Rattle.csvw_meta_core.specs.Read.{fine, faulty, wrong, given, on_kind_as}
use Rattle.csvw_meta_datatype.specs.Bounds.{is_dated, bound_found, bound_of_integer, bound, bounds}
use Rattle.csvw_meta_datatype.specs.Facets.{each_facet, facets}
use Rattle.csvw_meta_datatype.specs.Fit.{FacetsFit}
use Rattle.csvw_meta_datatype.specs.Lengths.{length_on, length, lengths}

-- the laws of csvw_datatype: each bound that a text or a whole number is, fits its type
abbrev TextBoundsFit : Type 0
TextBoundsFit = (s : Simple) (text : List ℕ) → IfSome (bound_of s text) (IsBoundOf s)

abbrev WholeBoundsFit : Type 0
WholeBoundsFit = (s : Simple) (z : ℤ) → IfSome (bound_of_whole s z) (IsBoundOf s)

-- ---- lengths

lengths_on_text : (s : Simple) → (b : Bool) → has_length s ≡ b → lengths_apply s no_facets ≡ true
lengths_on_text s true is = ap (λ b. b || true) is
lengths_on_text s false is = ap (λ b. b || true) is

on_another : (b : Bool) (at : List ℕ) (n : ℕ) → b ≡ false → (cond b (fine (Some n)) (faulty BadDatatype at None)).value ≡ None
on_another true at n is = cc
on_another false at n is = refl

kind_on_another : (s : Simple) (at : List ℕ) (d : Data) (o : Option ℕ) → has_length s ≡ false
    → (on_kind_as BadProperty at d None o (length_on s at)).value ≡ None
kind_on_another s at d None is = refl
kind_on_another s at d (Some n) is = on_another (has_length s) at n is

given_on_another : (s : Simple) (at : List ℕ) (o : Option Data) → has_length s ≡ false → (given (length s) None at o).value ≡ None
given_on_another s at None is = refl
given_on_another s at (Some d) is = kind_on_another s at d _ is

-- no length stands on another type than string
applies : (s : Simple) (f : Facets) (b : Bool) → has_length s ≡ b → (has_length s ≡ false → f.length ≡ None) → (has_length s ≡ false → f.min_length ≡ None)
    → (has_length s ≡ false → f.max_length ≡ None) → lengths_apply s f ≡ true
applies s f true is exact least most = ap (λ b. b || not (has_lengths f)) is
applies s f false is exact least most = rw (is, exact is, least is, most is) refl

-- ---- bounds

module _ (texts : TextBoundsFit) (wholes : WholeBoundsFit) where
  found_fits : (s : Simple) (at : List ℕ) (o : Option Value) → IfSome o (IsBoundOf s) → IfSome (bound_found at o).value (IsBoundOf s)
  found_fits s at None fits = tt
  found_fits s at (Some v) fits = fits

  integer_fits : (s : Simple) (at : List ℕ) (d : Data) (o : Option ℤ) → IfSome (bound_of_integer s at d o).value (IsBoundOf s)
  integer_fits s at d None = tt
  integer_fits s at d (Some z) = by_kind (is_dated s)
    where
      by_kind : (b : Bool) → IfSome (cond b (wrong at d None) (bound_found at (bound_of_whole s z))).value (IsBoundOf s)
      by_kind true = tt
      by_kind false = found_fits s at _ (wholes s z)

  bound_fits : (s : Simple) (at : List ℕ) (d : Data) → IfSome (bound s at d).value (IsBoundOf s)
  bound_fits s at (string text) = found_fits s at _ (texts s text)
  bound_fits s at (number n) = integer_fits s at (number n) (as_integer n)
  bound_fits s at null = tt
  bound_fits s at (boolean b) = tt
  bound_fits s at (array ds) = tt
  bound_fits s at (object ms) = tt

  given_fits : (s : Simple) (at : List ℕ) (o : Option Data) → IfSome (given (bound s) None at o).value (IsBoundOf s)
  given_fits s at None = tt
  given_fits s at (Some d) = bound_fits s at d

  each_bound : (s : Simple) (at : List ℕ) (d : Data) → AreBoundsOf s (each_facet s at d).value
  unfolding each_facet bounds
  each_bound s at d = record {
    minimum = given_fits s (below at (codes "minimum")) (get (codes "minimum") d);
    min_inclusive = given_fits s (below at (codes "minInclusive")) (get (codes "minInclusive") d);
    min_exclusive = given_fits s (below at (codes "minExclusive")) (get (codes "minExclusive") d);
    maximum = given_fits s (below at (codes "maximum")) (get (codes "maximum") d);
    max_inclusive = given_fits s (below at (codes "maxInclusive")) (get (codes "maxInclusive") d);
    max_exclusive = given_fits s (below at (codes "maxExclusive")) (get (codes "maxExclusive") d);
  }

  each_length : (s : Simple) (at : List ℕ) (d : Data) → lengths_apply s (each_facet s at d).value ≡ true
  unfolding each_facet lengths
  each_length s at d =
      applies s (each_facet s at d).value _ refl (given_on_another s (below at (codes "length")) (get (codes "length") d))
      (given_on_another s (below at (codes "minLength")) (get (codes "minLength") d))
      (given_on_another s (below at (codes "maxLength")) (get (codes "maxLength") d))

  -- ---- facets

  none_fit : (s : Simple) → FacetsFit s no_facets
  none_fit s = record {
    bounds = record { minimum = tt; min_inclusive = tt; min_exclusive = tt; maximum = tt; max_inclusive = tt; max_exclusive = tt };
    lengths_apply = lengths_on_text s _ refl;
    lengths_agree = refl;
    bounds_agree = refl;
  }

  both : (a b : Bool) → (a && b) ≡ true → (a ≡ true) × (b ≡ true)
  both true b h = (refl, h)
  both false b h = cc

  agreeing_fit : (s : Simple) (at : List ℕ) (f : Facets) (b : Bool) → agree s f ≡ b → AreBoundsOf s f → lengths_apply s f ≡ true
      → FacetsFit s (cond b (fine f) (faulty BadDatatype at no_facets)).value
  agreeing_fit s at f true is bounds lengths =
      let h = both (lengths_agree f) (bounds_agree s f) is in
      record { bounds = bounds; lengths_apply = lengths; lengths_agree = h.0; bounds_agree = h.1 }
  agreeing_fit s at f false is bounds lengths = none_fit s

  pub facets_fit : (s : Simple) (at : List ℕ) (d : Data) → FacetsFit s (facets s at d).value
  facets_fit s at d = agreeing_fit s at (each_facet s at d).value _ refl (each_bound s at d) (each_length s at d)
