-- The parts of each datatype that is read fit together, even if there is a fault in it.
use Rattle.std.specs.Prelude.{◌≡◌, ℕ, List, [], ◌∷◌, true, Option, Some, None, codes}
use Rattle.std.proofs.Common.{refl}
use Rattle.serde_json.specs.Data.{Data, null, boolean, number, string, array, object}
use Rattle.serde_json.specs.Find.{get}
use Rattle.url.specs.Parts.{Parts}
use Rattle.csvw_fault.specs.declared.fault.Place.{Place}
use Rattle.csvw_datatype.specs.declared.simple.Simple.{Simple}
use Rattle.csvw_datatype.specs.declared.simple.Simple.TheVariants.{Text, Truth, Whole, Decimal, Day, Uri, Derived, Moment, Other, Floating}
use Rattle.csvw_datatype.specs.declared.simple.TextType.TheVariants.{Any, Normalized, Token, Language, Name, NameToken, QualifiedName, Xml, Html, Json}
use Rattle.csvw_datatype.specs.declared.simple.TextType.TheVariants.{Time, Date, DateTime, Part, Binary, Duration}
use Rattle.csvw_datatype.specs.Formats.{IsFormatOf}
use Rattle.csvw_datatype.specs.Sound.{AreBoundsOf, IsSound, lengths_apply}
use Rattle.csvw_datatype.specs.Breaks.{no_facets}
use Rattle.csvw_meta_core.specs.declared.fault.MetaFault.{MetaFault}
use Rattle.csvw_meta_core.specs.Pointer.{below}
use Rattle.csvw_meta_core.specs.Read.{Read, given, optional, property}
use Rattle.csvw_meta_core.specs.Links.{id}
use Rattle.csvw_meta_datatype.specs.Formats.{format, no_format}
use Rattle.csvw_meta_datatype.specs.Facets.{facets}
use Rattle.csvw_meta_datatype.specs.Fit.{FacetsFit}
use Rattle.csvw_meta_datatype.specs.declared.form.DatatypeFound.{DatatypeFound}
use Rattle.csvw_meta_datatype.specs.Base.{base}
use Rattle.csvw_meta_datatype.specs.Datatypes.{named, of_type, based, form, datatype}
use Rattle.csvw_meta_core.specs.declared.profile.Profile.{Profile}
use Rattle.csvw_meta_datatype.specs.Names.{simples_of}
use Rattle.csvw_meta_datatype.specs.Whichever.{by_faults}

no_lengths : (s : Simple) → lengths_apply s no_facets ≡ true
no_lengths Text = refl
no_lengths Truth = refl
no_lengths Whole = refl
no_lengths Decimal = refl
no_lengths Day = refl
no_lengths Uri = refl
no_lengths (Derived w) = refl
no_lengths Moment = refl
no_lengths (Floating t) = refl
no_lengths (Other Any) = refl
no_lengths (Other Normalized) = refl
no_lengths (Other Token) = refl
no_lengths (Other Xml) = refl
no_lengths (Other Html) = refl
no_lengths (Other Json) = refl
no_lengths (Other Language) = refl
no_lengths (Other Name) = refl
no_lengths (Other NameToken) = refl
no_lengths (Other QualifiedName) = refl
no_lengths (Other Time) = refl
no_lengths (Other Date) = refl
no_lengths (Other (DateTime z)) = refl
no_lengths (Other (Part p)) = refl
no_lengths (Other (Binary form)) = refl
no_lengths (Other (Duration kind)) = refl

no_bounds : (s : Simple) → AreBoundsOf s no_facets
no_bounds s = record { minimum = tt; min_inclusive = tt; min_exclusive = tt; maximum = tt; max_inclusive = tt; max_exclusive = tt }

named_sound : (s : Simple) → IsSound (named s).datatype
named_sound s = record { format = tt; bounds = no_bounds s; lengths_apply = no_lengths s; lengths_agree = refl; bounds_agree = refl }

-- the laws of formats and facets

abbrev FormatsFit : Type 0
FormatsFit = (profile : Profile) (s : Simple) (place : Place) (at : List ℕ) (d : Data) → IsFormatOf s (format profile s place at d).value.format

abbrev AllFacetsFit : Type 0
AllFacetsFit = (s : Simple) (at : List ℕ) (d : Data) → FacetsFit s (facets s at d).value

given_format : FormatsFit → (profile : Profile) (s : Simple) (place : Place) (at : List ℕ) (o : Option Data)
    → IsFormatOf s (given (format profile s place) no_format at o).value.format
given_format formats profile s place at None = tt
given_format formats profile s place at (Some d) = formats profile s place at d

of_type_sound : FormatsFit → AllFacetsFit → (profile : Profile) (iri : Option (List ℕ)) (place : Place) (at : List ℕ) (d : Data) (s : Simple)
    → IsSound (of_type profile iri place at d s).value.datatype
unfolding of_type
of_type_sound formats all profile iri place at d s =
    let fit : FacetsFit s (facets s at d).value = all s at d in
    record {
      format = given_format formats profile s place (below at (codes "format")) (get (codes "format") d);
      bounds = fit.bounds;
      lengths_apply = fit.lengths_apply;
      lengths_agree = fit.lengths_agree;
      bounds_agree = fit.bounds_agree;
    }

by_sound : (types : List Simple) (faults : List MetaFault) (s : Simple) (next : Simple → Read DatatypeFound) → ((t : Simple) → IsSound (next t).value.datatype)
    → IsSound (by_faults types (named Text) faults s next).value.datatype
by_sound types [] s next each = each s
by_sound types (f ∷ fs) s next each = named_sound Text

module _ (formats : FormatsFit) (all : AllFacetsFit) where
  based_sound : (profile : Profile) (iri : Option (List ℕ)) (place : Place) (at : List ℕ) (d : Data) → IsSound (based profile iri place at d).value.datatype
  based_sound profile iri place at d =
      let type = property (base profile) Text at d (codes "base") in
      by_sound (simples_of profile) type.faults type.value (of_type profile iri place at d) (of_type_sound formats all profile iri place at d)

  form_sound : (profile : Profile) (against : Parts) (place : Place) (at : List ℕ) (d : Data) → IsSound (form profile against place at d).value.datatype
  unfolding form
  form_sound profile against place at d = based_sound profile (optional (id against) at d (codes "@id")).value place at d

  pub datatype_sound : (profile : Profile) (against : Parts) (place : Place) (at : List ℕ) (d : Data) → IsSound (datatype profile against place at d).value.datatype
  unfolding datatype
  datatype_sound profile against place at (object ms) = form_sound profile against place at (object ms)
  datatype_sound profile against place at null = named_sound _
  datatype_sound profile against place at (boolean b) = named_sound _
  datatype_sound profile against place at (number n) = named_sound _
  datatype_sound profile against place at (string s) = named_sound _
  datatype_sound profile against place at (array ds) = named_sound _
