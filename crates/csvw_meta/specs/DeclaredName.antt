-- The declared names of columns (Metadata Vocabulary for Tabular Data, section 5.6, `name`): names of variables (RFC 6570, section 2.3)
-- that don't begin with `_`.
use Rattle.std.specs.Prelude.{ℕ, ◌==◌, ◌-◌, ◌&&◌, ◌||◌, not, List, [], ◌∷◌, Bool, nat_eq, length, codes, if◌then◌else◌}
use Rattle.std.specs.List.{slice_split, list_all, starts_with}
use Rattle.serde_json.specs.Data.{Data}
use Rattle.serde_json.specs.Find.{as_str}
use Rattle.csvw_iri.specs.Safe.{is_iri}
use Rattle.csvw_template.specs.Name.{is_hex, is_name_byte}
use Rattle.csvw_meta_core.specs.declared.fault.MetaCode.TheVariants.{BadName}
use Rattle.csvw_meta_core.specs.Read.{Read, fine, faulty, on_kind}

abbrev pub is_dot : ℕ → Bool
is_dot b = b == 46

-- letters, digits, `_` and triplets, after the start of a triplet of which so many digits remain
abbrev pub are_varchars : ℕ → List ℕ → Bool
are_varchars digits [] = digits == 0
are_varchars digits (b ∷ bs) =
    if digits == 0 then (if b == 37 then are_varchars 2 bs else is_name_byte b && are_varchars 0 bs)
    else is_hex b && are_varchars (digits - 1) bs

abbrev pub is_piece : List ℕ → Bool
is_piece piece = not (length piece == 0) && are_varchars 0 piece

-- pieces of one or more of these, separated by single dots
unfoldable pub is_variable : List ℕ → Bool
is_variable text = list_all is_piece (slice_split is_dot text)

-- Its characters may be raw in an IRIREF, as those of every variable may.
abbrev pub is_declared : List ℕ → Bool
is_declared text = not (starts_with nat_eq text (codes "_") || not (is_variable text)) && is_iri text

abbrev pub name : List ℕ → Data → Read (List ℕ)
name at d = on_kind at d [] (as_str d) (λ s. if is_declared s then fine s else faulty BadName at [])
