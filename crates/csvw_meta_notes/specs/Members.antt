-- The names of the members of an object in an annotation, with the keywords of JSON-LD among them (Metadata Vocabulary for Tabular Data,
-- section 6.2).
use Rattle.std.specs.Prelude.{ℕ, ◌&&◌, ◌||◌, bytes_eq, not, List, [], ◌∷◌, Bool, codes, nat_eq, if◌then◌else◌, ⊤}
use Rattle.std.specs.List.{starts_with}
use Rattle.serde_json.specs.Data.{Data, Members, no_members, member}
use Rattle.csvw_meta_core.specs.declared.fault.MetaCode.TheVariants.{NotSupported}
use Rattle.csvw_meta_core.specs.Others.{has_colon, is_among}
use Rattle.csvw_meta_core.specs.Pointer.{below}
use Rattle.csvw_meta_core.specs.Read.{Read, fine, faulty, wrong, both}

-- a keyword
abbrev pub has_at : List ℕ → Bool
has_at name = starts_with nat_eq name (codes "@")

-- neither a keyword nor the name of a common property
abbrev pub is_plain : List ℕ → Bool
is_plain name = not (has_at name) && not (has_colon name)

unfoldable pub plain_member : List ℕ → List ℕ → Data → Read ⊤
plain_member at name d = if is_plain name then fine tt else wrong (below at name) d tt

-- the keywords of a literal
abbrev pub is_literal_keyword : List ℕ → Bool
is_literal_keyword name = bytes_eq name (codes "@value") || (bytes_eq name (codes "@language") || bytes_eq name (codes "@type"))

-- A literal has no other keyword and no common property.
abbrev pub literal_member : List ℕ → List ℕ → Data → Read ⊤
literal_member at name d = if is_literal_keyword name then fine tt else plain_member at name d

abbrev pub no_keyword : List ℕ → List ℕ → Data → Read ⊤
no_keyword at name d = if has_at name then wrong (below at name) d tt else fine tt

-- Lists and sets are not supported.
abbrev pub no_list : List ℕ → List ℕ → Data → Read ⊤
no_list at name d =
    if is_among (codes "@list" ∷ codes "@set" ∷ []) name then faulty NotSupported (below at name) tt else no_keyword at name d

-- A node has no other keyword.
abbrev pub node_member : List ℕ → List ℕ → Data → Read ⊤
node_member at name d = if is_among (codes "@id" ∷ codes "@type" ∷ []) name then fine tt else no_list at name d

-- each member by a rule
abbrev pub each_member : (List ℕ → List ℕ → Data → Read ⊤) → List ℕ → Members → Read ⊤
each_member rule at no_members = fine tt
each_member rule at (member name d ms) = both (λ _ rest. rest) (rule at name d) (each_member rule at ms)
