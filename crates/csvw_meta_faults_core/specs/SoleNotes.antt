-- Parts of annotations that have at most one fault (Metadata Vocabulary for Tabular Data, sections 5.8 and 6.2).
use Rattle.std.specs.Prelude.{ℕ, List, [], ◌∷◌, Option, Some, None, codes, nat_eq, if◌then◌else◌}
use Rattle.std.specs.List.{starts_with}
use Rattle.url.specs.Parts.{Parts}
use Rattle.serde_json.specs.Data.{Data}
use Rattle.serde_json.specs.Find.{as_str}
use Rattle.csvw_iri.specs.Link.{link_of}
use Rattle.csvw_iri.specs.Prefix.{expanded}
use Rattle.csvw_iri.specs.Safe.{safe}
use Rattle.csvw_meta_core.specs.declared.fault.MetaCode.TheVariants.{BadId, BadProperty, NotSupported}
use Rattle.csvw_meta_core.specs.Links.{told}
use Rattle.csvw_meta_core.specs.Others.{is_among}
use Rattle.csvw_meta_core.specs.Pointer.{below}
use Rattle.csvw_meta_core.specs.Read.{fine, faulty, wrong}
use Rattle.csvw_meta_notes.specs.Literals.{one_of, for_text, is_no_text}
use Rattle.csvw_meta_notes.specs.Members.{has_at, is_plain, plain_member, is_literal_keyword, literal_member, no_keyword, no_list, node_member}
use Rattle.csvw_meta_notes.specs.Names.{has_scheme, name_of, type_name}
use Rattle.csvw_meta_notes.specs.Nodes.{node_id}
use Rattle.csvw_meta_faults_core.specs.Sole.{AtMostOne, of_kind, of_test, of_link}

-- ---- names

pub name_of_has_one : (at : List ℕ) (d : Data) (name : List ℕ) → AtMostOne (name_of at d name).faults
name_of_has_one at d name = of_test (has_scheme (expanded name)) (fine (safe (expanded name))) (wrong at d []) tt tt

pub type_name_has_one : (at : List ℕ) (d : Data) → AtMostOne (type_name at d).faults
type_name_has_one at d = of_kind BadProperty at d [] (as_str d) (name_of at d) (name_of_has_one at d)

pub node_id_has_one : (base : Parts) (at : List ℕ) (d : Data) → AtMostOne (node_id base at d).faults
node_id_has_one base at d =
    of_kind BadProperty at d [] (as_str d)
    (λ s. if starts_with nat_eq s (codes "_:") then faulty BadId at [] else told at [] (link_of base s))
    (λ s. of_test (starts_with nat_eq s (codes "_:")) (faulty BadId at []) (told at [] (link_of base s)) tt (of_link at [] (link_of base s)))

-- ---- members

plain_member_has_one : (at name : List ℕ) (d : Data) → AtMostOne (plain_member at name d).faults
unfolding plain_member
plain_member_has_one at name d = of_test (is_plain name) (fine tt) (wrong (below at name) d tt) tt tt

pub literal_member_has_one : (at name : List ℕ) (d : Data) → AtMostOne (literal_member at name d).faults
literal_member_has_one at name d =
    of_test (is_literal_keyword name) (fine tt) (plain_member at name d) tt (plain_member_has_one at name d)

no_keyword_has_one : (at name : List ℕ) (d : Data) → AtMostOne (no_keyword at name d).faults
no_keyword_has_one at name d = of_test (has_at name) (wrong (below at name) d tt) (fine tt) tt tt

no_list_has_one : (at name : List ℕ) (d : Data) → AtMostOne (no_list at name d).faults
no_list_has_one at name d =
    of_test (is_among (codes "@list" ∷ codes "@set" ∷ []) name) (faulty NotSupported (below at name) tt) (no_keyword at name d) tt
    (no_keyword_has_one at name d)

pub node_member_has_one : (at name : List ℕ) (d : Data) → AtMostOne (node_member at name d).faults
node_member_has_one at name d =
    of_test (is_among (codes "@id" ∷ codes "@type" ∷ []) name) (fine tt) (no_list at name d) tt (no_list_has_one at name d)

-- ---- literals

pub one_of_has_one : (at : List ℕ) (language type : Option Data) → AtMostOne (one_of at language type).faults
one_of_has_one at (Some l) (Some t) = tt
one_of_has_one at (Some l) None = tt
one_of_has_one at None (Some t) = tt
one_of_has_one at None None = tt

pub for_text_has_one : (at : List ℕ) (value : Data) (language : Option Data) → AtMostOne (for_text at value language).faults
for_text_has_one at value None = tt
for_text_has_one at value (Some l) = of_test (is_no_text value) (wrong (below at (codes "@language")) l tt) (fine tt) tt tt
