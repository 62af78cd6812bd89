-- The prefixes of the context of the CSVW namespace (https://www.w3.org/ns/csvw) that are replaced, and a text with its prefix
-- replaced.
use Rattle.std.specs.Prelude.{ℕ, ◌==◌, ◌++◌, List, Bool, codes, bytes_eq, if◌then◌else◌, [], ◌∷◌, Option, Some, None, nat_lt, nat_eq, length}
use Rattle.std.specs.List.{before_first, after_first, position_or_len, starts_with}

-- the IRI of a prefix
abbrev pub first_of : List ℕ → List (List ℕ × List ℕ) → Option (List ℕ)
first_of name [] = None
first_of name (p ∷ ps) = if bytes_eq name p.0 then Some p.1 else first_of name ps

abbrev pub prefixes : List (List ℕ × List ℕ)
prefixes =
    (codes "dc", codes "http://purl.org/dc/terms/")
    ∷ (codes "dcterms", codes "http://purl.org/dc/terms/")
    ∷ (codes "dc11", codes "http://purl.org/dc/elements/1.1/")
    ∷ (codes "foaf", codes "http://xmlns.com/foaf/0.1/")
    ∷ (codes "schema", codes "http://schema.org/")
    ∷ (codes "skos", codes "http://www.w3.org/2004/02/skos/core#")
    ∷ (codes "rdf", codes "http://www.w3.org/1999/02/22-rdf-syntax-ns#")
    ∷ (codes "rdfs", codes "http://www.w3.org/2000/01/rdf-schema#")
    ∷ (codes "owl", codes "http://www.w3.org/2002/07/owl#")
    ∷ (codes "xsd", codes "http://www.w3.org/2001/XMLSchema#")
    ∷ (codes "dcat", codes "http://www.w3.org/ns/dcat#")
    ∷ (codes "csvw", codes "http://www.w3.org/ns/csvw#")
    ∷ (codes "prov", codes "http://www.w3.org/ns/prov#")
    ∷ (codes "org", codes "http://www.w3.org/ns/org#")
    ∷ (codes "oa", codes "http://www.w3.org/ns/oa#")
    ∷ (codes "qb", codes "http://purl.org/linked-data/cube#")
    ∷ (codes "void", codes "http://rdfs.org/ns/void#")
    ∷ []

unfoldable pub iri_of_prefix : List ℕ → Option (List ℕ)
iri_of_prefix name = first_of name prefixes

abbrev pub is_colon : ℕ → Bool
is_colon b = b == 58

-- the IRI of the prefix and the rest; the text as it is if there is no prefix
abbrev pub expanded_by : Option (List ℕ) → List ℕ → List ℕ → List ℕ
expanded_by None rest text = text
expanded_by (Some iri) rest text = if starts_with nat_eq rest (codes "//") then text else iri ++ rest

-- If the text before the first colon is a prefix and `//` doesn't follow, it is replaced.
unfoldable pub expanded : List ℕ → List ℕ
expanded text =
    if nat_lt (position_or_len is_colon text) (length text)
    then expanded_by (iri_of_prefix (before_first is_colon text)) (after_first is_colon text) text
    else text
