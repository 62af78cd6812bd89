-- The IRIs of RDF that the triples of ordered lists use (RDF Schema 1.1, section 5.2).
use Rattle.std.specs.Prelude.{ℕ, List, codes}

abbrev pub rdf_first : List ℕ
rdf_first = codes "http://www.w3.org/1999/02/22-rdf-syntax-ns#first"

abbrev pub rdf_rest : List ℕ
rdf_rest = codes "http://www.w3.org/1999/02/22-rdf-syntax-ns#rest"

abbrev pub rdf_nil : List ℕ
rdf_nil = codes "http://www.w3.org/1999/02/22-rdf-syntax-ns#nil"
