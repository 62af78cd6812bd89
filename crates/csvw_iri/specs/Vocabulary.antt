-- IRIs of RDF and XML Schema that datatypes of literals have (RDF 1.1 Concepts, sections 3.3 and 5).
use Rattle.std.specs.Prelude.{ℕ, List, codes}

-- rdf:langString, the datatype of a literal with a language
abbrev pub lang_string : List ℕ
lang_string = codes "http://www.w3.org/1999/02/22-rdf-syntax-ns#langString"

abbrev pub xsd_string : List ℕ
xsd_string = codes "http://www.w3.org/2001/XMLSchema#string"

abbrev pub xsd_integer : List ℕ
xsd_integer = codes "http://www.w3.org/2001/XMLSchema#integer"

abbrev pub xsd_boolean : List ℕ
xsd_boolean = codes "http://www.w3.org/2001/XMLSchema#boolean"
