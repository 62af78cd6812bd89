-- The datatypes of literals (csv2rdf, section 4.6; Metadata Vocabulary for Tabular Data, section 5.11).
use Rattle.std.specs.Prelude.{ℕ, ◌++◌, List, codes, unwrap_or}
use Rattle.csvw_datatype.specs.Names.{name_of, text_type_iri}
use Rattle.csvw_datatype.specs.declared.datatype.Datatype.{Datatype}
use Rattle.csvw_datatype.specs.declared.simple.Simple.{Simple}
use Rattle.csvw_datatype.specs.declared.simple.Simple.TheVariants.{Other}

-- the IRI of a built-in datatype of XML Schema
abbrev pub xsd_type : Simple → List ℕ
xsd_type s = codes "http://www.w3.org/2001/XMLSchema#" ++ name_of s

-- the IRI of a built-in datatype
abbrev pub simple_iri : Simple → List ℕ
simple_iri (Other t) = text_type_iri t
simple_iri s = xsd_type s

-- the datatype of a value that was read: the datatype's `@id`, else its base
abbrev pub literal_datatype : Datatype → List ℕ
literal_datatype d = unwrap_or d.id (simple_iri d.simple)
