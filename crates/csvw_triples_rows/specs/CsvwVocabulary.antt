-- The IRIs that the triples of standard mode use (CSVW Namespace Vocabulary Terms; RDF Schema 1.1).
use Rattle.std.specs.Prelude.{ℕ, List, codes}

-- csvw:table, from a group to its tables
abbrev pub table_of_group : List ℕ
table_of_group = codes "http://www.w3.org/ns/csvw#table"

-- csvw:Table
abbrev pub table_class : List ℕ
table_class = codes "http://www.w3.org/ns/csvw#Table"

-- csvw:TableGroup
abbrev pub group_class : List ℕ
group_class = codes "http://www.w3.org/ns/csvw#TableGroup"

-- csvw:url
abbrev pub csvw_url : List ℕ
csvw_url = codes "http://www.w3.org/ns/csvw#url"

-- csvw:row, from a table to its rows
abbrev pub row_of_table : List ℕ
row_of_table = codes "http://www.w3.org/ns/csvw#row"

-- csvw:Row
abbrev pub row_class : List ℕ
row_class = codes "http://www.w3.org/ns/csvw#Row"

-- csvw:rownum
abbrev pub csvw_rownum : List ℕ
csvw_rownum = codes "http://www.w3.org/ns/csvw#rownum"

-- csvw:title, from a row to its titles
abbrev pub csvw_title : List ℕ
csvw_title = codes "http://www.w3.org/ns/csvw#title"

-- csvw:describes, from a row to the subjects of its cells
abbrev pub csvw_describes : List ℕ
csvw_describes = codes "http://www.w3.org/ns/csvw#describes"

-- rdf:type
abbrev pub rdf_type : List ℕ
rdf_type = codes "http://www.w3.org/1999/02/22-rdf-syntax-ns#type"
