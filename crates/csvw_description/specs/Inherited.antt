-- The inherited properties of an object that has none of them: `no_inherited` (Metadata Vocabulary for Tabular Data, section
-- 5.7).
use Rattle.std.specs.Prelude.{None}
use Rattle.csvw_description.specs.declared.inherited.Inherited.{Inherited}

abbrev pub no_inherited : Inherited
no_inherited = record {
  about_url = None;
  property_url = None;
  value_url = None;
  datatype = None;
  default = None;
  lang = None;
  null = None;
  ordered = None;
  required = None;
  separator = None;
}
