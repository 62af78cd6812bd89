-- Properties and columns of the same parts are the same.
use Rattle.std.proofs.Common.{◌≡◌, ℕ, List, ◌++◌}
use Rattle.std.specs.Prelude.{codes}
use Rattle.csvw_columns_core.specs.declared.column.Column.{Column}
use Rattle.csvw_columns_core.specs.declared.properties.Properties.{Properties}

pub same_properties : (p q : Properties) → p.about_url ≡ q.about_url → p.property_url ≡ q.property_url → p.value_url ≡ q.value_url
    → p.datatype ≡ q.datatype → p.default ≡ q.default → p.lang ≡ q.lang → p.null ≡ q.null → p.ordered ≡ q.ordered → p.required ≡ q.required
    → p.separator ≡ q.separator → p ≡ q
same_properties p q about property value datatype default lang null ordered required separator = λ i. record {
  about_url = about i;
  property_url = property i;
  value_url = value i;
  datatype = datatype i;
  default = default i;
  lang = lang i;
  null = null i;
  ordered = ordered i;
  required = required i;
  separator = separator i;
}

pub same_column : (c d : Column) → c.name ≡ d.name → c.is_named ≡ d.is_named → c.titles ≡ d.titles → c.number ≡ d.number
    → c.source_number ≡ d.source_number → c.is_virtual ≡ d.is_virtual → c.suppressed ≡ d.suppressed → c.is_row_title ≡ d.is_row_title
    → c.predicate ≡ d.predicate → c.literal_datatype ≡ d.literal_datatype → c.properties ≡ d.properties → c ≡ d
same_column c d name named titles number source virtual suppressed row_title predicate literal properties = λ i. record {
  name = name i;
  is_named = named i;
  titles = titles i;
  number = number i;
  source_number = source i;
  is_virtual = virtual i;
  suppressed = suppressed i;
  is_row_title = row_title i;
  predicate = predicate i;
  literal_datatype = literal i;
  properties = properties i;
}

pub same_fragment : {predicate iri url text name resolved : List ℕ} → predicate ≡ iri ++ codes "#" ++ text → iri ≡ url → text ≡ name
    → name ≡ resolved → predicate ≡ url ++ codes "#" ++ resolved
same_fragment e base text resolved = cc
