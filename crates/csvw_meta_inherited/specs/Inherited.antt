-- The inherited properties of an object of a document, and their faults (Metadata Vocabulary for Tabular Data, section 5.7).
use Rattle.std.specs.Prelude.{ℕ, List, codes}
use Rattle.serde_json.specs.Data.{Data}
use Rattle.csvw_meta_core.specs.declared.fault.MetaCode.TheVariants.{BadProperty}
use Rattle.csvw_meta_core.specs.Read.{Read, fine, ◌>>=◌, optional, or_null}
use Rattle.csvw_meta_core.specs.Kinds.{truth, text, some_text, texts, language}
use Rattle.csvw_meta_core.specs.declared.context.Context.{Context}
use Rattle.csvw_meta_inherited.specs.declared.inherited.CellTexts.{CellTexts}
use Rattle.csvw_meta_inherited.specs.declared.inherited.InheritedFound.{InheritedFound}
use Rattle.csvw_meta_inherited.specs.declared.inherited.UriTemplates.{UriTemplates}
use Rattle.csvw_meta_inherited.specs.Datatype.{given_datatype}
use Rattle.csvw_meta_inherited.specs.TemplateText.{template_text}

-- the URI template properties: the subjects, predicates and objects of cells
unfoldable pub uri_templates : List ℕ → Data → Read UriTemplates
uri_templates at d = do
  about_url ← optional template_text at d (codes "aboutUrl")
  property_url ← optional template_text at d (codes "propertyUrl")
  value_url ← optional template_text at d (codes "valueUrl")
  fine (record { about_url = about_url; property_url = property_url; value_url = value_url })

-- what is said of the texts of cells: the replacement of an empty text, the language, and which texts are null
unfoldable pub cell_texts : List ℕ → Data → Read CellTexts
cell_texts at d = do
  default ← optional text at d (codes "default")
  lang ← optional (language BadProperty) at d (codes "lang")
  null_texts ← optional texts at d (codes "null")
  fine (record { default = default; lang = lang; null = null_texts })

-- The inherited properties of the column of this number (0: not a column), in the table of that number (0: in the group).
unfoldable pub inherited : Context → ℕ → ℕ → List ℕ → Data → Read InheritedFound
inherited context table column at d = do
  templates ← uri_templates at d
  given ← given_datatype context table column at d
  texts ← cell_texts at d
  ordered ← optional truth at d (codes "ordered")
  required ← optional truth at d (codes "required")
  separator ← optional (or_null some_text) at d (codes "separator")
  fine (record {
    inherited = record {
      about_url = templates.about_url;
      property_url = templates.property_url;
      value_url = templates.value_url;
      datatype = given.datatype;
      default = texts.default;
      lang = texts.lang;
      null = texts.null;
      ordered = ordered;
      required = required;
      separator = separator;
    };
    warnings = given.warnings;
  })
