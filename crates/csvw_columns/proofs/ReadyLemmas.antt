-- What is fit in a description is ready in its plan.
use Rattle.std.proofs.Common.{◌≡◌, ℕ, ◌+◌, List, [], ◌∷◌, map, refl, sym, ap, subst, arith, rules, length, ◌≤◌}
use Rattle.std.specs.Prelude.{Option, Some, None, IfSome, All}
use Rattle.std.proofs.lemmas.List.{length-map}
use Rattle.std.proofs.lemmas.List.Elements.{All-nil, All-cons, All-head, All-tail}
use Rattle.csvw_records.specs.declared.dialect.Dialect.{Dialect}
use Rattle.std.specs.Str.{chars}
use Rattle.std.proofs.lemmas.Str.{chars-IsAscii}
use Rattle.csvw_records.specs.Lawful.{IsLawful, default_dialect, has_break}
use Rattle.csvw_datatype.specs.declared.datatype.Datatype.{Datatype}
use Rattle.csvw_datatype.specs.Sound.{IsSound}
use Rattle.csvw_iri.specs.Link.{iri_of}
use Rattle.csvw_description.specs.declared.column.ColumnDescription.{ColumnDescription}
use Rattle.csvw_description.specs.declared.description.Description.{Description}
use Rattle.csvw_description.specs.declared.inherited.Inherited.{Inherited}
use Rattle.csvw_description.specs.declared.schema.Schema.{Schema}
use Rattle.csvw_description.specs.declared.table.TableDescription.{TableDescription}
use Rattle.csvw_columns_core.specs.Inherited.{inherited, string_type}
use Rattle.csvw_columns_core.specs.SchemaColumns.{declared_from}
use Rattle.csvw_description.specs.Name.{name_of, numbered_names}
use Rattle.csvw_columns.specs.Distinct.{AllDistinct}
use Rattle.csvw_description.specs.Plannable.{table_limit, IsFitDialect, HasSound, IsFitSchema, IsFitTable, column_limit}
use Rattle.csvw_columns.specs.Fit.{IsFitGroup}
use Rattle.csvw_columns.specs.PlanOf.{dialect_of, no_schema, schema_of, table_plan, table_plans, targets_of, plan_of}
use Rattle.csvw_columns.specs.declared.references.Targets.{Targets}
use Rattle.csvw_columns.specs.Ready.{AreReady, IsReady}
use Rattle.csvw_columns_core.specs.Sound.{AreSound}
use Rattle.csvw_columns.specs.Known.{IsKnown}
use Rattle.csvw_columns.specs.declared.planning.Known.{Known}
use Rattle.csvw_columns.proofs.ColumnLemmas.{length-declared}
use Rattle.csvw_columns.proofs.KeyLemmas.{length_numbered}

string_is_sound : IsSound string_type
string_is_sound = record {
  format = tt;
  bounds = record { minimum = tt; min_inclusive = tt; min_exclusive = tt; maximum = tt; max_inclusive = tt; max_exclusive = tt };
  lengths_apply = refl;
  lengths_agree = refl;
  bounds_agree = refl;
}

-- the comment prefix is one character
one_char : chars (35 ∷ []) ≡ 35 ∷ []
one_char = chars-IsAscii (35 ∷ []) (search rules)

default_is_lawful : IsLawful default_dialect
default_is_lawful = record {
  delimiter_cr = λ e. absurd (omega arith);
  delimiter_lf = λ e. absurd (omega arith);
  quote_cr = λ e. cc;
  quote_lf = λ e. cc;
  prefix = ap has_break one_char;
  apart = λ e. cc;
  delimiter_escape = λ e. cc;
  quote_escape = λ e. cc;
  terminators = refl;
}

-- the datatype that is found first, or string
sound_of : (c s t g : Option Datatype) → IfSome c IsSound → IfSome s IsSound → IfSome t IsSound → IfSome g IsSound → IsSound (inherited string_type c s t g)
sound_of (Some x) s t g a b d e = a
sound_of None (Some x) t g a b d e = b
sound_of None None (Some x) g a b d e = d
sound_of None None None (Some x) a b d e = e
sound_of None None None None a b d e = string_is_sound

module _ (url : List ℕ) (skipped : ℕ) (schema table group : Inherited) where
  sound_columns : HasSound schema → HasSound table → HasSound group → (n : ℕ) (cs : List ColumnDescription) → All (λ c. HasSound c.inherited) cs
      → AreSound (declared_from url skipped schema table group n cs)
  sound_columns s t g n [] all = tt
  sound_columns s t g n (c ∷ cs) all = (
    sound_of c.inherited.datatype schema.datatype table.datatype group.datatype (All-head (λ c. HasSound c.inherited) c cs all) s t g,
    sound_columns s t g (n + 1) cs (All-tail (λ c. HasSound c.inherited) c cs all),
  )

  names_from : (i : ℕ) (cs : List ColumnDescription) → map (λ c. c.name) (declared_from url skipped schema table group (i + 1) cs) ≡ numbered_names i cs
  names_from i [] = refl
  names_from i (c ∷ cs) = ap (λ names. name_of (i + 1) c ∷ names) (names_from (i + 1) cs)

fit_dialect : (t g : Option Dialect) → IfSome t IsFitDialect → IfSome g IsFitDialect → IsFitDialect (dialect_of t g)
fit_dialect (Some d) g a b = a
fit_dialect None (Some d) a b = b
fit_dialect None None a b = record { lawful = default_is_lawful; skipped = omega arith }

none_is_fit : IsFitSchema no_schema
none_is_fit = record {
  limit = omega arith;
  inherited = tt;
  datatypes = All-nil (λ c. HasSound c.inherited);
  names = λ i j d h k. absurd (omega arith);
}

fit_schema : (t g : Option Schema) → IfSome t IsFitSchema → IfSome g IsFitSchema → IsFitSchema (schema_of t g)
fit_schema (Some s) g a b = a
fit_schema None (Some s) a b = b
fit_schema None None a b = none_is_fit

module _ (targets : Targets) (d : Description) (plannable : IsFitGroup d) where
  ready_table : (n : ℕ) (t : TableDescription) → IsFitTable t → IsReady (table_plan targets d n t)
  ready_table n t fit =
      let dialect : IsFitDialect (dialect_of t.dialect d.dialect) = fit_dialect t.dialect d.dialect fit.dialect plannable.dialect in
      let schema : IsFitSchema (schema_of t.schema d.schema) = fit_schema t.schema d.schema fit.schema plannable.schema in
      let s = schema_of t.schema d.schema in
      let skipped = (dialect_of t.dialect d.dialect).skip_columns in
      let many = length-declared (iri_of t.url) skipped s.inherited t.inherited d.inherited 1 s.columns in
      record {
        dialect = dialect.lawful;
        skipped = dialect.skipped;
        limit = omega (arith, many, schema.limit);
        names = subst AllDistinct (sym (names_from (iri_of t.url) skipped s.inherited t.inherited d.inherited 0 s.columns)) schema.names;
        declared =
            sound_columns (iri_of t.url) skipped s.inherited t.inherited d.inherited schema.inherited fit.inherited plannable.inherited 1 s.columns
            schema.datatypes;
        header = sound_of None s.inherited.datatype t.inherited.datatype d.inherited.datatype tt schema.inherited fit.inherited plannable.inherited;
      }

  ready_tables : (n : ℕ) (ts : List TableDescription) → All IsFitTable ts → AreReady (table_plans targets d n ts)
  ready_tables n [] fit = tt
  ready_tables n (t ∷ ts) fit = (ready_table n t (All-head IsFitTable t ts fit), ready_tables (n + 1) ts (All-tail IsFitTable t ts fit))

pub ready : (d : Description) → IsFitGroup d → AreReady (plan_of d).tables
ready d plannable = ready_tables (targets_of d) d plannable 1 d.tables plannable.tables

-- what is known of a group that is fit keeps the limits
short_names : (group : Option Schema) (ts : List TableDescription) → IfSome group IsFitSchema → All IsFitTable ts
    → All (λ names. length names ≤ column_limit) (map (λ t. numbered_names 0 (schema_of t.schema group).columns) ts)
short_names group [] g fit = All-nil (λ names. length names ≤ column_limit)
short_names group (t ∷ ts) g fit =
    let schema : IsFitSchema (schema_of t.schema group) = fit_schema t.schema group (All-head IsFitTable t ts fit).schema g in
    let many = length_numbered 0 (schema_of t.schema group).columns in
    let first : length (numbered_names 0 (schema_of t.schema group).columns) ≤ column_limit = omega (arith, many, schema.limit) in
    All-cons (λ names. length names ≤ column_limit) (numbered_names 0 (schema_of t.schema group).columns)
    (map (λ t. numbered_names 0 (schema_of t.schema group).columns) ts) first (short_names group ts g (All-tail IsFitTable t ts fit))

pub known : (k : Known) (d : Description) → k.targets ≡ targets_of d → IsFitGroup d → IsKnown k
known k d targets fit =
    let tables : length (targets_of d).urls ≤ table_limit = omega (arith, length-map d.tables (λ t. iri_of t.url), fit.limit) in
    record {
      tables = subst (λ t. length t.urls ≤ table_limit) (sym targets) tables;
      names = subst (λ t. All (λ names. length names ≤ column_limit) t.names) (sym targets) (short_names d.schema d.tables fit.schema fit.tables);
    }
