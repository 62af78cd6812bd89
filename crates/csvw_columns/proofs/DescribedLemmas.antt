-- What a document describes is fit, and what its keys name exists.
use Rattle.std.proofs.Common.{◌≡◌, ◌≢◌, ◌∙◌, ℕ, ◌+◌, ◌<◌, zero, suc, List, [], ◌∷◌, length, map, get_or, refl, sym, ap, subst, arith, Bool, true}
use Rattle.std.proofs.Common.{false, cond, ◌||◌}
use Rattle.std.specs.Prelude.{Option, Some, None, IfSome, All, Contains, bytes_eq}
use Rattle.std.specs.List.{list_any, position_from}
use Rattle.std.proofs.lemmas.Bool.{cond-true, cond-false}
use Rattle.std.proofs.lemmas.List.{length-map, get_or-map}
use Rattle.std.proofs.lemmas.List.Elements.{All-nil, All-cons, All-head, All-tail, All-weaker, All-map}
use Rattle.std.proofs.lemmas.List.Folds.{list_any_at}
use Rattle.std.proofs.lemmas.Slice.Eq.{bytes_eq-Decides}
use Rattle.csvw_description.specs.declared.description.Description.{Description}
use Rattle.csvw_description.specs.declared.schema.Schema.{Schema}
use Rattle.csvw_description.specs.declared.table.TableDescription.{TableDescription}
use Rattle.csvw_iri.specs.Link.{iri_of}
use Rattle.csvw_description.specs.declared.foreign_key.ForeignKey.{ForeignKey}
use Rattle.csvw_description.specs.Name.{numbered_names}
use Rattle.csvw_description.specs.Plannable.{IsPlannable}
use Rattle.csvw_description.specs.Keys.{declared_names, own_or, AreAmong, IsReferenced, IsForeignKey, KeysResolve}
use Rattle.csvw_columns.specs.Distinct.{AllDistinct}
use Rattle.csvw_columns.specs.Fit.{IsFitGroup}
use Rattle.csvw_columns.specs.Keys.{place_of, number_at, numbers_of, names_at, foreign_key, IsResolved, AreResolved}
use Rattle.csvw_columns.specs.Plannable.{CanBePlanned}
use Rattle.csvw_columns.specs.PlanOf.{schema_of, table_plan, table_plans, targets_of}

fit_group : (d : Description) → IsPlannable d → IsFitGroup d
fit_group d fit = record { dialect = fit.dialect; inherited = fit.inherited; schema = fit.schema; limit = fit.limit; tables = fit.tables }

-- ---- names and tables that keys find

-- a text is among those that the test of `place_of` finds
among : (texts : List (List ℕ)) (text : List ℕ) → Contains texts text → list_any (λ t. bytes_eq t text) texts ≡ true
among texts text found =
    list_any_at (λ t. bytes_eq t text) texts found.0 text found.1 ((bytes_eq-Decides (get_or texts found.0 text) text).1 found.2)

placed : (test : List ℕ → Bool) (i : ℕ) (texts : List (List ℕ)) → list_any test texts ≡ true → 0 < number_at (position_from test i texts)
placed test i [] h = cc
placed test i (t ∷ ts) h =
    elim (test t) as (λ b. (b || list_any test ts) ≡ true → 0 < number_at (cond b (Some i) (position_from test (i + 1) ts))) [
      | true ↦ λ g. omega arith
      | false ↦ λ g. placed test (i + 1) ts g
    ]
    h

numbered : (names : List (List ℕ)) (name : List ℕ) → Contains names name → 0 < number_at (place_of names name)
numbered names name found = placed (λ t. bytes_eq t name) 0 names (among names name found)

all_numbered : (names key : List (List ℕ)) → AreAmong names key → All (λ n. 0 < n) (numbers_of names key)
all_numbered names key found =
    All-map (λ n. 0 < n) (λ name. number_at (place_of names name)) key
    (All-weaker (λ name. Contains names name) (λ name. 0 < number_at (place_of names name)) (numbered names) key found)

not_true : (b : Bool) → b ≢ true → b ≡ false
not_true true h = absurd (h refl)
not_true false h = refl

-- the place of the one text that is this one
place_at : (texts : List (List ℕ)) (i k : ℕ) (text : List ℕ) → k < length texts → get_or texts k text ≡ text → AllDistinct texts
    → position_from (λ t. bytes_eq t text) i texts ≡ Some (i + k)
place_at [] i k text lt here apart = absurd (omega (arith, lt))
place_at (t ∷ ts) i zero text lt here apart =
    let same : bytes_eq t text ≡ true = (bytes_eq-Decides t text).1 here in
    cond-true (bytes_eq t text) (Some i) (position_from (λ u. bytes_eq u text) (i + 1) ts) same ∙ ap Some (omega arith)
place_at (t ∷ ts) i (suc k) text lt here apart =
    let later : k < length ts = omega (arith, lt) in
    let unlike : t ≢ text = λ e. apart 0 (suc k) text (omega arith) lt (e ∙ sym here) in
    let other : bytes_eq t text ≡ false = not_true (bytes_eq t text) (λ e. unlike ((bytes_eq-Decides t text).0 e)) in
    let rest : AllDistinct ts = λ a b d less within. apart (suc a) (suc b) d (omega (arith, less)) (omega (arith, within)) in
    cond-false (bytes_eq t text) (Some i) (position_from (λ u. bytes_eq u text) (i + 1) ts) other
    ∙ place_at ts (i + 1) k text later here rest
    ∙ ap Some (omega arith)

-- ---- the keys of a table

declared_of : (t g : Option Schema) → declared_names (own_or t g) ≡ numbered_names 0 (schema_of t g).columns
declared_of (Some s) g = refl
declared_of None (Some s) = refl
declared_of None None = refl

module _ (d : Description) (fit : IsPlannable d) where
  module _ (key : ForeignKey) (t : TableDescription) (is : IsReferenced d key t) where
    place : place_of (map (λ t. iri_of t.url) d.tables) key.resource ≡ Some is.is_there.0
    place =
        let k = is.is_there.0 in
        let within : k < length (map (λ t. iri_of t.url) d.tables) = omega (arith, length-map d.tables (λ t. iri_of t.url), is.is_there.1) in
        let here : get_or (map (λ t. iri_of t.url) d.tables) k key.resource ≡ key.resource =
        get_or-map (λ t. iri_of t.url) d.tables k t key.resource is.is_there.1 ∙ ap (λ (u : TableDescription). iri_of u.url) is.is_there.2 ∙ is.url in
        place_at (map (λ t. iri_of t.url) d.tables) 0 k key.resource within here fit.urls ∙ ap Some (omega arith)

    names_there : names_at (targets_of d).names (place_of (targets_of d).urls key.resource) ≡ declared_names (own_or t.schema d.schema)
    names_there =
        ap (names_at (targets_of d).names) place
        ∙ get_or-map (λ t. numbered_names 0 (schema_of t.schema d.schema).columns) d.tables is.is_there.0 t [] is.is_there.1
        ∙ ap (λ (u : TableDescription). numbered_names 0 (schema_of u.schema d.schema).columns) is.is_there.2
        ∙ sym (declared_of t.schema d.schema)

  resolved_key : (own : List (List ℕ)) (key : ForeignKey) → IsForeignKey d own key
      → IsResolved (foreign_key (targets_of d).urls (targets_of d).names own key)
  resolved_key own key is =
      let t = is.referenced.0 in
      let to : IsReferenced d key t = is.referenced.1 in
      let there = names_there key t to in
      let at = names_at (targets_of d).names (place_of (targets_of d).urls key.resource) in
      record {
        columns = all_numbered own key.columns is.columns;
        table = subst (λ p. 0 < number_at p) (sym (place key t to)) (omega arith);
        referenced = all_numbered at key.referenced (subst (λ ns. AreAmong ns key.referenced) (sym there) to.columns);
        sides =
            length-map key.columns (λ name. number_at (place_of own name)) ∙ to.sides
            ∙ sym (length-map key.referenced (λ name. number_at (place_of at name)));
      }

  -- what the keys of a table name is there
  record AreFound (own : List (List ℕ)) (schema : Schema) : Type 0 where
    primary_key : AreAmong own schema.primary_key
    foreign_keys : All (IsForeignKey d own) schema.foreign_keys

  resolve : (s : Schema) → KeysResolve d s → AreFound (numbered_names 0 s.columns) s
  resolve s keys = record { primary_key = keys.primary_key; foreign_keys = keys.foreign_keys }

  resolve_own : (t g : Option Schema) → IfSome t (KeysResolve d) → IfSome g (KeysResolve d)
      → AreFound (numbered_names 0 (schema_of t g).columns) (schema_of t g)
  resolve_own (Some s) g a b = resolve s a
  resolve_own None (Some s) a b = resolve s b
  resolve_own None None a b = record { primary_key = All-nil (λ name. Contains [] name); foreign_keys = All-nil (IsForeignKey d []) }

  resolved_table : (n : ℕ) (t : TableDescription) → IfSome t.schema (KeysResolve d) → AreResolved (table_plan (targets_of d) d n t)
  resolved_table n t own =
      let schema = schema_of t.schema d.schema in
      let names = numbered_names 0 schema.columns in
      let found : AreFound names schema = resolve_own t.schema d.schema own fit.keys in
      let made = foreign_key (targets_of d).urls (targets_of d).names names in
      record {
        primary_key = all_numbered names schema.primary_key found.primary_key;
        foreign_keys =
            All-map IsResolved made schema.foreign_keys
            (All-weaker (IsForeignKey d names) (λ key. IsResolved (made key)) (resolved_key names) schema.foreign_keys found.foreign_keys);
      }

  resolved_tables : (n : ℕ) (ts : List TableDescription) → All (λ t. IfSome t.schema (KeysResolve d)) ts
      → All AreResolved (table_plans (targets_of d) d n ts)
  resolved_tables n [] all = All-nil AreResolved
  resolved_tables n (t ∷ ts) all =
      All-cons AreResolved (table_plan (targets_of d) d n t) (table_plans (targets_of d) d (n + 1) ts)
      (resolved_table n t (All-head (λ t. IfSome t.schema (KeysResolve d)) t ts all))
      (resolved_tables (n + 1) ts (All-tail (λ t. IfSome t.schema (KeysResolve d)) t ts all))

pub described : (d : Description) → IsPlannable d → CanBePlanned d
described d fit = record { fit = fit_group d fit; keys = resolved_tables d fit 1 d.tables fit.table_keys }
