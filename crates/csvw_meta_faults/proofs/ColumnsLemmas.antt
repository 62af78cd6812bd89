-- The rules over columns and tables don't look at what is left out of what is seen of them.
use mathlib.Core.Path.{fun_ext}
use Rattle.std.proofs.Common.{◌≡◌, ℕ, ◌+◌, ◌&&◌, ◌||◌, not, List, [], ◌∷◌, ◌++◌, Bool, false, if◌then◌else◌, map, drop, length, arith, Option, Some, None}
use Rattle.std.proofs.Common.{option_map, refl, ap, ap₂, ◌∙◌, codes}
use Rattle.std.specs.List.{list_any}
use Rattle.std.proofs.lemmas.List.{drop-map}
use Rattle.csvw_description.specs.Name.{name_of, numbered_names}
use Rattle.csvw_description.specs.declared.column.ColumnDescription.{ColumnDescription}
use Rattle.csvw_meta_core.specs.declared.fault.MetaFault.{MetaFault}
use Rattle.csvw_meta_core.specs.declared.fault.MetaCode.TheVariants.{DuplicateName, DuplicateTable, VirtualOrder}
use Rattle.csvw_meta_core.specs.Pointer.{below, item_at}
use Rattle.csvw_meta_core.specs.Rules.{could_read_property}
use Rattle.csvw_meta.specs.declared.table.TableFound.{TableFound}
use Rattle.csvw_meta.specs.Group.{url_faults, url_of}
use Rattle.csvw_meta.specs.NamesRead.{hides_first, name_known}
use Rattle.csvw_meta.specs.Repeated.{repeated}
use Rattle.csvw_meta.specs.Schema.{column_faults, with_row_titles}
use Rattle.csvw_meta.specs.VirtualOrder.{misplaced}
use Rattle.csvw_meta_faults.specs.Seen.{as_table, bare_column, bare_found, bare_schema, bare_table}
use Rattle.csvw_meta_faults.specs.declared.seen.TableSeen.{TableSeen}
use Rattle.csvw_meta_faults_parts.specs.BareKeys.{bare_keys}
use Rattle.csvw_meta_inherited.specs.declared.inherited.InheritedFound.{InheritedFound}
use Rattle.csvw_meta.specs.Body.{body_of}
use Rattle.csvw_meta.specs.declared.schema.SchemaFound.{SchemaFound}

-- ---- columns

pub bare_names : (i : ℕ) (cs : List ColumnDescription) → numbered_names i (map bare_column cs) ≡ numbered_names i cs
bare_names i [] = refl
bare_names i (c ∷ cs) = ap (λ ns. name_of (i + 1) c ∷ ns) (bare_names (i + 1) cs)

-- Whether the values of a column are titles of their rows is left out.
pub bare_titled : (names : List (List ℕ)) (i : ℕ) (cs : List ColumnDescription) → map bare_column (with_row_titles names i cs) ≡ map bare_column cs
bare_titled names i [] = refl
bare_titled names i (c ∷ cs) = ap (λ bs. bare_column c ∷ bs) (bare_titled names (i + 1) cs)

bare_first : (at : List ℕ) (i : ℕ) (cs : List ColumnDescription) (f : MetaFault) → hides_first at i (map bare_column cs) f ≡ hides_first at i cs f
bare_first at i [] f = refl
bare_first at i (c ∷ cs) f = refl

bare_known : (faults : List MetaFault) (at : List ℕ) (cs : List ColumnDescription) (i : ℕ)
    → name_known faults at (map bare_column cs) i ≡ name_known faults at cs i
bare_known faults at cs i =
    ap (λ ds. not (list_any (hides_first at i ds) faults)) (drop-map bare_column i cs)
    ∙ ap (λ p. not (list_any p faults)) (fun_ext (bare_first at i (drop i cs)))

bare_misplaced : (k : ℕ → Bool) (fault : ℕ → MetaFault) (behind : Bool) (i : ℕ) (cs : List ColumnDescription)
    → misplaced k fault behind i (map bare_column cs) ≡ misplaced k fault behind i cs
bare_misplaced k fault behind i [] = refl
bare_misplaced k fault behind i (c ∷ cs) = ap (λ fs. (if k i && (behind && not c.is_virtual) then fault i ∷ [] else []) ++ fs)
    (bare_misplaced k fault (behind || (k i && c.is_virtual)) (i + 1) cs)

pub bare_column_faults : (at : List ℕ) (faults : List MetaFault) (cs : List ColumnDescription)
    → column_faults at faults (map bare_column cs) ≡ column_faults at faults cs
bare_column_faults at faults cs =
    let name : ℕ → MetaFault = λ i. record { code = DuplicateName; pointer = item_at at i } in
    ap₂ (λ xs ys. xs ++ ys)
    (ap (λ ns. repeated (name_known faults at (map bare_column cs)) name [] 0 ns) (bare_names 0 cs)
    ∙ ap (λ k. repeated k name [] 0 (numbered_names 0 cs)) (fun_ext (bare_known faults at cs)))
    (bare_misplaced (λ i. could_read_property faults (item_at at i) (codes "virtual")) (λ i. record { code = VirtualOrder; pointer = item_at at i }) false 0 cs)

-- ---- tables

pub bare_urls : (ts : List TableFound) → map url_of (map bare_table ts) ≡ map url_of ts
bare_urls [] = refl
bare_urls (t ∷ ts) = ap (λ us. url_of t ∷ us) (bare_urls ts)

pub bare_url_faults : (at : List ℕ) (faults : List MetaFault) (ts : List TableFound) → url_faults at faults (map bare_table ts) ≡ url_faults at faults ts
bare_url_faults at faults ts =
    ap (repeated (λ i. could_read_property faults (item_at at i) (codes "url"))
    (λ i. record { code = DuplicateTable; pointer = below (item_at at i) (codes "url") }) [] 0) (bare_urls ts)

pub length_names : (i : ℕ) (cs : List ColumnDescription) → length (numbered_names i cs) ≡ length cs
length_names i [] = refl
length_names i (c ∷ cs) = let e = length_names (i + 1) cs in omega (arith, e)

pub length_urls : (ts : List TableSeen) → length (map url_of (map as_table ts)) ≡ length ts
length_urls [] = refl
length_urls (t ∷ ts) = let e = length_urls ts in omega (arith, e)

-- the schema of a body, and its keys
pub schema_seen : (s : Option SchemaFound) (f : InheritedFound) →
    option_map (λ x. x.schema) (option_map bare_found s) ≡ option_map bare_schema (body_of s f).schema
schema_seen None f = refl
schema_seen (Some s) f = refl

pub keys_seen : (s : Option SchemaFound) (f : InheritedFound) → option_map (λ x. x.keys) (option_map bare_found s) ≡ option_map bare_keys (body_of s f).keys
keys_seen None f = refl
keys_seen (Some s) f = refl
