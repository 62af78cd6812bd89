-- What becomes of the members of an object and of the items of an array (Metadata Vocabulary for Tabular Data, sections 5.1.1 and 5.1.5).
use Rattle.std.specs.Prelude.{ℕ, ◌+◌, List, [], ◌∷◌, ◌++◌, ◌||◌, Bool, false, codes, if◌then◌else◌, Option, Some, None}
use Rattle.serde_json.specs.Data.{Data, null, array, object, Items, no_items, item, Members, no_members, member, put}
use Rattle.json.specs.Json.{Json}
use Rattle.csvw_meta_core.specs.declared.fault.MetaFault.{MetaFault}
use Rattle.csvw_meta_core.specs.Pointer.{below, item_at}
use Rattle.csvw_defaults.specs.Judged.{Judged}
use Rattle.csvw_defaults.specs.Sources.{in_item, in_member}

-- what a value becomes, by its place, what the text says of it, and itself
abbrev pub Rule : Type 0
Rule = List ℕ → Option Json → Data → Judged

-- ---- the members of an object, by the rule of each name

-- the values in the members that are ignored
abbrev pub member_faults : (List ℕ → Rule) → List ℕ → Option Json → Members → List MetaFault
member_faults rule at j no_members = []
member_faults rule at j (member k d ms) = (rule k (below at k) (in_member k j) d).faults ++ member_faults rule at j ms

-- a member, unless it is as if it weren't there
abbrev pub kept_member : List ℕ → Option Data → Members → Members
kept_member k None ms = ms
kept_member k (Some d) ms = member k d ms

-- the members that are left, each with what its value is then
abbrev pub kept_members : (List ℕ → Rule) → List ℕ → Option Json → Members → Members
kept_members rule at j no_members = no_members
kept_members rule at j (member k d ms) = kept_member k (rule k (below at k) (in_member k j) d).value (kept_members rule at j ms)

abbrev pub and_name : Bool → List ℕ → List (List ℕ) → List (List ℕ)
and_name is_ignored k names = if is_ignored then k ∷ names else names

-- the names of the members that are warned of
abbrev pub ignored_names : (List ℕ → Rule) → List ℕ → Option Json → Members → List (List ℕ)
ignored_names rule at j no_members = []
ignored_names rule at j (member k d ms) = and_name (rule k (below at k) (in_member k j) d).is_ignored k (ignored_names rule at j ms)

-- ---- an object

-- The name of a member of which readers warn, since no object has such a property.
abbrev pub warning_name : List ℕ → List ℕ
warning_name name = name ++ codes " is ignored"

-- the members, with a member to warn of each of these names
abbrev pub with_warnings : List (List ℕ) → Members → Members
with_warnings [] ms = ms
with_warnings (name ∷ names) ms = with_warnings names (put (warning_name name) null ms)

-- what is left of an object with these members
abbrev pub left_of : (List ℕ → Rule) → List ℕ → Option Json → Members → Members
left_of rule at j ms = with_warnings (ignored_names rule at j ms) (kept_members rule at j ms)

-- An object warns of its members itself.
abbrev pub object_of : (List ℕ → Rule) → List ℕ → Option Json → Members → Judged
object_of rule at j ms = record { faults = member_faults rule at j ms; is_ignored = false; value = Some (object (left_of rule at j ms)) }

-- ---- the items of an array, the first of which has the index i here

abbrev pub item_faults : Rule → List ℕ → Option Json → ℕ → Items → List MetaFault
item_faults rule at j i no_items = []
item_faults rule at j i (item d ds) = (rule (item_at at i) (in_item i j) d).faults ++ item_faults rule at j (i + 1) ds

abbrev pub kept_item : Option Data → Items → Items
kept_item None ds = ds
kept_item (Some d) ds = item d ds

abbrev pub kept_items : Rule → List ℕ → Option Json → ℕ → Items → Items
kept_items rule at j i no_items = no_items
kept_items rule at j i (item d ds) = kept_item (rule (item_at at i) (in_item i j) d).value (kept_items rule at j (i + 1) ds)

abbrev pub any_ignored : Rule → List ℕ → Option Json → ℕ → Items → Bool
any_ignored rule at j i no_items = false
any_ignored rule at j i (item d ds) = (rule (item_at at i) (in_item i j) d).is_ignored || any_ignored rule at j (i + 1) ds

-- An array without the items that are ignored. The property that has it is warned of if there are such items.
abbrev pub array_of : Rule → List ℕ → Option Json → Items → Judged
array_of rule at j ds = record { faults = item_faults rule at j 0 ds; is_ignored = any_ignored rule at j 0 ds; value = Some (array (kept_items rule at j 0 ds)) }
