-- The warnings on annotations, by recursion on the JSON tree: one for each property in them that is ignored (Metadata Vocabulary
-- for Tabular Data, section 4.1).
use Rattle.std.specs.Prelude.{List, [], ◌∷◌, ◌++◌, ℕ, codes, Option, Some, None, if◌then◌else◌}
use Rattle.serde_json.specs.Data.{Data, null, boolean, number, string, array, object, Items, no_items, item, Members, no_members, member}
use Rattle.serde_json.specs.Find.{get}
use Rattle.csvw_fault.specs.declared.fault.Place.{Place}
use Rattle.csvw_fault.specs.declared.fault.Fault.{Fault}
use Rattle.csvw_meta_core.specs.Others.{has_colon, warning_at}
use Rattle.csvw_meta_notes.specs.Members.{has_at}

-- a property that is neither a keyword nor common is ignored; the value of a common one is searched
abbrev pub unless_ignored : Place → List ℕ → List Fault → List Fault
unless_ignored place name inside =
    if has_colon name then inside else (if has_at name then [] else warning_at place ∷ [])

abbrev mutual
  pub warned : Place → Data → List Fault
  warned place null = []
  warned place (boolean b) = []
  warned place (number n) = []
  warned place (string s) = []
  warned place (array ds) = all_warned place ds
  warned place (object ms) = members_warned place ms

  pub all_warned : Place → Items → List Fault
  all_warned place no_items = []
  all_warned place (item d ds) = warned place d ++ all_warned place ds

  pub members_warned : Place → Members → List Fault
  members_warned place no_members = []
  members_warned place (member name d ms) = unless_ignored place name (warned place d) ++ members_warned place ms

-- inside the common properties among these members
abbrev pub common_warned : Place → Members → List Fault
common_warned place no_members = []
common_warned place (member name d ms) = (if has_colon name then warned place d else []) ++ common_warned place ms

-- inside the common properties of an object
abbrev pub annotation_warnings : Place → Data → List Fault
annotation_warnings place (object ms) = common_warned place ms
annotation_warnings place null = []
annotation_warnings place (boolean b) = []
annotation_warnings place (number n) = []
annotation_warnings place (string s) = []
annotation_warnings place (array ds) = []

abbrev pub given_warned : Place → Option Data → List Fault
given_warned place None = []
given_warned place (Some d) = warned place d

-- inside the property `notes` of an object
abbrev pub note_warnings : Place → Data → List Fault
note_warnings place d = given_warned place (get (codes "notes") d)
