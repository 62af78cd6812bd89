-- Which values the kinds of properties permit: `is_permitted` (Metadata Vocabulary for Tabular Data, sections 5.1 and 5.3 to 5.11).
use Rattle.std.specs.Prelude.{ℕ, List, ◌&&◌, ◌||◌, Bool, true, false, bytes_eq, codes, is_some, unwrap_or, option_map, option_and_then}
use Rattle.serde_json.specs.Data.{Data, null, boolean, number, string, array, object, Items, no_items, item}
use Rattle.serde_json.specs.Find.{as_array, as_bool, as_null, as_number, as_str, as_u64, is_float}
use Rattle.csvw_text.specs.Language.{is_language_tag}
use Rattle.csvw_defaults.specs.declared.permitted.Permitted.{Permitted}
use Rattle.csvw_defaults.specs.declared.permitted.Permitted.TheVariants as permitted

abbrev pub is_text : Data → Bool
is_text d = is_some (as_str d)

abbrev pub are_texts : Items → Bool
are_texts no_items = true
are_texts (item d ds) = is_text d && are_texts ds

abbrev pub has_items : Items → Bool
has_items no_items = false
has_items (item d ds) = true

-- a text, or an array of texts
abbrev pub is_texts : Data → Bool
is_texts (string s) = true
is_texts (array ds) = are_texts ds
is_texts null = false
is_texts (boolean b) = false
is_texts (number n) = false
is_texts (object ms) = false

-- a text, or an array of one text or more
abbrev pub is_some_texts : Data → Bool
is_some_texts (string s) = true
is_some_texts (array ds) = has_items ds && are_texts ds
is_some_texts null = false
is_some_texts (boolean b) = false
is_some_texts (number n) = false
is_some_texts (object ms) = false

-- a number that isn't whole
abbrev pub is_fraction : Data → Bool
is_fraction d = unwrap_or (option_map is_float (as_number d)) false

-- a number that is whole and not below 0, or that isn't whole
abbrev pub is_not_negative : Data → Bool
is_not_negative d = is_some (option_and_then as_u64 (as_number d)) || is_fraction d

-- a text for which the test holds
abbrev pub is_text_of : (List ℕ → Bool) → Data → Bool
is_text_of test d = unwrap_or (option_map test (as_str d)) false

abbrev pub is_trimming : List ℕ → Bool
is_trimming s = bytes_eq s (codes "true") || bytes_eq s (codes "false") || bytes_eq s (codes "start") || bytes_eq s (codes "end")

abbrev pub is_direction : List ℕ → Bool
is_direction s = bytes_eq s (codes "rtl") || bytes_eq s (codes "ltr") || bytes_eq s (codes "auto")

abbrev pub is_text_direction : List ℕ → Bool
is_text_direction s = is_direction s || bytes_eq s (codes "inherit")

abbrev pub is_permitted : Permitted → Data → Bool
is_permitted permitted.Anything d = true
is_permitted permitted.Truth d = is_some (as_bool d)
is_permitted permitted.Text d = is_text d
is_permitted permitted.TextOrNull d = is_text d || is_some (as_null d)
is_permitted permitted.Texts d = is_texts d
is_permitted permitted.SomeTexts d = is_some_texts d
is_permitted permitted.NotNegative d = is_not_negative d
is_permitted permitted.Bound d = is_text d || is_some (as_number d)
is_permitted permitted.Language d = is_text_of is_language_tag d
is_permitted permitted.Trimming d = is_some (as_bool d) || is_text_of is_trimming d
is_permitted permitted.Direction d = is_text_of is_direction d
is_permitted permitted.TextDirection d = is_text_of is_text_direction d
is_permitted permitted.Array d = is_some (as_array d)
