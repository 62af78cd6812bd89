-- The titles of a column, and their faults: `titles` (Metadata Vocabulary for Tabular Data, section 5.6, `titles`, and section
-- 5.1.6, natural language properties).
use Rattle.std.specs.Prelude.{ℕ, ◌==◌, not, List, [], ◌++◌, Bool, true, false, Option, Some, None, bytes_eq, length, filter, if◌then◌else◌, ⊤}
use Rattle.serde_json.specs.Data.{Data, null, boolean, number, string, array, object, Members, no_members, member}
use Rattle.csvw_text.specs.Language.{is_language_tag}
use Rattle.csvw_meta_core.specs.Pointer.{below}
use Rattle.csvw_meta_core.specs.Read.{Read, fine, ◌>>=◌, under, both, wrong}
use Rattle.csvw_meta_core.specs.Kinds.{texts}

-- An empty title is dropped.
abbrev pub not_empty : List (List ℕ) → List (List ℕ)
not_empty ts = filter (λ t. not (length t == 0)) ts

abbrev pub is_language : Option (List ℕ) → List ℕ → Bool
is_language None key = false
is_language (Some language) key = bytes_eq language key

-- the titles of one language
abbrev pub title_texts : List ℕ → Data → Read (List (List ℕ))
title_texts at d = under not_empty (texts at d)

-- a key is a language tag
abbrev pub tag : List ℕ → List ℕ → Data → Read ⊤
tag at key d = if is_language_tag key then fine tt else wrong (below at key) d tt

-- the titles of the language of a key; they are checked even if the key is not a language tag
abbrev pub of_key : List ℕ → List ℕ → Data → Read (List (List ℕ))
of_key at key d = tag at key d >>= (λ is_tag. title_texts (below at key) d)

-- titles, split by whether their language is that of the context; `in_front` puts titles before those of the same part
pub record Sorted : Type 0 where
  pub first : List (List ℕ)
  pub others : List (List ℕ)

abbrev pub in_front : Bool → List (List ℕ) → Sorted → Sorted
in_front true ts s = record { first = ts ++ s.first; others = s.others }
in_front false ts s = record { first = s.first; others = ts ++ s.others }

abbrev pub sorted : Option (List ℕ) → List ℕ → Members → Read Sorted
sorted language at no_members = fine (record { first = []; others = [] })
sorted language at (member k d ms) = both (in_front (is_language language k)) (of_key at k d) (sorted language at ms)

-- the titles of the context's language come first
abbrev pub all_titles : Option (List ℕ) → List ℕ → Members → Read (List (List ℕ))
all_titles language at ms = under (λ s. s.first ++ s.others) (sorted language at ms)

abbrev pub titles : Option (List ℕ) → List ℕ → Data → Read (List (List ℕ))
titles language at (object ms) = all_titles language at ms
titles language at null = title_texts at null
titles language at (boolean b) = title_texts at (boolean b)
titles language at (number n) = title_texts at (number n)
titles language at (string s) = title_texts at (string s)
titles language at (array ds) = title_texts at (array ds)
