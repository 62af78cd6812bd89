-- The context of a document, and its faults: `context` (Metadata Vocabulary for Tabular Data, section 5.2). Its base is a URL
-- without its fragment.
use Rattle.std.specs.Prelude.{ℕ, ◌||◌, List, Bool, false, Option, Some, None, bytes_eq, codes, if◌then◌else◌, ⊤}
use Rattle.serde_json.specs.Data.{Data, null, boolean, number, string, array, object, Items, no_items, item, Members, no_members, member}
use Rattle.serde_json.specs.Find.{get, as_str}
use Rattle.url.specs.Parts.{Parts}
use Rattle.csvw_iri.specs.Link.{base_of}
use Rattle.csvw_meta_core.specs.declared.fault.MetaCode.TheVariants.{BadContext}
use Rattle.csvw_meta_core.specs.Pointer.{below, item_at}
use Rattle.csvw_meta_core.specs.Read.{Read, fine, faulty, ◌>>=◌, both, wrong_as, on_kind_as, property, optional}
use Rattle.csvw_meta_core.specs.Kinds.{language}
use Rattle.csvw_meta_core.specs.Links.{told, no_url}
use Rattle.csvw_meta_core.specs.declared.context.Context.{Context}
use Rattle.csvw_meta_core.specs.declared.profile.Profile.{Profile}
use Rattle.csvw_meta_core.specs.declared.profile.Profile.TheVariants.{Core}

abbrev pub is_vocabulary : Data → Bool
is_vocabulary null = false
is_vocabulary (boolean b) = false
is_vocabulary (number n) = false
is_vocabulary (string s) = bytes_eq s (codes "http://www.w3.org/ns/csvw")
is_vocabulary (array ds) = false
is_vocabulary (object ms) = false

abbrev pub no_context : Context
no_context = record { base = no_url; language = None; profile = Core }

-- the context with only the vocabulary
abbrev pub plain_context : Parts → Context
plain_context base = record { base = base; language = None; profile = Core }

-- the same context in another profile
abbrev pub in_profile : Profile → Context → Context
in_profile profile c = record { base = c.base; language = c.language; profile = profile }

-- the base of URLs in place of the document's own URL
abbrev pub context_base : Parts → List ℕ → Data → Read Parts
context_base base at d = on_kind_as BadContext at d no_url (as_str d) (λ s. told at no_url (base_of (Some base) s))

-- a member with another name
abbrev pub stranger : List ℕ → List ℕ → Data → Read ⊤
stranger at name d =
    if bytes_eq name (codes "@language") || bytes_eq name (codes "@base") then fine tt else wrong_as BadContext (below at name) d tt

abbrev pub strangers : List ℕ → Members → Read ⊤
strangers at no_members = fine tt
strangers at (member k d ms) = both (λ _ rest. rest) (stranger at k d) (strangers at ms)

unfoldable pub further_context : Parts → List ℕ → Data → Members → Read Context
further_context base at d ms = do
  others ← strangers at ms
  language ← optional (language BadContext) at d (codes "@language")
  base ← property (context_base base) base at d (codes "@base")
  fine (record { base = base; language = language; profile = Core })

-- the item after the text of the vocabulary
abbrev pub second_item : Parts → List ℕ → Data → Read Context
second_item base at (object ms) = further_context base (item_at at 1) (object ms) ms
second_item base at null = faulty BadContext at no_context
second_item base at (boolean b) = faulty BadContext at no_context
second_item base at (number n) = faulty BadContext at no_context
second_item base at (string s) = faulty BadContext at no_context
second_item base at (array ds) = faulty BadContext at no_context

-- at most one object
abbrev pub other_items : Parts → List ℕ → Items → Read Context
other_items base at no_items = fine (plain_context base)
other_items base at (item b no_items) = second_item base at b
other_items base at (item b (item c ds)) = faulty BadContext at no_context

-- the text of the vocabulary, and at most one object
abbrev pub context_items : Parts → List ℕ → Items → Read Context
context_items base at no_items = faulty BadContext at no_context
context_items base at (item a ds) = if is_vocabulary a then other_items base at ds else faulty BadContext at no_context

abbrev pub context_value : Parts → List ℕ → Data → Read Context
context_value base at (array ds) = context_items base at ds
context_value base at (string s) = if is_vocabulary (string s) then fine (plain_context base) else faulty BadContext at no_context
context_value base at null = wrong_as BadContext at null no_context
context_value base at (boolean b) = wrong_as BadContext at (boolean b) no_context
context_value base at (number n) = wrong_as BadContext at (number n) no_context
context_value base at (object ms) = wrong_as BadContext at (object ms) no_context

-- If there is none, the context of the vocabulary alone takes its place.
abbrev pub context_found : Parts → List ℕ → Data → Option Data → Read Context
context_found base at d None = wrong_as BadContext at d (plain_context base)
context_found base at d (Some c) = context_value base (below at (codes "@context")) c

-- the context of a document at its own URL
abbrev pub context : Parts → List ℕ → Data → Read Context
context base at d = context_found base at d (get (codes "@context") d)
