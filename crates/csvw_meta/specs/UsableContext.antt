-- The context of a document as far as it could be read: `usable_context` (Metadata Vocabulary for Tabular Data, section 5.2). As for
-- values of properties that aren't permitted (section 5), the default takes the place of what couldn't be read.
use Rattle.std.specs.Prelude.{ℕ, List, Option, Some, None, codes, if◌then◌else◌}
use Rattle.serde_json.specs.Data.{Data, null, boolean, number, string, array, object, Items, no_items, item}
use Rattle.serde_json.specs.Find.{get}
use Rattle.url.specs.Parts.{Parts}
use Rattle.csvw_meta_core.specs.declared.context.Context.{Context}
use Rattle.csvw_meta_core.specs.declared.fault.MetaCode.TheVariants.{BadContext}
use Rattle.csvw_meta_core.specs.declared.profile.Profile.TheVariants.{Core}
use Rattle.csvw_meta_core.specs.Context.{context_base, is_vocabulary, plain_context}
use Rattle.csvw_meta_core.specs.Kinds.{language}
use Rattle.csvw_meta_core.specs.Pointer.{below, item_at}
use Rattle.csvw_meta_core.specs.Read.{optional, property}
use Rattle.csvw_meta.specs.IfRead.{value_or}

-- The members of an object after the text of the vocabulary. The document's own URL takes the place of a base that couldn't be read, and no
-- language that of one that couldn't.
abbrev pub usable_members : Parts → List ℕ → Data → Context
usable_members base at d = record {
  base = value_or base (property (context_base base) base at d (codes "@base"));
  language = value_or None (optional (language BadContext) at d (codes "@language"));
  profile = Core;
}

-- the item after the text of the vocabulary; one that is no object says nothing
abbrev pub usable_second : Parts → List ℕ → Data → Context
usable_second base at (object ms) = usable_members base (item_at at 1) (object ms)
usable_second base at null = plain_context base
usable_second base at (boolean b) = plain_context base
usable_second base at (number n) = plain_context base
usable_second base at (string s) = plain_context base
usable_second base at (array ds) = plain_context base

abbrev pub usable_others : Parts → List ℕ → Items → Context
usable_others base at no_items = plain_context base
usable_others base at (item b no_items) = usable_second base at b
usable_others base at (item b (item c ds)) = plain_context base

abbrev pub usable_items : Parts → List ℕ → Items → Context
usable_items base at no_items = plain_context base
usable_items base at (item a ds) = if is_vocabulary a then usable_others base at ds else plain_context base

abbrev pub usable_value : Parts → List ℕ → Data → Context
usable_value base at (array ds) = usable_items base at ds
usable_value base at null = plain_context base
usable_value base at (boolean b) = plain_context base
usable_value base at (number n) = plain_context base
usable_value base at (string s) = plain_context base
usable_value base at (object ms) = plain_context base

abbrev pub usable_found : Parts → List ℕ → Option Data → Context
usable_found base at None = plain_context base
usable_found base at (Some c) = usable_value base (below at (codes "@context")) c

-- the context of a document at its own URL; that of the vocabulary alone takes the place of one that couldn't be read as a whole
abbrev pub usable_context : Parts → List ℕ → Data → Context
usable_context base at d = usable_found base at (get (codes "@context") d)
