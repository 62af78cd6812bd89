-- Nodes that are described by objects (Metadata Vocabulary for Tabular Data, section 6.2).
use Rattle.std.specs.Prelude.{ℕ, List, [], codes, nat_eq, if◌then◌else◌}
use Rattle.std.specs.List.{starts_with}
use Rattle.serde_json.specs.Data.{Data, Members}
use Rattle.serde_json.specs.Find.{as_str}
use Rattle.url.specs.Parts.{Parts}
use Rattle.csvw_iri.specs.Link.{link_of}
use Rattle.csvw_meta_core.specs.declared.fault.MetaCode.TheVariants.{BadId}
use Rattle.csvw_meta_core.specs.Links.{told}
use Rattle.csvw_meta_core.specs.Read.{Read, fine, faulty, ◌>>=◌, on_kind, optional, property}
use Rattle.csvw_description.specs.declared.note.Note.{Note}
use Rattle.csvw_description.specs.declared.note.NoteObject.{NoteObject, roll-NoteObject}
use Rattle.csvw_meta_notes.specs.Members.{node_member, each_member}
use Rattle.csvw_meta_notes.specs.Names.{type_names}

-- an `@id`, whose prefix is replaced, and which must not name a blank node
abbrev pub node_id : Parts → List ℕ → Data → Read (List ℕ)
node_id base at d =
    on_kind at d [] (as_str d) (λ s. if starts_with nat_eq s (codes "_:") then faulty BadId at [] else told at [] (link_of base s))

-- the node of an object of these members, with what its common properties say
unfoldable pub node : Parts → List ℕ → Data → Members → Read (List Note) → Read NoteObject
node base at d ms properties = do
  others ← each_member node_member at ms
  iri ← optional (node_id base) at d (codes "@id")
  types ← property type_names [] at d (codes "@type")
  notes ← properties
  fine (roll-NoteObject (record { id = iri; types = types; notes = notes }))
