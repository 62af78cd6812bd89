-- The members of an object of a document, each with another value: `map_members`; and what each says: `each_member` (RFC 8259,
-- section 4).
use Rattle.std.specs.Prelude.{◌≡◌, ℕ, List, [], ◌++◌, Result, Ok, Err}
use Rattle.serde_json.specs.Data.{Data, Members, no_members, member}
use Rattle.csvw_meta_core.specs.declared.fault.MetaFault.{MetaFault}
use Rattle.csvw_meta_core.specs.declared.fault.Refusal.{Refusal}
use Rattle.csvw_meta_core.specs.Read.{Read, fine}
use Rattle.csvw_meta_core.specs.Reads.{Fails}
use Rattle.serde_json.specs.declared.value.Value.{Value}
use Rattle.serde_json.specs.View.{view}

-- each member with the value that its name and its value have here
abbrev pub map_members : (List ℕ → Data → Data) → Members → Members
map_members f no_members = no_members
map_members f (member k d ms) = member k (f k d) (map_members f ms)

-- the faults of all members, in their order
abbrev pub member_faults : (List ℕ → Data → Read Data) → Members → List MetaFault
member_faults reads no_members = []
member_faults reads (member k d ms) = (reads k d).faults ++ member_faults reads ms

-- all members, read by their names
abbrev pub each_member : (List ℕ → Data → Read Data) → Members → Read Members
each_member reads ms = record { faults = member_faults reads ms; value = map_members (λ k d. (reads k d).value) ms }

-- It returns the value of a part without faults, or a fault of the part, unless memory runs out.
abbrev pub ReadsAs : Result Value Refusal → Read Data → Type 0
ReadsAs (Ok v) r = r ≡ fine (view v)
ReadsAs (Err e) r = Fails e r.faults
