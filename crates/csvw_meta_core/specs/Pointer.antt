-- The place of a value in a document: JSON Pointers (RFC 6901).
use Rattle.std.specs.Prelude.{ℕ, ◌==◌, List, [], ◌∷◌, ◌++◌, codes, decimal, if◌then◌else◌}
use Rattle.std.specs.List.{flat_map}
use Rattle.csvw_meta_core.specs.declared.pointer.Pointer.{Pointer, Root, Member', Item'}

-- `~` and `/` are escaped, other bytes stay (RFC 6901, section 3)
abbrev pub escape : ℕ → List ℕ → List ℕ
escape c bytes = if c == 126 then codes "~0" else (if c == 47 then codes "~1" else bytes)

-- a name as a step of a pointer
abbrev pub escaped : List ℕ → List ℕ
escaped name = flat_map (λ b. escape b (b ∷ [])) name

-- a pointer, one step further
abbrev pub further : List ℕ → List ℕ → List ℕ
further at step = at ++ (codes "/" ++ step)

-- the member of that name, and the item of that index
abbrev pub below : List ℕ → List ℕ → List ℕ
below at name = further at (escaped name)

abbrev pub item_at : List ℕ → ℕ → List ℕ
item_at at i = further at (decimal i)

-- the pointer's text
abbrev pub text_of : Pointer → List ℕ
text_of Root = []
text_of (Member' p above name) = below (text_of above) name.now
text_of (Item' p above i) = item_at (text_of above) i
