-- The datatypes of which a text is a value.
use Rattle.std.proofs.Common.{◌≡◌, ℕ, ◌&&◌, Bool, true, false, cond, List, [], ◌∷◌, refl, ap}
use Rattle.std.specs.List.{list_all}
use Rattle.csvw_draft.specs.declared.kind.Kind.{Kind}
use Rattle.csvw_draft.specs.Kinds.{reads, readers}

first_reads : (a b : Bool) → (a && b) ≡ true → a ≡ true
first_reads true b h = refl
first_reads false b h = h

others_read : (a b : Bool) → (a && b) ≡ true → b ≡ true
others_read true b h = h
others_read false b h = cc

kept : (kind : Kind) (kinds : List Kind) (b : Bool) → b ≡ true → kind ∷ kinds ≡ cond b (kind ∷ kinds) kinds
kept kind kinds true h = refl
kept kind kinds false h = cc

-- a text that is a value of each datatype leaves them as they are
pub all_read : (kinds : List Kind) (text : List ℕ) → list_all (λ kind. reads kind text) kinds ≡ true → kinds ≡ readers kinds text
all_read [] text h = refl
all_read (kind ∷ kinds) text h =
    let rest = all_read kinds text (others_read (reads kind text) (list_all (λ kind. reads kind text) kinds) h) in
    let first = first_reads (reads kind text) (list_all (λ kind. reads kind text) kinds) h in
    rw first (ap (λ l. kind ∷ l) rest)
