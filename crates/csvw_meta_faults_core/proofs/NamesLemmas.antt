-- Borrowed names, and the names themselves.
use Rattle.std.proofs.Common.{◌≡◌, ℕ, List, [], ◌∷◌, ◌||◌, refl, ap, bytes_eq}
use Rattle.std.specs.Borrow.{Bor}
use Rattle.std.specs.List.{list_any}
use Rattle.csvw_meta_core.specs.Others.{names_of, is_among}

pub is_among-names_of : (names : List (Bor (List ℕ))) (name : List ℕ) → is_among (names_of names) name ≡ list_any (λ n. bytes_eq n.now name) names
is_among-names_of [] name = refl
is_among-names_of (n ∷ ns) name = ap (λ b. bytes_eq n.now name || b) (is_among-names_of ns name)
