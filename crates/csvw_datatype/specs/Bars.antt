-- Texts with a vertical line between them (Model for Tabular Data, section 6.4.3).
use Rattle.std.specs.Prelude.{◌≡◌, ◌≢◌, ℕ, ◌==◌, Bool, false, List, [], ◌∷◌, ◌++◌}
use Rattle.std.specs.List.{list_any}

-- a text contains a vertical line
abbrev pub has_bar : List ℕ → Bool
has_bar text = list_any (λ b. b == 124) text

-- the text of a boolean: it isn't empty and contains no vertical line
abbrev pub IsTruthText : List ℕ → Type 0
IsTruthText text = (text ≢ []) × (has_bar text ≡ false)

-- the text contains no vertical line
abbrev pub HasNoSplit : List ℕ → Type 0
HasNoSplit text = (before after : List ℕ) → has_bar before ≡ false → text ≢ before ++ (124 ∷ after)

-- the texts before and after the first vertical line of the text
abbrev pub IsOnlySplit : List ℕ → List ℕ → List ℕ → Type 0
IsOnlySplit text t f =
    (text ≡ t ++ (124 ∷ f))
    × ((before after : List ℕ) → has_bar before ≡ false → text ≡ before ++ (124 ∷ after) → (before ≡ t) × (after ≡ f))
