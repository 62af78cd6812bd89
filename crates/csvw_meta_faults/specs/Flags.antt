-- Whether a test holds of each index of a list: `AreFlags`.
use Rattle.std.specs.Prelude.{◌≡◌, ◌<◌, ℕ, List, Bool, false, length, slice_index_or}

-- one flag for each index below the length, which says whether the test holds
pub record AreFlags (test : ℕ → Bool) (count : ℕ) (flags : List Bool) : Type 0 where
  pub size : length flags ≡ count
  pub each : (i : ℕ) → i < count → slice_index_or flags i false ≡ test i
