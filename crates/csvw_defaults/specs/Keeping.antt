-- What the code keeps of a value, and what becomes of it: `IsLeft`.
use Rattle.std.specs.Prelude.{◌≡◌, ℕ, List, Option, Some, None, option_map}
use Rattle.serde_json.specs.Data.{Data, Members, put}
use Rattle.serde_json.specs.View.{view}
use Rattle.csvw_defaults.specs.Judged.{Judged}
use Rattle.csvw_defaults.specs.declared.kept.Kept.{Kept}

pub record IsLeft (judged : Judged) (kept : Kept) : Type 0 where
  pub value : option_map view kept.value ≡ judged.value
  pub is_ignored : kept.is_ignored ≡ judged.is_ignored

-- the members, with this one if it is left
abbrev pub put_kept : List ℕ → Option Data → Members → Members
put_kept name None ms = ms
put_kept name (Some d) ms = put name d ms
