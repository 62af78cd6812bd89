-- The part of a group that is known while its tables are planned.
use Rattle.std.specs.Prelude.{◌≤◌, length, All}
use Rattle.csvw_description.specs.Plannable.{table_limit, column_limit}
use Rattle.csvw_columns.specs.declared.planning.Known.{Known}

-- the limits are kept
pub record IsKnown (known : Known) : Type 0 where
  pub tables : length known.targets.urls ≤ table_limit
  pub names : All (λ names. length names ≤ column_limit) known.targets.names
