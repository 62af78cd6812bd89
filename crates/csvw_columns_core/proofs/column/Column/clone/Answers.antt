-- Each part is that of the column.
use Rattle.std.proofs.Common.{refl}
use Rattle.csvw_columns_core.proofs.SameLemmas.{same_column}
use Rattle.csvw_columns_core.proofs.column.Column.clone.Goals as goal

pub returns : goal.returns
returns c =
    let names = rw c.in_ok-names.ensures.0 at c.both_copied-names.ensures in
    let rest = rw c.in_ok-names.ensures.1 at c.both.ensures in
    let iris = rw rest.0 at c.both_copied-iris.ensures in
    let properties = rw rest.1 at c.clone.ensures in
    same_column _ _ names.0 refl names.1 refl refl refl refl refl iris.0 iris.1 properties
