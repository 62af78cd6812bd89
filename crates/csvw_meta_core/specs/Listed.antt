-- All names that are listed for an object.
use Rattle.std.specs.Prelude.{ℕ, List, ◌++◌}
use Rattle.csvw_meta_core.specs.declared.others.Listed.{Listed}
use Rattle.csvw_meta_core.specs.Others.{names_of}

abbrev pub all_names : Listed → List (List ℕ)
all_names listed = names_of listed.names.now ++ names_of listed.shared.now
