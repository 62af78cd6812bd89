-- Which runs read all rows, and which report as a run does: `is_whole`, `is_default`.
use Rattle.std.specs.Prelude.{◌&&◌, Bool, true, Option, None, Some, bytes_eq, codes, is_some, not}
use Rattle.std.specs.Borrow.{Bor}
use Rattle.clap.specs.Words.{Text}
use Rattle.csvw_command_core.specs.declared.request.Group.{Group}

-- the report is CSV, as it is where no form is given
abbrev pub is_csv : Option (Bor Text) → Bool
is_csv None = true
is_csv (Some name) = bytes_eq name.now (codes "csv")

-- the report and a stop are told as a run tells them, and warnings don't count
abbrev pub is_default : Group → Bool
is_default group = is_csv group.reporting.form && (not group.reporting.strict && not group.explain)

-- all rows are read, and not those of one part; only a part writes its keys
abbrev pub is_whole : Group → Bool
is_whole group = not (is_some group.part) && (not (is_some group.plan) && not (is_some group.keys))
