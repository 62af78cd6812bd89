-- The text of a report, a heading and a record of CSV for each fault: `report` (RFC 4180). No field needs quotes, and LF ends
-- each line.
use Rattle.std.specs.Prelude.{ℕ, List, ◌++◌, codes, decimal, flat_map}
use Rattle.csvw_fault.specs.declared.fault.Fault.{Fault}
use Rattle.csvw_fault.specs.declared.fault.Kind.{Kind}
use Rattle.csvw_fault.specs.declared.fault.Kind.TheVariants.{Error, Warning}
use Rattle.csvw_fault.specs.Code.{name_of}

abbrev pub kind_name : Kind → List ℕ
kind_name Error = codes "error"
kind_name Warning = codes "warning"

abbrev pub heading : List ℕ
heading = codes "kind,code,table,row,column\n"

-- the line of a fault: its kind, its code and the numbers of its place, each of which is 0 if there is none
unfoldable pub line : Fault → List ℕ
line fault =
    kind_name fault.kind ++ codes "," ++ name_of fault.code ++ codes ","
    ++ decimal fault.place.table ++ codes "," ++ decimal fault.place.row ++ codes "," ++ decimal fault.place.column ++ codes "\n"

-- the report of these faults
abbrev pub report : List Fault → List ℕ
report faults = heading ++ flat_map line faults
