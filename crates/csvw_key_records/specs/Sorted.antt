-- Records in the byte order of their lines: `AreSorted`. It is the order of `LC_ALL=C sort`.
use Rattle.std.specs.Prelude.{◌≡◌, List}
use Rattle.std.specs.Cmp.Lexicographic.{slice_cmp}
use Rattle.std.specs.List.{AllPairs}
use Rattle.std.specs.Ordering.{nat_cmp}
use Rattle.std.specs.declared.cmp.Ordering.TheVariants.{Less}
use Rattle.csvw_key_records.specs.declared.record.KeyRecord.{KeyRecord}
use Rattle.csvw_key_records.specs.Records.{line_of}

-- the line of the first record comes before that of the second
abbrev pub IsBefore : KeyRecord → KeyRecord → Type 0
IsBefore p q = slice_cmp nat_cmp (line_of p) (line_of q) ≡ Less

-- each line comes before those after it, so that no line is there twice
abbrev pub AreSorted : List KeyRecord → Type 0
AreSorted records = AllPairs IsBefore records
