-- The names of the stops of rows, as the program's lines spell them.
use Rattle.std.specs.Prelude.{ℕ, List, codes}
use Rattle.csvw_records.specs.declared.stop.RowStop.{RowStop}
use Rattle.csvw_records.specs.declared.stop.RowStop.TheVariants.{Memory, NotUtf8, RowTooLong, BadQuote, TextAfterQuote, UnclosedQuote, TooManyRows}

-- the name of the variant
abbrev pub name_of : RowStop → List ℕ
name_of Memory = codes "Memory"
name_of NotUtf8 = codes "NotUtf8"
name_of RowTooLong = codes "RowTooLong"
name_of BadQuote = codes "BadQuote"
name_of TextAfterQuote = codes "TextAfterQuote"
name_of UnclosedQuote = codes "UnclosedQuote"
name_of TooManyRows = codes "TooManyRows"
