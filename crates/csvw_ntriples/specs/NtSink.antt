-- The parts of an `NtSink` that contracts cite.
use Rattle.std.specs.Prelude.{Bool}
use Rattle.std.specs.Borrow.{MutBor}
use Rattle.csvw_streams.specs.declared.counted.Counted.{Counted}
use Rattle.csvw_ntriples.specs.declared.nt_sink.NtSink.{NtSink}

-- the writer that it borrows
abbrev pub sink_out : {W : Type 0} → NtSink W → MutBor (Counted W)
sink_out sink = sink.out

-- no line was cut off
abbrev pub sink_is_open : {W : Type 0} → NtSink W → Bool
sink_is_open sink = sink.is_open
