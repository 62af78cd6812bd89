-- The bytes of the writer of an N-Triples sink, between two states of the sink.
use Rattle.std.specs.Prelude.{◌≡◌, ℕ, List, [], Option, true, false}
use Rattle.std.specs.List.{AllByRecursion}
use Rattle.csvw_streams.specs.Counted.{inner_of, failures_of}
use Rattle.csvw_streams.specs.Streams.{Stream, stream_of}
use Rattle.csvw_triples_core.specs.declared.term.Triple.{Triple}
use Rattle.csvw_ntriples.specs.NtSink.{sink_out, sink_is_open}
use Rattle.csvw_ntriples.specs.Sending.{IsCutIn, Sends}
use Rattle.csvw_ntriples.specs.Writable.{TripleFits}
use Rattle.csvw_ntriples.specs.declared.nt_sink.NtSink.{NtSink}

-- the triples that the sink took, by the relation of its trait
abbrev pub gains_lines : {W : Type 0} → (W → Option (List ℕ)) → NtSink W → List Triple → NtSink W → Type 0
gains_lines contents a ts b = ((sink_out b).ghost_name ≡ (sink_out a).ghost_name) × AllByRecursion TripleFits ts
    × Sends (contents (inner_of (sink_out a).now)) (sink_is_open a) ts (contents (inner_of (sink_out b).now)) (sink_is_open b)

-- the triple within which its writer failed, by the relation of its trait
abbrev pub cuts_lines : {W : Type 0} → (W → Option (List ℕ)) → NtSink W → Triple → NtSink W → Type 0
cuts_lines contents a t b = ((sink_out b).ghost_name ≡ (sink_out a).ghost_name) × (sink_is_open a ≡ true) × (sink_is_open b ≡ false)
    × IsCutIn t (contents (inner_of (sink_out a).now)) (contents (inner_of (sink_out b).now)) []

-- how often its writer failed
abbrev pub line_failures : {W : Type 0} → NtSink W → ℕ
line_failures sink = failures_of (sink_out sink).now

abbrev pub writer_of : {W : Type 0} → (W → Option (List ℕ)) → NtSink W → NtSink W → Stream
writer_of contents old new = stream_of contents (sink_out old).now (sink_out new).now
