-- By the lines of triples.
use Rattle.std.proofs.Common.{◌≡◌, true, refl}
use Rattle.csvw_ntriples.specs.NtSink.{sink_is_open, sink_out}
use Rattle.csvw_engine.specs.Lines.{writer_of}
use Rattle.csvw_engine.proofs.Writing.{LineLaws, streams_of, all_written, lacking, failing}
use Rattle.csvw_engine.proofs.laws.sessions_write_lines.Goals as goal

pub returns-clause-all : goal.returns-clause-all
returns-clause-all g c =
    let contents = g.W.Write.contents in
    let laws : LineLaws = record { denotes = c.written_denotes.ensures; names = c.labels_name_one_to_one.ensures } in
    λ m plan events sink now opened k r.
    all_written contents laws (writer_of contents sink now) sink now
    (streams_of contents (sink_out sink).now (sink_out now).now sink now opened refl refl) m plan events k r

pub returns-clause-memory : goal.returns-clause-memory
returns-clause-memory g c =
    let contents = g.W.Write.contents in
    let laws : LineLaws = record { denotes = c.written_denotes.ensures; names = c.labels_name_one_to_one.ensures } in
    λ m plan events sink now opened k r.
    (lacking contents laws (writer_of contents sink now) sink now
    (streams_of contents (sink_out sink).now (sink_out now).now sink now opened refl refl) m plan events ⊥ k r).wrote

pub returns-clause-write : goal.returns-clause-write
returns-clause-write g c =
    let contents = g.W.Write.contents in
    let laws : LineLaws = record { denotes = c.written_denotes.ensures; names = c.labels_name_one_to_one.ensures } in
    λ m plan events sink now opened k.
    let w = failing contents laws (writer_of contents sink now) sink now
    (streams_of contents (sink_out sink).now (sink_out now).now sink now opened refl refl) m plan events (sink_is_open sink ≡ true) k opened in
    (w.0, w.1.wrote)
