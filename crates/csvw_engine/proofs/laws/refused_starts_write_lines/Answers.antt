-- By the front of the opening that was taken.
use Rattle.std.proofs.Common.{◌≡◌, ◌++◌, ◌∙◌, true, refl, sym, ap, List, []}
use Rattle.csvw_streams.specs.Counted.{inner_of}
use Rattle.csvw_triples_core.specs.declared.term.Triple.{Triple}
use Rattle.csvw_ntriples.specs.NtSink.{sink_is_open, sink_out}
use Rattle.csvw_engine.specs.Lines.{cuts_lines, gains_lines, line_failures, writer_of}
use Rattle.csvw_engine.proofs.Converting.{sends_nothing}
use Rattle.csvw_engine.proofs.Taking.{took_opening}
use Rattle.csvw_engine.proofs.Writing.{LineLaws, streams_of, lacking, failing}
use Rattle.csvw_engine.proofs.laws.refused_starts_write_lines.Goals as goal

-- the same front and rest by other words
parts_by : (all front rest triples others : List Triple) → all ≡ front ++ rest → triples ≡ front → others ≡ rest → all ≡ triples ++ others
parts_by all front rest triples others p q r = p ∙ ap (λ ts. ts ++ rest) (sym q) ∙ ap (λ ts. triples ++ ts) (sym r)

pub returns-clause-memory : goal.returns-clause-memory
returns-clause-memory g c =
    let contents = g.W.Write.contents in
    let laws : LineLaws = record { denotes = c.written_denotes.ensures; names = c.labels_name_one_to_one.ensures } in
    λ m plan sink now opened h.
    let took = took_opening (gains_lines contents) (cuts_lines contents) sink_is_open line_failures c.opening_is_the_graphs.ensures m plan sink now
    (refl, tt, sends_nothing (contents (inner_of (sink_out sink).now)) (sink_is_open sink) opened) ⊥ h.0 in
    let w = lacking contents laws (writer_of contents sink now) sink now
    (streams_of contents (sink_out sink).now (sink_out now).now sink now opened refl refl) m plan [] ⊥ took h.1 in
    (w.wrote, parts_by _ h.0.front h.0.rest _ _ h.0.parts w.triples_are w.rest_is)

pub returns-clause-write : goal.returns-clause-write
returns-clause-write g c =
    let contents = g.W.Write.contents in
    let laws : LineLaws = record { denotes = c.written_denotes.ensures; names = c.labels_name_one_to_one.ensures } in
    λ m plan sink now opened h.
    let took = took_opening (gains_lines contents) (cuts_lines contents) sink_is_open line_failures c.opening_is_the_graphs.ensures m plan sink now
    (refl, tt, sends_nothing (contents (inner_of (sink_out sink).now)) (sink_is_open sink) opened) (sink_is_open sink ≡ true) h.0 in
    let w = failing contents laws (writer_of contents sink now) sink now
    (streams_of contents (sink_out sink).now (sink_out now).now sink now opened refl refl) m plan [] (sink_is_open sink ≡ true) took opened in
    (w.0, w.1.wrote, parts_by _ h.0.front h.0.rest _ _ h.0.parts w.1.triples_are w.1.rest_is)
