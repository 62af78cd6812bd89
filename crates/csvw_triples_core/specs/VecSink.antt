-- The parts of a `VecSink` that contracts cite.
use Rattle.std.specs.Prelude.{List}
use Rattle.csvw_triples_core.specs.declared.term.Triple.{Triple}
use Rattle.csvw_triples_core.specs.declared.vec_sink.VecSink.{VecSink}

-- the triples that were taken, in their order
abbrev pub triples_of : VecSink → List Triple
triples_of sink = sink.items.items
