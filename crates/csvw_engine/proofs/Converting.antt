-- What a sink that writes N-Triples does to its writer.
use Rattle.std.proofs.Common.{◌≡◌, ℕ, List, [], ◌↔◌, true, false, Bool, Contains, Option, arith}
use Rattle.std.proofs.KnownBytes.{Appends-nil}
use Rattle.std.specs.List.{AllByRecursion}
use Rattle.std.specs.Io.KnownBytes.{Appends}
use Rattle.csvw_streams.specs.Counted.{inner_of, failures_of}
use Rattle.csvw_triples_core.specs.declared.term.Triple.{Triple}
use Rattle.csvw_ntriples.specs.declared.nt_sink.NtSink.{NtSink}
use Rattle.csvw_ntriples.specs.declared.term.NtTriple.{NtTriple}
use Rattle.csvw_ntriples.specs.NtSink.{sink_out, sink_is_open}
use Rattle.csvw_ntriples.specs.SameUpTo.{SameUpTo, Occurs}
use Rattle.csvw_ntriples.specs.Sending.{Sends}
use Rattle.csvw_ntriples.specs.Writable.{TripleFits}
use Rattle.csvw_ntriples.specs.Written.{written}

-- the same graph by another word
occurs_too : (X Y : Triple → Type 0) → ((x : Triple) → X x ↔ Y x) → (o : _) → Occurs Y o → Occurs X o
occurs_too X Y iff o h = (h.0, (iff h.0).1 h.1, h.2)

pub same_by : (X Y : Triple → Type 0) (ys : List NtTriple) → ((x : Triple) → X x ↔ Y x) → SameUpTo X ys → SameUpTo Y ys
same_by X Y ys iff s = record {
  name = s.name;
  one_to_one = λ o p h k e. s.one_to_one o p (occurs_too X Y iff o h) (occurs_too X Y iff p k) e;
  whole = λ t y. s.whole t ((iff t).1 y);
  only = λ u c. let q = s.only u c in (q.0, (iff q.0).0 q.1, q.2);
}

pub none_in : {X : Type 0} (x : X) → Contains [] x → ⊥
none_in x h = let lt = h.1 in absurd (omega arith)

-- what a sink did that is open at both ends
pub sends_whole : (k m : Option (List ℕ)) (a b : Bool) (ts : List Triple) → a ≡ true → b ≡ true → Sends k a ts m b → Appends k m (written ts)
sends_whole k m true true ts p q s = s
sends_whole k m true false ts p q s = cc
sends_whole k m false b ts p q s = cc

pub sends_nothing : (k : Option (List ℕ)) (a : Bool) → a ≡ true → Sends k a [] k a
sends_nothing k true e = Appends-nil k
sends_nothing k false e = cc

-- the relation of a sink that writes N-Triples
abbrev pub takes : {W : Type 0} → (W → Option (List ℕ)) → NtSink W → List Triple → NtSink W → Type 0
takes contents a ts b = ((sink_out b).ghost_name ≡ (sink_out a).ghost_name) × AllByRecursion TripleFits ts
    × Sends (contents (inner_of (sink_out a).now)) (sink_is_open a) ts (contents (inner_of (sink_out b).now)) (sink_is_open b)

abbrev pub failed_of : {W : Type 0} → NtSink W → ℕ
failed_of s = failures_of (sink_out s).now
