-- The bytes that are sent to a stream, and whether it failed.
use Rattle.std.specs.Prelude.{◌≡◌, ◌⊎◌, ℕ, List, ◌++◌, Option}
use Rattle.std.specs.Io.KnownBytes.{Appends}
use Rattle.csvw_streams.specs.declared.counted.Counted.{Counted}
use Rattle.csvw_streams.specs.Count.{one_more}
use Rattle.csvw_streams.specs.Counted.{inner_of, failures_of}

-- A stream before and after: the bytes that its writer holds, if it reports them, and its count of failures.
pub record Stream : Type 0 where
  pub held : Option (List ℕ)
  pub holds : Option (List ℕ)
  pub failures : ℕ
  pub failed : ℕ

abbrev pub stream_of : {W : Type 0} → (W → Option (List ℕ)) → Counted W → Counted W → Stream
stream_of contents old new = record {
  held = contents (inner_of old);
  holds = contents (inner_of new);
  failures = failures_of old;
  failed = failures_of new;
}

-- nothing was sent
abbrev pub IsIdle : Stream → Type 0
IsIdle s = (s.holds ≡ s.held) × (s.failed ≡ s.failures)

-- the whole text was sent, and nothing failed
abbrev pub Sends : Stream → List ℕ → Type 0
Sends s text = Appends s.held s.holds text × (s.failed ≡ s.failures)

-- a front of the text was sent, which may be the whole text; then the stream failed
pub record IsCut (s : Stream) (text : List ℕ) : Type 0 where
  pub front : List ℕ
  pub rest : List ℕ
  pub parts : text ≡ front ++ rest
  pub appended : Appends s.held s.holds front
  pub failed : s.failed ≡ one_more s.failures

-- the whole text was sent, or a front of it before the stream failed
abbrev pub Tells : Stream → List ℕ → Type 0
Tells s text = Sends s text ⊎ IsCut s text
