-- The bytes of a report that were sent before a stop.
use Rattle.std.specs.Prelude.{◌≡◌, ℕ, List, ◌++◌}
use Rattle.csvw_streams.specs.Streams.{Stream, Sends, IsCut}
use Rattle.csvw_report.specs.declared.stop.ReportStop.{ReportStop}
use Rattle.csvw_report.specs.declared.stop.ReportStop.TheVariants.{Memory, Write}

-- a front of the text was sent, and nothing failed
pub record SendsFront (s : Stream) (text : List ℕ) : Type 0 where
  pub front : List ℕ
  pub rest : List ℕ
  pub parts : text ≡ front ++ rest
  pub sent : Sends s front

-- after `Memory` nothing failed; after `Write` the stream did
abbrev pub StopsAt : Stream → List ℕ → ReportStop → Type 0
StopsAt s text Memory = SendsFront s text
StopsAt s text Write = IsCut s text
