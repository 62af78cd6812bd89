-- A stop that is explained: the line of the stop, and then a text: `IsExplained`.
use Rattle.std.specs.Prelude.{ℕ, List, Option}
use Rattle.csvw_streams.specs.Streams.{Stream, Tells}

-- some text goes to `err`, of which nothing is said
abbrev pub TellsText : Stream → Type 0
TellsText err = (text : List ℕ) × Tells err text

-- What was told up to some moment, and what `err` held and how often it had failed by then; a text follows.
pub record IsExplained (Told : Stream → Type 0) (err : Stream) : Type 0 where
  pub held : Option (List ℕ)
  pub failures : ℕ
  pub told : Told (record err { holds = held; failed = failures })
  pub text : TellsText (record err { held = held; failures = failures })
