-- How often something occurs, as far as it matters for a key.
use Rattle.std.specs.Prelude.{ℕ, zero, suc}
use Rattle.csvw_keys.specs.declared.times.Times.{Times}
use Rattle.csvw_keys.specs.declared.times.Times.TheVariants.{Never, Once, Often}

-- one more time
abbrev pub more : Times → Times
more Never = Once
more Once = Often
more Often = Often

-- so many times
abbrev pub times : ℕ → Times
times zero = Never
times (suc n) = more (times n)
