-- The parts of a `Counted` that contracts cite.
use Rattle.std.specs.Prelude.{ℕ}
use Rattle.csvw_streams.specs.declared.counted.Counted.{Counted}

-- the reader or writer
abbrev pub inner_of : {T : Type 0} → Counted T → T
inner_of c = c.inner

-- how often it failed
abbrev pub failures_of : {T : Type 0} → Counted T → ℕ
failures_of c = c.failures

-- how many reads reported the end
abbrev pub ends_of : {T : Type 0} → Counted T → ℕ
ends_of c = c.ends
