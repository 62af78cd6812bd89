use Rattle.std.proofs.Common.{ℕ, List, IfSome, Option, Some, None, Bor}
use Rattle.std.specs.Str.{IsAscii}
use Rattle.std.specs.Str.Parse.{AllDigits}
use Rattle.std.proofs.lemmas.Fmt.{IsAscii-from_digits}
use Rattle.csvw_duration.proofs.digits.fraction_at.Goals as goal

ascii : (o : Option (Bor (List ℕ) × Bor (List ℕ))) → IfSome o (λ x. AllDigits 10 x.0.now) → IfSome o (λ x. IsAscii x.0.now)
ascii None h = tt
ascii (Some x) h = IsAscii-from_digits x.0.now h

pub returns-in-46-clause-ascii : goal.returns-in-46-clause-ascii
returns-in-46-clause-ascii c = ascii c.digits_at.result c.digits_at.ensures.digits
