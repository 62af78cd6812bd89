-- Each byte is a digit or a colon.
use Rattle.std.proofs.Common.{zero, suc, arith}
use Rattle.csvw_datatype_core.proofs.time.clock.Goals as goal

pub returns-clause-ascii : goal.returns-clause-ascii
returns-clause-ascii c zero = omega (arith, c.requires.hour)
returns-clause-ascii c (suc zero) = omega (arith, c.requires.hour)
returns-clause-ascii c (suc (suc zero)) = omega arith
returns-clause-ascii c (suc (suc (suc zero))) = omega (arith, c.requires.minute)
returns-clause-ascii c (suc (suc (suc (suc zero)))) = omega (arith, c.requires.minute)
returns-clause-ascii c (suc (suc (suc (suc (suc zero))))) = omega arith
returns-clause-ascii c (suc (suc (suc (suc (suc (suc zero)))))) = omega (arith, c.requires.second)
returns-clause-ascii c (suc (suc (suc (suc (suc (suc (suc zero))))))) = omega (arith, c.requires.second)
returns-clause-ascii c (suc (suc (suc (suc (suc (suc (suc (suc i)))))))) = omega arith
