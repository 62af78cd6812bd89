-- What flushes leave of a stream.
use Rattle.std.proofs.Common.{◌≡◌, ◌<◌, ◌+◌, ◌-◌, ◌^◌, ℕ, List, ◌∙◌, arith, Option, Some, None}
use Rattle.std.specs.Io.KnownBytes.{Appends, Keeps}
use Rattle.csvw_streams.specs.Count.{one_more}

pub appends_kept : (a b c : Option (List ℕ)) (bs : List ℕ) → Appends a b bs → Keeps b c → Appends a c bs
appends_kept None b c bs p q = tt
appends_kept (Some x) None c bs p q = absurd p
appends_kept (Some x) (Some y) None bs p q = absurd q
appends_kept (Some x) (Some y) (Some z) bs p q = q ∙ p

-- one failure more
pub rose : (a b c : ℕ) → b ≡ a → c ≡ one_more b → a < 2 ^ 64 - 1 → c ≡ a + 1
rose a b c same e = λ room. omega (arith, same, e, room)
