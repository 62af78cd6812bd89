use Rattle.std.proofs.Common.{ap}
use Rattle.csvw_row_keys.specs.Spelling.{spelling}
use Rattle.csvw_row_keys.proofs.SpellingLemmas.{key_itself, keys_apart, same_keys}
use Rattle.csvw_row_keys.proofs.laws.keys_are_spelled_apart.Goals as goal

pub returns : goal.returns
returns c = record {
  apart = λ a b e. key_itself a b (keys_apart a b e);
  alike = λ a b e. ap spelling (same_keys a b e);
}
