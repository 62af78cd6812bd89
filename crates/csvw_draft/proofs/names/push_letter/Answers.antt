-- A letter or a digit is one byte.
use Rattle.std.proofs.Common.{rules, string_bytes}
use Rattle.csvw_draft.proofs.NameLemmas.{IsMade-letter, is_small}
use Rattle.csvw_draft.proofs.names.push_letter.Goals as goal

pub returns : goal.returns
returns c = IsMade-letter c.push.result (string_bytes c.args.name.now) (string_bytes c.push.new.self) c.args.c c.requires.letter c.requires.ranges
    (let small = is_small c.args.c c.requires.ranges in search (rules, small))
