use Rattle.std.proofs.Common.{arith}
use Rattle.csvw_datatype_core.specs.LexicalDates.{date_digits}
use Rattle.csvw_datatype_core.proofs.AsciiLemmas.{AllAscii, is_ascii}
use Rattle.csvw_datatype_core.proofs.lexical_date.date_bytes.Goals as goal

pub returns-clause-ascii : goal.returns-clause-ascii
unfolding AllAscii
returns-clause-ascii c =
    let all : AllAscii (date_digits c.args.year c.args.month c.args.date) = (
      omega (arith, c.requires),
      (
        omega (arith, c.requires),
        (
          omega (arith, c.requires),
          (
            omega (arith, c.requires),
            (
              omega arith,
              (omega (arith, c.requires), (omega (arith, c.requires), (omega arith, (omega (arith, c.requires), (omega (arith, c.requires), tt))))),
            ),
          ),
        ),
      ),
    ) in
    is_ascii (date_digits c.args.year c.args.month c.args.date) all
