-- The lines of the records of the book were written, in their order.
use Rattle.std.proofs.lemmas.List.Sorted.{IsPermutation-refl}
use Rattle.csvw_keys.specs.KeyRules.{rules_of}
use Rattle.csvw_row_keys.specs.RowRecords.{records_of}
use Rattle.csvw_parts.proofs.state.write_book.Goals as goal

pub returns-in-Ok : goal.returns-in-Ok
returns-in-Ok g c =
    let rules = rules_of c.args.plan.now in
    rw c.in-Some.is (λ tables k. record {
      records = records_of rules tables;
      are = IsPermutation-refl (records_of rules tables);
      fit = c.in-Ok.ensures.fit tables k;
      sent = c.in-Ok.ensures.ok tables k;
    })
