-- The rows are those of the table at its place.
use Rattle.std.proofs.Common.{◌∙◌, ◌<◌, ap, sym, arith, length, Some}
use Rattle.std.proofs.lemmas.Option.{slice_get-get_or}
use Rattle.csvw_session.proofs.session.Session.rows_read.Goals as goal

pub returns : goal.returns
returns g c =
    let tables = c.args.self.now.tables.items in
    let i = c.in_ok-i.i in
    let below : i < length tables = (let at = c.in_ok-i.ensures in let count = c.len.ensures in omega (arith, at, count)) in
    record {
      place = i;
      numbered = c.in_ok-i.ensures.0;
      table = c.index.result.now;
      found = slice_get-get_or tables i c.index.result.now below ∙ ap Some (sym c.index.ensures);
      read = c.rows_read.ensures;
    }
