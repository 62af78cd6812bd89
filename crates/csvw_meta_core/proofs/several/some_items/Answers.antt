-- The number of items is within the limits.
use Rattle.std.proofs.Common.{◌≡◌, false, nat_lt, arith}
use Rattle.std.proofs.lemmas.Bool.Decides.{nat_tests}
use Rattle.serde_json.specs.View.{items_view}
use Rattle.csvw_meta_core.specs.Pointer.{text_of}
use Rattle.csvw_meta_core.specs.Read.{each_numbered}
use Rattle.csvw_meta_core.specs.Several.{count_faults, items_len}
use Rattle.csvw_meta_core.proofs.ItemsLemmas.{counted, items_len-items_view, none_counted}
use Rattle.csvw_meta_core.proofs.several.some_items.Goals as goal

pub returns : goal.returns
returns g c =
    let at = text_of c.args.part.now.at in
    let items = items_view c.args.items.now in
    let least = c.args.several.now.least in
    let most = c.args.several.now.most in
    let count = items_len-items_view c.args.items.now in
    let few : nat_lt (items_len items) least ≡ false = let enough = c.if-items-several.false in grind (arith, nat_tests) in
    let many : nat_lt most (items_len items) ≡ false = let within = c.if-items-several-2.false in grind (arith, nat_tests) in
    counted c.each_numbered.result (each_numbered (g.R.NumberedReader.reads c.args.several.now.reader) at 0 items) (count_faults least most at items)
    (none_counted (nat_lt (items_len items) least) (nat_lt most (items_len items)) _ _ few many) c.each_numbered.ensures
