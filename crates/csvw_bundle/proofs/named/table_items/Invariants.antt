-- What was read and what is left to read are all tables.
use Rattle.std.proofs.Common.{◌≡◌, drop}
use Rattle.serde_json.specs.View.{items_view}
use Rattle.csvw_meta_core.specs.Pointer.{text_of}
use Rattle.csvw_bundle.specs.Bundles.{table_items}
use Rattle.csvw_bundle.proofs.ItemsLemmas.{with_front}
use Rattle.csvw_bundle.proofs.named.table_items.Given as goal

abbrev pub invariant-loop-i : goal.invariant-loop-i
invariant-loop-i l =
    with_front l.read.items (table_items l.bundle.resources.now l.bundle.base.now (text_of l.part.at) l.i (items_view (drop l.i l.items)))
    ≡ table_items l.bundle.resources.now l.bundle.base.now (text_of l.part.at) 0 (items_view l.items)
