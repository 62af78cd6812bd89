-- The name has a place after the call.
use Rattle.std.proofs.Common.{◌∙◌, Some, ap, is_some, sym}
use Rattle.std.specs.Prelude.{bytes_eq, string_bytes}
use Rattle.std.specs.HashMap.{get_by_text}
use Rattle.std.specs.Map.{update}
use Rattle.std.proofs.lemmas.Map.Text.{hash_map_updates_text}
use Rattle.csvw_columns_core.proofs.PlaceLemmas.{adds_place}
use Rattle.csvw_columns_core.proofs.column_list.add_place.Goals as goal

pub returns-in_ok-insert : goal.returns-in_ok-insert
returns-in_ok-insert c =
    let old = c.args.places.now in
    let new = c.insert.new.self in
    let key = c.in_ok-from_str.field-0 in
    let absent = ap (λ name. is_some (get_by_text old name)) (sym c.as_str-name.ensures.value) ∙ sym c.contains_key.ensures ∙ c.if-not-contains_key.true in
    let same = c.in_ok-from_str.ensures.ok ∙ c.as_str-name.ensures.value in
    adds_place old c.args.column.now c.args.place new absent (λ name.
    hash_map_updates_text (string_bytes key) old new (Some c.args.place) c.in_ok-insert.ensures.updates name
    ∙ ap (λ bs. update bytes_eq (get_by_text old) bs (Some c.args.place) name) same)
