-- The items of an array: `items_of`. Another value has none.
use Rattle.serde_json.specs.Data.{Data, null, boolean, number, string, array, object, Items, no_items}

abbrev pub items_of : Data → Items
items_of (array ds) = ds
items_of null = no_items
items_of (boolean b) = no_items
items_of (number n) = no_items
items_of (string s) = no_items
items_of (object ms) = no_items
