-- What a document says of keys and row titles, without the warnings on them: `bare_keys`. The check that what they name exists needs no more.
use Rattle.std.specs.Prelude.{[], map}
use Rattle.csvw_meta_keys.specs.declared.foreign_key.ForeignKeyFound.{ForeignKeyFound}
use Rattle.csvw_meta_keys.specs.declared.keys.KeysFound.{KeysFound}
use Rattle.csvw_meta_keys.specs.declared.reference.ReferenceFound.{ReferenceFound}

abbrev pub bare_reference : ReferenceFound → ReferenceFound
bare_reference r = record { table = r.table; columns = r.columns; warnings = [] }

abbrev pub bare_key : ForeignKeyFound → ForeignKeyFound
bare_key k = record { at = k.at; columns = k.columns; table = k.table; referenced = k.referenced; warnings = [] }

abbrev pub bare_keys : KeysFound → KeysFound
bare_keys k = record { id = k.id; primary = k.primary; row_titles = k.row_titles; foreign = map bare_key k.foreign }
