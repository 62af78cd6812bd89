-- What the check of references between tables needs of a group: `bare_group` and `as_group` (Metadata Vocabulary for Tabular Data,
-- section 5.5.2).
use Rattle.std.specs.Prelude.{[], map, None, option_map}
use Rattle.csvw_description.specs.Inherited.{no_inherited}
use Rattle.csvw_meta.specs.declared.group.GroupFound.{GroupFound}
use Rattle.csvw_meta_faults.specs.Seen.{as_table, bare_schema, bare_table}
use Rattle.csvw_meta_faults.specs.declared.seen.GroupSeen.{GroupSeen}
use Rattle.csvw_meta_faults_parts.specs.BareKeys.{bare_keys}

-- a group without what the check doesn't look at
abbrev pub bare_group : GroupFound → GroupFound
bare_group g = record {
  id = None;
  tables = map bare_table g.tables;
  given = record { dialect = None; warnings = [] };
  body = record {
    schema = option_map bare_schema g.body.schema;
    keys = option_map bare_keys g.body.keys;
    inherited = no_inherited;
    warnings = [];
  };
  notes = [];
}

-- a group as it is seen
abbrev pub as_group : GroupSeen → GroupFound
as_group g = record {
  id = None;
  tables = map as_table g.tables;
  given = record { dialect = None; warnings = [] };
  body = record { schema = g.schema; keys = g.keys; inherited = no_inherited; warnings = [] };
  notes = [];
}
