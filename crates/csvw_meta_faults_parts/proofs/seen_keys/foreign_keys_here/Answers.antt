-- The values of an array are those of its items.
use Rattle.std.proofs.Common.{◌≡◌, List, IfOk, map, sym, subst}
use Rattle.serde_json.specs.View.{view}
use Rattle.csvw_meta_core.specs.Pointer.{text_of}
use Rattle.csvw_meta_keys.specs.declared.foreign_key.ForeignKeyFound.{ForeignKeyFound}
use Rattle.csvw_meta_keys.specs.declared.keys.TheConstants.{MAX_FOREIGN_KEYS}
use Rattle.csvw_meta_keys.specs.ForeignKeys.{foreign_key}
use Rattle.csvw_meta_faults_parts.specs.BareKeys.{bare_key}
use Rattle.csvw_meta_faults_parts.proofs.ItemsLemmas.{several_value}
use Rattle.csvw_meta_faults_parts.proofs.seen_keys.foreign_keys_here.Goals as goal

pub returns : goal.returns
returns c = λ place.
    let at = text_of c.args.part.now.at in
    let d = view c.args.part.now.value.now in
    subst (λ (ks : List ForeignKeyFound). IfOk c.each_seen.result (λ found. found ≡ map bare_key ks))
    (sym (several_value 0 MAX_FOREIGN_KEYS (λ n. foreign_key c.args.context.now.profile c.args.context.now.base place) at d))
    (rw c.array_items.ensures at (c.each_seen.ensures place))
