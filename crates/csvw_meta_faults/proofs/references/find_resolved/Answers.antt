-- The reference names no table.
use Rattle.csvw_meta_faults.proofs.references.find_resolved.Goals as goal

pub returns-in-None : goal.returns-in-None
returns-in-None c =
    rw (c.in-None.ensures c.args.scene.now.group_names.now) (c.find_missing.ensures c.args.own.known c.args.own.names.now)
