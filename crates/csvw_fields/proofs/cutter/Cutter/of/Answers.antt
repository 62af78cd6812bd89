use Rattle.csvw_fields.proofs.cutter.Cutter.of.Goals as goal

pub invariant_of-result : goal.invariant_of-result
invariant_of-result c = record { lawful = c.args.rules.now.lawful; same_symbols = c.args.rules.now.same_symbols c.in_ok-symbols.symbols c.in_ok-symbols.was }
