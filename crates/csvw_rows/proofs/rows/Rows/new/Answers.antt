use Rattle.std.proofs.Common.{refl}
use Rattle.csvw_fields.specs.FieldLaws.{field_laws_of}
use Rattle.csvw_rows.proofs.States.{new_holds}
use Rattle.csvw_rows.specs.SourceState.{rest_bytes}
use Rattle.csvw_rows.proofs.rows.Rows.new.Goals as goal

pub returns-clause-holds : goal.returns-clause-holds
returns-clause-holds c =
    new_holds _ c.args.dialect c.args.max_rows c.in_ok-new.ensures refl refl refl refl refl c.new-2.ensures.rest c.new-2.ensures.begun
    c.new-2.ensures.pending c.new-2.ensures.bad

pub invariant_of-result-clause-drafted : goal.invariant_of-result-clause-drafted
invariant_of-result-clause-drafted c = (field_laws_of c.field_laws.ensures).fresh_draft c.in_ok-new.field-0.dialect c.new-5.result
    (rest_bytes c.new-2.result) c.new-5.ensures c.new-2.result.is_text

pub invariant_of-result-clause-marked : goal.invariant_of-result-clause-marked
invariant_of-result-clause-marked c s is = c.none.ensures _ _
