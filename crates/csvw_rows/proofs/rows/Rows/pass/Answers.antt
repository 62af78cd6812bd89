use Rattle.std.proofs.Common.{◌∙◌, ℕ, List, sym, ap, subst}
use Rattle.csvw_fields.specs.FieldLaws.{field_laws_of}
use Rattle.csvw_fields.specs.Bounds.{are_bounds}
use Rattle.csvw_rows.specs.SourceState.{rest_bytes}
use Rattle.csvw_fields.specs.Marked.{is_symbol, AreMarks}
use Rattle.csvw_rows.proofs.rows.Rows.pass.Goals as goal

pub invariant_of-self-clause-drafted : goal.invariant_of-self-clause-drafted
invariant_of-self-clause-drafted c =
    (field_laws_of c.field_laws.ensures).fresh_draft c.args.self.now.rules.dialect c.clear.new.self
    (rest_bytes c.take.new.self) c.clear.ensures c.take.new.self.is_text

pub invariant_of-self-clause-bounded : goal.invariant_of-self-clause-bounded
invariant_of-self-clause-bounded c =
    let s = c.args.self.now in
    ap (λ l. are_bounds l s.spare.items s.fields.items) c.take.ensures.items ∙ s.bounded

pub invariant_of-self-clause-marked : goal.invariant_of-self-clause-marked
invariant_of-self-clause-marked c s is =
    let r = c.args.self.now in
    subst (λ (l : List ℕ). AreMarks (is_symbol s) l r.marks) (sym c.take.ensures.items) (r.marked s is)
