-- A row ends here, after the front.
use Rattle.std.proofs.Common.{◌≡◌, [], ◌∷◌, ◌++◌, true, refl, rules, subst, sym}
use Rattle.csvw_split.specs.declared.cuts.Cut.{Cut}
use Rattle.csvw_split.specs.FileState.{HasRows, rows_of}
use Rattle.csvw_split.proofs.CutLemmas.{cut_added}
use Rattle.csvw_split.proofs.cuts.FileCuts.cut.Goals as goal

pub returns-clause-cuts : goal.returns-clause-cuts
returns-clause-cuts c = λ t text h.
    let old = c.args.self.now in
    let may : c.may_begin.result ≡ true = search rules in
    let ends : c.is_at_row_end.result ≡ true = search rules in
    let cut : Cut = record { first_byte = old.bytes; rows_before = c.row_count.result; data_rows_before = c.data_rows.result } in
    let rows = c.is_at_row_end.ensures.rows t.dialect text h.follows ends in
    let counted = subst (λ n. HasRows t.dialect text n c.data_rows.result) (sym c.row_count.ensures)
    (subst (λ n. HasRows t.dialect text (rows_of old.file) n) (sym c.data_rows.ensures) rows) in
    let pushed : c.push.new.self ≡ old.cuts ++ cut ∷ [] = search rules in
    cut_added old _ t text cut h (c.may_begin.ensures may) counted refl refl refl refl refl refl pushed
