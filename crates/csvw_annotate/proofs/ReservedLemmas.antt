-- The names that each cell has begin with `_`.
use Rattle.std.proofs.Common.{◌≡◌, ℕ, List, [], ◌∷◌, false, refl, bytes_eq, codes, arith}
use Rattle.std.proofs.lemmas.Bool.Decides.{nat_tests}
use Rattle.csvw_annotate.specs.LowLine.{begins_with_low_line}
use Rattle.csvw_annotate.specs.Sharing.{is_of_column}

differs : (rest name : List ℕ) → begins_with_low_line name ≡ false → bytes_eq (95 ∷ rest) name ≡ false
differs rest [] e = refl
differs rest (b ∷ bs) e = grind (arith, nat_tests)

pub none_of_column : (name : List ℕ) → begins_with_low_line name ≡ false → is_of_column name ≡ false
none_of_column name e = rw (differs (codes "column") name e, differs (codes "sourceColumn") name e, differs (codes "name") name e) refl
