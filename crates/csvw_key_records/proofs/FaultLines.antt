-- The texts that are added for a fault are its line.
use Rattle.std.proofs.Common.{◌≡◌, ℕ, List, [], ◌∷◌, ◌++◌, append_assoc}
use Rattle.std.specs.Prelude.{decimal}
use Rattle.csvw_fault.specs.Code.{name_of}
use Rattle.csvw_fault.specs.declared.fault.Fault.{Fault}
use Rattle.csvw_report.specs.Report.{kind_name, line}

pub texts-line : (f : Fault) (k n a b c : List ℕ) → k ≡ kind_name f.kind → n ≡ name_of f.code → a ≡ decimal f.place.table → b ≡ decimal f.place.row
    → c ≡ decimal f.place.column → k ++ 44 ∷ (n ++ 44 ∷ (a ++ 44 ∷ (b ++ 44 ∷ (c ++ 10 ∷ [])))) ≡ line f
unfolding line
texts-line f k n a b c i j l m o = rw (i, j, l, m, o) (simp append_assoc)
