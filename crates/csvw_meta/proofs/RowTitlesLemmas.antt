-- Without row titles the columns stay the same.
use Rattle.std.proofs.Common.{◌≡◌, ℕ, ◌+◌, ◌||◌, List, [], ◌∷◌, Bool, true, false, ap, ap₂, arith, length, refl, sym, ◌==◌}
use Rattle.std.proofs.lemmas.Bool.Decides.{nat_tests}
use Rattle.csvw_description.specs.declared.column.ColumnDescription.{ColumnDescription}
use Rattle.csvw_meta_keys.specs.declared.column_names.KeyName.{KeyName}
use Rattle.csvw_meta_keys.specs.Described.{names_of}
use Rattle.csvw_meta.specs.Schema.{with_row_title, with_row_titles}

or_false : (b : Bool) → (b || false) ≡ b
or_false true = refl
or_false false = refl

flagged : ColumnDescription → Bool → ColumnDescription
flagged c b = record {
  name = c.name;
  titles = c.titles;
  is_virtual = c.is_virtual;
  suppressed = c.suppressed;
  is_row_title = b;
  inherited = c.inherited;
  warnings = c.warnings;
}

one_untitled : (n : ℕ) (c : ColumnDescription) → with_row_title [] n c ≡ c
unfolding flagged
one_untitled n c = ap (flagged c) (or_false c.is_row_title)

untitled : (i : ℕ) (cs : List ColumnDescription) → with_row_titles [] i cs ≡ cs
untitled i [] = refl
untitled i (c ∷ cs) = ap₂ (λ x xs. x ∷ xs) (one_untitled (i + 1) c) (untitled (i + 1) cs)

pub unnamed : (titles : List KeyName) (cs : List ColumnDescription) (b : Bool) → b ≡ (length titles == 0) → b ≡ true
    → cs ≡ with_row_titles (names_of titles) 0 cs
unnamed [] cs b is now = sym (untitled 0 cs)
unnamed (t ∷ ts) cs b is now = let no : (length (t ∷ ts) == 0) ≡ false = grind (arith, nat_tests) in cc
