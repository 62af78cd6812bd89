-- What is wrong with rows that refer to others, by the counts of a book and by the rows themselves.
use Rattle.std.proofs.Common.{◌≡◌, ℕ, ◌+◌, ◌<◌, zero, suc, List, [], ◌∷◌, ◌++◌, refl, sym, ap, ◌∙◌, cond, count_by, flat_map, get_or, length, map, take}
use Rattle.std.specs.Ordering.{is_eq}
use Rattle.std.proofs.lemmas.Grind.{flat_map-append}
use Rattle.std.proofs.lemmas.List.{append-nil, take_more}
use Rattle.std.proofs.lemmas.List.Sums.{sum_by-cons}
use Rattle.csvw_annotate.specs.declared.row.Row.{Row}
use Rattle.csvw_keys.specs.contracts.held.HeldKeyOrd.TheImpl as derived
use Rattle.csvw_keys.specs.declared.foreign_key.ForeignKey.{ForeignKey}
use Rattle.csvw_keys.specs.declared.held.HeldKey.{HeldKey}
use Rattle.csvw_keys.specs.declared.key.KeyCell.{KeyCell}
use Rattle.csvw_keys.specs.declared.times.Times.{Times}
use Rattle.csvw_keys.specs.declared.times.Times.TheVariants.{Never, Once, Often}
use Rattle.csvw_keys.specs.EqualKeys.{equal_keys}
use Rattle.csvw_keys.specs.Held.{held, held_keys}
use Rattle.csvw_keys.specs.Key.{key_of}
use Rattle.csvw_keys.specs.ReferenceBooks.{fault_by_times, held_row, row_fault}
use Rattle.csvw_keys.specs.References.{ReferringRow, fault_by_count, reference_fault, reference_faults, referring_of}
use Rattle.csvw_keys.specs.Tallies.{count_of}
use Rattle.csvw_keys.specs.Times.{more, times}
use Rattle.csvw_keys.proofs.HeldLemmas.{held_are}

-- ---- one row more

pub one_row_more : {X Y : Type 0} (f : X → List Y) (xs : List X) (i : ℕ) (x : X) → i < length xs → x ≡ get_or xs i x
    → flat_map f (take (i + 1) xs) ≡ flat_map f (take i xs) ++ f x
one_row_more f xs i x lt is =
    ap (flat_map f) (take_more xs i x lt ∙ ap (λ y. take i xs ++ y ∷ []) (sym is))
    ∙ flat_map-append f (take i xs) (x ∷ [])
    ∙ ap (λ ys. flat_map f (take i xs) ++ ys) (append-nil (f x))

-- ---- counts

by_more : (t : Times) (table : ℕ) (columns : List ℕ) (source : ℕ)
    → fault_by_times (more (more t)) table columns source ≡ fault_by_times Often table columns source
by_more Never table columns source = refl
by_more Once table columns source = refl
by_more Often table columns source = refl

by_times : (n table : ℕ) (columns : List ℕ) (source : ℕ) → fault_by_times (times n) table columns source ≡ fault_by_count table columns source n
by_times zero table columns source = refl
by_times (suc zero) table columns source = refl
by_times (suc (suc n)) table columns source = by_more (times n) table columns source

same_counts : (key : List KeyCell) (keys : List (List KeyCell)) → count_of derived.ghosts.cmp (held key) (map held keys) ≡ count_by (equal_keys key) keys
same_counts key [] = refl
same_counts key (k ∷ ks) =
    sum_by-cons (λ y. cond (is_eq (derived.ghosts.cmp (held key) y)) 1 0) (held k) (map held ks)
    ∙ ap (λ b. cond b 1 0 + count_of derived.ghosts.cmp (held key) (map held ks)) (sym (held_are key k))
    ∙ ap (λ n. cond (equal_keys key k) 1 0 + n) (same_counts key ks)
    ∙ sym (sum_by-cons (λ y. cond (equal_keys key y) 1 0) k ks)

-- ---- all rows

module _ (foreign : ForeignKey) (tables : ℕ → List Row) (so_often : HeldKey → Times)
    (counts : (key : HeldKey) → so_often key ≡ times (count_of derived.ghosts.cmp key (held_keys foreign.referenced (tables foreign.referenced_table)))) where
  abbrev keys : List (List KeyCell)
  keys = map (key_of foreign.referenced) (tables foreign.referenced_table)

  one_fault : (row : ReferringRow) → row_fault so_often foreign (held_row row) ≡ reference_fault foreign.table foreign.columns keys row
  one_fault row =
      ap (λ t. fault_by_times t foreign.table foreign.columns row.source) (counts (held row.key))
      ∙ by_times (count_of derived.ghosts.cmp (held row.key) (map held keys)) foreign.table foreign.columns row.source
      ∙ ap (fault_by_count foreign.table foreign.columns row.source) (same_counts row.key keys)

  each_fault : (rows : List ReferringRow)
      → flat_map (row_fault so_often foreign) (map held_row rows) ≡ flat_map (reference_fault foreign.table foreign.columns keys) rows
  each_fault [] = refl
  each_fault (row ∷ rows) =
      ap (λ fs. fs ++ flat_map (row_fault so_often foreign) (map held_row rows)) (one_fault row)
      ∙ ap (λ fs. reference_fault foreign.table foreign.columns keys row ++ fs) (each_fault rows)

  pub all_faults : flat_map (row_fault so_often foreign) (map held_row (referring_of foreign.columns (tables foreign.table)))
      ≡ reference_faults foreign.table foreign.columns (tables foreign.table) foreign.referenced (tables foreign.referenced_table)
  all_faults = each_fault (referring_of foreign.columns (tables foreign.table))
