-- One more row is kept if it refers to others.
use Rattle.std.proofs.Common.{◌≡◌, ℕ, List, [], ◌∷◌, ◌++◌, Bool, true, false, refl, sym, ap, ◌∙◌, map, if◌then◌else◌}
use Rattle.std.proofs.lemmas.Grind.{flat_map-append}
use Rattle.std.proofs.lemmas.List.{append-nil, map-append}
use Rattle.csvw_annotate.specs.declared.row.Row.{Row}
use Rattle.csvw_keys.specs.declared.key.KeyCell.{KeyCell}
use Rattle.csvw_keys.specs.declared.referring.Referring.{Referring}
use Rattle.csvw_keys.specs.Held.{held, held_of}
use Rattle.csvw_keys.specs.Key.{is_null_key, key_of}
use Rattle.csvw_keys.specs.ReferenceBooks.{held_row, kept}
use Rattle.csvw_keys.specs.References.{referring, referring_of}
use Rattle.csvw_keys.proofs.HeldLemmas.{null_held}

by_null : (key : List KeyCell) (source : ℕ) (null : Bool)
    → (if null then [] else record { key = held key; source = source } ∷ []) ≡ map held_row (if null then [] else record { key = key; source = source } ∷ [])
by_null key source true = refl
by_null key source false = refl

kept_is : (key : List KeyCell) (source : ℕ) → kept (held key) source ≡ map held_row (referring key source)
kept_is key source =
    ap (λ null. if null then [] else record { key = held key; source = source } ∷ []) (sym (null_held key))
    ∙ by_null key source (is_null_key key)

pub one_row_kept : (columns : List ℕ) (rows : List Row) (row : Row) (so_far : List Referring)
    → so_far ≡ map held_row (referring_of columns rows)
    → so_far ++ kept (held_of columns row) row.source ≡ map held_row (referring_of columns (rows ++ row ∷ []))
one_row_kept columns rows row so_far is =
    let last = referring (key_of columns row) row.source in
    ap (λ rs. rs ++ kept (held_of columns row) row.source) is
    ∙ ap (λ rs. map held_row (referring_of columns rows) ++ rs) (kept_is (key_of columns row) row.source)
    ∙ sym (map-append held_row (referring_of columns rows) last)
    ∙ ap (λ rs. map held_row (referring_of columns rows ++ rs)) (sym (append-nil last))
    ∙ ap (map held_row) (sym (flat_map-append (λ r. referring (key_of columns r) r.source) rows (row ∷ [])))
