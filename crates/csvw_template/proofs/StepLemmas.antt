-- The state of a loop over a list after one more step.
use Rattle.std.proofs.Common.{◌≡◌, ℕ, ◌+◌, ◌<◌, Bool, true, false, ◌&&◌, List, Some, length, drop, get_or, suc}
use Rattle.std.proofs.Common.{sym, ap, ◌∙◌, add-one, drop-cons}
use Rattle.std.specs.List.{list_all}
use Rattle.std.proofs.lemmas.Bool.{cond-false}
use Rattle.csvw_template.specs.declared.names.Place.{Place}
use Rattle.csvw_template.specs.declared.names.Kind.{Kind}
use Rattle.csvw_template.specs.Grammar.{is_modifier}
use Rattle.csvw_template.specs.Reading.{kind, step, is_end}

pub all_on : (p : ℕ → Bool) (xs : List ℕ) (i : ℕ) → i < length xs → true ≡ p (get_or xs i 0) → list_all p (drop i xs) ≡ list_all p (drop (i + 1) xs)
all_on p xs i lt passes = rw add-one (ap (list_all p) (drop-cons xs i 0 lt) ∙ ap (λ b. b && list_all p (drop (suc i) xs)) (sym passes))

pub kind_on : (text : List ℕ) (i : ℕ) → i < length text → (place next : Place) (whole : Kind) → kind (Some place) (drop i text) ≡ whole
    → (is_end place && is_modifier (get_or text i 0)) ≡ false → Some next ≡ step place (get_or text i 0) → kind (Some next) (drop (i + 1) text) ≡ whole
kind_on text i lt place next whole so_far other on =
    let now = rw (drop-cons text i 0 lt) at so_far in
    rw add-one (ap (λ s. kind s (drop (suc i) text)) on ∙ sym (cond-false _ _ _ other) ∙ now)
