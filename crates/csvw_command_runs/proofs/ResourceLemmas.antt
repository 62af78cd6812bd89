-- The resources of one word more.
use Rattle.std.proofs.Common.{◌≡◌, ◌<◌, ◌+◌, ℕ, List, [], ◌∷◌, ◌++◌, ◌∙◌, ap, flat_map, map, take, get_or, length, Bor}
use Rattle.std.proofs.lemmas.Grind.{flat_map-append}
use Rattle.std.proofs.lemmas.List.{append-nil}
use Rattle.clap.specs.Words.{Text}
use Rattle.csvw_command_core.proofs.Counting.{map_next}
use Rattle.csvw_files.specs.declared.resources.ResourceFile.{ResourceFile}
use Rattle.csvw_command_runs.specs.Resources.{named, pair_of}

flat_map_last : {A B : Type 0} (f : A → List B) (xs : List A) (x : A) → flat_map f (xs ++ x ∷ []) ≡ flat_map f xs ++ f x
flat_map_last f xs x = flat_map-append f xs (x ∷ []) ∙ ap (λ ys. flat_map f xs ++ ys) (append-nil (f x))

pub names_next : (words : List (Bor Text)) (i : ℕ) (d : Bor Text) (old new : List ResourceFile) → i < length words
    → map pair_of old ≡ flat_map named (map (λ w. w.now) (take i words)) → map pair_of new ≡ map pair_of old ++ named (get_or words i d).now
    → map pair_of new ≡ flat_map named (map (λ w. w.now) (take (i + 1) words))
names_next words i d old new below before one =
    rw (map_next (λ w. w.now) words i d below, flat_map_last named (map (λ w. w.now) (take i words)) (get_or words i d).now)
    (one ∙ ap (λ ps. ps ++ named (get_or words i d).now) before)
