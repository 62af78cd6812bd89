-- The files of a group, opened one after the other.
use Rattle.std.proofs.Common.{◌≡◌, ◌∙◌, ◌<◌, ◌+◌, ℕ, suc, List, [], ◌∷◌, ◌++◌, refl, sym, subst, ap, inl, inr, append_assoc, arith, drop, get_or, length}
use Rattle.std.proofs.Common.{map, take, take-append-drop, Option, None, Some}
use Rattle.std.proofs.lemmas.List.{map-append, take-append-le}
use Rattle.std.proofs.Math.Seq.{drop-cons, take-length}
use Rattle.clap.specs.Words.{Text}
use Rattle.csvw_streams.specs.declared.counted.Counted.{Counted}
use Rattle.csvw_streams.specs.Counted.{inner_of, failures_of}
use Rattle.csvw_command_core.specs.declared.request.Group.{Group}
use Rattle.csvw_engine_core.specs.declared.stop.Stop.TheVariants as stop
use Rattle.csvw_command_core.proofs.Counting.{map_next}
use Rattle.csvw_command_runs.specs.Groups.{ClosesAll, OpensAll, OpensGroup, StopsOpening}

-- one path more
pub opens_next : {O R : Type 0} (opens : O → Text → Option R → O → Type 0) (old : O) (paths : List Text) (readers : List (Counted R)) (between : O)
    (path : Text) (r : Counted R) (new : O)
    → OpensAll opens old paths readers between → opens between path (Some (inner_of r)) new → failures_of r ≡ 0
    → OpensAll opens old (paths ++ (path ∷ [])) (readers ++ (r ∷ [])) new
opens_next opens old [] [] between path r new all one steady = record {
  between = new;
  opened = subst (λ o. opens o path (Some (inner_of r)) new) all.1 one;
  steady = steady;
  rest = (refl, refl);
}
opens_next opens old [] (x ∷ readers) between path r new all one steady = (let none = all.0 in cc)
opens_next opens old (p ∷ paths) [] between path r new all one steady = absurd all
opens_next opens old (p ∷ paths) (x ∷ readers) between path r new all one steady = record {
  between = all.between;
  opened = all.opened;
  steady = all.steady;
  rest = opens_next opens all.between paths readers between path r new all.rest one steady;
}

-- the paths in front, one more, and the others
map_parts : {A B : Type 0} (f : A → B) (xs : List A) (i : ℕ) (d : A) → i < length xs
    → map f xs ≡ map f (take i xs) ++ (f (get_or xs i d) ∷ map f (drop (suc i) xs))
map_parts f xs i d below = ap (map f) (sym (take-append-drop i xs)) ∙ map-append f (take i xs) (drop i xs)
    ∙ ap (λ ys. map f (take i xs) ++ map f ys) (drop-cons xs i d below)

-- one file more was opened
pub opens_more : {O R A : Type 0} (opens : O → Text → Option R → O → Type 0) (path : A → Text) (files : List A) (i : ℕ) (d : A) (old : O)
    (readers : List (Counted R)) (between : O) (reader : R) (r : Counted R) (new : O)
    → i < length files → OpensAll opens old (map path (take i files)) readers between → opens between (path (get_or files i d)) (Some reader) new
    → inner_of r ≡ reader → failures_of r ≡ 0
    → OpensAll opens old (map path (take (i + 1) files)) (readers ++ (r ∷ [])) new
opens_more opens path files i d old readers between reader r new below all one inner steady =
    subst (λ paths. OpensAll opens old paths (readers ++ (r ∷ [])) new) (sym (map_next path files i d below))
    (opens_next opens old (map path (take i files)) readers between (path (get_or files i d)) r new all
    (subst (λ x. opens between (path (get_or files i d)) (Some x) new) (sym inner) one) steady)

-- the next file gives no reader
pub misses : {O R A : Type 0} (opens : O → Text → Option R → O → Type 0) (path : A → Text) (files : List A) (i : ℕ) (d : A) (old : O)
    (readers : List (Counted R)) (between : O) (o : Option R) (new : O)
    → i < length files → OpensAll opens old (map path (take i files)) readers between → opens between (path (get_or files i d)) o new → o ≡ None
    → StopsOpening opens old (map path files) new stop.Read
misses opens path files i d old readers between o new below all opened none = record {
  front = map path (take i files);
  rest = path (get_or files i d) ∷ map path (drop (suc i) files);
  parts = map_parts path files i d below;
  readers = readers;
  between = between;
  opened = all;
  fails = inr (refl, subst (λ x. opens between (path (get_or files i d)) x new) none opened);
}

-- there is no memory for its reader
pub lacks_room : {O R A : Type 0} (opens : O → Text → Option R → O → Type 0) (path : A → Text) (files : List A) (i : ℕ) (d : A) (old : O)
    (readers : List (Counted R)) (between : O) (reader : R) (r : Counted R) (new : O)
    → i < length files → OpensAll opens old (map path (take i files)) readers between → opens between (path (get_or files i d)) (Some reader) new
    → inner_of r ≡ reader → failures_of r ≡ 0
    → StopsOpening opens old (map path files) new stop.Memory
lacks_room opens path files i d old readers between reader r new below all one inner steady = record {
  front = map path (take (i + 1) files);
  rest = map path (drop (suc i) files);
  parts = map_parts path files i d below ∙ sym (append_assoc (map path (take i files)) (path (get_or files i d) ∷ []) (map path (drop (suc i) files)))
      ∙ ap (λ paths. paths ++ map path (drop (suc i) files)) (sym (map_next path files i d below));
  readers = readers ++ (r ∷ []);
  between = new;
  opened = opens_more opens path files i d old readers between reader r new below all one inner steady;
  fails = inl (refl, refl);
}

-- the same group, by equal lists
pub opened_as : {O R : Type 0} (opens : O → Text → Option R → O → Type 0) (closes : O → Counted R → O → Type 0) (remaining : R → Option (List ℕ))
    (group : Group) (old new : O) (bytes same_bytes : List ℕ) (readers same_readers : List (Counted R))
    → same_bytes ≡ bytes → same_readers ≡ readers → OpensGroup opens closes remaining group old new bytes readers
    → OpensGroup opens closes remaining group old new same_bytes same_readers
opened_as opens closes remaining group old new bytes same_bytes readers same_readers p q opened =
    subst (λ b. OpensGroup opens closes remaining group old new b same_readers) (sym p)
    (subst (λ r. OpensGroup opens closes remaining group old new bytes r) (sym q) opened)

-- one reader more is handed back
pub closes_next : {O R : Type 0} (closes : O → Counted R → O → Type 0) (old : O) (readers : List (Counted R)) (between : O) (r : Counted R) (new : O)
    → ClosesAll closes old readers between → closes between r new → ClosesAll closes old (readers ++ (r ∷ [])) new
closes_next closes old [] between r new all one = record {
  between = new;
  closed = subst (λ o. closes o r new) all one;
  rest = refl;
}
closes_next closes old (x ∷ readers) between r new all one = record {
  between = all.between;
  closed = all.closed;
  rest = closes_next closes all.between readers between r new all.rest one;
}

-- a slice that was lent keeps its length, so the vector has what was left of the slice
pub whole_front : {A : Type 0} (n : ℕ) (xs ys : List A) → length xs ≡ n → take n (xs ++ ys) ≡ xs
whole_front n xs ys same = ap (λ k. take k (xs ++ ys)) (sym same) ∙ (take-append-le (length xs) xs ys (omega arith) ∙ take-length xs)
