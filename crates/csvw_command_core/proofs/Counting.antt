-- How often standard input is among the files of a group.
use Rattle.std.proofs.Common.{◌≡◌, ◌∙◌, ◌<◌, ◌≤◌, ◌+◌, ℕ, Bool, true, false, List, [], ◌∷◌, ◌++◌, refl, sym, add-one, ap, subst, arith, drop, get_or, length}
use Rattle.std.proofs.Common.{map, take, take-append-drop, length-append}
use Rattle.std.specs.Prelude.{filter, if◌then◌else◌}
use Rattle.std.proofs.Math.Seq.{take-length, take-suc}
use Rattle.std.proofs.lemmas.List.{map-append}
use Rattle.std.proofs.lemmas.List.Elements.{filter-append}
use Rattle.clap.specs.Words.{Text}
use Rattle.csvw_command_core.specs.StandardInput.{is_standard}

-- the paths in front and one more
pub map_next : {A B : Type 0} (f : A → B) (xs : List A) (i : ℕ) (d : A) → i < length xs
    → map f (take (i + 1) xs) ≡ map f (take i xs) ++ (f (get_or xs i d) ∷ [])
map_next f xs i d below = rw add-one (ap (map f) (take-suc xs i d below) ∙ map-append f (take i xs) (get_or xs i d ∷ []))

-- how often it is among these names
abbrev pub met : List Text → ℕ
met names = length (filter is_standard names)

pub met_one : (name : Text) (b : Bool) → is_standard name ≡ b → met (name ∷ []) ≡ (if b then 1 else 0)
met_one name true e = rw e refl
met_one name false e = rw e refl

met_more : (names more : List Text) → met (names ++ more) ≡ met names + met more
met_more names more = ap length (filter-append is_standard names more) ∙ length-append (filter is_standard names) (filter is_standard more)

module _ {A : Type 0} (path : A → Text) (meta : Text) (files : List A) (i : ℕ) (d : A) (below : i < length files) where
  -- one file more
  pub met_next : met (meta ∷ map path (take (i + 1) files)) ≡ met (meta ∷ map path (take i files)) + met (path (get_or files i d) ∷ [])
  met_next = ap (λ names. met (meta ∷ names)) (map_next path files i d below) ∙ met_more (meta ∷ map path (take i files)) (path (get_or files i d) ∷ [])

-- those behind take nothing away
pub met_in_all : {A : Type 0} (path : A → Text) (meta : Text) (files : List A) (i : ℕ) → met (meta ∷ map path (take i files)) ≤ met (meta ∷ map path files)
met_in_all path meta files i =
    let parts : met (meta ∷ map path files) ≡ met (meta ∷ map path (take i files)) + met (map path (drop i files)) =
    ap (λ xs. met (meta ∷ map path xs)) (sym (take-append-drop i files)) ∙ ap (λ names. met (meta ∷ names)) (map-append path (take i files) (drop i files))
    ∙ met_more (meta ∷ map path (take i files)) (map path (drop i files)) in
    omega (arith, parts)

-- standard input was met before, or it was not
abbrev pub Met : {A : Type 0} → (A → Text) → Text → List A → ℕ → Bool → Type 0
Met path meta files i seen = met (meta ∷ map path (take i files)) ≡ (if seen then 1 else 0)

module _ {A : Type 0} (path : A → Text) (meta : Text) (files items : List A) (same : items ≡ files) (i : ℕ) (d : A) where
  -- the next file isn't standard input
  pub met_other : (seen after : Bool) → i < length items → Met path meta files i seen → is_standard (path (get_or items i d)) ≡ false → after ≡ seen
      → Met path meta files (i + 1) after
  met_other seen after below h e same_seen =
      let one = met_one (path (get_or files i d)) false (subst (λ xs. is_standard (path (get_or xs i d)) ≡ false) same e) in
      let next = met_next path meta files i d (subst (λ xs. i < length xs) same below) in
      subst (Met path meta files (i + 1)) (sym same_seen) (omega (arith, one, next, h))

  -- it is, for the first time
  pub met_first : (seen after : Bool) → i < length items → Met path meta files i seen → seen ≡ false → is_standard (path (get_or items i d)) ≡ true
      → after ≡ true
      → Met path meta files (i + 1) after
  met_first seen after below h none e is =
      let one = met_one (path (get_or files i d)) true (subst (λ xs. is_standard (path (get_or xs i d)) ≡ true) same e) in
      let next = met_next path meta files i d (subst (λ xs. i < length xs) same below) in
      let before : met (meta ∷ map path (take i files)) ≡ 0 = subst (Met path meta files i) none h in
      subst (Met path meta files (i + 1)) (sym is) (omega (arith, one, next, before))

  -- it is, once more
  pub met_twice : (seen : Bool) → i < length items → Met path meta files i seen → seen ≡ true → is_standard (path (get_or items i d)) ≡ true
      → 1 < met (meta ∷ map path files)
  met_twice seen below h once e =
      let one = met_one (path (get_or files i d)) true (subst (λ xs. is_standard (path (get_or xs i d)) ≡ true) same e) in
      let next = met_next path meta files i d (subst (λ xs. i < length xs) same below) in
      let before : met (meta ∷ map path (take i files)) ≡ 1 = subst (Met path meta files i) once h in
      let all = met_in_all path meta files (i + 1) in
      omega (arith, one, next, before, all)

at_most_one : (b : Bool) → (if b then 1 else 0) ≤ 1
at_most_one true = omega arith
at_most_one false = omega arith

-- all files were met
pub met_all : {A : Type 0} (path : A → Text) (meta : Text) (files items : List A) (i : ℕ) (seen : Bool) → items ≡ files → i ≡ length items
    → Met path meta files i seen
    → met (meta ∷ map path files) ≤ 1
met_all path meta files items i seen same end h =
    let whole : take i files ≡ files = ap (λ n. take n files) (end ∙ ap length same) ∙ take-length files in
    let all : met (meta ∷ map path files) ≡ (if seen then 1 else 0) = ap (λ xs. met (meta ∷ map path xs)) (sym whole) ∙ h in
    let few = at_most_one seen in
    omega (arith, all, few)
