-- The line of a record is its fields with the bytes that end them, and can be read in one way.
use Rattle.std.proofs.Common.{◌≡◌, ℕ, ◌==◌, List, ◌∷◌, ◌++◌, Bool, true, false, ◌||◌, refl, sym, ap, ◌∙◌, append_assoc}
use Rattle.std.specs.Prelude.{bytes_eq}
use Rattle.std.specs.List.{list_any}
use Rattle.std.proofs.Common.{eq-eqb}
use Rattle.std.proofs.lemmas.List.Folds.{list_any-append}
use Rattle.csvw_fault.specs.declared.fault.Place.{Place}
use Rattle.csvw_key_records.specs.declared.record.Role.{Role}
use Rattle.csvw_key_records.specs.declared.record.Role.TheVariants.{Unique, Referenced, Refers}
use Rattle.csvw_key_records.specs.Records.{cell, front, role_field, role_name, tail}
use Rattle.csvw_key_records.proofs.Cells.{IsWithout, first_unique}

pub front-cells : (rule : ℕ) (key rest : List ℕ) → front rule key ++ rest ≡ cell rule 44 (key ++ 44 ∷ rest)
front-cells rule key rest = simp append_assoc

pub tail-cells : (role : Role) (place : Place) (rest : List ℕ)
    → tail role place ++ rest ≡ role_field role (cell place.table 44 (cell place.row 44 (cell place.column 10 rest)))
tail-cells role place rest = simp append_assoc

without_comma : (role : Role) → IsWithout 44 (role_name role)
without_comma Unique = refl
without_comma Referenced = refl
without_comma Refers = refl

-- the names of roles differ
name_unique : (a b : Role) → role_name a ≡ role_name b → a ≡ b
name_unique Unique Unique is = refl
name_unique Unique Referenced is = let no : true ≡ false = ap (bytes_eq (role_name Unique)) is in cc
name_unique Unique Refers is = let no : true ≡ false = ap (bytes_eq (role_name Unique)) is in cc
name_unique Referenced Unique is = let no : true ≡ false = ap (bytes_eq (role_name Referenced)) is in cc
name_unique Referenced Referenced is = refl
name_unique Referenced Refers is = let no : true ≡ false = ap (bytes_eq (role_name Referenced)) is in cc
name_unique Refers Unique is = let no : true ≡ false = ap (bytes_eq (role_name Refers)) is in cc
name_unique Refers Referenced is = let no : true ≡ false = ap (bytes_eq (role_name Refers)) is in cc
name_unique Refers Refers is = refl

pub role_unique : (a b : Role) (x y : List ℕ) → role_field a x ≡ role_field b y → (a ≡ b) × (x ≡ y)
role_unique a b x y is =
    let same = first_unique 44 (role_name a) (role_name b) x y (without_comma a) (without_comma b) is in
    (name_unique a b same.0, same.1)

-- a text without commas in front of a comma is the name of the role there
pub name_of_field : (name x y : List ℕ) (role : Role) → IsWithout 44 name → name ++ 44 ∷ x ≡ role_field role y → name ≡ role_name role
name_of_field name x y role without is = (first_unique 44 name (role_name role) x y without (without_comma role) is).0

-- what follows the role of a text is known
pub peel_role : (text : List ℕ) (a b : Role) (x y : List ℕ) → text ≡ role_field a x → text ≡ role_field b y → x ≡ y
peel_role text a b x y one two = (role_unique a b x y (sym one ∙ two)).1

-- a byte that ends a text is in it
pub has_end : (e : ℕ) (a x : List ℕ) → IsWithout e (a ++ e ∷ x) → ⊥
has_end e a x without =
    let yes : (e == e) ≡ true = eq-eqb e e refl in
    let all : list_any (λ b. b == e) (a ++ e ∷ x) ≡ (list_any (λ b. b == e) a || (true || list_any (λ b. b == e) x)) =
    list_any-append (λ b. b == e) a (e ∷ x) ∙ ap (λ b. list_any (λ b. b == e) a || (b || list_any (λ b. b == e) x)) yes in
    either (list_any (λ b. b == e) a) (sym all ∙ without)
  where
    either : (b : Bool) → (b || true) ≡ false → ⊥
    either true fails = cc
    either false fails = cc
