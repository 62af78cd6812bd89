-- Books keep the rows that refer by keys and count what they refer to, and one more book removes nothing.
use Rattle.std.proofs.Common.{◌≡◌, ℕ, List, [], ◌∷◌, ◌++◌, Bool, true, false, Option, Some, refl, ap, ◌∙◌, All, flat_map, is_some, nat_eq, bytes_eq}
use Rattle.std.proofs.Common.{◌||◌, ◌&&◌, ◌==◌, None, if◌then◌else◌, length, MatchOption}
use Rattle.std.specs.Cmp.Lexicographic.{bytes_decides}
use Rattle.std.specs.List.{list_any}
use Rattle.std.proofs.lemmas.Bool.{and_from, and_parts, eq-eqb, or_left, or_right, false≢true}
use Rattle.std.proofs.lemmas.Grind.{flat_map-append}
use Rattle.std.proofs.lemmas.List.{append-nil, map-append}
use Rattle.std.proofs.lemmas.List.Elements.{All-cons, All-nil, All-push}
use Rattle.std.proofs.lemmas.List.Folds.{list_any-append}
use Rattle.csvw_keys.specs.declared.book.Book.{Book}
use Rattle.csvw_keys.specs.Books.{IsMore, KeepsBook, Purpose, Keeps, counts_in, first_in, is_served, lists_in, no_rows, purpose_of, purposes_of}
use Rattle.csvw_keys.specs.Books.{records_in, rules_for, rules_in}
use Rattle.csvw_keys.specs.KeyRules.{KeyRule, Unique, Refers, Recorded, primary_rules}

module _ (books : List Book) (b : Book) where
  with_book : purposes_of (books ++ b ∷ []) ≡ purposes_of books ++ purpose_of b ∷ []
  with_book = map-append purpose_of books (b ∷ [])

  rules_with : rules_in (books ++ b ∷ []) ≡ rules_in books ++ rules_for (purpose_of b)
  rules_with =
      ap (flat_map rules_for) with_book
      ∙ flat_map-append rules_for (purposes_of books) (purpose_of b ∷ [])
      ∙ ap (λ rules. rules_in books ++ rules) (append-nil (rules_for (purpose_of b)))

  pub rule_more : (rule : KeyRule) → purpose_of b ≡ Keeps rule → rules_in (books ++ b ∷ []) ≡ rules_in books ++ rule ∷ []
  rule_more rule is = rules_with ∙ ap (λ purpose. rules_in books ++ rules_for purpose) is

  pub more_by_one : rules_for (purpose_of b) ≡ [] → KeepsBook b no_rows → IsMore books (books ++ b ∷ [])
  more_by_one no_rule keeps = record {
    rules = rules_with ∙ ap (λ rules. rules_in books ++ rules) no_rule ∙ append-nil (rules_in books);
    keeps = λ all. All-push (λ b. KeepsBook b no_rows) books b all keeps;
    purposes = λ is_wanted had. ap (list_any is_wanted) with_book ∙ list_any-append is_wanted (purposes_of books) (purpose_of b ∷ []) ∙ or_left _ _ had;
  }

  pub wanted_now : (is_wanted : Purpose → Bool) → is_wanted (purpose_of b) ≡ true → list_any is_wanted (purposes_of (books ++ b ∷ [])) ≡ true
  wanted_now is_wanted is =
      ap (list_any is_wanted) with_book
      ∙ list_any-append is_wanted (purposes_of books) (purpose_of b ∷ [])
      ∙ or_right _ _ (or_left _ _ is)

pub same_place : (table : ℕ) (columns : List ℕ) → (nat_eq table table && bytes_eq columns columns) ≡ true
same_place table columns = and_from (nat_eq table table) (bytes_eq columns columns) (eq-eqb table table refl) ((bytes_decides columns columns).1 refl)

pub no_more : (books : List Book) → IsMore books books
no_more books = record { rules = refl; keeps = λ all. all; purposes = λ is_wanted had. had }

pub still_more : (first second third : List Book) → IsMore first second → IsMore second third → IsMore first third
still_more first second third a b = record {
  rules = b.rules ∙ a.rules;
  keeps = λ all. b.keeps (a.keeps all);
  purposes = λ is_wanted had. b.purposes is_wanted (a.purposes is_wanted had);
}

pub served_still : (old new : List Book) → IsMore old new → (rule : KeyRule) → is_served (purposes_of old) rule ≡ true
    → is_served (purposes_of new) rule ≡ true
served_still old new more (Unique table columns) served = refl
served_still old new more (Refers table columns referenced_table referenced) served =
    let parts = and_parts _ _ served in
    and_from _ _ (more.purposes (lists_in table columns) parts.0) (more.purposes (counts_in referenced_table referenced) parts.1)
served_still old new more (Recorded table columns) served = more.purposes (records_in table columns) served

module _ {X : Type 0} (is_wanted : Purpose → Bool) (known_by : Book → X) where
  by_test : (b : Book) (bs : List Book) (known : X) (test : Bool)
      → (first_in is_wanted known_by bs ≡ Some known → list_any is_wanted (purposes_of bs) ≡ true)
      → (if test then Some (known_by b) else first_in is_wanted known_by bs) ≡ Some known
      → (test || list_any is_wanted (purposes_of bs)) ≡ true
  by_test b bs known true rest is = refl
  by_test b bs known false rest is = rest is

  some_by_test : (b : Book) (bs : List Book) (test : Bool) → (list_any is_wanted (purposes_of bs) ≡ true → is_some (first_in is_wanted known_by bs) ≡ true)
      → (test || list_any is_wanted (purposes_of bs)) ≡ true
      → is_some (if test then Some (known_by b) else first_in is_wanted known_by bs) ≡ true
  some_by_test b bs true rest any = refl
  some_by_test b bs false rest any = rest any

  pub some_in : (bs : List Book) → list_any is_wanted (purposes_of bs) ≡ true → is_some (first_in is_wanted known_by bs) ≡ true
  some_in [] any = absurd (false≢true any)
  some_in (b ∷ bs) any = some_by_test b bs (is_wanted (purpose_of b)) (some_in bs) any

  pub found_in : (bs : List Book) (known : X) → first_in is_wanted known_by bs ≡ Some known → list_any is_wanted (purposes_of bs) ≡ true
  found_in [] known is = cc
  found_in (b ∷ bs) known is = by_test b bs known (is_wanted (purpose_of b)) (found_in bs known) is

pub from_some : {A G : Type 0} (o : Option A) (P : Type 0) (Q : A → Type 0) → MatchOption o P Q → is_some o ≡ true → ((a : A) → Q a → G) → G
from_some (Some a) P Q holds some goes = goes a holds
from_some None P Q holds some goes = absurd (false≢true some)

module _ (purposes : List Purpose) where
  pub primary_served : (table : ℕ) (columns : List ℕ) → All (λ rule. is_served purposes rule ≡ true) (primary_rules table columns)
  primary_served table [] = All-nil (λ rule. is_served purposes rule ≡ true)
  primary_served table (c ∷ cs) =
      All-cons (λ rule. is_served purposes rule ≡ true) (Unique table (c ∷ cs)) [] refl (All-nil (λ rule. is_served purposes rule ≡ true))

-- a table with columns in its primary key
pub primary_of_some : (table : ℕ) (columns : List ℕ) → (length columns == 0) ≡ false → primary_rules table columns ≡ Unique table columns ∷ []
primary_of_some table [] e = cc
primary_of_some table (c ∷ cs) e = refl
