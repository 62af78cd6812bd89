-- The bytes before a piece with those of the piece, and the rows before it with those of the piece.
use Rattle.std.proofs.Common.{◌≡◌, ◌∙◌, ℕ, zero, suc, ◌+◌, ◌-◌, ◌≤◌, List, [], ◌∷◌, ◌++◌, Option, Some, None, refl, sym, ap, arith, drop, length, take, take-append-drop, append-nil, subst}
use Rattle.std.specs.Prelude.{slice_get}
use Rattle.std.specs.List.{zip}
use Rattle.std.specs.Io.KnownBytes.{Consumes, IsAtEnd}
use Rattle.std.proofs.lemmas.List.{append_cancel_left, take_at}
use Rattle.csvw_columns.specs.Ready.{AreReady, IsReady}
use Rattle.csvw_columns.specs.declared.plan.TablePlan.{TablePlan}

no_items : {X : Type 0} (n : ℕ) → take n (let none : List X = [] in none) ≡ []
no_items zero = refl
no_items (suc n) = refl

pub take_more : {X : Type 0} (n m : ℕ) (xs : List X) → take (n + m) xs ≡ take n xs ++ take m (drop n xs)
take_more zero m xs = ap (λ k. take k xs) (omega arith)
take_more (suc n) m [] = no_items (suc n + m) ∙ sym (no_items m)
take_more (suc n) m (x ∷ xs) =
    let next : suc n + m ≡ suc (n + m) = omega arith in
    ap (λ k. take k (x ∷ xs)) next ∙ ap (λ l. x ∷ l) (take_more n m xs)

-- the text up to the end of a piece, of which all bytes were read
pub text_to : (text own rest : List ℕ) (n m : ℕ) → drop n text ≡ own ++ rest → length own ≡ m → take n text ++ own ≡ take (n + m) text
text_to text own rest n m read many =
    ap (λ l. take n text ++ l) (sym (ap (take m) read ∙ take_at own rest m many)) ∙ sym (take_more n m text)

-- the text up to its end
pub text_all : (text own : List ℕ) (n : ℕ) → drop n text ≡ own → take n text ++ own ≡ text
text_all text own n read = ap (λ l. take n text ++ l) (sym read) ∙ take-append-drop n text

-- known bytes of which some were read begin with these, and there are no others if the end was reached
pub read_known : (known left : Option (List ℕ)) (text own : List ℕ) → known ≡ Some text → Consumes known left own → (rest : List ℕ) × (text ≡ own ++ rest)
read_known None left text own is gave = cc
read_known (Some xs) None text own is gave = absurd gave
read_known (Some xs) (Some ys) text own is gave = let same : xs ≡ text = cc in (ys, sym same ∙ gave)

pub read_all : (known left : Option (List ℕ)) (text own : List ℕ) → known ≡ Some text → Consumes known left own → IsAtEnd left → text ≡ own
read_all None left text own is gave ends = cc
read_all (Some xs) None text own is gave ends = absurd gave
read_all (Some xs) (Some ys) text own is gave ends =
    let same : xs ≡ text = cc in
    sym same ∙ gave ∙ ap (λ l. own ++ l) ends ∙ append-nil own

module _ {X : Type 0} (rows own : List X) (n : ℕ) where
  -- the rows after some rows, up to a count
  pub rows_to : (m : ℕ) → n ≤ m → take n rows ++ own ≡ take m rows → own ≡ take (m - n) (drop n rows)
  rows_to m le all =
      append_cancel_left (take n rows) own (take (m - n) (drop n rows))
      (all ∙ ap (λ k. take k rows) (omega (arith, le)) ∙ take_more n (m - n) rows)

  -- the rows after some rows, up to the end
  pub rows_all : take n rows ++ own ≡ rows → own ≡ drop n rows
  rows_all all = append_cancel_left (take n rows) own (drop n rows) (all ∙ sym (take-append-drop n rows))

pub zip_at : {X Y : Type 0} (xs : List X) (ys : List Y) (i : ℕ) (x : X) (y : Y) → slice_get xs i ≡ Some x → slice_get ys i ≡ Some y
    → slice_get (zip xs ys) i ≡ Some (x, y)
zip_at [] ys i x y at also = cc
zip_at (a ∷ more) [] i x y at also = cc
zip_at (a ∷ more) (b ∷ others) zero x y at also = let one : a ≡ x = cc in let other : b ≡ y = cc in cc
zip_at (a ∷ more) (b ∷ others) (suc i) x y at also = zip_at more others i x y at also

pub ready_at : (plans : List TablePlan) (i : ℕ) (plan : TablePlan) → AreReady plans → slice_get plans i ≡ Some plan → IsReady plan
ready_at [] i plan ready at = cc
ready_at (p ∷ ps) zero plan ready at = let same : p ≡ plan = cc in subst IsReady same ready.0
ready_at (p ∷ ps) (suc i) plan ready at = ready_at ps i plan ready.1 at
