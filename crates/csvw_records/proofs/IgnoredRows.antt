-- The row itself shows whether it is a comment.
use Rattle.std.proofs.Common.{◌≡◌, ℕ, ◌<◌, Bool, true, false, ◌&&◌, ◌||◌, ◌==◌, if◌then◌else◌, List, [], ◌∷◌, ◌++◌, Option, Some, None, refl, sym, ap}
use Rattle.std.proofs.Common.{◌∙◌, arith, inl, inr, nat_lt, nat_eq}
use Rattle.std.specs.List.{starts_with}
use Rattle.std.proofs.lemmas.Bool.Decides.{nat_tests}
use Rattle.csvw_records.specs.declared.dialect.Dialect.{Dialect}
use Rattle.csvw_records.specs.Grammar.{terminator_len}
use Rattle.csvw_records.specs.Files.{EndsRow, begins_with, is_ignored}
use Rattle.csvw_records.specs.Lawful.{prefix_of}
use Rattle.csvw_records.specs.Lawful.{IsLawful, has_break, prefix_breaks}
use Rattle.csvw_records.specs.NextRow.{begins_prefix, may_be_comment}
use Rattle.csvw_records.specs.TerminatorLaws.{is_break, BeginsBreak}

heads : (crlf lf a x y b z w : Bool) → a ≡ z → b ≡ w → 0 < (if crlf && (a && x) then 2 else (if lf && (b && y) then 1 else 0)) → (z || w) ≡ true
heads crlf lf a x y b z w e f h = grind (arith, nat_tests)

same_order : (a b : ℕ) → nat_eq a b ≡ (b == a)
same_order a b = grind (arith, nat_tests)

pub terminator_breaks : (d : Dialect) (after : List ℕ) → 0 < terminator_len d after → BeginsBreak after
terminator_breaks d [] h = tt
terminator_breaks d (c ∷ cs) h =
    heads d.line_terminators.crlf d.line_terminators.lf (nat_eq 13 c) _ _ (nat_eq 10 c) (c == 13) (c == 10) (same_order 13 c) (same_order 10 c) h

pub ends_break : (f : Bool) (d : Dialect) (after : List ℕ) → EndsRow f d after → BeginsBreak after
ends_break f d after (inl h) = terminator_breaks d after h
ends_break f d [] (inr (t, e)) = tt
ends_break f d (c ∷ cs) (inr (t, e)) = absurd cc

apart : (p c : ℕ) (ps : Bool) → (is_break p || ps) ≡ false → is_break c ≡ true → nat_eq p c ≡ false
apart p c ps e h = grind (arith, nat_tests)

rest_breaks : (a b : Bool) → (a || b) ≡ false → b ≡ false
rest_breaks true b h = absurd cc
rest_breaks false b h = h

pub starts_same : (prefix row after : List ℕ) → has_break prefix ≡ false → BeginsBreak after
    → starts_with nat_eq (row ++ after) prefix ≡ starts_with nat_eq row prefix
starts_same [] row after h b = refl
starts_same (p ∷ ps) [] [] h b = refl
starts_same (p ∷ ps) [] (c ∷ cs) h b = ap (λ x. x && starts_with nat_eq cs ps) (apart p c (has_break ps) h b)
starts_same (p ∷ ps) (r ∷ rs) after h b = ap (λ x. nat_eq p r && x) (starts_same ps rs after (rest_breaks (is_break p) (has_break ps) h) b)

begins_same : (o : Option (List ℕ)) (row after : List ℕ) → prefix_breaks o ≡ false → BeginsBreak after → begins_with (row ++ after) o ≡ begins_with row o
begins_same None row after h b = refl
begins_same (Some prefix) row after h b = starts_same prefix row after h b

pub ignored_same : (d : Dialect) (i : ℕ) (row after : List ℕ) → IsLawful d → BeginsBreak after → is_ignored d i (row ++ after) ≡ is_ignored d i row
ignored_same d i row after w b = ap (λ x. nat_lt i d.skip_rows || x) (begins_same (prefix_of d) row after w.prefix b)

-- a comment stays one
pub starts_stays : (prefix text more : List ℕ) → starts_with nat_eq text prefix ≡ true → starts_with nat_eq (text ++ more) prefix ≡ true
starts_stays [] text more h = refl
starts_stays (p ∷ ps) [] more h = absurd cc
starts_stays (p ∷ ps) (c ∷ cs) more h = both (nat_eq p c) _ _ h (starts_stays ps cs more)
  where
    both : (a b x : Bool) → (a && b) ≡ true → (b ≡ true → x ≡ true) → (a && x) ≡ true
    both true b x h f = f h
    both false b x h f = absurd cc

or_stays : (a b x : Bool) → (a || b) ≡ true → (b ≡ true → x ≡ true) → (a || x) ≡ true
or_stays true b x h f = refl
or_stays false b x h f = f h

begins_stays : (o : Option (List ℕ)) (text more : List ℕ) → begins_with text o ≡ true → begins_with (text ++ more) o ≡ true
begins_stays None text more h = absurd cc
begins_stays (Some prefix) text more h = starts_stays prefix text more h

pub ignored_stays : (d : Dialect) (i : ℕ) (text more : List ℕ) → is_ignored d i text ≡ true → is_ignored d i (text ++ more) ≡ true
ignored_stays d i text more h = or_stays (nat_lt i d.skip_rows) (begins_with text (prefix_of d)) (begins_with (text ++ more) (prefix_of d)) h
    (begins_stays (prefix_of d) text more)

-- where the text is no comment and can't become one, nothing behind it makes it one
starts_never : (prefix text more : List ℕ) → starts_with nat_eq text prefix ≡ false → starts_with nat_eq prefix text ≡ false
    → starts_with nat_eq (text ++ more) prefix ≡ false
starts_never [] text more h k = absurd cc
starts_never (p ∷ ps) [] more h k = absurd cc
starts_never (p ∷ ps) (c ∷ cs) more h k = neither (nat_eq p c) (nat_eq c p) _ _ _ (λ e. sym (order p c) ∙ e) h k (starts_never ps cs more)
  where
    order : (a b : ℕ) → nat_eq a b ≡ nat_eq b a
    order a b = grind (arith, nat_tests)

    neither : (a b x y z : Bool) → (a ≡ true → b ≡ true) → (a && x) ≡ false → (b && y) ≡ false → (x ≡ false → y ≡ false → z ≡ false) → (a && z) ≡ false
    neither false b x y z f h k g = refl
    neither true true x y z f h k g = g h k
    neither true false x y z f h k g = let e : false ≡ true = f refl in absurd cc

or_parts : (a b : Bool) → (a || b) ≡ false → (a ≡ false) × (b ≡ false)
or_parts true b h = absurd cc
or_parts false b h = (refl, h)

or_none : (a b : Bool) → a ≡ false → b ≡ false → (a || b) ≡ false
or_none a b e f = rw e f

begins_never : (o : Option (List ℕ)) (text more : List ℕ) → begins_with text o ≡ false → begins_prefix text o ≡ false → begins_with (text ++ more) o ≡ false
begins_never None text more h k = refl
begins_never (Some prefix) text more h k = starts_never prefix text more h k

pub never_ignored : (d : Dialect) (i : ℕ) (text more : List ℕ) → is_ignored d i text ≡ false → may_be_comment d text ≡ false
    → is_ignored d i (text ++ more) ≡ false
never_ignored d i text more h k =
    let p = or_parts (nat_lt i d.skip_rows) (begins_with text (prefix_of d)) h in
    or_none (nat_lt i d.skip_rows) (begins_with (text ++ more) (prefix_of d)) p.0 (begins_never (prefix_of d) text more p.1 k)
