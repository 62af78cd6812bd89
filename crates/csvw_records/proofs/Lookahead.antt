-- A row doesn't depend on the text after its terminator.
use Rattle.std.proofs.Common.{◌≡◌, ℕ, ◌+◌, ◌<◌, ◌≤◌, Bool, true, false, ◌&&◌, if◌then◌else◌, List, [], ◌∷◌, ◌++◌, length, drop, Some, None, refl, sym}
use Rattle.std.proofs.Common.{ap, ◌∙◌, subst, arith, append_assoc, length-append, inl, inr, nat_eq, MatchBool}
use Rattle.std.proofs.lemmas.Bool.Decides.{nat_tests}
use Rattle.std.proofs.Math.Seq.{drop-append_seam}
use Rattle.csvw_records.specs.declared.dialect.Dialect.{Dialect}
use Rattle.csvw_records.specs.Grammar.{terminator_len, IsPlain, IsField, AreFields, RowText}
use Rattle.csvw_records.specs.Files.{Row, IsRow, AreRows, HasNoTerminator, is_ignored}
use Rattle.csvw_records.proofs.Complete.{nothing_ends}
use Rattle.csvw_records.specs.RowLaws.{Again}

plain_again : (d : Dialect) (source : List ℕ) (x : ℕ) (r q : List ℕ) → IsPlain d source (x ∷ r) → IsPlain d source (x ∷ q)
plain_again d [] x r q p = tt
plain_again d (c ∷ []) x r q p = p
plain_again d (c ∷ e ∷ cs) x r q p = (p.0, p.1, p.2, plain_again d (e ∷ cs) x r q p.3)

line_again : (d : Dialect) (text : List ℕ) (x : ℕ) (r q : List ℕ) → HasNoTerminator d text (x ∷ r) → HasNoTerminator d text (x ∷ q)
line_again d [] x r q p = tt
line_again d (c ∷ []) x r q p = p
line_again d (c ∷ e ∷ cs) x r q p = (p.0, line_again d (e ∷ cs) x r q p.1)

field_again : (d : Dialect) (source value : List ℕ) (x : ℕ) (r q : List ℕ) → IsField d source value (x ∷ r) → IsField d source value (x ∷ q)
field_again d source value x r q (inl (p, e)) = inl (plain_again d source x r q p, e)
field_again d source value x r q (inr u) = inr u

fields_again : (d : Dialect) (row : List ℕ) (values : List (List ℕ)) (x : ℕ) (r q : List ℕ) → AreFields d row values (x ∷ r) → AreFields d row values (x ∷ q)
fields_again d row [] x r q a = a
fields_again d row (v ∷ []) x r q a = field_again d row v x r q a
fields_again d row (v ∷ u ∷ us) x r q (source, more, e, f, a) =
    (source, more, e, field_again d source v d.delimiter (more ++ x ∷ r) (more ++ x ∷ q) f, fields_again d more (u ∷ us) x r q a)

pub row_again : (d : Dialect) (i : ℕ) (row : Row) (x : ℕ) (r q : List ℕ) → IsRow d i row (x ∷ r) → IsRow d i row (x ∷ q)
row_again d i row x r q h = by_kind (is_ignored d i row.text) h
  where
    by_kind : (b : Bool) → MatchBool b ((row.fields ≡ None) × HasNoTerminator d row.text (x ∷ r))
        ((fields : List (List ℕ)) × (row.fields ≡ Some fields) × RowText d row.text fields (x ∷ r))
        → MatchBool b ((row.fields ≡ None) × HasNoTerminator d row.text (x ∷ q))
        ((fields : List (List ℕ)) × (row.fields ≡ Some fields) × RowText d row.text fields (x ∷ q))
    by_kind true (none, line) = (none, line_again d row.text x r q line)
    by_kind false (fields, some, (values, are, all)) = (fields, some, (values, fields_again d row.text values x r q are, all))

-- the terminator at the front of a text, and what comes behind it
pub record Term (d : Dialect) (after : List ℕ) : Type 0 where
  pub first : ℕ
  pub others : List ℕ
  pub rest : List ℕ
  pub spelled : after ≡ first ∷ others ++ rest
  pub again : (more : List ℕ) → terminator_len d (first ∷ others ++ more) ≡ length (first ∷ others)

pub one_end : (crlf lf a b x y : Bool) → 0 < (if crlf && (a && x) then 2 else (if lf && (b && true) then 1 else 0)) → (crlf && (a && x)) ≡ false
    → (lf ≡ true) × (b ≡ true)
one_end crlf lf a b x y h e = (grind (arith, nat_tests), grind (arith, nat_tests))

pub is_char : (a c : ℕ) → nat_eq a c ≡ true → c ≡ a
is_char a c e = grind (arith, nat_tests)

pub lf_again : (d : Dialect) (more : List ℕ) → d.line_terminators.lf ≡ true → terminator_len d (10 ∷ more) ≡ 1
lf_again d more e = tests d.line_terminators.crlf d.line_terminators.lf e
  where
    tests : (crlf lf : Bool) → lf ≡ true → ◌≡◌ {A = ℕ} (if crlf && false then 2 else (if lf && true then 1 else 0)) 1
    tests true lf e = rw e refl
    tests false lf e = rw e refl

pub crlf_again : (d : Dialect) (more : List ℕ) → d.line_terminators.crlf ≡ true → terminator_len d (13 ∷ 10 ∷ more) ≡ 2
crlf_again d more e = rw e refl

lf_term : (d : Dialect) (c : ℕ) (cs : List ℕ) → (d.line_terminators.lf ≡ true) × (nat_eq 10 c ≡ true) → Term d (c ∷ cs)
lf_term d c cs (l, e) = record { first = 10; others = []; rest = cs; spelled = ap (λ x. x ∷ cs) (is_char 10 c e); again = λ more. lf_again d more l }

pub and_three : (a b c : Bool) → (a && (b && (c && true))) ≡ true → (a ≡ true) × (b ≡ true) × (c ≡ true)
and_three true true true h = (refl, refl, refl)
and_three true true false h = absurd cc
and_three true false c h = absurd cc
and_three false b c h = absurd cc

pub term_view : (d : Dialect) (after : List ℕ) → 0 < terminator_len d after → Term d after
term_view d [] h = absurd (nothing_ends d h)
term_view d (c ∷ []) h = lf_term d c []
    (one_end d.line_terminators.crlf d.line_terminators.lf (nat_eq 13 c) (nat_eq 10 c) false false h (none d.line_terminators.crlf (nat_eq 13 c)))
  where
    none : (a b : Bool) → (a && (b && false)) ≡ false
    none a b = grind arith
term_view d (c ∷ e ∷ cs) h = by_crlf (d.line_terminators.crlf && (nat_eq 13 c && (nat_eq 10 e && true))) refl
  where
    by_crlf : (b : Bool) → (d.line_terminators.crlf && (nat_eq 13 c && (nat_eq 10 e && true))) ≡ b → Term d (c ∷ e ∷ cs)
    by_crlf true k =
        let p = and_three d.line_terminators.crlf (nat_eq 13 c) (nat_eq 10 e) k in
        record {
          first = 13;
          others = 10 ∷ [];
          rest = cs;
          spelled = ap (λ x. x ∷ e ∷ cs) (is_char 13 c p.1)
              ∙ ap (λ x. 13 ∷ x ∷ cs) (is_char 10 e p.2);
          again = λ more. crlf_again d more p.0;
        }
    by_crlf false k = lf_term d c (e ∷ cs) (one_end d.line_terminators.crlf d.line_terminators.lf (nat_eq 13 c) (nat_eq 10 c) (nat_eq 10 e && true) false h k)

pub term_is : (d : Dialect) (after : List ℕ) (t : Term d after) → terminator_len d after ≡ length (t.first ∷ t.others)
term_is d after t = ap (terminator_len d) t.spelled ∙ t.again t.rest

-- what comes behind the terminator
pub behind_front : (front more : List ℕ) (n : ℕ) → n ≡ length front → drop n (front ++ more) ≡ more
behind_front front more n e = ap (λ k. drop k (front ++ more)) e ∙ drop-append_seam front more

pub behind_term : (d : Dialect) (after : List ℕ) (t : Term d after) → drop (terminator_len d after) after ≡ t.rest
behind_term d after t = ap (drop (terminator_len d after)) t.spelled ∙ behind_front (t.first ∷ t.others) t.rest (terminator_len d after) (term_is d after t)

pub term_within : (d : Dialect) (after : List ℕ) → 0 < terminator_len d after → terminator_len d after ≤ length after
term_within d after h = let t = term_view d after h in omega (arith, term_is d after t, ap length t.spelled, length-append (t.first ∷ t.others) t.rest)

-- a row before other text behind its terminator
pub row_before : (d : Dialect) (i : ℕ) (row : Row) (after more : List ℕ) (t : Term d after) → IsRow d i row after → IsRow d i row (t.first ∷ t.others ++ more)
row_before d i row after more t r = row_again d i row t.first (t.others ++ t.rest) (t.others ++ more) (subst (IsRow d i row) t.spelled r)

pub term_more : (d : Dialect) (after more : List ℕ) (t : Term d after) → t.first ∷ t.others ++ (t.rest ++ more) ≡ after ++ more
term_more d after more t = sym (append_assoc (t.first ∷ t.others) t.rest more) ∙ ap (λ l. l ++ more) (sym t.spelled)

pub row_stays : (d : Dialect) (i : ℕ) (row : Row) (after more : List ℕ) → IsRow d i row after → 0 < terminator_len d after → IsRow d i row (after ++ more)
row_stays d i row after more r h = let t = term_view d after h in
    subst (IsRow d i row) (term_more d after more t) (row_before d i row after (t.rest ++ more) t r)

pub term_stays : (d : Dialect) (after more : List ℕ) → 0 < terminator_len d after → terminator_len d (after ++ more) ≡ terminator_len d after
term_stays d after more h =
    let t = term_view d after h in
    ap (terminator_len d) (sym (term_more d after more t)) ∙ t.again (t.rest ++ more) ∙ sym (term_is d after t)

is_some : (n x : ℕ) (l : List ℕ) → n ≡ length (x ∷ l) → 0 < n
is_some n x l e = omega arith

pub rows_again : (d : Dialect) (i : ℕ) (text : List ℕ) (rows : List Row) (rest : List ℕ) → AreRows d i text rows rest → Again d i text rows rest
rows_again d i text [] rest e = record { front = []; spelled = e; again = λ more. refl }
rows_again d i text (row ∷ rows) rest (after, e, r, h, are) =
    more_rows (term_view d after h) (rows_again d (i + 1) (drop (terminator_len d after) after) rows rest are)
  where
    more_rows : Term d after → Again d (i + 1) (drop (terminator_len d after) after) rows rest → Again d i text (row ∷ rows) rest
    more_rows t a = record {
      front = row.text ++ (t.first ∷ t.others ++ a.front);
      spelled = e ∙ ap (λ l. row.text ++ l) (t.spelled ∙ ap (λ l. t.first ∷ t.others ++ l) (sym (behind_term d after t) ∙ a.spelled)
          ∙ sym (append_assoc (t.first ∷ t.others) a.front rest))
          ∙ sym (append_assoc row.text (t.first ∷ t.others ++ a.front) rest);
      again = λ more. (
        t.first ∷ t.others ++ (a.front ++ more),
        append_assoc row.text (t.first ∷ t.others ++ a.front) more ∙ ap (λ l. row.text ++ l) (append_assoc (t.first ∷ t.others) a.front more),
        row_before d i row after (a.front ++ more) t r,
        is_some (terminator_len d (t.first ∷ t.others ++ (a.front ++ more))) t.first t.others (t.again (a.front ++ more)),
        subst (λ (l : List ℕ). AreRows d (i + 1) l rows more) (sym (behind_front (t.first ∷ t.others) (a.front ++ more)
            (terminator_len d (t.first ∷ t.others ++ (a.front ++ more))) (t.again (a.front ++ more)))) (a.again more),
      );
    }
