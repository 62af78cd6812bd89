-- A text with more text after it: the pass over its front, and the pass over the whole.
use Rattle.std.proofs.Common.{◌≡◌, ◌≢◌, ℕ, Bool, true, false, ◌&&◌, ◌==◌, if◌then◌else◌, List, [], ◌∷◌, ◌++◌, Some, None, refl, ap, ◌∙◌, arith, ◌⊎◌}
use Rattle.std.proofs.Common.{inl, inr, nat_lt, nat_eq}
use Rattle.std.proofs.lemmas.Bool.Decides.{nat_tests}
use Rattle.csvw_records.specs.declared.dialect.Dialect.{Dialect}
use Rattle.csvw_records.specs.declared.scan.State.{State}
use Rattle.csvw_records.specs.declared.scan.State.TheVariants.{Start, Inside}
use Rattle.csvw_records.specs.declared.scan.Step.{Step}
use Rattle.csvw_records.specs.declared.scan.Step.TheVariants.{Keep, Skip, Open, Next, End, Stop}
use Rattle.csvw_records.specs.Grammar.{terminator_len}
use Rattle.csvw_records.specs.Scan.{step_of, run}
use Rattle.csvw_records.specs.NextRow.{settled, unsettled, line_of}
use Rattle.csvw_records.specs.PassLaws.{ends_at, act_run, Clear, goes_on}

join_step : (d : Dialect) (vs : List (List ℕ)) (cur : List ℕ) (c : ℕ) (cs q : List ℕ) (s : Step)
    → ((st : State) (vs : List (List ℕ)) (cur : List ℕ) → run d st vs cur (cs ++ q) ≡ goes_on d (run d st vs cur cs) q)
    → act_run d vs cur c (cs ++ q) s ≡ goes_on d (act_run d vs cur c cs s) q
join_step d vs cur c cs q (Keep next) ih = ih next vs (cur ++ c ∷ [])
join_step d vs cur c cs q (Skip next) ih = ih next vs cur
join_step d vs cur c cs q Open ih = ih Inside vs []
join_step d vs cur c cs q Next ih = ih Start (vs ++ cur ∷ []) []
join_step d vs cur c cs q End ih = refl
join_step d vs cur c cs q (Stop s) ih = refl

pub run_join : (d : Dialect) (st : State) (vs : List (List ℕ)) (cur p q : List ℕ) → Clear d p q → run d st vs cur (p ++ q) ≡ goes_on d (run d st vs cur p) q
run_join d st vs cur [] q h = refl
run_join d st vs cur (c ∷ cs) q h =
    ap (λ n. act_run d vs cur c (cs ++ q) (step_of d st c (nat_lt 0 n))) h.0
    ∙ join_step d vs cur c cs q (step_of d st c (ends_at d (c ∷ cs))) (λ st vs cur. run_join d st vs cur cs q h.1)

line_step : (d : Dialect) (f : Bool) (c : ℕ) (cs q : List ℕ) (b : Bool) → (if b then Some (c ∷ cs) else line_of false d cs) ≡ None
    → (line_of false d cs ≡ None → line_of f d (cs ++ q) ≡ line_of f d q) → (if b then Some (c ∷ cs ++ q) else line_of f d (cs ++ q)) ≡ line_of f d q
line_step d f c cs q true e ih = absurd cc
line_step d f c cs q false e ih = ih e

pub line_join : (d : Dialect) (f : Bool) (p q : List ℕ) → Clear d p q → line_of false d p ≡ None → line_of f d (p ++ q) ≡ line_of f d q
line_join d f [] q h e = refl
line_join d f (c ∷ cs) q h e =
    ap (λ n. if nat_lt 0 n then Some (c ∷ cs ++ q) else line_of f d (cs ++ q)) h.0 ∙ line_step d f c cs q (ends_at d (c ∷ cs)) e (line_join d f cs q h.1)

line_found : (d : Dialect) (f : Bool) (c : ℕ) (cs q after : List ℕ) (b : Bool) → (if b then Some (c ∷ cs) else line_of false d cs) ≡ Some after
    → (line_of false d cs ≡ Some after → line_of f d (cs ++ q) ≡ Some (after ++ q))
    → (if b then Some (c ∷ cs ++ q) else line_of f d (cs ++ q)) ≡ Some (after ++ q)
line_found d f c cs q after true e ih = let same : c ∷ cs ≡ after = cc in ap (λ (l : List ℕ). Some (l ++ q)) same
line_found d f c cs q after false e ih = ih e

pub line_joins : (d : Dialect) (f : Bool) (p q after : List ℕ) → Clear d p q → line_of false d p ≡ Some after → line_of f d (p ++ q) ≡ Some (after ++ q)
line_joins d f [] q after h e = absurd cc
line_joins d f (c ∷ cs) q after h e =
    ap (λ n. if nat_lt 0 n then Some (c ∷ cs ++ q) else line_of f d (cs ++ q)) h.0
    ∙ line_found d f c cs q after (ends_at d (c ∷ cs)) e (line_joins d f cs q after h.1)

-- a text is what is settled of it and the rest
one_cut : (b : Bool) (c : ℕ) → (if b then [] else c ∷ []) ++ (if b then c ∷ [] else []) ≡ c ∷ []
one_cut true c = refl
one_cut false c = refl

pub settled_all : (d : Dialect) (text : List ℕ) → settled d text ++ unsettled d text ≡ text
settled_all d [] = refl
settled_all d (c ∷ []) = one_cut (d.line_terminators.crlf && (c == 13)) c
settled_all d (c ∷ e ∷ cs) = ap (λ l. c ∷ l) (settled_all d (e ∷ cs))

last_tests : (crlf lf a b x y z w : Bool) → (crlf && a) ≡ false → ◌≡◌ {A = ℕ} (if crlf && (b && x) then 2 else (if lf && (z && true) then 1 else 0))
    (if crlf && (b && y) then 2 else (if lf && (z && true) then 1 else 0)) ⊎ (a ≢ b)
last_tests true lf true b x y z w h = absurd cc
last_tests true lf false true x y z w h = inr (λ e. absurd cc)
last_tests true lf false false x y z w h = inl refl
last_tests false lf a b x y z w h = inl refl

same_order : (a b : ℕ) → nat_eq a b ≡ nat_eq b a
same_order a b = grind (arith, nat_tests)

one_clear : (d : Dialect) (c : ℕ) (more : List ℕ) → (d.line_terminators.crlf && (c == 13)) ≡ false → terminator_len d (c ∷ more) ≡ terminator_len d (c ∷ [])
one_clear d c more e =
    elim (last_tests d.line_terminators.crlf d.line_terminators.lf (c == 13) (nat_eq 13 c) _ _ _ true e) [ inl h ↦ h | inr n ↦ absurd (n (same_order c 13)) ]

cr_next : (d : Dialect) (c : ℕ) (more : List ℕ) → terminator_len d (c ∷ 13 ∷ more) ≡ terminator_len d (c ∷ [])
cr_next d c more = refl

settled_one : (d : Dialect) (c e : ℕ) (more : List ℕ) (b : Bool) → (d.line_terminators.crlf && (e == 13)) ≡ b
    → terminator_len d (c ∷ (if b then [] else e ∷ []) ++ ((if b then e ∷ [] else []) ++ more)) ≡ terminator_len d (c ∷ (if b then [] else e ∷ []))
settled_one d c e more false h = refl
settled_one d c e more true h = let k : e ≡ 13 = grind (arith, nat_tests) in ap (λ x. terminator_len d (c ∷ x ∷ more)) k ∙ cr_next d c more

last_clear : (d : Dialect) (c : ℕ) (more : List ℕ) (b : Bool) → (d.line_terminators.crlf && (c == 13)) ≡ b
    → Clear d (if b then [] else c ∷ []) ((if b then c ∷ [] else []) ++ more)
last_clear d c more true e = tt
last_clear d c more false e = (one_clear d c more e, tt)

pub settled_clear : (d : Dialect) (text more : List ℕ) → Clear d (settled d text) (unsettled d text ++ more)
settled_clear d [] more = tt
settled_clear d (c ∷ []) more = last_clear d c more (d.line_terminators.crlf && (c == 13)) refl
settled_clear d (c ∷ e ∷ []) more = (settled_one d c e more (d.line_terminators.crlf && (e == 13)) refl, settled_clear d (e ∷ []) more)
settled_clear d (c ∷ e ∷ x ∷ xs) more = (refl, settled_clear d (e ∷ x ∷ xs) more)
