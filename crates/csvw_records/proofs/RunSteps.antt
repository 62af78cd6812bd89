-- One step of the pass, by what the step is.
use Rattle.std.proofs.Common.{◌≡◌, ◌≢◌, ℕ, Bool, false, ◌==◌, if◌then◌else◌, List, [], ◌∷◌, ◌++◌, nat_lt, Option, Some, None, refl, sym, ap, ◌∙◌, arith}
use Rattle.std.proofs.Common.{append_assoc, append-nil, length, ◌<◌, ◌≤◌}
use Rattle.csvw_records.specs.declared.dialect.Dialect.{Dialect}
use Rattle.csvw_records.specs.declared.stop.RowStop.{RowStop}
use Rattle.csvw_records.specs.declared.stop.RowStop.TheVariants.{BadQuote}
use Rattle.csvw_records.specs.declared.scan.State.{State}
use Rattle.csvw_records.specs.declared.scan.State.TheVariants.{Start, Plain, Inside}
use Rattle.csvw_records.specs.declared.scan.Step.{Step}
use Rattle.csvw_records.specs.declared.scan.Step.TheVariants.{Keep, Skip, Open, Next, End, Stop}
use Rattle.csvw_records.specs.Grammar.{terminator_len, IsPlain}
use Rattle.csvw_records.specs.Scan.{Outcome, Found, Broken, quote_is, step_of, run, pass, finish}
use Rattle.std.proofs.lemmas.Bool.Decides.{nat_tests}
use Rattle.csvw_records.specs.PassLaws.{ends_at, act_run}

-- what the pass does after a step
abbrev pub act : Bool → Dialect → List (List ℕ) → List ℕ → ℕ → List ℕ → Step → Outcome
act f d vs cur c cs (Keep next) = pass f d next vs (cur ++ c ∷ []) cs
act f d vs cur c cs (Skip next) = pass f d next vs cur cs
act f d vs cur c cs Open = pass f d Inside vs [] cs
act f d vs cur c cs Next = pass f d Start (vs ++ cur ∷ []) [] cs
act f d vs cur c cs End = Found (vs ++ cur ∷ []) (c ∷ cs)
act f d vs cur c cs (Stop stop) = Broken stop (c ∷ cs)

act_finish : (f : Bool) (d : Dialect) (vs : List (List ℕ)) (cur : List ℕ) (c : ℕ) (cs : List ℕ) (s : Step)
    → finish (act_run d vs cur c cs s) f ≡ act f d vs cur c cs s
act_finish f d vs cur c cs (Keep next) = refl
act_finish f d vs cur c cs (Skip next) = refl
act_finish f d vs cur c cs Open = refl
act_finish f d vs cur c cs Next = refl
act_finish f d vs cur c cs End = refl
act_finish f d vs cur c cs (Stop stop) = refl

pub run_by : (f : Bool) (d : Dialect) (st : State) (vs : List (List ℕ)) (cur : List ℕ) (c : ℕ) (cs : List ℕ) (s : Step)
    → step_of d st c (ends_at d (c ∷ cs)) ≡ s → pass f d st vs cur (c ∷ cs) ≡ act f d vs cur c cs s
run_by f d st vs cur c cs s e = ap (λ x. finish (act_run d vs cur c cs x) f) e ∙ act_finish f d vs cur c cs s

-- the tests
pub differs : (a b : ℕ) → a ≢ b → (a == b) ≡ false
differs a b n = grind (arith, nat_tests)

pub no_quote : (o : Option ℕ) (c : ℕ) → Some c ≢ o → quote_is o c ≡ false
no_quote None c n = refl
no_quote (Some q) c n = differs c q (λ e. n (ap Some e))

pub no_end : (d : Dialect) (text : List ℕ) → terminator_len d text ≡ 0 → ends_at d text ≡ false
no_end d text e = ap (λ n. nat_lt 0 n) e

plain_is : (ends b q : Bool) → ends ≡ false → b ≡ false → q ≡ false
    → (if ends then End else (if b then Next else (if q then Stop BadQuote else Keep Plain))) ≡ Keep Plain
plain_is ends b q e f g = grind arith

-- plain text is kept
pub run_plain : (f : Bool) (d : Dialect) (vs : List (List ℕ)) (cur source after : List ℕ) → IsPlain d source after
    → pass f d Plain vs cur (source ++ after) ≡ pass f d Plain vs (cur ++ source) after
run_plain f d vs cur [] after p = ap (λ l. pass f d Plain vs l after) (sym (append-nil cur))
run_plain f d vs cur (c ∷ cs) after p =
    run_by f d Plain vs cur c (cs ++ after) (Keep Plain)
    (plain_is _ _ _ (no_end d (c ∷ cs ++ after) p.2) (differs c d.delimiter p.0) (no_quote d.quote_char c p.1))
    ∙ run_plain f d vs (cur ++ c ∷ []) cs after p.3
    ∙ ap (λ l. pass f d Plain vs l after) (append_assoc cur (c ∷ []) cs)

-- a broken rule leaves some of the text
act_broken : (d : Dialect) (vs : List (List ℕ)) (cur : List ℕ) (c : ℕ) (cs : List ℕ) (s : Step) (stop : RowStop) (rest : List ℕ)
    → ((st : State) (vs : List (List ℕ)) (cur : List ℕ) → run d st vs cur cs ≡ Broken stop rest → (length rest ≤ length cs) × (0 < length rest))
    → act_run d vs cur c cs s ≡ Broken stop rest → (length rest ≤ length (c ∷ cs)) × (0 < length rest)
act_broken d vs cur c cs (Keep next) stop rest ih e = let r = ih next vs (cur ++ c ∷ []) e in
    ((let k = r.0 in let h : length rest ≤ length (c ∷ cs) = omega (arith, k) in h), r.1)
act_broken d vs cur c cs (Skip next) stop rest ih e = let r = ih next vs cur e in
    ((let k = r.0 in let h : length rest ≤ length (c ∷ cs) = omega (arith, k) in h), r.1)
act_broken d vs cur c cs Open stop rest ih e = let r = ih Inside vs [] e in
    ((let k = r.0 in let h : length rest ≤ length (c ∷ cs) = omega (arith, k) in h), r.1)
act_broken d vs cur c cs Next stop rest ih e = let r = ih Start (vs ++ cur ∷ []) [] e in
    ((let k = r.0 in let h : length rest ≤ length (c ∷ cs) = omega (arith, k) in h), r.1)
act_broken d vs cur c cs End stop rest ih e = absurd cc
act_broken d vs cur c cs (Stop s) stop rest ih e =
    let same : c ∷ cs ≡ rest = cc in
    let n = ap length same in
    ((let h : length rest ≤ length (c ∷ cs) = omega (arith, n) in h), (let h : 0 < length rest = omega (arith, n) in h))

pub broken_within : (d : Dialect) (st : State) (vs : List (List ℕ)) (cur text : List ℕ) (stop : RowStop) (rest : List ℕ)
    → run d st vs cur text ≡ Broken stop rest → (length rest ≤ length text) × (0 < length rest)
broken_within d st vs cur [] stop rest e = absurd cc
broken_within d st vs cur (c ∷ cs) stop rest e =
    act_broken d vs cur c cs (step_of d st c (ends_at d (c ∷ cs))) stop rest (λ st vs cur. broken_within d st vs cur cs stop rest) e
