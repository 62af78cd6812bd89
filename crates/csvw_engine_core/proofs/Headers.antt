-- How the state of a header changes with a row of the source.
use Rattle.std.proofs.Common.{◌≡◌, ◌≢◌, ◌<◌, ◌≤◌, ◌+◌, ℕ, zero, suc, List, [], ◌∷◌, ◌++◌, refl, sym, ap, ◌∙◌, subst, arith, map, length, Some, None}
use Rattle.std.proofs.Common.{Result, Ok, Err}
use Rattle.std.proofs.lemmas.List.{take_all, take-append-le, length-append, map-append, length-map}
use Rattle.csvw_fault.specs.declared.fault.Fault.{Fault}
use Rattle.csvw_records.specs.RowValue.{Given}
use Rattle.csvw_columns_core.specs.declared.columns.Columns.{Columns}
use Rattle.csvw_columns.specs.HeaderMatch.{IsMatch}
use Rattle.csvw_columns.specs.declared.plan.TablePlan.{TablePlan}
use Rattle.csvw_engine_core.specs.Annotated.{header_count, header_row, header_rows, first_width, first_source, source_of, needed, Heads, IsHead, GivesNone}
use Rattle.csvw_engine_core.specs.Heads.{HeadHolds, Settled, Settles, TakesHeader}
use Rattle.csvw_engine_core.specs.declared.stop.Stop.{Stop}
use Rattle.csvw_engine_core.specs.declared.stop.Stop.TheVariants as stop
use Rattle.csvw_engine_core.specs.declared.head.Head.{Head}

pub length_more : {X : Type 0} (xs : List X) (x : X) → length (xs ++ x ∷ []) ≡ length xs + 1
length_more xs x = length-append xs (x ∷ [])

pub below_needed : (n k : ℕ) → k < needed n → k ≤ n
below_needed zero k h = omega arith
below_needed (suc n) k h = omega arith

pub needed_above : (n : ℕ) → n ≤ needed n
needed_above zero = omega arith
needed_above (suc n) = omega arith

pub needed_positive : (n : ℕ) → 1 ≤ needed n
needed_positive zero = omega arith
needed_positive (suc n) = omega arith

pub needed_is : (n : ℕ) → 0 < n → needed n ≡ n
needed_is zero h = absurd (omega arith)
needed_is (suc n) h = refl

width_none : (n : ℕ) (given : List Given) → 0 < n → first_width n given ≡ None
width_none zero given h = absurd (omega arith)
width_none (suc n) given h = refl

width_on : (n : ℕ) (given : List Given) (raw : Given) → 1 ≤ length given → first_width n (given ++ raw ∷ []) ≡ first_width n given
width_on zero [] raw h = absurd (omega arith)
width_on zero (g ∷ given) raw h = refl
width_on (suc n) given raw h = refl

-- rows after the header leave it as it is
pub heads_on : (plan : TablePlan) (given : List Given) (raw : Given) (columns : Columns) (faults : List Fault) → needed (header_count plan) ≤ length given
    → Heads plan given columns faults → Heads plan (given ++ raw ∷ []) columns faults
heads_on plan given raw columns faults enough h =
    let n : ℕ = header_count plan in
    let above : n ≤ length given = let k = needed_above n in omega arith in
    let some : 1 ≤ length given = let k = needed_positive n in omega arith in
    subst (λ rows. IsMatch plan rows (first_width n (given ++ raw ∷ [])) columns faults) (sym (ap (map header_row) (take-append-le n given (raw ∷ []) above)))
    (subst (λ w. IsMatch plan (header_rows plan given) w columns faults) (sym (width_on n given raw some)) h)

pub head_on : (plan : TablePlan) (given : List Given) (raw : Given) (head : Head) (columns : Columns) → head.columns ≡ Some columns
    → HeadHolds plan head given → HeadHolds plan head (given ++ raw ∷ [])
head_on plan given raw head columns e h =
    let k : IsHead plan given (Some columns) head.faults = subst (λ z. IsHead plan given z head.faults) e h.known in
    let longer : needed (header_count plan) ≤ length (given ++ raw ∷ []) = let m = length_more given raw in let l = k.0 in omega arith in
    record {
      known = subst (λ z. IsHead plan (given ++ raw ∷ []) z head.faults) (sym e) (longer, heads_on plan given raw columns head.faults k.0 k.1);
      waits = λ none. let wrong : None ≡ Some columns = sym none ∙ e in cc;
    }

-- a header row more, and not the last
pub head_waits : (plan : TablePlan) (given : List Given) (raw : Given) (old new : Head) → HeadHolds plan old given → old.columns ≡ None → 0 < header_count plan
    → new.rows ≡ old.rows ++ header_row raw ∷ [] → new.columns ≡ None → new.faults ≡ old.faults → length new.rows ≢ header_count plan
    → HeadHolds plan new (given ++ raw ∷ [])
head_waits plan given raw old new h none some rows columns faults short =
    let k : IsHead plan given None old.faults = subst (λ z. IsHead plan given z old.faults) none h.known in
    let all : new.rows ≡ map header_row (given ++ raw ∷ []) = rows ∙ ap (λ z. z ++ header_row raw ∷ []) (h.waits none)
    ∙ sym (map-append header_row given (raw ∷ [])) in
    let many : length new.rows ≡ length given + 1 = ap length all ∙ length-map (given ++ raw ∷ []) header_row ∙ length_more given raw in
    let apart : length given + 1 ≢ header_count plan = λ e. short (many ∙ e) in
    let below : length given < header_count plan = subst (λ z. length given < z) (needed_is (header_count plan) some) k.0 in
    let less : length (given ++ raw ∷ []) < needed (header_count plan) =
    let m = length_more given raw in let q = needed_is (header_count plan) some in omega arith in
    record {
      known = subst (λ z. IsHead plan (given ++ raw ∷ []) z new.faults) (sym columns) (less, faults ∙ k.1);
      waits = λ e. all;
    }

-- the last header row
pub head_settles : (plan : TablePlan) (given : List Given) (raw : Given) (old mid new : Head) → HeadHolds plan old given → old.columns ≡ None
    → 0 < header_count plan
    → mid.rows ≡ old.rows ++ header_row raw ∷ [] → length mid.rows ≡ header_count plan → Settled plan None mid new → HeadHolds plan new (given ++ raw ∷ [])
head_settles plan given raw old mid new h none some rows whole s =
    let all : mid.rows ≡ map header_row (given ++ raw ∷ []) = rows ∙ ap (λ z. z ++ header_row raw ∷ []) (h.waits none)
    ∙ sym (map-append header_row given (raw ∷ [])) in
    let many : length (given ++ raw ∷ []) ≡ header_count plan = sym (length-map (given ++ raw ∷ []) header_row) ∙ sym (ap length all) ∙ whole in
    let front : header_rows plan (given ++ raw ∷ []) ≡ mid.rows =
    ap (map header_row) (take_all (header_count plan) (given ++ raw ∷ []) (let m = many in omega arith)) ∙ sym all in
    let enough : needed (header_count plan) ≤ length (given ++ raw ∷ []) = let q = needed_is (header_count plan) some in let m = many in omega arith in
    let gives : Heads plan (given ++ raw ∷ []) s.columns new.faults =
    subst (λ z. IsMatch plan z (first_width (header_count plan) (given ++ raw ∷ [])) s.columns new.faults) (sym front)
    (subst (λ w. IsMatch plan mid.rows w s.columns new.faults) (sym (width_none (header_count plan) (given ++ raw ∷ []) some)) s.gives) in
    record {
      known = subst (λ z. IsHead plan (given ++ raw ∷ []) z new.faults) (sym s.is) (enough, gives);
      waits = λ e. let wrong : None ≡ Some s.columns = sym e ∙ s.is in cc;
    }

first_of_rows : (given : List Given) (raw : Given) → source_of (map header_row (given ++ raw ∷ [])) 0 ≡ first_source (given ++ raw ∷ [])
first_of_rows [] raw = refl
first_of_rows (g ∷ given) raw = refl

-- the last header row, and what came of the header
pub takes_last : (plan : TablePlan) (raw : Given) (old mid new : Head) (r : Result Unit Stop) → mid.rows ≡ old.rows ++ header_row raw ∷ []
    → length mid.rows ≡ header_count plan
    → Settles plan None 0 mid new r → TakesHeader plan raw old new r
takes_last plan raw old mid new (Ok u) rows whole s = λ given h none some. head_settles plan given raw old mid new h none some rows whole s
takes_last plan raw old mid new (Err stop.Memory) rows whole s = tt
takes_last plan raw old mid new (Err (stop.Table table row reason)) rows whole (own, gives_none, source) = (
  own,
  λ given h none some.
      let all : mid.rows ≡ map header_row (given ++ raw ∷ []) = rows ∙ ap (λ z. z ++ header_row raw ∷ []) (h.waits none)
      ∙ sym (map-append header_row given (raw ∷ [])) in
      let many : length (given ++ raw ∷ []) ≡ header_count plan = sym (length-map (given ++ raw ∷ []) header_row) ∙ sym (ap length all) ∙ whole in
      let front : header_rows plan (given ++ raw ∷ []) ≡ mid.rows =
      ap (map header_row) (take_all (header_count plan) (given ++ raw ∷ []) (let m = many in omega arith)) ∙ sym all in (
        sym (length_more given raw) ∙ many,
        subst (λ z. GivesNone plan z (first_width (header_count plan) (given ++ raw ∷ [])) reason) (sym front)
            (subst (λ w. GivesNone plan mid.rows w reason) (sym (width_none (header_count plan) (given ++ raw ∷ []) some)) gives_none),
        source ∙ (ap (λ z. source_of z 0) all ∙ first_of_rows given raw),
      ),
)
takes_last plan raw old mid new (Err other) rows whole s = absurd s
