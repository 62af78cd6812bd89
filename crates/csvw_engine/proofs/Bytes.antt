-- A run makes no more reads than its tables have bytes and ends, by induction on the events.
use Rattle.std.proofs.Common.{◌≡◌, ◌≢◌, ◌<◌, ◌≤◌, ◌+◌, ℕ, zero, suc, Bool, true, false, List, [], ◌∷◌, ◌++◌, length, refl, sym, ap, ◌∙◌, subst, arith}
use Rattle.std.proofs.Common.{inl, inr, append_assoc, append-nil, length-append, Contains}
use Rattle.std.proofs.lemmas.List.{length_push}
use Rattle.std.proofs.lemmas.List.Elements.{Contains-append_right}
use Rattle.csvw_session.specs.Events.{Event, Feed, End, table_of, text_of, ended_in}
use Rattle.csvw_session.specs.SessionLaws.{TextsGrow}
use Rattle.csvw_engine.specs.ReadOrder.{AreReads, sum_to, total_len}
use Rattle.csvw_engine.proofs.Readers.{here_or_not}

sum_same : (f g : ℕ → ℕ) (n : ℕ) → ((t : ℕ) → t ≤ n → g t ≡ f t) → sum_to n g ≡ sum_to n f
sum_same f g zero same = refl
sum_same f g (suc n) same =
    let before : sum_to n g ≡ sum_to n f = sum_same f g n (λ t le. same t (omega (arith, le))) in
    let here : g (suc n) ≡ f (suc n) = same (suc n) (omega arith) in
    omega (arith, before, here)

-- one term grows
sum_more : (f g : ℕ → ℕ) (n t d : ℕ) → 1 ≤ t → t ≤ n → ((u : ℕ) → u ≢ t → g u ≡ f u) → g t ≡ f t + d → sum_to n g ≡ sum_to n f + d
sum_more f g zero t d some within others own = absurd (omega (arith, some, within))
sum_more f g (suc n) t d some within others own = elim (here_or_not t (suc n)) [
  | inl same ↦
      let before : sum_to n g ≡ sum_to n f = sum_same f g n (λ u le. others u (λ e. absurd (omega (arith, le, e, same)))) in
      let here : g (suc n) ≡ f (suc n) + d = subst (λ u. g u ≡ f u + d) same own in
      omega (arith, before, here)
  | inr other ↦
      let before : sum_to n g ≡ sum_to n f + d = sum_more f g n t d some (omega (arith, within, other)) others own in
      let here : g (suc n) ≡ f (suc n) = others (suc n) (λ e. other (sym e)) in
      omega (arith, before, here)
]

sum_most : (f : ℕ → ℕ) (n : ℕ) → ((t : ℕ) → f t ≤ 1) → sum_to n f ≤ n
sum_most f zero most = omega arith
sum_most f (suc n) most =
    let before : sum_to n f ≤ n = sum_most f n most in let here : f (suc n) ≤ 1 = most (suc n) in omega (arith, before, here)

-- how many tables were ended
abbrev as_one : Bool → ℕ
as_one true = 1
as_one false = 0

one_most : (b : Bool) → as_one b ≤ 1
one_most true = omega arith
one_most false = omega arith

abbrev ended_many : ℕ → List Event → ℕ
ended_many many events = sum_to many (λ t. as_one (ended_in events t))

-- one event more
grown : TextsGrow → (many : ℕ) (events : List Event) (event : Event) → 1 ≤ table_of event → table_of event ≤ many → ended_in events (table_of event) ≡ false
    → ((t : ℕ) (piece : List ℕ) → event ≡ Feed t piece → 0 < length piece) → length events ≤ total_len many events + ended_many many events
    → length (events ++ event ∷ []) ≤ total_len many (events ++ event ∷ []) + ended_many many (events ++ event ∷ [])
grown grow many events (Feed t piece) some within going sized few =
    let later : List Event = events ++ Feed t piece ∷ [] in
    let longer : length later ≡ length events + 1 = length_push events (Feed t piece) in
    let byte : 0 < length piece = sized t piece refl in
    let bytes : total_len many later ≡ total_len many events + length piece =
    sum_more (λ u. length (text_of events u)) (λ u. length (text_of later u)) many t (length piece) some within
    (λ u ne. ap length (grow.fed_other events t u piece ne))
    (ap length (grow.fed events t piece) ∙ length-append (text_of events t) piece) in
    let ends : ended_many many later ≡ ended_many many events =
    sum_same (λ u. as_one (ended_in events u)) (λ u. as_one (ended_in later u)) many (λ u le. ap as_one (grow.fed_ended events t u piece)) in
    omega (arith, few, longer, byte, bytes, ends)
grown grow many events (End t) some within going sized few =
    let later : List Event = events ++ End t ∷ [] in
    let longer : length later ≡ length events + 1 = length_push events (End t) in
    let bytes : total_len many later ≡ total_len many events =
    sum_same (λ u. length (text_of events u)) (λ u. length (text_of later u)) many (λ u le. ap length (grow.end_text events t u)) in
    let was : as_one (ended_in events t) ≡ 0 = ap as_one going in
    let is : as_one (ended_in later t) ≡ 1 = ap as_one (grow.end_same events t) in
    let ends : ended_many many later ≡ ended_many many events + 1 =
    sum_more (λ u. as_one (ended_in events u)) (λ u. as_one (ended_in later u)) many t 1 some within
    (λ u ne. ap as_one (grow.end_other events t u ne)) (omega (arith, was, is)) in
    omega (arith, few, longer, bytes, ends)

all_grown : TextsGrow → (many limit : ℕ) (front rest : List Event) → AreReads many limit (front ++ rest)
    → length front ≤ total_len many front + ended_many many front
    → length (front ++ rest) ≤ total_len many (front ++ rest) + ended_many many (front ++ rest)
all_grown grow many limit front [] reads few =
    subst (λ es. length es ≤ total_len many es + ended_many many es) (sym (append-nil front)) few
all_grown grow many limit front (event ∷ rest) reads few =
    let here : Contains (front ++ event ∷ rest) event = Contains-append_right front (event ∷ rest) event (0, omega arith, refl) in
    let known : (1 ≤ table_of event) × (table_of event ≤ many) = reads.in_order.known event here in
    let regroup : (front ++ event ∷ []) ++ rest ≡ front ++ event ∷ rest = append_assoc front (event ∷ []) rest in
    subst (λ es. length es ≤ total_len many es + ended_many many es) regroup
    (all_grown grow many limit (front ++ event ∷ []) rest (subst (AreReads many limit) (sym regroup) reads)
    (grown grow many front event known.0 known.1 (reads.in_order.before_end front rest event refl)
    (λ t piece same. (reads.pieces t piece (subst (λ z. Contains (front ++ event ∷ rest) z) same here)).0) few))

pub reads_bytes : TextsGrow → (many limit : ℕ) (events : List Event) → AreReads many limit events → length events ≤ total_len many events + many
reads_bytes grow many limit events reads =
    let all : length events ≤ total_len many events + ended_many many events = all_grown grow many limit [] events reads (omega arith) in
    let ends : ended_many many events ≤ many = sum_most (λ t. as_one (ended_in events t)) many (λ t. one_most (ended_in events t)) in
    omega (arith, all, ends)
