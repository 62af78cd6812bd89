-- A text that begins or ends with another one is that text and the rest, so what the standard library strips is the rest.
use Rattle.std.proofs.Common.{refl, sym, ap, subst, ◌∙◌, ◌≡◌, ◌≢◌, ℕ, ◌+◌, ◌-◌, length, Bool, true, false, List, ◌++◌, Bor, Option, Some, None, MatchOption, drop, take, bytes_eq}
use Rattle.std.proofs.lemmas.Slice.Eq.{bytes_eq-Decides}
use Rattle.std.proofs.lemmas.List.{append_cancel_left, append_cancel_right, take-append-drop}
use Rattle.std.specs.Str.{IsCharBoundary}
use Rattle.csvw_datatype_core.specs.Fields.{option_view}
use Rattle.csvw_datatype_core.specs.DateParts.{after_start, before_ending}

pub begins : (start bs : List ℕ) → bytes_eq (take (length start) bs) start ≡ true → bs ≡ start ++ drop (length start) bs
begins start bs is_same =
    let same : take (length start) bs ≡ start = (bytes_eq-Decides (take (length start) bs) start).0 is_same in
    sym (take-append-drop (length start) bs) ∙ ap (λ (l : List ℕ). l ++ drop (length start) bs) same

pub ends : (ending bs : List ℕ) → bytes_eq (drop (length bs - length ending) bs) ending ≡ true → bs ≡ take (length bs - length ending) bs ++ ending
ends ending bs is_same =
    let same : drop (length bs - length ending) bs ≡ ending = (bytes_eq-Decides (drop (length bs - length ending) bs) ending).0 is_same in
    sym (take-append-drop (length bs - length ending) bs) ∙ ap (λ (l : List ℕ). take (length bs - length ending) bs ++ l) same

pub without_start : (start bs : List ℕ) (b : Bool) → ((rest : List ℕ) → bs ≢ start ++ rest) → bytes_eq (take (length start) bs) start ≡ b
    → None ≡ after_start start bs
without_start start bs true none e = absurd (none (drop (length start) bs) (begins start bs e))
without_start start bs false none e = rw e refl

pub without_ending : (ending bs : List ℕ) (b : Bool) → ((front : List ℕ) → bs ≢ front ++ ending)
    → bytes_eq (drop (length bs - length ending) bs) ending ≡ b → None ≡ before_ending ending bs
without_ending ending bs true none e = absurd (none (take (length bs - length ending) bs) (ends ending bs e))
without_ending ending bs false none e = rw e refl

pub stripped_start : (start bs : List ℕ) (o : Option (Bor (List ℕ)))
    → MatchOption o ((rest : List ℕ) → bs ≢ start ++ rest)
    (λ x. (n : ℕ) × ((n ≡ length start) × (bs ≡ start ++ drop n bs) × IsCharBoundary bs (length start)) × (x.now ≡ drop n bs)
    × (length x.now + n ≡ length bs))
    → option_view {A = Bor (List ℕ)} {B = List ℕ} (λ r. r.now) o ≡ after_start start bs
stripped_start start bs None none = without_start start bs (bytes_eq (take (length start) bs) start) none refl
stripped_start start bs (Some x) (n, found, is, count) =
    let here : bs ≡ start ++ drop (length start) bs = subst (λ k. bs ≡ start ++ drop k bs) found.0 found.1 in
    let same : take (length start) bs ≡ start =
    append_cancel_right (take (length start) bs) start (drop (length start) bs) (take-append-drop (length start) bs ∙ here) in
    let is_same = (bytes_eq-Decides (take (length start) bs) start).1 same in
    let rest : x.now ≡ drop (length start) bs = is ∙ ap (λ k. drop k bs) found.0 in
    rw is_same (ap (λ (l : List ℕ). Some l) rest)

pub stripped_ending : (ending bs : List ℕ) (o : Option (Bor (List ℕ)))
    → MatchOption o ((front : List ℕ) → bs ≢ front ++ ending)
    (λ x. (n : ℕ) × ((n ≡ length ending) × (bs ≡ take (length bs - n) bs ++ ending) × IsCharBoundary bs (length bs - length ending))
    × (x.now ≡ take (length bs - n) bs) × (length x.now + n ≡ length bs))
    → option_view {A = Bor (List ℕ)} {B = List ℕ} (λ r. r.now) o ≡ before_ending ending bs
stripped_ending ending bs None none = without_ending ending bs (bytes_eq (drop (length bs - length ending) bs) ending) none refl
stripped_ending ending bs (Some x) (n, found, is, count) =
    let here : bs ≡ take (length bs - length ending) bs ++ ending = subst (λ k. bs ≡ take (length bs - k) bs ++ ending) found.0 found.1 in
    let same : drop (length bs - length ending) bs ≡ ending =
    append_cancel_left (take (length bs - length ending) bs) (drop (length bs - length ending) bs) ending
    (take-append-drop (length bs - length ending) bs ∙ here) in
    let is_same = (bytes_eq-Decides (drop (length bs - length ending) bs) ending).1 same in
    let front : x.now ≡ take (length bs - length ending) bs = is ∙ ap (λ k. take (length bs - k) bs) found.0 in
    rw is_same (ap (λ (l : List ℕ). Some l) front)
