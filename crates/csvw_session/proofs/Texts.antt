-- The texts of events, one event more.
use Rattle.std.proofs.Common.{◌≡◌, ◌≢◌, ℕ, Bool, true, false, List, [], ◌∷◌, ◌++◌, refl, sym, ap, ◌∙◌, append_assoc, append-nil, inl, inr}
use Rattle.std.specs.Prelude.{◌==◌, ◌||◌, if◌then◌else◌}
use Rattle.std.proofs.lemmas.Bool.Decides.{eqb_tells}
use Rattle.csvw_session.specs.Events.{Event, Feed, End, text_of, ended_in}

same_test : (t : ℕ) → (t == t) ≡ true
same_test t = elim (eqb_tells t t) [ inl p ↦ p.0 | inr q ↦ absurd (q.1 refl) ]

other_test : (u t : ℕ) → u ≢ t → (u == t) ≡ false
other_test u t ne = elim (eqb_tells u t) [ inl p ↦ absurd (ne p.1) | inr q ↦ q.0 ]

or_false : (b : Bool) → (b || false) ≡ b
or_false true = refl
or_false false = refl

fed_by : (b : Bool) (p new old piece : List ℕ) → new ≡ old ++ piece → (if b then p ++ new else new) ≡ (if b then p ++ old else old) ++ piece
fed_by true p new old piece e = ap (λ z. p ++ z) e ∙ sym (append_assoc p old piece)
fed_by false p new old piece e = e

-- a piece of table t
pub fed_same : (events : List Event) (t : ℕ) (piece : List ℕ) → text_of (events ++ Feed t piece ∷ []) t ≡ text_of events t ++ piece
fed_same [] t piece = rw (same_test t) (append-nil piece)
fed_same (Feed u p ∷ events) t piece = fed_by (t == u) p (text_of (events ++ Feed t piece ∷ []) t) (text_of events t) piece (fed_same events t piece)
fed_same (End u ∷ events) t piece = fed_same events t piece

pub fed_other : (events : List Event) (t u : ℕ) (piece : List ℕ) → u ≢ t → text_of (events ++ Feed t piece ∷ []) u ≡ text_of events u
fed_other [] t u piece ne = rw (other_test u t ne) refl
fed_other (Feed v p ∷ events) t u piece ne = ap (λ z. if u == v then p ++ z else z) (fed_other events t u piece ne)
fed_other (End v ∷ events) t u piece ne = fed_other events t u piece ne

pub fed_ended : (events : List Event) (t u : ℕ) (piece : List ℕ) → ended_in (events ++ Feed t piece ∷ []) u ≡ ended_in events u
fed_ended [] t u piece = refl
fed_ended (Feed v p ∷ events) t u piece = fed_ended events t u piece
fed_ended (End v ∷ events) t u piece = ap (λ z. (u == v) || z) (fed_ended events t u piece)

-- the end of table t
pub end_text : (events : List Event) (t u : ℕ) → text_of (events ++ End t ∷ []) u ≡ text_of events u
end_text [] t u = refl
end_text (Feed v p ∷ events) t u = ap (λ z. if u == v then p ++ z else z) (end_text events t u)
end_text (End v ∷ events) t u = end_text events t u

or_true : (b : Bool) → (b || true) ≡ true
or_true true = refl
or_true false = refl

pub end_same : (events : List Event) (t : ℕ) → ended_in (events ++ End t ∷ []) t ≡ true
end_same [] t = ap (λ z. z || false) (same_test t)
end_same (Feed v p ∷ events) t = end_same events t
end_same (End v ∷ events) t = ap (λ z. (t == v) || z) (end_same events t) ∙ or_true (t == v)

pub end_other : (events : List Event) (t u : ℕ) → u ≢ t → ended_in (events ++ End t ∷ []) u ≡ ended_in events u
end_other [] t u ne = ap (λ z. z || false) (other_test u t ne)
end_other (Feed v p ∷ events) t u ne = end_other events t u ne
end_other (End v ∷ events) t u ne = ap (λ z. (u == v) || z) (end_other events t u ne)
