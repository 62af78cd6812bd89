-- The front of a text after spaces and tabs.
use Rattle.std.proofs.Common.{◌≡◌, ℕ, List, [], ◌∷◌, ◌++◌, refl, sym, ap, ◌∙◌, subst, arith, true, false, length, append_assoc, inl, inr, Option}
use Rattle.std.proofs.Common.{Some, None, Bor, MatchOption, Result, Ok, Err}
use Rattle.std.proofs.lemmas.Bool.{and_parts}
use Rattle.std.specs.Prelude.{codes}
use Rattle.std.specs.List.{list_all}
use Rattle.csvw_ntriples.specs.Character.{is_blank}
use Rattle.csvw_ntriples.specs.Terminal.{InBytes, IsString, IsIriref}
use Rattle.csvw_ntriples.specs.Grammar.{Takes, IsMark, TakesIri, IsIdle}
use Rattle.csvw_ntriples.specs.Reading.{Stops, IsRun, dark, ReadsBytes, Finds}
use Rattle.csvw_ntriples.specs.declared.term.NtFault.{NtFault}
use Rattle.csvw_ntriples.specs.declared.term.NtFault.TheVariants.{Memory, Syntax}
use Rattle.csvw_ntriples.specs.declared.reading.enclosed.Enclosed.TheVariants as enclosed
use Rattle.csvw_ntriples.proofs.BodyPieces.{to_iri, from_iri}
use Rattle.csvw_ntriples.proofs.Once.{gap_once}
use Rattle.csvw_ntriples.proofs.Runs.{dark_run}
use Rattle.csvw_ntriples.proofs.Spelled.{iri_longest, string_longest, mark_longest, bytes_longest}

-- past a gap the text begins so, in any reading
pub past_gap : (text gap rest other after : List ℕ) (c : ℕ) → IsRun is_blank text gap rest → list_all is_blank other ≡ true → is_blank c ≡ false
    → text ≡ other ++ c ∷ after → rest ≡ c ∷ after
past_gap text gap [] other after c r h k e =
    let none : dark text ≡ None = dark_run text gap [] r in
    let some = dark_run text other (c ∷ after) (e, h, k) in
    let wrong : None ≡ Some c = sym none ∙ some in cc
past_gap text gap (x ∷ rest) other after c (text_is, blank, stops) h k e =
    gap_once gap other x c rest after blank h stops k (sym text_is ∙ e)

-- a text between marks, past a gap
pub iri_takes : (text gap rest after v end : List ℕ) → IsRun is_blank text gap rest → rest ≡ 60 ∷ after → ReadsBytes enclosed.Iri after v end
    → TakesIri v text end
iri_takes text gap rest after v end (text_is, blank, _) e (value, (body, marked, pieces), bytes) =
    let whole : IsIriref (60 ∷ body ++ 62 ∷ []) value = (body, refl, to_iri body value pieces) in
    let spelled : text ≡ gap ++ ((60 ∷ body ++ 62 ∷ []) ++ end) =
    text_is ∙ ap (λ z. gap ++ z) (e ∙ ap (λ z. 60 ∷ z) (marked ∙ sym (append_assoc body (62 ∷ []) end))) in (
      gap,
      60 ∷ body ++ 62 ∷ [],
      spelled,
      blank,
      (value, whole, bytes),
      bytes_longest IsIriref (60 ∷ body ++ 62 ∷ []) end (iri_longest (60 ∷ body ++ 62 ∷ []) value end whole),
    )

pub string_takes : (text gap rest after v end : List ℕ) → IsRun is_blank text gap rest → rest ≡ 34 ∷ after → ReadsBytes enclosed.Literal after v end
    → Takes (InBytes IsString) v text end
string_takes text gap rest after v end (text_is, blank, _) e (value, (body, marked, pieces), bytes) =
    let whole : IsString (34 ∷ body ++ 34 ∷ []) value = (body, refl, pieces) in
    let spelled : text ≡ gap ++ ((34 ∷ body ++ 34 ∷ []) ++ end) =
    text_is ∙ ap (λ z. gap ++ z) (e ∙ ap (λ z. 34 ∷ z) (marked ∙ sym (append_assoc body (34 ∷ []) end))) in (
      gap,
      34 ∷ body ++ 34 ∷ [],
      spelled,
      blank,
      (value, whole, bytes),
      bytes_longest IsString (34 ∷ body ++ 34 ∷ []) end (string_longest (34 ∷ body ++ 34 ∷ []) value end whole),
    )

-- and back
iri_taken : (text gap rest v end : List ℕ) → IsRun is_blank text gap rest → TakesIri v text end
    → (after : List ℕ) × (rest ≡ 60 ∷ after) × ReadsBytes enclosed.Iri after v end
iri_taken text gap rest v end r (space, piece, spelled, blank, (value, (body, marked, pieces), bytes), _) =
    let whole : piece ++ end ≡ 60 ∷ (body ++ 62 ∷ end) = ap (λ z. z ++ end) marked ∙ ap (λ z. 60 ∷ z) (append_assoc body (62 ∷ []) end) in (
      body ++ 62 ∷ end,
      past_gap text gap rest space (body ++ 62 ∷ end) 60 r blank refl (spelled ∙ ap (λ z. space ++ z) whole),
      (value, (body, refl, from_iri body value pieces), bytes),
    )

string_taken : (text gap rest v end : List ℕ) → IsRun is_blank text gap rest → Takes (InBytes IsString) v text end
    → (after : List ℕ) × (rest ≡ 34 ∷ after) × ReadsBytes enclosed.Literal after v end
string_taken text gap rest v end r (space, piece, spelled, blank, (value, (body, marked, pieces), bytes), _) =
    let whole : piece ++ end ≡ 34 ∷ (body ++ 34 ∷ end) = ap (λ z. z ++ end) marked ∙ ap (λ z. 34 ∷ z) (append_assoc body (34 ∷ []) end) in (
      body ++ 34 ∷ end,
      past_gap text gap rest space (body ++ 34 ∷ end) 34 r blank refl (spelled ∙ ap (λ z. space ++ z) whole),
      (value, (body, refl, pieces), bytes),
    )

-- a result about the text after the opening mark is one about the text
tails : (x y : ℕ) (xs ys rest : List ℕ) → rest ≡ x ∷ xs → rest ≡ y ∷ ys → xs ≡ ys
tails x y xs ys rest e f = let k : x ∷ xs ≡ y ∷ ys = sym e ∙ f in cc

pub iri_found : (text gap rest after : List ℕ) (r : Result (List ℕ × Bor (List ℕ)) NtFault) → IsRun is_blank text gap rest → rest ≡ 60 ∷ after
    → Finds (ReadsBytes enclosed.Iri after) r → Finds (λ v end. TakesIri v text end) r
iri_found text gap rest after (Ok v) run e f = iri_takes text gap rest after v.0 v.1.now run e f
iri_found text gap rest after (Err Memory) run e f = tt
iri_found text gap rest after (Err Syntax) run e f = λ v end t.
    let (behind, begins, reads) = iri_taken text gap rest v end run t in
    f v end (subst (λ z. ReadsBytes enclosed.Iri z v end) (tails 60 60 behind after rest begins e) reads)

pub string_found : (text gap rest after : List ℕ) (r : Result (List ℕ × Bor (List ℕ)) NtFault) → IsRun is_blank text gap rest → rest ≡ 34 ∷ after
    → Finds (ReadsBytes enclosed.Literal after) r → Finds (λ v end. Takes (InBytes IsString) v text end) r
string_found text gap rest after (Ok v) run e f = string_takes text gap rest after v.0 v.1.now run e f
string_found text gap rest after (Err Memory) run e f = tt
string_found text gap rest after (Err Syntax) run e f = λ v end t.
    let (behind, begins, reads) = string_taken text gap rest v end run t in
    f v end (subst (λ z. ReadsBytes enclosed.Literal z v end) (tails 34 34 behind after rest begins e) reads)

pub iri_missing : (text gap rest : List ℕ) → IsRun is_blank text gap rest → ((after : List ℕ) → rest ≡ 60 ∷ after → ⊥) → (v end : List ℕ)
    → TakesIri v text end → ⊥
iri_missing text gap rest run none v end t = let (after, begins, _) = iri_taken text gap rest v end run t in none after begins

pub string_missing : (text gap rest : List ℕ) → IsRun is_blank text gap rest → ((after : List ℕ) → rest ≡ 34 ∷ after → ⊥) → (v end : List ℕ)
    → Takes (InBytes IsString) v text end → ⊥
string_missing text gap rest run none v end t = let (after, begins, _) = string_taken text gap rest v end run t in none after begins

-- dots
pub dot_takes : (text gap rest after : List ℕ) → IsRun is_blank text gap rest → rest ≡ 46 ∷ after → Takes (IsMark (codes ".")) tt text after
dot_takes text gap rest after (text_is, blank, _) e = (gap, 46 ∷ [], text_is ∙ ap (λ z. gap ++ z) e, blank, refl, mark_longest (46 ∷ []) after)

pub dot_missing : (text gap rest : List ℕ) → IsRun is_blank text gap rest → ((after : List ℕ) → rest ≡ 46 ∷ after → ⊥) → (end : List ℕ)
    → Takes (IsMark (codes ".")) tt text end → ⊥
dot_missing text gap rest r none end (space, piece, spelled, blank, dot, _) =
    none end (past_gap text gap rest space end 46 r blank refl (spelled ∙ ap (λ z. space ++ (z ++ end)) dot))

pub dot_found : (text gap rest : List ℕ) (r : Option (Bor (List ℕ))) → IsRun is_blank text gap rest
    → MatchOption r ((after : List ℕ) → rest ≡ 46 ∷ after → ⊥) (λ a. rest ≡ 46 ∷ a.now)
    → MatchOption r ((end : List ℕ) → Takes (IsMark (codes ".")) tt text end → ⊥) (λ a. Takes (IsMark (codes ".")) tt text a.now)
dot_found text gap rest None run f = dot_missing text gap rest run f
dot_found text gap rest (Some a) run f = dot_takes text gap rest a.now run f

-- idle lines
to_idle : (gap rest : List ℕ) → list_all is_blank gap ≡ true → IsIdle rest → IsIdle (gap ++ rest)
to_idle [] rest h i = i
to_idle (c ∷ gap) rest h i = let both = and_parts (is_blank c) (list_all is_blank gap) h in inr (both.0, to_idle gap rest both.1 i)

hash_dark : is_blank 35 ≡ false
hash_dark = refl

from_idle : (gap rest : List ℕ) → list_all is_blank gap ≡ true → IsIdle (gap ++ rest) → IsIdle rest
from_idle [] rest h i = i
from_idle (c ∷ gap) rest h (inl e) =
    let both = and_parts (is_blank c) (list_all is_blank gap) h in
    let wrong : is_blank 35 ≡ true = subst (λ z. is_blank z ≡ true) e both.0 in cc
from_idle (c ∷ gap) rest h (inr i) = from_idle gap rest (and_parts (is_blank c) (list_all is_blank gap) h).1 i.1

pub idle_none : (text gap rest : List ℕ) → IsRun is_blank text gap rest → length rest ≡ 0 → IsIdle text
idle_none text gap [] (text_is, blank, _) z = subst IsIdle (sym text_is) (to_idle gap [] blank tt)
idle_none text gap (x ∷ xs) r z = absurd (omega arith)

pub idle_if : (text gap rest others : List ℕ) (x : ℕ) → IsRun is_blank text gap rest → rest ≡ x ∷ others → x ≡ 35 → IsIdle text
idle_if text gap rest others x (text_is, blank, _) e f =
    subst IsIdle (sym (text_is ∙ ap (λ z. gap ++ z) e)) (to_idle gap (x ∷ others) blank (inl f))

pub idle_only : (text gap rest others : List ℕ) (x : ℕ) → IsRun is_blank text gap rest → rest ≡ x ∷ others → IsIdle text → x ≡ 35
idle_only text gap rest others x (text_is, blank, stops) e i =
    let left : IsIdle (x ∷ others) = from_idle gap (x ∷ others) blank (subst IsIdle (text_is ∙ ap (λ z. gap ++ z) e) i) in
    let stop : is_blank x ≡ false = (subst (Stops is_blank) e stops) in
    elim left [ inl same ↦ same | inr more ↦ let yes = more.0 in cc ]
