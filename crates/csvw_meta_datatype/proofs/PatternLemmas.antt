-- In the profile core a pattern with a space is none.
use Rattle.std.proofs.Common.{◌≡◌, ◌≢◌, ℕ, List, [], ◌∷◌, Some, None, Bool, true, false, refl, sym, ap, ◌∙◌, ◌++◌, ◌==◌, ◌||◌, bytes_eq}
use Rattle.std.specs.List.{list_any}
use Rattle.std.proofs.lemmas.Slice.Eq.{bytes_eq-Decides}
use Rattle.csvw_datatype_core.specs.declared.date.DateFormat.{DateFormat}
use Rattle.csvw_datatype_core.specs.declared.moment.MomentFormat.{MomentFormat}
use Rattle.csvw_datatype_core.specs.declared.moment.MomentFormat.TheVariants.{Seconds, Minutes, Spaced}
use Rattle.csvw_datatype_core.specs.declared.time.TimeFormat.{TimeFormat}
use Rattle.csvw_datatype_core.specs.DatePatterns.{date_pattern, moment_pattern}
use Rattle.csvw_datatype_core.specs.PatternLists.{patterned_in}
use Rattle.csvw_datatype_core.specs.Times.{time_pattern}
use Rattle.csvw_meta_datatype.specs.Patterns.{core_format_of, core_formats}

unequal : (b : Bool) → (b ≡ true → ⊥) → b ≡ false
unequal true h = absurd (h refl)
unequal false h = refl

differs : (a b : List ℕ) → (a ≡ b → ⊥) → bytes_eq a b ≡ false
differs a b h = unequal (bytes_eq a b) (λ e. h ((bytes_eq-Decides a b).0 e))

none_in : {F : Type 0} (pattern_of : F → List ℕ) (text : List ℕ) → ((f : F) → text ≢ pattern_of f) → (fs : List F) → patterned_in pattern_of fs text ≡ None
none_in pattern_of text h [] = refl
none_in pattern_of text h (f ∷ fs) = rw (differs text (pattern_of f) (h f)) (none_in pattern_of text h fs)

or_true : (a : Bool) → (a || true) ≡ true
or_true true = refl
or_true false = refl

abbrev has_space : List ℕ → Bool
has_space bs = list_any (λ b. b == 32) bs

-- a text with a space has one, whatever is before it
any_space : (front rest : List ℕ) → has_space (front ++ (32 ∷ rest)) ≡ true
any_space [] rest = refl
any_space (b ∷ bs) rest = rw (any_space bs rest) (or_true (b == 32))

-- a text with a space isn't a pattern without one
other_pattern : (text pattern front rest : List ℕ) → text ≡ front ++ (32 ∷ rest) → has_space pattern ≡ false → text ≡ pattern → ⊥
other_pattern text pattern front rest spaced free same =
    let e : true ≡ false = sym (any_space front rest) ∙ ap has_space (sym spaced ∙ same) ∙ free in cc

pub no_core_moment : (text : List ℕ) (date : DateFormat) (time : TimeFormat) → text ≡ moment_pattern (Spaced date time) → None ≡ core_format_of text
no_core_moment text date time e =
    let front = date_pattern date in
    let rest = time_pattern time in
    let a = differs text (moment_pattern Seconds) (other_pattern text (moment_pattern Seconds) front rest e refl) in
    let b = differs text (moment_pattern Minutes) (other_pattern text (moment_pattern Minutes) front rest e refl) in
    rw (a, b) refl

pub core_seconds : (text : List ℕ) → text ≡ moment_pattern Seconds → Some Seconds ≡ core_format_of text
core_seconds text e = rw e refl

pub core_minutes : (text : List ℕ) → text ≡ moment_pattern Minutes → Some Minutes ≡ core_format_of text
core_minutes text e = rw e refl

pub no_core_format : (text : List ℕ) → ((f : MomentFormat) → text ≢ moment_pattern f) → None ≡ core_format_of text
no_core_format text h = sym (none_in moment_pattern text h core_formats)
