-- Labels of blank nodes and language tags as runs of characters.
use Rattle.std.proofs.Common.{◌≡◌, ◌<◌, ◌≤◌, ◌+◌, ℕ, zero, suc, List, [], ◌∷◌, ◌++◌, refl, sym, ap, ◌∙◌, subst, arith, true, false, Bool, ◌||◌}
use Rattle.std.proofs.Common.{length, take, drop, get_or, append_assoc, Some, cond, Bor, Result, Ok, Err, length-append, add-one}
use Rattle.std.proofs.lemmas.Bool.{and_parts}
use Rattle.std.proofs.lemmas.Bool.Decides.{Decides-eqb, nat_tests}
use Rattle.std.proofs.lemmas.List.Folds.{list_all-append}
use Rattle.std.specs.Prelude.{◌==◌, nat_lt, encode_utf8_all}
use Rattle.std.specs.List.{list_all}
use Rattle.csvw_text.specs.Language.{is_language_tag}
use Rattle.csvw_ntriples.specs.Character.{is_blank, is_label_start, is_label_char}
use Rattle.csvw_ntriples.specs.Terminal.{IsLabel, IsLabelTail}
use Rattle.csvw_ntriples.specs.Grammar.{IsLongest, TakesBlank}
use Rattle.csvw_ntriples.specs.Reading.{is_in, Stops, IsRun, dark, Finds, BeginsLabel, EndsWithoutDot, TakesLabel, TagBefore}
use Rattle.csvw_ntriples.specs.declared.reading.runs.Class.TheVariants as class
use Rattle.csvw_ntriples.specs.declared.term.NtFault.{NtFault}
use Rattle.csvw_ntriples.specs.declared.term.NtFault.TheVariants.{Memory, Syntax}
use Rattle.csvw_ntriples.proofs.Begun.{past_gap}
use Rattle.csvw_ntriples.proofs.Decoded.{encodes_low}
use Rattle.csvw_ntriples.proofs.Runs.{run_once}
use Rattle.csvw_ntriples.proofs.Spelled.{and_both, in_label, start_in_label, all_in_label, in_tag, tag_chars}

abbrev is_dot : ℕ → Bool
is_dot c = c == 46

dot_is : (c : ℕ) → is_dot c ≡ true → c ≡ 46
dot_is c h = (Decides-eqb c 46).0 h

-- the end without dots
abbrev pub DotsFrom : List ℕ → ℕ → Type 0
DotsFrom text n = list_all (λ c. c == 46) (drop n text) ≡ true

pub no_dots_yet : (text : List ℕ) → DotsFrom text (length text)
no_dots_yet [] = refl
no_dots_yet (c ∷ cs) = no_dots_yet cs

pub one_dot_more : (text : List ℕ) (n c : ℕ) → n < length text → DotsFrom text (n + 1) → c ≡ get_or text n c → c ≡ 46 → DotsFrom text n
one_dot_more text n c l h e f = go text n l (subst (λ k. DotsFrom text k) (add-one n) h) e
  where
    go : (ys : List ℕ) (k : ℕ) → k < length ys → DotsFrom ys (suc k) → c ≡ get_or ys k c → DotsFrom ys k
    go [] k l h e = absurd (omega arith)
    go (y ∷ ys) zero l h e = let same : y ≡ 46 = sym e ∙ f in and_both _ _ ((Decides-eqb y 46).1 same) h
    go (y ∷ ys) (suc k) l h e = go ys k (omega arith) h e

last_is : (xs ys : List ℕ) (n c : ℕ) → n < length ys → c ≡ get_or ys n c → take (suc n) ys ≡ xs ++ 46 ∷ [] → c ≡ 46
last_is [] [] n c l e f = absurd (omega arith)
last_is [] (y ∷ ys) zero c l e f = let same : y ≡ 46 = cc in e ∙ same
last_is [] (y ∷ ys) (suc n) c l e f =
    let k : take (suc n) ys ≡ [] = cc in let size = ap length k in
    absurd (let short : length (take (suc n) ys) ≡ suc n = length_front ys (suc n) (omega arith) in omega arith)
  where
    length_front : (zs : List ℕ) (m : ℕ) → m ≤ length zs → length (take m zs) ≡ m
    length_front [] zero h = refl
    length_front [] (suc m) h = absurd (omega arith)
    length_front (z ∷ zs) zero h = refl
    length_front (z ∷ zs) (suc m) h = let r = length_front zs m (omega arith) in omega arith
last_is (x ∷ xs) [] n c l e f = absurd (omega arith)
last_is (x ∷ xs) (y ∷ ys) zero c l e f = let k : [] ≡ xs ++ 46 ∷ [] = cc in let size = ap length k in absurd (omega (arith, size, length-append xs (46 ∷ [])))
last_is (x ∷ xs) (y ∷ ys) (suc n) c l e f = let k : take (suc n) ys ≡ xs ++ 46 ∷ [] = cc in last_is xs ys n c (omega arith) e k

front_drop : (text : List ℕ) (n : ℕ) → text ≡ take n text ++ drop n text
front_drop [] zero = refl
front_drop [] (suc n) = refl
front_drop (x ∷ xs) zero = refl
front_drop (x ∷ xs) (suc n) = ap (λ z. x ∷ z) (front_drop xs n)

front_size : (text : List ℕ) (n : ℕ) → n ≤ length text → length (take n text) ≡ n
front_size [] zero h = refl
front_size [] (suc n) h = absurd (omega arith)
front_size (x ∷ xs) zero h = refl
front_size (x ∷ xs) (suc n) h = let r = front_size xs n (omega arith) in omega arith

pub ends_at_zero : (text : List ℕ) (n : ℕ) → n ≡ 0 → DotsFrom text n → EndsWithoutDot text n
ends_at_zero text n z h =
    ([], text, refl, sym z, subst (λ k. DotsFrom text k) z h, λ xs e. let size = ap length e in absurd (omega (arith, size, length-append xs (46 ∷ []))))

pub ends_at : (text : List ℕ) (n m c : ℕ) → n ≡ m + 1 → m < length text → DotsFrom text n → c ≡ get_or text m c → (c ≡ 46 → ⊥) → EndsWithoutDot text n
ends_at text n m c e l h f none = (
  take n text,
  drop n text,
  front_drop text n,
  front_size text n (omega arith),
  h,
  λ xs k. none (last_is xs text m c l f (subst (λ i. take i text ≡ xs ++ 46 ∷ []) (e ∙ add-one m) k)),
)

-- labels
tail_ok : (cs : List ℕ) → list_all (is_in class.Label) cs ≡ true → ((xs : List ℕ) → cs ≡ xs ++ 46 ∷ [] → ⊥) → IsLabelTail cs
tail_ok [] h none = tt
tail_ok (c ∷ []) h none = at (c == 46) refl
  where
    at : (b : Bool) → (c == 46) ≡ b → is_label_char c ≡ true
    at true e = absurd (none [] (ap (λ z. z ∷ []) (dot_is c e)))
    at false e = let both = (and_parts (is_label_char c || c == 46) true h).0 in left (is_label_char c) (c == 46) both e
      where
        left : (a b : Bool) → (a || b) ≡ true → b ≡ false → a ≡ true
        left true b p q = refl
        left false true p q = cc
        left false false p q = cc
tail_ok (c ∷ d ∷ cs) h none =
    let both = and_parts (is_label_char c || c == 46) (list_all (is_in class.Label) (d ∷ cs)) h in
    (both.0, tail_ok (d ∷ cs) both.1 (λ xs e. none (c ∷ xs) (ap (λ z. c ∷ z) e)))

dots_front : (p : ℕ → Bool) (dots rest more after : List ℕ) → list_all is_dot dots ≡ true → Stops p rest → list_all p more ≡ true
    → dots ++ rest ≡ more ++ after → list_all is_dot more ≡ true
dots_front p [] rest [] after h s k e = refl
dots_front p [] [] (m ∷ more) after h s k e = cc
dots_front p [] (x ∷ rest) (m ∷ more) after h s k e =
    let same : x ≡ m = cc in let both = and_parts (p m) (list_all p more) k in
    let wrong : p m ≡ false = subst (λ z. p z ≡ false) same s in let yes = both.0 in cc
dots_front p (d ∷ dots) rest [] after h s k e = refl
dots_front p (d ∷ dots) rest (m ∷ more) after h s k e =
    let both = and_parts (is_dot d) (list_all is_dot dots) h in
    let same : d ≡ m = cc in let tails : dots ++ rest ≡ more ++ after = cc in
    and_both _ _ (subst (λ z. is_dot z ≡ true) same both.0) (dots_front p dots rest more after both.1 s (and_parts (p m) (list_all p more) k).1 tails)

dot_no_label : is_label_char 46 ≡ false
dot_no_label = refl

dots_no_tail : (m : ℕ) (more : List ℕ) → list_all is_dot (m ∷ more) ≡ true → IsLabelTail (m ∷ more) → ⊥
dots_no_tail m [] h t =
    let e = dot_is m (and_parts (is_dot m) true h).0 in
    let wrong : is_label_char 46 ≡ true = subst (λ z. is_label_char z ≡ true) e t in cc
dots_no_tail m (x ∷ more) h t = dots_no_tail x more (and_parts (is_dot m) (list_all is_dot (x ∷ more)) h).1 t.1

no_dot_end : (cs : List ℕ) (m : ℕ) (more : List ℕ) → list_all is_dot (m ∷ more) ≡ true → IsLabelTail (cs ++ m ∷ more) → ⊥
no_dot_end [] m more h t = dots_no_tail m more h t
no_dot_end (c ∷ []) m more h t = dots_no_tail m more h t.1
no_dot_end (c ∷ d ∷ cs) m more h t = no_dot_end (d ∷ cs) m more h t.1

no_more : (c : ℕ) (cs more : List ℕ) → list_all is_dot more ≡ true → IsLabelTail (cs ++ more) → more ≡ []
no_more c cs [] h t = refl
no_more c cs (m ∷ more) h t = absurd (no_dot_end cs m more h t)

in_label_all : (cs : List ℕ) → IsLabel cs → list_all (is_in class.Label) cs ≡ true
unfolding in_label
in_label_all cs l = all_in_label cs l

start_in : (c : ℕ) → is_label_start c ≡ true → is_in class.Label c ≡ true
unfolding in_label
start_in c h = start_in_label c h

back_of : (p : ℕ → Bool) (xs ys : List ℕ) → list_all p (xs ++ ys) ≡ true → list_all p ys ≡ true
back_of p xs ys h = (and_parts (list_all p xs) (list_all p ys) (sym (list_all-append p xs ys) ∙ h)).1

front_of : (p : ℕ → Bool) (xs ys : List ℕ) → list_all p (xs ++ ys) ≡ true → list_all p xs ≡ true
front_of p xs ys h = (and_parts (list_all p xs) (list_all p ys) (sym (list_all-append p xs ys) ∙ h)).0

label_longest : (name dots end : List ℕ) → BeginsLabel name → list_all is_dot dots ≡ true → Stops (is_in class.Label) end
    → IsLongest (λ piece (v : List ℕ). IsLabel piece × (v ≡ piece)) name (dots ++ end)
label_longest [] dots end b h s = absurd b
label_longest (c ∷ cs) dots end b h s = λ more rest v e ((start, tail), _).
    let inside = back_of (is_in class.Label) (c ∷ cs) more (in_label_all (c ∷ cs ++ more) (start, tail)) in
    no_more c cs more (dots_front (is_in class.Label) dots end more rest h s inside e) tail

label_is : (name : List ℕ) → BeginsLabel name → list_all (is_in class.Label) name ≡ true → ((xs : List ℕ) → name ≡ xs ++ 46 ∷ [] → ⊥) → IsLabel name
label_is [] b h none = absurd b
label_is (c ∷ cs) b h none = (b, tail_ok cs (and_parts (is_in class.Label c) (list_all (is_in class.Label) cs) h).1 (λ xs e. none (c ∷ xs) (ap (λ z. c ∷ z) e)))

-- the text is a label, dots and an end
abbrev pub Parts : List ℕ → List ℕ → List ℕ → List ℕ → Type 0
Parts text name dots end =
    (text ≡ name ++ (dots ++ end)) × (list_all (is_in class.Label) (name ++ dots) ≡ true) × Stops (is_in class.Label) end
    × (list_all is_dot dots ≡ true) × ((xs : List ℕ) → name ≡ xs ++ 46 ∷ [] → ⊥)

pub parts_of : (text front end : List ℕ) (n : ℕ) → IsRun (is_in class.Label) text front end → (w : EndsWithoutDot front n) → Parts text w.0 w.1 end
parts_of text front end n (text_is, inside, stops) (name, dots, front_is, _, are_dots, none) = (
  text_is ∙ (ap (λ z. z ++ end) front_is ∙ append_assoc name dots end),
  subst (λ (z : List ℕ). list_all (is_in class.Label) z ≡ true) front_is inside,
  stops,
  are_dots,
  none,
)

-- cut after so many
pub cut_at : (xs ys : List ℕ) (n : ℕ) → length xs ≡ n → (take n (xs ++ ys) ≡ xs) × (drop n (xs ++ ys) ≡ ys)
cut_at [] ys zero h = (refl, refl)
cut_at [] ys (suc n) h = absurd (omega arith)
cut_at (x ∷ xs) ys zero h = absurd (omega arith)
cut_at (x ∷ xs) ys (suc n) h = let r = cut_at xs ys n (omega arith) in (ap (λ z. x ∷ z) r.0, r.1)

pub label_found : (text name dots end bytes : List ℕ) → Parts text name dots end → BeginsLabel name → bytes ≡ encode_utf8_all name
    → TakesLabel bytes text (dots ++ end)
label_found text name dots end bytes (text_is, inside, stops, are_dots, none) b e =
    (name, text_is, label_is name b (front_of (is_in class.Label) name dots inside) none, label_longest name dots end b are_dots stops, e)

pub label_missing : (text name dots end : List ℕ) → Parts text name dots end → (BeginsLabel name → ⊥) → (v rest : List ℕ) → TakesLabel v text rest → ⊥
label_missing text name dots end p none v rest ([], e, l, more, _) = absurd l
label_missing text (x ∷ name) dots end (text_is, _, _, _, _) none v rest (c ∷ cs, e, (start, _), more, _) =
    let whole : x ∷ (name ++ (dots ++ end)) ≡ c ∷ (cs ++ rest) = sym text_is ∙ e in
    let same : x ≡ c = cc in none (subst (λ z. is_label_start z ≡ true) (sym same) start)
label_missing text [] (d ∷ dots) end (text_is, _, _, are_dots, _) none v rest (c ∷ cs, e, (start, _), more, _) =
    let whole : d ∷ (dots ++ end) ≡ c ∷ (cs ++ rest) = sym text_is ∙ e in
    let same : d ≡ c = cc in
    let dot = dot_is d (and_parts (is_dot d) (list_all is_dot dots) are_dots).0 in
    let wrong : is_label_start 46 ≡ true = subst (λ z. is_label_start z ≡ true) (sym same ∙ dot) start in cc
label_missing text [] [] [] (text_is, _, _, _, _) none v rest (c ∷ cs, e, l, more, _) = let whole : [] ≡ c ∷ (cs ++ rest) = sym text_is ∙ e in cc
label_missing text [] [] (x ∷ end) (text_is, _, stops, _, _) none v rest (c ∷ cs, e, (start, _), more, _) =
    let whole : x ∷ end ≡ c ∷ (cs ++ rest) = sym text_is ∙ e in
    let same : x ≡ c = cc in
    let yes = start_in c start in let wrong : is_in class.Label c ≡ false = subst (λ z. is_in class.Label z ≡ false) same stops in cc

-- blank nodes
blank_takes : (text gap rest after v end : List ℕ) → IsRun is_blank text gap rest → rest ≡ 95 ∷ 58 ∷ after → TakesLabel v after end → TakesBlank v text end
blank_takes text gap rest after v end (text_is, blank, _) e (name, after_is, is_label, longest, bytes) = (
  gap,
  95 ∷ 58 ∷ name,
  text_is ∙ ap (λ z. gap ++ z) (e ∙ ap (λ z. 95 ∷ 58 ∷ z) after_is),
  blank,
  (name, (refl, is_label), bytes),
  λ more others w g (longer, (marked, is), _).
      let inner : name ++ more ≡ longer = let k : 95 ∷ 58 ∷ (name ++ more) ≡ 95 ∷ 58 ∷ longer = marked in cc in
      longest more others (name ++ more) g (subst IsLabel (sym inner) is, refl),
)

blank_taken : (text gap rest v end : List ℕ) → IsRun is_blank text gap rest → TakesBlank v text end
    → (after : List ℕ) × (rest ≡ 95 ∷ 58 ∷ after) × TakesLabel v after end
blank_taken text gap rest v end r (space, piece, spelled, blank, (name, (marked, is_label), bytes), longest) =
    let whole : piece ++ end ≡ 95 ∷ 58 ∷ (name ++ end) = ap (λ z. z ++ end) marked in (
      name ++ end,
      past_gap text gap rest space (58 ∷ (name ++ end)) 95 r blank refl (spelled ∙ ap (λ z. space ++ z) whole),
      (
        name,
        refl,
        is_label,
        λ more others w g (is, _). longest more others (encode_utf8_all (name ++ more)) g (name ++ more, (ap (λ z. z ++ more) marked, is), refl),
        bytes,
      ),
    )

two_tails : (xs ys rest : List ℕ) → rest ≡ 95 ∷ 58 ∷ xs → rest ≡ 95 ∷ 58 ∷ ys → xs ≡ ys
two_tails xs ys rest e f = let k : 95 ∷ 58 ∷ xs ≡ 95 ∷ 58 ∷ ys = sym e ∙ f in cc

pub blank_found : (text gap rest after : List ℕ) (r : Result (List ℕ × Bor (List ℕ)) NtFault) → IsRun is_blank text gap rest → rest ≡ 95 ∷ 58 ∷ after
    → Finds (λ v end. TakesLabel v after end) r → Finds (λ v end. TakesBlank v text end) r
blank_found text gap rest after (Ok v) run e f = blank_takes text gap rest after v.0 v.1.now run e f
blank_found text gap rest after (Err Memory) run e f = tt
blank_found text gap rest after (Err Syntax) run e f = λ v end t.
    let (behind, begins, takes) = blank_taken text gap rest v end run t in
    f v end (subst (λ z. TakesLabel v z end) (two_tails behind after rest begins e) takes)

pub blank_missing : (text gap rest : List ℕ) → IsRun is_blank text gap rest → ((after : List ℕ) → rest ≡ 95 ∷ 58 ∷ after → ⊥) → (v end : List ℕ)
    → TakesBlank v text end → ⊥
blank_missing text gap rest run none v end t = let (after, begins, _) = blank_taken text gap rest v end run t in none after begins

-- language tags
tag_low_one : (c : ℕ) → is_in class.Tag c ≡ true → nat_lt c 128 ≡ true
tag_low_one c h = grind (arith, nat_tests)

tag_low : (cs : List ℕ) → list_all (is_in class.Tag) cs ≡ true → list_all (λ x. nat_lt x 128) cs ≡ true
tag_low [] h = refl
tag_low (c ∷ cs) h = let both = and_parts (is_in class.Tag c) (list_all (is_in class.Tag) cs) h in and_both _ _ (tag_low_one c both.0) (tag_low cs both.1)

tag_in : (tag : List ℕ) → is_language_tag tag ≡ true → list_all (is_in class.Tag) tag ≡ true
unfolding in_tag
tag_in tag h = tag_chars tag h

none_more : (p : ℕ → Bool) (end more after : List ℕ) → Stops p end → list_all p more ≡ true → end ≡ more ++ after → more ≡ []
none_more p end [] after s h e = refl
none_more p [] (m ∷ more) after s h e = cc
none_more p (x ∷ end) (m ∷ more) after s h e =
    let same : x ≡ m = cc in let yes = (and_parts (p m) (list_all p more) h).0 in
    let wrong : p m ≡ false = subst (λ z. p z ≡ false) same s in cc

pub tag_found : (text front end bytes tag : List ℕ) → IsRun (is_in class.Tag) text front end → bytes ≡ encode_utf8_all front → tag ≡ bytes
    → is_language_tag bytes ≡ true → TagBefore tag text end
tag_found text front end bytes tag (text_is, inside, stops) e f h =
    let plain : bytes ≡ front = e ∙ encodes_low front (tag_low front inside) in
    let is : is_language_tag front ≡ true = subst (λ (z : List ℕ). is_language_tag z ≡ true) plain h in (
      front,
      text_is,
      is,
      λ more rest v g (longer, _). none_more (is_in class.Tag) end more rest stops (back_of (is_in class.Tag) front more (tag_in (front ++ more) longer)) g,
      f ∙ e,
    )

dot_stops : (end : List ℕ) → dark end ≡ Some 46 → Stops (is_in class.Tag) end
dot_stops [] d = tt
dot_stops (c ∷ cs) d = at (is_blank c) refl
  where
    blank_stops : (x : ℕ) → is_blank x ≡ true → is_in class.Tag x ≡ false
    blank_stops x h = grind (arith, nat_tests)

    at : (b : Bool) → is_blank c ≡ b → is_in class.Tag c ≡ false
    at true e = blank_stops c e
    at false e = let k : Some c ≡ Some 46 = sym (ap (λ (b : Bool). cond b (dark cs) (Some c)) e) ∙ d in let same : c ≡ 46 = cc in rw same refl

-- before a dot there is one tag
pub tag_once : (text front end : List ℕ) → IsRun (is_in class.Tag) text front end → (v rest : List ℕ) → TagBefore v text rest → dark rest ≡ Some 46 → rest ≡ end
tag_once text front end (text_is, inside, stops) v rest (tag, tag_before, is_tag, _, _) d =
    sym (run_once (is_in class.Tag) front tag end rest inside (tag_in tag is_tag) stops (dot_stops rest d) (sym text_is ∙ tag_before)).1

pub tag_missing : (text front end bytes : List ℕ) → IsRun (is_in class.Tag) text front end → bytes ≡ encode_utf8_all front → is_language_tag bytes ≡ false
    → (v rest : List ℕ) → TagBefore v text rest → dark rest ≡ Some 46 → ⊥
tag_missing text front end bytes (text_is, inside, stops) e h v rest (tag, tag_before, is_tag, _, _) d =
    let plain : bytes ≡ front = e ∙ encodes_low front (tag_low front inside) in
    let once = run_once (is_in class.Tag) front tag end rest inside (tag_in tag is_tag) stops (dot_stops rest d) (sym text_is ∙ tag_before) in
    let same : is_language_tag bytes ≡ true = subst (λ (z : List ℕ). is_language_tag z ≡ true) (sym (plain ∙ once.0)) is_tag in cc

-- the text cut after the label
pub label_split : (text name dots end a b : List ℕ) (n : ℕ) → Parts text name dots end → length name ≡ n → a ≡ take n text → b ≡ drop n text
    → (a ≡ name) × (b ≡ dots ++ end)
label_split text name dots end a b n p size e f =
    let cut = cut_at name (dots ++ end) n size in
    (e ∙ (ap (λ z. take n z) p.0 ∙ cut.0), f ∙ (ap (λ z. drop n z) p.0 ∙ cut.1))

pub label_there : (text name dots end a b bytes : List ℕ) (n : ℕ) → Parts text name dots end → length name ≡ n → a ≡ take n text → b ≡ drop n text
    → BeginsLabel a → bytes ≡ encode_utf8_all a
    → TakesLabel bytes text b
label_there text name dots end a b bytes n p size e f begins g =
    let s = label_split text name dots end a b n p size e f in
    let begun : BeginsLabel name = subst BeginsLabel s.0 begins in
    let same : bytes ≡ encode_utf8_all name = g ∙ ap encode_utf8_all s.0 in
    subst (λ z. TakesLabel bytes text z) (sym s.1) (label_found text name dots end bytes p begun same)

pub label_not_there : (text name dots end a b : List ℕ) (n : ℕ) → Parts text name dots end → length name ≡ n → a ≡ take n text → b ≡ drop n text
    → (BeginsLabel a → ⊥)
    → (v rest : List ℕ) → TakesLabel v text rest → ⊥
label_not_there text name dots end a b n p size e f none =
    let s = label_split text name dots end a b n p size e f in
    label_missing text name dots end p (λ begins. none (subst BeginsLabel (sym s.0) begins))
