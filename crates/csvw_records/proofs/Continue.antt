-- A part of a row begins a row, or breaks a rule, or a row is complete in it.
use Rattle.std.proofs.Common.{◌≡◌, ℕ, ◌+◌, ◌<◌, ◌≤◌, Bool, true, false, ◌&&◌, ◌||◌, ◌==◌, if◌then◌else◌, List, [], ◌∷◌, ◌++◌, length, take, Option}
use Rattle.std.proofs.Common.{Some, None, option_map, refl, sym, ap, ◌∙◌, subst, arith, append_assoc, append-nil, length-append, ◌⊎◌, inl, inr}
use Rattle.std.proofs.Common.{nat_lt, nat_eq}
use Rattle.std.specs.List.{starts_with}
use Rattle.std.proofs.lemmas.Bool.Decides.{nat_tests}
use Rattle.std.proofs.lemmas.Grind.{common_steps}
use Rattle.std.proofs.lemmas.List.{append_cancel_right}
use Rattle.csvw_records.specs.declared.dialect.Dialect.{Dialect}
use Rattle.csvw_records.specs.declared.scan.State.{State}
use Rattle.csvw_records.specs.declared.scan.State.TheVariants.{Start}
use Rattle.csvw_records.specs.Grammar.{terminator_len}
use Rattle.csvw_records.specs.Lawful.{IsLawful, has_break, prefix_breaks}
use Rattle.csvw_records.specs.Files.{Row, IsRow, EndsRow, is_ignored, begins_with}
use Rattle.csvw_records.specs.Lawful.{prefix_of}
use Rattle.csvw_records.specs.Scan.{Outcome, Found, Broken, Unfinished, run, pass, finish}
use Rattle.csvw_records.specs.NextRow.{settled, unsettled, line_of, found_row, next_row, terminator_of, may_be_comment, begins_prefix}
use Rattle.csvw_records.specs.PartOfRow.{Continues}
use Rattle.csvw_records.proofs.RunSteps.{no_end}
use Rattle.csvw_records.proofs.Joins.{line_join, settled_all, settled_clear}
use Rattle.csvw_records.specs.PassLaws.{Clear}
use Rattle.csvw_records.proofs.IgnoredRows.{ignored_same, ignored_stays, terminator_breaks}
use Rattle.csvw_records.specs.TerminatorLaws.{is_break, BeginsBreak}
use Rattle.csvw_records.proofs.RowLaws.{row_sound, row_complete, line_sound, line_complete, line_some}
use Rattle.csvw_records.proofs.Complete.{nothing_ends}
use Rattle.csvw_records.proofs.Sound.{sound}

-- the terminator
term_crlf : (d : Dialect) → d.line_terminators.crlf ≡ true → (terminator_of d ≡ 13 ∷ 10 ∷ []) × (terminator_len d (terminator_of d) ≡ 2)
term_crlf d e = rw e (refl, refl)

term_lf : (d : Dialect) → d.line_terminators.crlf ≡ false → d.line_terminators.lf ≡ true
    → (terminator_of d ≡ 10 ∷ []) × (terminator_len d (terminator_of d) ≡ 1)
term_lf d e f = rw (e, f) (refl, refl)

or_second : (a b : Bool) → (a || b) ≡ true → a ≡ false → b ≡ true
or_second true b h e = absurd cc
or_second false b h e = h

by_crlf : (d : Dialect) (b : Bool) → IsLawful d → d.line_terminators.crlf ≡ b → terminator_len d (terminator_of d) ≡ length (terminator_of d)
by_crlf d true w e = let t = term_crlf d e in t.1 ∙ sym (ap length t.0)
by_crlf d false w e = let t = term_lf d e (or_second d.line_terminators.crlf d.line_terminators.lf w.terminators e) in t.1 ∙ sym (ap length t.0)

pub term_len : (d : Dialect) → IsLawful d → terminator_len d (terminator_of d) ≡ length (terminator_of d)
term_len d w = by_crlf d d.line_terminators.crlf w refl

some_crlf : (d : Dialect) (b : Bool) → d.line_terminators.crlf ≡ b → 0 < length (terminator_of d)
some_crlf d true e = rw e (let z : 0 < 2 = omega arith in z)
some_crlf d false e = rw e (let z : 0 < 1 = omega arith in z)

pub term_some : (d : Dialect) → IsLawful d → 0 < terminator_len d (terminator_of d)
term_some d w = let h = some_crlf d d.line_terminators.crlf refl in omega (arith, term_len d w)

-- what isn't settled is a CR that begins a terminator
one_unsettled : (crlf : Bool) (c : ℕ) (b : Bool) → (crlf && (c == 13)) ≡ b
    → ((if b then c ∷ [] else []) ≡ []) ⊎ (((if b then c ∷ [] else []) ≡ 13 ∷ []) × (crlf ≡ true))
one_unsettled crlf c false e = inl refl
one_unsettled crlf c true e = let same : c ≡ 13 = grind (arith, nat_tests) in let k : crlf ≡ true = grind (arith, nat_tests) in inr (ap (λ x. x ∷ []) same, k)

pub unsettled_is : (d : Dialect) (text : List ℕ) → (unsettled d text ≡ []) ⊎ ((unsettled d text ≡ 13 ∷ []) × (d.line_terminators.crlf ≡ true))
unsettled_is d [] = inl refl
unsettled_is d (c ∷ []) = one_unsettled d.line_terminators.crlf c (d.line_terminators.crlf && (c == 13)) refl
unsettled_is d (c ∷ e ∷ cs) = unsettled_is d (e ∷ cs)

pub closing : (d : Dialect) (text : List ℕ) → (more : List ℕ) × (unsettled d text ++ more ≡ terminator_of d)
closing d text = elim (unsettled_is d text) [
  | inl e ↦ (terminator_of d, ap (λ l. l ++ terminator_of d) e)
  | inr p ↦ (10 ∷ [], ap (λ l. l ++ 10 ∷ []) p.0 ∙ sym ((term_crlf d p.1).0))
]

unsettled_breaks : (d : Dialect) (text : List ℕ) → BeginsBreak (unsettled d text)
unsettled_breaks d text = elim (unsettled_is d text) [
  | inl e ↦ subst BeginsBreak (sym e) tt
  | inr p ↦ subst BeginsBreak (sym p.0) refl
]

-- no row ends in what isn't settled
no_end_there : (d : Dialect) (row after text : List ℕ) → unsettled d text ≡ row ++ after → 0 < terminator_len d after → ⊥
no_end_there d row after text e h = elim (unsettled_is d text) [
  | inl u ↦ none row after (sym u ∙ e) h
  | inr p ↦ one row after (sym p.0 ∙ e) h
]
  where
    nil_tests : (crlf lf : Bool) → ◌≡◌ {A = ℕ} (if crlf && false then 2 else (if lf && false then 1 else 0)) 0
    nil_tests crlf lf = grind arith

    none : (row after : List ℕ) → [] ≡ row ++ after → 0 < terminator_len d after → ⊥
    none [] after e h = nothing_ends d (let P : List ℕ → Type 0 = λ x. 0 < terminator_len d x in subst P (sym e) h)
    none (r ∷ rs) after e h = absurd cc

    one : (row after : List ℕ) → 13 ∷ [] ≡ row ++ after → 0 < terminator_len d after → ⊥
    one [] after e h = let k : 0 < terminator_len d (13 ∷ []) = (let P : List ℕ → Type 0 = λ x. 0 < terminator_len d x in subst P (sym e) h) in
        omega (arith, nil_tests d.line_terminators.crlf d.line_terminators.lf)
    one (r ∷ rs) after e h = none rs after (cc) h

-- a pass that finds a row finds its end in the text
pub found_within : (d : Dialect) (st : State) (vs : List (List ℕ)) (cur text : List ℕ) (values : List (List ℕ)) (after : List ℕ)
    → finish (run d st vs cur text) false ≡ Found values after → length after ≤ length text
found_within d st vs cur text values after h = let r = sound false d st vs cur text values after h in
    omega (arith, ap length r.spelled, length-append r.row after)

ends_false : (d : Dialect) (after : List ℕ) → EndsRow false d after → 0 < terminator_len d after
ends_false d after (inl h) = h
ends_false d after (inr (t, e)) = absurd (grind arith)

pub not_in_unsettled : (d : Dialect) (st : State) (vs : List (List ℕ)) (cur text : List ℕ)
    → found_row d (finish (run d st vs cur (unsettled d text)) false) ≡ None
not_in_unsettled d st vs cur text = by_outcome (finish (run d st vs cur (unsettled d text)) false) refl
  where
    by_outcome : (o : Outcome) → finish (run d st vs cur (unsettled d text)) false ≡ o → found_row d o ≡ None
    by_outcome (Found values after) e = let r = sound false d st vs cur (unsettled d text) values after e in
        absurd (no_end_there d r.row after text r.spelled (ends_false d after r.ends))
    by_outcome (Broken stop rest) e = refl
    by_outcome (Unfinished st vs cur) e = refl

-- lengths of what is joined
pub row_reaches : (p q row after : List ℕ) → p ++ q ≡ row ++ after → length after ≤ length q → length p ≤ length row
row_reaches p q row after e h = omega (arith, ap length e, length-append p q, length-append row after)

pub regroup : (d : Dialect) (part more : List ℕ) → part ++ more ≡ settled d part ++ (unsettled d part ++ more)
regroup d part more = ap (λ l. l ++ more) (sym (settled_all d part)) ∙ append_assoc (settled d part) (unsettled d part) more

pub take_front : (p q : List ℕ) → take (length p) (p ++ q) ≡ p
take_front p q = grind (arith, common_steps)

pub take_long : (n : ℕ) (p : List ℕ) → length p ≤ n → take n p ≡ p
take_long n p h = grind (arith, common_steps)

pub settled_len : (d : Dialect) (part : List ℕ) → length part ≡ length (settled d part) + length (unsettled d part)
settled_len d part = ap length (sym (settled_all d part)) ∙ length-append (settled d part) (unsettled d part)

pub settled_fits : (d : Dialect) (part : List ℕ) → take (length part) (settled d part) ≡ take (length (settled d part)) part
settled_fits d part =
    let s = settled d part in
    let n : length s ≤ length part = omega (arith, settled_len d part) in
    take_long (length part) s n ∙ sym (take_front s (unsettled d part)) ∙ ap (take (length s)) (settled_all d part)

-- a row as it is found, with its text
pub found_is_row : (d : Dialect) (i : ℕ) (text after : List ℕ) (fields : Option (List (List ℕ))) → IsLawful d
    → next_row false d i (text ++ after) ≡ Some (fields, after)
    → IsRow d i (record { text = text; fields = fields }) after
found_is_row d i text after fields w h =
    let r = row_sound false d i (text ++ after) fields after w h in
    subst (λ (x : List ℕ). IsRow d i (record { text = x; fields = fields }) after) (sym (append_cancel_right text r.row after r.spelled)) r.is_row

-- a row that is there, by what is found
pub other_found : (d : Dialect) (i : ℕ) (part rest after : List ℕ) (other : Row) → IsLawful d → part ++ rest ≡ other.text ++ after
    → IsRow d i other after → 0 < terminator_len d after
    → next_row false d i (part ++ rest) ≡ Some (other.fields, after)
other_found d i part rest after other w e r h = ap (next_row false d i) e ∙ row_complete false d i other after w r (inl h)

pub ignored_next : (d : Dialect) (i : ℕ) (text : List ℕ) → is_ignored d i text ≡ true
    → next_row false d i text ≡ option_map (λ after. (None, after)) (line_of false d text)
ignored_next d i text e = ap (λ (b : Bool). if b then option_map (λ after. (None, after)) (line_of false d text) else found_row d
    (pass false d Start [] [] text)) e

pub fields_next : (f : Bool) (d : Dialect) (i : ℕ) (text : List ℕ) → is_ignored d i text ≡ false → next_row f d i text ≡ found_row d (pass f d Start [] [] text)
fields_next f d i text e = ap (λ (b : Bool). if b then option_map (λ after. (None, after)) (line_of f d text) else found_row d (pass f d Start [] [] text)) e

-- a ignored row that goes on
line_none : (d : Dialect) (text : List ℕ) → line_of false d (unsettled d text) ≡ None
line_none d text = by_line (line_of false d (unsettled d text)) refl
  where
    by_line : (o : Option (List ℕ)) → line_of false d (unsettled d text) ≡ o → o ≡ None
    by_line None e = refl
    by_line (Some after) e = let r = line_sound false d (unsettled d text) after e in
        absurd (no_end_there d r.line after text r.spelled (ends_false d after r.ends))

line_term : (d : Dialect) → IsLawful d → line_of false d (terminator_of d) ≡ Some (terminator_of d)
line_term d w = line_complete false d [] (terminator_of d) tt (inl (term_some d w))

pub clear_all : (d : Dialect) (part : List ℕ) → Clear d (settled d part) (unsettled d part)
clear_all d part = subst (Clear d (settled d part)) (append-nil (unsettled d part)) (settled_clear d part [])

pub continues_ignored : (d : Dialect) (i : ℕ) (part : List ℕ) → IsLawful d → is_ignored d i part ≡ true → line_of false d (settled d part) ≡ None
    → Continues d i part (length (settled d part))
continues_ignored d i part w n e = record {
  within = omega (arith, settled_len d part);
  row = record { text = s; fields = None };
  more = more;
  spelled = regroup d part more ∙ ap (λ l. s ++ l) closed;
  is_row = found_is_row d i s (terminator_of d) None w found;
  fits = settled_fits d part;
  sure = sure;
  incomplete = ignored_next d i part n ∙ ap (option_map (λ l. (None, l)))
      (ap (line_of false d) (sym (settled_all d part)) ∙ line_join d false s (unsettled d part) (clear_all d part) e ∙ line_none d part);
}
  where
    s : List ℕ
    s = settled d part

    more : List ℕ
    more = (closing d part).0

    closed : unsettled d part ++ more ≡ terminator_of d
    closed = (closing d part).1

    ignored_s : is_ignored d i s ≡ true
    ignored_s = sym (ignored_same d i s (unsettled d part) w (unsettled_breaks d part)) ∙ ap (is_ignored d i) (settled_all d part) ∙ n

    found : next_row false d i (s ++ terminator_of d) ≡ Some (None, terminator_of d)
    found = ignored_next d i (s ++ terminator_of d) (ignored_stays d i s (terminator_of d) ignored_s)
        ∙ ap (option_map (λ l. (None, l))) (line_join d false s (terminator_of d) (subst (Clear d s) closed (settled_clear d part more)) e ∙ line_term d w)

    sure : (other : Row) (rest after : List ℕ) → part ++ rest ≡ other.text ++ after → IsRow d i other after → 0 < terminator_len d after
        → length s ≤ length other.text
    sure other rest after e' r h =
        let found = sym (ignored_next d i (part ++ rest) (ignored_stays d i part rest n)) ∙ other_found d i part rest after other w e' r h in
        let line = (line_some (line_of false d (part ++ rest)) other.fields after found).0 in
        let joined : line_of false d (unsettled d part ++ rest) ≡ Some after =
        sym (ap (line_of false d) (regroup d part rest) ∙ line_join d false s (unsettled d part ++ rest) (settled_clear d part rest) e) ∙ line in
        let l = line_sound false d (unsettled d part ++ rest) after joined in
        row_reaches s (unsettled d part ++ rest) other.text after (sym (regroup d part rest) ∙ e')
        (omega (arith, ap length l.spelled, length-append l.line after))

-- a text that may become a comment
pub starts_split : (prefix text : List ℕ) → starts_with nat_eq prefix text ≡ true → (tail : List ℕ) × (prefix ≡ text ++ tail)
starts_split prefix [] h = (prefix, refl)
starts_split [] (c ∷ cs) h = absurd cc
starts_split (p ∷ ps) (c ∷ cs) h = joined (starts_split ps cs) (both (nat_eq c p) (starts_with nat_eq ps cs) h)
  where
    both : (a b : Bool) → (a && b) ≡ true → (a ≡ true) × (b ≡ true)
    both true b h = (refl, h)
    both false b h = absurd cc

    same : (a b : ℕ) → nat_eq a b ≡ true → a ≡ b
    same a b e = grind (arith, nat_tests)

    joined : (starts_with nat_eq ps cs ≡ true → (tail : List ℕ) × (ps ≡ cs ++ tail)) → (nat_eq c p ≡ true) × (starts_with nat_eq ps cs ≡ true)
        → (tail : List ℕ) × (p ∷ ps ≡ c ∷ cs ++ tail)
    joined ih (e, f) = let t = ih f in (t.0, ap (λ x. x ∷ ps) (sym (same c p e)) ∙ ap (λ l. c ∷ l) t.1)

pub starts_itself : (prefix : List ℕ) → starts_with nat_eq prefix prefix ≡ true
starts_itself [] = refl
starts_itself (p ∷ ps) = let e : nat_eq p p ≡ true = grind (arith, nat_tests) in ap (λ b. b && starts_with nat_eq ps ps) e ∙ starts_itself ps

break_parts : (a b : Bool) → (a || b) ≡ false → (a ≡ false) × (b ≡ false)
break_parts true b h = absurd cc
break_parts false b h = (refl, h)

break_front : (text tail : List ℕ) → has_break (text ++ tail) ≡ false → has_break text ≡ false
break_front [] tail h = refl
break_front (c ∷ cs) tail h = let p = break_parts (is_break c) (has_break (cs ++ tail)) h in ap (λ b. b || has_break cs) p.0 ∙ break_front cs tail p.1

no_break_here : (d : Dialect) (c : ℕ) (cs : List ℕ) → is_break c ≡ false → terminator_len d (c ∷ cs) ≡ 0
no_break_here d c cs e = zero_or (terminator_len d (c ∷ cs)) (λ h. let k = terminator_breaks d (c ∷ cs) h in absurd cc)
  where
    zero_or : (n : ℕ) → (0 < n → ⊥) → n ≡ 0
    zero_or n f = omega arith

no_terminators : (d : Dialect) (text after : List ℕ) → has_break text ≡ false → line_of false d (text ++ after) ≡ line_of false d after
no_terminators d [] after h = refl
no_terminators d (c ∷ cs) after h =
    let p = break_parts (is_break c) (has_break cs) h in
    ap (λ b. if b then Some (c ∷ cs ++ after) else line_of false d (cs ++ after)) (no_end d (c ∷ cs ++ after) (no_break_here d c (cs ++ after) p.0))
    ∙ no_terminators d cs after p.1

-- no row ends inside a text without line breaks
not_inside : (d : Dialect) (part rest row after : List ℕ) → has_break part ≡ false → part ++ rest ≡ row ++ after → 0 < terminator_len d after
    → length part ≤ length row
not_inside d [] rest row after b e h = omega arith
not_inside d (c ∷ cs) rest [] [] b e h = absurd cc
not_inside d (c ∷ cs) rest [] (a ∷ as') b e h =
    let p = break_parts (is_break c) (has_break cs) b in
    let same : c ≡ a = cc in
    let k : is_break a ≡ true = terminator_breaks d (a ∷ as') h in
    let z : true ≡ false = sym k ∙ ap is_break (sym same) ∙ p.0 in absurd cc
not_inside d (c ∷ cs) rest (r ∷ rs) after b e h =
    let p = break_parts (is_break c) (has_break cs) b in
    let tails : cs ++ rest ≡ rs ++ after = cc in
    let k = not_inside d cs rest rs after p.1 tails h in omega arith

found_not_here : (d : Dialect) (st : State) (vs : List (List ℕ)) (cur part : List ℕ) → has_break part ≡ false
    → found_row d (finish (run d st vs cur part) false) ≡ None
found_not_here d st vs cur part b = by_outcome (finish (run d st vs cur part) false) refl
  where
    by_outcome : (o : Outcome) → finish (run d st vs cur part) false ≡ o → found_row d o ≡ None
    by_outcome (Found values after) e =
        let r = sound false d st vs cur part values after e in
        let t = ends_false d after r.ends in
        let l = not_inside d part [] r.row after b (append-nil part ∙ r.spelled) t in
        let z : length after ≡ 0 = omega (arith, ap length r.spelled, length-append r.row after) in
        absurd (empty after z t)
      where
        empty : (a : List ℕ) → length a ≡ 0 → 0 < terminator_len d a → ⊥
        empty [] z t = nothing_ends d t
        empty (x ∷ xs) z t = omega arith
    by_outcome (Broken stop rest) e = refl
    by_outcome (Unfinished st vs cur) e = refl

or_right : (a b : Bool) → b ≡ true → (a || b) ≡ true
or_right true b h = refl
or_right false b h = h

pub continues_prefix : (d : Dialect) (i : ℕ) (part prefix : List ℕ) → IsLawful d → prefix_of d ≡ Some prefix → is_ignored d i part ≡ false
    → starts_with nat_eq prefix part ≡ true → Continues d i part (length part)
continues_prefix d i part prefix w o n m = record {
  within = omega arith;
  row = record { text = prefix; fields = None };
  more = tail ++ terminator_of d;
  spelled = sym (append_assoc part tail (terminator_of d)) ∙ ap (λ l. l ++ terminator_of d) (sym spelled);
  is_row = found_is_row d i prefix (terminator_of d) None w found;
  fits = ap (take (length part)) spelled ∙ take_front part tail ∙ sym (take_long (length part) part (omega arith));
  sure = λ other rest after e r h. not_inside d part rest other.text after plain e h;
  incomplete = fields_next false d i part n ∙ found_not_here d Start [] [] part plain;
}
  where
    tail : List ℕ
    tail = (starts_split prefix part m).0

    spelled : prefix ≡ part ++ tail
    spelled = (starts_split prefix part m).1

    whole : has_break prefix ≡ false
    whole = ap prefix_breaks (sym o) ∙ w.prefix

    plain : has_break part ≡ false
    plain = break_front part tail (ap has_break (sym spelled) ∙ whole)

    ignored : is_ignored d i prefix ≡ true
    ignored = or_right (nat_lt i d.skip_rows) (begins_with prefix (prefix_of d)) (ap (begins_with prefix) o ∙ starts_itself prefix)

    found : next_row false d i (prefix ++ terminator_of d) ≡ Some (None, terminator_of d)
    found = ignored_next d i (prefix ++ terminator_of d) (ignored_stays d i prefix (terminator_of d) ignored)
        ∙ ap (option_map (λ l. (None, l))) (no_terminators d prefix (terminator_of d) whole ∙ line_term d w)

pub continues_maybe : (d : Dialect) (i : ℕ) (part : List ℕ) → IsLawful d → is_ignored d i part ≡ false → may_be_comment d part ≡ true
    → Continues d i part (length part)
continues_maybe d i part w n m = by_prefix (prefix_of d) refl m
  where
    by_prefix : (o : Option (List ℕ)) → prefix_of d ≡ o → begins_prefix part o ≡ true → Continues d i part (length part)
    by_prefix None e h = absurd cc
    by_prefix (Some prefix) e h = continues_prefix d i part prefix w e n h
