-- No line of sorted records is wrong.
use Rattle.std.proofs.Common.{◌≡◌, ◌≢◌, ℕ, ◌&&◌, ◌||◌, ◌==◌, true, List, [], ◌∷◌, ◌++◌, flat_map, get_or, length, refl, sym, ap, ap₂, ◌∙◌, subst, append_assoc, append-nil, length-append, arith, lit<}
use Rattle.std.specs.Prelude.{codes, decimal, nat_eq}
use Rattle.std.specs.List.{All, AllPairs, list_any}
use Rattle.std.proofs.lemmas.Bool.Decides.{Decides-eqb}
use Rattle.std.proofs.lemmas.List.{get_or_append_left, get_or_at}
use Rattle.std.proofs.lemmas.List.Elements.{All-head, All-tail}
use Rattle.std.proofs.lemmas.List.Folds.{Any-from_list_any, list_any-append}
use Rattle.csvw_key_records.specs.declared.judge.Disorder.{Disorder}
use Rattle.csvw_key_records.specs.declared.judge.Disorder.TheVariants as why
use Rattle.csvw_key_records.specs.declared.record.KeyRecord.{KeyRecord}
use Rattle.csvw_key_records.specs.declared.record.Role.{Role}
use Rattle.csvw_key_records.specs.declared.record.Role.TheVariants.{Unique, Referenced, Refers}
use Rattle.csvw_key_records.specs.declared.stop.KeyStop.TheVariants as stop
use Rattle.csvw_key_records.specs.declared.stop.LineFault.{LineFault}
use Rattle.csvw_key_records.specs.declared.stop.LineFault.TheVariants as fault
use Rattle.csvw_key_records.specs.Groups.{has_unique}
use Rattle.csvw_key_records.specs.Judging.{IsDisorder}
use Rattle.csvw_key_records.specs.Records.{Fits, front_of, line_of, role_name}
use Rattle.csvw_key_records.specs.RightRecords.{AreApart, IsSeen, RightPasses}
use Rattle.csvw_key_records.specs.Runs.{HasDisorder, HasNoEnd, HasNoRecord, IsOfLine, IsWrong}
use Rattle.csvw_key_records.specs.Sorted.{AreSorted, IsBefore}
use Rattle.csvw_key_records.proofs.Cells.{IsWithout, first_unique, wider, without_end}
use Rattle.csvw_key_records.proofs.Lines.{has_end}
use Rattle.csvw_key_records.proofs.Running.{wrong_more}
use Rattle.csvw_key_records.proofs.SameKeys.{both}
use Rattle.csvw_key_records.proofs.Uniqueness.{line_unique, no_line}

without_both : (e : ℕ) (a b : List ℕ) → IsWithout e a → IsWithout e b → IsWithout e (a ++ b)
without_both e a b first second = list_any-append (λ x. x == e) a b ∙ ap₂ (λ x y. x || y) first second

role_has_no_end : (role : Role) → IsWithout 10 (role_name role)
role_has_no_end Unique = refl
role_has_no_end Referenced = refl
role_has_no_end Refers = refl

-- a line without its line feed
abbrev body_of : KeyRecord → List ℕ
body_of r =
    front_of r ++ (role_name r.role ++ codes "," ++ decimal r.place.table ++ codes "," ++ decimal r.place.row ++ codes "," ++ decimal r.place.column)

line_body : (r : KeyRecord) → line_of r ≡ body_of r ++ 10 ∷ []
unfolding line_of
line_body r = sym (append_assoc (front_of r) (role_name r.role ++ codes "," ++ decimal r.place.table ++ codes "," ++ decimal r.place.row ++ codes "," ++ decimal r.place.column) (10 ∷ []))

body_has_no_end : (r : KeyRecord) → Fits r → IsWithout 10 (body_of r)
body_has_no_end r fits =
    let c = codes "," in
    let comma : IsWithout 10 c = refl in
    let rule = without_end 10 r.rule (lit< tt) (wider r.rule fits.front.fits) in
    let table = without_end 10 r.place.table (lit< tt) (wider r.place.table fits.place.table) in
    let row = without_end 10 r.place.row (lit< tt) fits.place.row in
    let column = without_end 10 r.place.column (lit< tt) (wider r.place.column fits.place.column) in
    let f1 = decimal r.rule ++ c in
    let f2 = f1 ++ r.key in
    let t1 = role_name r.role ++ c in
    let t2 = t1 ++ decimal r.place.table in
    let t3 = t2 ++ c in
    let t4 = t3 ++ decimal r.place.row in
    let t5 = t4 ++ c in
    let front = without_both 10 f2 c (without_both 10 f1 r.key (without_both 10 (decimal r.rule) c rule comma) fits.front.is_key.line_feed) comma in
    let one = without_both 10 (role_name r.role) c (role_has_no_end r.role) comma in
    let two = without_both 10 t2 c (without_both 10 t1 (decimal r.place.table) one table) comma in
    let three = without_both 10 t4 c (without_both 10 t3 (decimal r.place.row) two row) comma in
    without_both 10 (f2 ++ c) (t5 ++ decimal r.place.column) front (without_both 10 t5 (decimal r.place.column) three column)

-- the text begins with the line of a record
line_end : (r : KeyRecord) (x : List ℕ) → line_of r ++ x ≡ body_of r ++ 10 ∷ x
line_end r x = ap (λ t. t ++ x) (line_body r) ∙ append_assoc (body_of r) (10 ∷ []) x

-- the records after those whose lines are at the front
record After (before records : List KeyRecord) (rest : List ℕ) : Type 0 where
  more : List KeyRecord
  all : records ≡ before ++ more
  is_rest : rest ≡ flat_map line_of more
  fit : All Fits more

after : (before records : List KeyRecord) (rest : List ℕ) → All Fits before → All Fits records → flat_map line_of records ≡ flat_map line_of before ++ rest
    → After before records rest
after [] records rest f g is = record { more = records; all = refl; is_rest = sym is; fit = g }
after (b ∷ bs) [] rest f g is = absurd (no_line b (flat_map line_of bs ++ rest) (sym (is ∙ append_assoc (line_of b) (flat_map line_of bs) rest)))
after (b ∷ bs) (q ∷ qs) rest f g is =
    let one = line_unique q b (flat_map line_of qs) (flat_map line_of bs ++ rest) (All-head Fits q qs g) (All-head Fits b bs f)
    (is ∙ append_assoc (line_of b) (flat_map line_of bs) rest) in
    let others = after bs qs rest (All-tail Fits b bs f) (All-tail Fits q qs g) one.1 in
    record {
      more = others.more;
      all = ap₂ (λ x xs. x ∷ xs) one.0 others.all;
      is_rest = others.is_rest;
      fit = others.fit;
    }

-- what is so of each pair is so of each pair of a front
pairs_front : (R : KeyRecord → KeyRecord → Type 0) (xs ys : List KeyRecord) → AllPairs R (xs ++ ys) → AllPairs R xs
pairs_front R xs ys all i j d less within =
    let long = length-append xs ys in
    let pair = all i j d less (omega arith) in
    subst (λ q. R (get_or xs i d) q) (get_or_append_left xs ys d j within)
    (subst (λ p. R p (get_or (xs ++ ys) j d)) (get_or_append_left xs ys d i (omega arith)) pair)

module _ (before : List KeyRecord) (q : KeyRecord) (qs : List KeyRecord) where
  front_is : before ++ q ∷ qs ≡ (before ++ q ∷ []) ++ qs
  front_is = sym (append_assoc before (q ∷ []) qs)

  sorted_front : AreSorted (before ++ q ∷ qs) → AreSorted (before ++ q ∷ [])
  sorted_front sorted = pairs_front IsBefore (before ++ q ∷ []) qs (subst AreSorted front_is sorted)

  -- no record before it is of its row
  none_twice : AllPairs AreApart (before ++ q ∷ qs) → q.role ≡ Unique
      → list_any (λ p. has_unique q.rule q.key p && nat_eq q.place.row p.place.row) before ≡ true → ⊥
  none_twice apart role twice =
      let found = Any-from_list_any (λ p. has_unique q.rule q.key p && nat_eq q.place.row p.place.row) before twice in
      let k = found.0 in
      let p = found.1 in
      let below = found.2 in
      let long = length-append before (q ∷ qs) in
      let pair = apart k (length before) p below (omega arith) in
      let first : get_or (before ++ q ∷ qs) k p ≡ p = get_or_append_left before (q ∷ qs) p k below ∙ found.3 in
      let second : get_or (before ++ q ∷ qs) (length before) p ≡ q = get_or_at before q qs p (length before) refl in
      let pair_is : AreApart p q = subst (λ b. AreApart p b) second (subst (λ a. AreApart a (get_or (before ++ q ∷ qs) (length before) p)) first pair) in
      let parts = both (has_unique q.rule q.key p) (nat_eq q.place.row p.place.row) found.4 in
      pair_is role parts.0 ((Decides-eqb q.place.row p.place.row).0 parts.1)

-- a text of lines has an end
lines_end : (more : List KeyRecord) (rest : List ℕ) → rest ≡ flat_map line_of more → rest ≢ [] → HasNoEnd rest → ⊥
lines_end [] rest is some none = some is
lines_end (q ∷ qs) rest is some none = has_end 10 (body_of q) (flat_map line_of qs) (subst HasNoEnd (is ∙ line_end q (flat_map line_of qs)) none)

some_record : (more : List KeyRecord) (rest : List ℕ) → rest ≡ flat_map line_of more → All Fits more → HasNoRecord rest → ⊥
some_record [] rest is fits wrong =
    let none : wrong.is_line.body ++ 10 ∷ wrong.after ≡ [] =
    sym (ap (λ t. t ++ wrong.after) wrong.is_line.is ∙ append_assoc wrong.is_line.body (10 ∷ []) wrong.after) ∙ (sym wrong.begins ∙ is) in
    let long = length-append wrong.is_line.body (10 ∷ wrong.after) in
    let zero_long = ap length none in
    omega arith
some_record (q ∷ qs) rest is fits wrong =
    let whole : wrong.is_line.body ++ 10 ∷ wrong.after ≡ body_of q ++ 10 ∷ flat_map line_of qs =
    sym (ap (λ t. t ++ wrong.after) wrong.is_line.is ∙ append_assoc wrong.is_line.body (10 ∷ []) wrong.after)
    ∙ (sym wrong.begins ∙ (is ∙ line_end q (flat_map line_of qs))) in
    let same = first_unique 10 wrong.is_line.body (body_of q) wrong.after (flat_map line_of qs) wrong.is_line.no_end (body_has_no_end q (All-head Fits q qs fits)) whole in
    wrong.none q (All-head Fits q qs fits) (wrong.is_line.is ∙ (ap (λ b. b ++ 10 ∷ []) same.0 ∙ sym (line_body q)))

disordered : (before more : List KeyRecord) (rest : List ℕ) (d : Disorder) → rest ≡ flat_map line_of more → All Fits more → AreSorted (before ++ more)
    → AllPairs AreApart (before ++ more) → (d ≡ why.Memory → ⊥) → HasDisorder before rest d → ⊥
disordered before [] rest d is fits sorted apart named wrong = no_line wrong.next wrong.after (sym wrong.begins ∙ is)
disordered before (q ∷ qs) rest d is fits sorted apart named wrong =
    let same = line_unique wrong.next q wrong.after (flat_map line_of qs) wrong.fits (All-head Fits q qs fits) (sym wrong.begins ∙ is) in
    fails d (subst (λ r. IsDisorder before r d) same.0 wrong.fails) named
  where
    fails : (d : Disorder) → IsDisorder before q d → (d ≡ why.Memory → ⊥) → ⊥
    fails why.Memory disorder named = named refl
    fails why.Order disorder named = disorder (sorted_front before q qs sorted)
    fails why.Twice disorder named = disorder (sorted_front before q qs sorted)
    fails why.Row disorder named = none_twice before q qs apart disorder.0 disorder.1

pub passes : RightPasses
passes records text rest s n wrong right is seen halts =
    let whole : flat_map line_of records ≡ flat_map line_of halts.records ++ (halts.rest ++ rest) =
    is ∙ (ap (λ t. t ++ rest) halts.is_text ∙ append_assoc (flat_map line_of halts.records) halts.rest rest) in
    let others = after halts.records records (halts.rest ++ rest) halts.judged.fit right.fit whole in
    of others wrong seen halts.wrong
  where
    more_wrong : (f : LineFault) → IsOfLine (stop.Line n f) → IsWrong halts.records halts.rest (stop.Line n f)
        → IsWrong halts.records (halts.rest ++ rest) (stop.Line n f)
    more_wrong f of_line is = wrong_more halts.records halts.rest rest (stop.Line n f) of_line is

    of : (others : After halts.records records (halts.rest ++ rest)) (f : LineFault) → IsSeen rest f → IsWrong halts.records halts.rest (stop.Line n f) → ⊥
    of others fault.NoRecord seen is = some_record others.more (halts.rest ++ rest) others.is_rest others.fit (more_wrong fault.NoRecord tt is)
    of others fault.Cut seen is =
        let none : halts.rest ++ rest ≡ halts.rest = ap (λ t. halts.rest ++ t) seen ∙ append-nil halts.rest in
        lines_end others.more halts.rest (sym none ∙ others.is_rest) is.0 is.1
    of others fault.TooLong seen is = seen
    of others fault.Order seen is =
        disordered halts.records others.more (halts.rest ++ rest) why.Order others.is_rest others.fit (subst AreSorted others.all right.sorted)
        (subst (AllPairs AreApart) others.all right.apart) (λ same. cc) (more_wrong fault.Order tt is)
    of others fault.Twice seen is =
        disordered halts.records others.more (halts.rest ++ rest) why.Twice others.is_rest others.fit (subst AreSorted others.all right.sorted)
        (subst (AllPairs AreApart) others.all right.apart) (λ same. cc) (more_wrong fault.Twice tt is)
    of others fault.Row seen is =
        disordered halts.records others.more (halts.rest ++ rest) why.Row others.is_rest others.fit (subst AreSorted others.all right.sorted)
        (subst (AllPairs AreApart) others.all right.apart) (λ same. cc) (more_wrong fault.Row tt is)
