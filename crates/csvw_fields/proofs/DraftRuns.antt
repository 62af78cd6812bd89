-- A text that is read on from the place where reading stopped.
use Rattle.std.proofs.Common.{◌≡◌, ◌∙◌, ℕ, zero, suc, ◌+◌, ◌<◌, ◌≤◌, Bool, true, false, ◌&&◌, if◌then◌else◌, List, [], ◌∷◌, ◌++◌, length, take, drop, refl}
use Rattle.std.proofs.Common.{sym, ap, subst, arith, append_assoc, append-nil, length-append, length-drop, length-take, inl, inr, chars}
use Rattle.std.specs.Prelude.{IsUtf8, Result, Ok, Err, IfOk}
use Rattle.std.specs.Str.{is_utf8}
use Rattle.std.proofs.lemmas.Grind.{common_steps}
use Rattle.std.proofs.lemmas.List.{take-append-drop, drop-drop, append_cancel_left}
use Rattle.std.proofs.Math.Seq.{take-append-add}
use Rattle.std.proofs.lemmas.Str.{IsUtf8-append, IsUtf8-from_is_utf8, is_utf8-from_IsUtf8, IsUtf8-drop, IsCharBoundary-from_take, chars-nil, chars-append}
use Rattle.csvw_records.specs.declared.dialect.Dialect.{Dialect}
use Rattle.csvw_fields.specs.declared.draft.Draft.{Draft}
use Rattle.csvw_fields.specs.declared.draft.Reading.{Reading}
use Rattle.csvw_fields.specs.declared.draft.Reading.TheVariants as reading
use Rattle.csvw_records.specs.declared.scan.State.{State}
use Rattle.csvw_records.specs.declared.scan.State.TheVariants.{Start, Plain, Inside, Escaped, Closed}
use Rattle.csvw_records.specs.declared.stop.RowStop.{RowStop}
use Rattle.csvw_records.specs.declared.stop.RowStop.TheVariants.{UnclosedQuote}
use Rattle.csvw_fields.specs.Drafts.{read_of, state_of, values_of, current_of, runs_on, NoneArises, IsFresh, IsDraft, IsEnded, IsBrokenOff, IsOpen, IsRowRead}
use Rattle.csvw_fields.specs.Drafts.{IsBrokenThere, IsLeftInQuotes, Reads, GoesOn}
use Rattle.csvw_records.specs.Grammar.{terminator_len}
use Rattle.csvw_records.specs.NextRow.{settled, unsettled}
use Rattle.csvw_records.specs.Scan.{Found, Broken, Unfinished, run, finish, is_quoted}
use Rattle.csvw_fields.proofs.Ascii.{split_chars}
use Rattle.csvw_fields.proofs.DraftLemmas.{front_text, text_gone, some_bytes}
use Rattle.csvw_records.specs.PassLaws.{Clear, goes_on}
use Rattle.csvw_fields.proofs.Tests.{crlf_again}
use Rattle.csvw_records.specs.RecordLaws.{RecordLaws}

unquoted_ends : (st : State) (vs : List (List ℕ)) (cur : List ℕ) → is_quoted st ≡ false → finish (Unfinished st vs cur) true ≡ Found (vs ++ cur ∷ []) []
unquoted_ends Start vs cur q = refl
unquoted_ends Plain vs cur q = refl
unquoted_ends Closed vs cur q = refl
unquoted_ends Inside vs cur q = absurd cc
unquoted_ends Escaped vs cur q = absurd cc

-- a terminator is known by the next character
clear_next : (d : Dialect) (front : List ℕ) (s : ℕ) (x y : List ℕ) → Clear d front (s ∷ x) → Clear d front (s ∷ y)
clear_next d [] s x y h = tt
clear_next d (c ∷ []) s x y h = (h.0, tt)
clear_next d (c ∷ e ∷ cs) s x y h = (refl, clear_next d (e ∷ cs) s x y h.1)

clear_none : (d : Dialect) (front : List ℕ) → Clear d front []
clear_none d [] = tt
clear_none d (c ∷ cs) = (ap (λ l. terminator_len d (c ∷ l)) (append-nil cs), clear_none d cs)

clear_front : (d : Dialect) (front s x : List ℕ) → Clear d front (s ++ x) → Clear d front s
clear_front d front [] x h = clear_none d front
clear_front d front (c ∷ cs) x h = clear_next d front c (cs ++ x) cs h

clear_join : (d : Dialect) (front s q : List ℕ) → Clear d front (s ++ q) → Clear d front s → Clear d s q → Clear d (front ++ s) q
clear_join d [] s q h g k = k
clear_join d (c ∷ cs) s q h g k = (ap (λ l. terminator_len d (c ∷ l)) (append_assoc cs s q) ∙ h.0 ∙ sym g.0, clear_join d cs s q h.1 g.1 k)

clear_back : (d : Dialect) (a b q : List ℕ) → Clear d (a ++ b) q → Clear d b q
clear_back d [] b q h = h
clear_back d (c ∷ cs) b q h = clear_back d cs b q h.1

-- the same at each place
clear_of : (d : Dialect) (text after : List ℕ) → NoneArises d text after → Clear d text after
clear_of d [] after h = tt
clear_of d (c ∷ cs) after h = (h 0 (omega arith), clear_of d cs after (λ k l. h (suc k) (omega (arith, l))))

pub clear_at : (d : Dialect) (text after : List ℕ) → Clear d text after → NoneArises d text after
clear_at d [] after h k l = absurd (omega (arith, l))
clear_at d (c ∷ cs) after h zero l = h.0
clear_at d (c ∷ cs) after h (suc k) l = clear_at d cs after h.1 k (omega (arith, l))

-- what is settled of a text whose front is
cr_alone : (d : Dialect) → terminator_len d (13 ∷ []) ≡ 0
cr_alone d = tests d.line_terminators.crlf d.line_terminators.lf
  where
    tests : (crlf lf : Bool) → ◌≡◌ {A = ℕ} (if crlf && (true && false) then 2 else (if lf && (false && true) then 1 else 0)) 0
    tests crlf lf = grind arith

settled_one_more : (d : Dialect) (front : List ℕ) (b : ℕ) (bs : List ℕ) → settled d (front ++ b ∷ bs) ≡ front ++ settled d (b ∷ bs)
settled_one_more d [] b bs = refl
settled_one_more d (c ∷ []) b bs = refl
settled_one_more d (c ∷ e ∷ cs) b bs = ap (λ l. c ∷ l) (settled_one_more d (e ∷ cs) b bs)

module _ (laws : RecordLaws) where
  settled_same : (d : Dialect) (front : List ℕ) → ((more : List ℕ) → Clear d front more) → settled d front ≡ front
  settled_same d front clear = elim (laws.passes.unsettled_is d front) [
    | inl e ↦ sym (append-nil (settled d front)) ∙ ap (λ l. settled d front ++ l) (sym e) ∙ laws.passes.settled_all d front
    | inr p ↦
        let cut : settled d front ++ 13 ∷ [] ≡ front = ap (λ l. settled d front ++ l) (sym p.0) ∙ laws.passes.settled_all d front in
        let k = clear_back d (settled d front) (13 ∷ []) (10 ∷ []) (subst (λ (l : List ℕ). Clear d l (10 ∷ [])) (sym cut) (clear (10 ∷ []))) in
        absurd (omega (arith, k.0, cr_alone d, crlf_again d [] p.1))
  ]

  pub settled_behind : (d : Dialect) (front behind : List ℕ) → ((more : List ℕ) → Clear d front (behind ++ more))
      → settled d (front ++ behind) ≡ front ++ settled d behind
  settled_behind d front [] clear = ap (settled d) (append-nil front) ∙ settled_same d front clear ∙ sym (append-nil front)
  settled_behind d front (b ∷ bs) clear = settled_one_more d front b bs

-- nothing was read
pub fresh_draft : (d : Dialect) (s : Draft) (rest : List ℕ) → IsFresh s → is_utf8 rest ≡ true → IsDraft d s rest
fresh_draft d s rest f u = record {
  within = (let r = f.read in omega (arith, r));
  back = ap (λ n. is_utf8 (drop n rest)) f.read ∙ u;
  clear = λ more k l. absurd (omega (arith, l, ap length none));
  runs = ap (run d Start [] []) none ∙ ap (λ st. Unfinished st [] []) (sym f.state) ∙ ap (λ vs. Unfinished (state_of s) vs []) (sym f.values)
      ∙ ap (λ cur. Unfinished (state_of s) (values_of s) cur) (sym f.current);
}
  where
    none : chars (take (read_of s) rest) ≡ []
    none = ap (λ n. chars (take n rest)) f.read ∙ chars-nil

-- more bytes come
pub drop_more : (n : ℕ) (a b : List ℕ) → n ≤ length a → drop n (a ++ b) ≡ drop n a ++ b
drop_more n a b h = grind (arith, common_steps)

take_more : (n : ℕ) (a b : List ℕ) → n ≤ length a → take n (a ++ b) ≡ take n a
take_more n a b h = grind (arith, common_steps)

pub draft_grows : (d : Dialect) (s : Draft) (rest more : List ℕ) → IsDraft d s rest → IsUtf8 more → IsDraft d s (rest ++ more)
draft_grows d s rest more i u =
    let n = read_of s in
    let w = i.within in
    let back = drop n rest in
    let ub = IsUtf8-from_is_utf8 back i.back in
    let dropped = drop_more n rest more w in
    let taken = take_more n rest more w in
    let joined : chars (drop n (rest ++ more)) ≡ chars back ++ chars more = ap chars dropped ∙ chars-append back more ub in
    record {
      within = omega (arith, w, length-append rest more);
      back = ap is_utf8 dropped ∙ is_utf8-from_IsUtf8 (back ++ more) (IsUtf8-append back more ub u);
      clear = λ x. subst (λ (l : List ℕ). NoneArises d (chars (take n (rest ++ more))) (l ++ x)) (sym joined)
          (subst (λ (l : List ℕ). NoneArises d (chars l) ((chars back ++ chars more) ++ x)) (sym taken)
          (subst (NoneArises d (chars (take n rest))) (sym (append_assoc (chars back) (chars more) x)) (i.clear (chars more ++ x))));
      runs = ap (λ l. run d Start [] [] (chars l)) taken ∙ i.runs;
    }

pieces : (a b : ℕ) (l : List ℕ) → a ≤ length l → take (a + b) l ≡ take a l ++ take b (drop a l)
pieces a b l h =
    let len : a ≡ length (take a l) = omega (arith, h, length-take a l) in
    ap (λ m. take (m + b) l) len ∙ ap (take (length (take a l) + b)) (sym (take-append-drop a l)) ∙ take-append-add (take a l) (drop a l) b

-- what is settled of the text behind was read
module _ (laws : RecordLaws) (d : Dialect) (s : Draft) (rest text : List ℕ) (ur : IsUtf8 rest) (ut : IsUtf8 text) (i : IsDraft d s rest)
    (front : text ≡ take (length text) (drop (read_of s) rest)) (same : chars text ≡ settled d (chars (drop (read_of s) rest))) where
  abbrev n : ℕ
  n = read_of s

  abbrev behind : List ℕ
  behind = drop n rest

  abbrev before : List ℕ
  before = chars (take n rest)

  abbrev tail : List ℕ
  tail = drop (length text) behind

  long : (length text ≤ length behind) × (n + length text ≤ length rest)
  long =
      let w = i.within in
      let k : length text ≤ length behind = (let h = ap length front in omega (arith, h, length-take (length text) behind)) in
      (k, omega (arith, w, k, length-drop n rest))

  ub : IsUtf8 behind
  ub = IsUtf8-from_is_utf8 behind i.back

  utail : IsUtf8 tail
  utail = IsUtf8-drop behind (length text) ub (IsCharBoundary-from_take behind (length text) ub long.0 (subst IsUtf8 front ut))

  whole : behind ≡ text ++ tail
  whole = sym (take-append-drop (length text) behind) ∙ ap (λ l. l ++ tail) (sym front)

  left : chars tail ≡ unsettled d (chars behind)
  left = append_cancel_left (chars text) (chars tail) (unsettled d (chars behind))
      (sym (chars-append text tail ut) ∙ ap chars (sym whole) ∙ sym (laws.passes.settled_all d (chars behind))
      ∙ ap (λ l. l ++ unsettled d (chars behind)) (sym same))

  split : chars rest ≡ before ++ chars behind
  split = split_chars rest n (front_text rest n ur i.within i.back)

  further : (k : ℕ) → k ≤ length text → drop (n + k) rest ≡ drop k text ++ tail
  further k h = sym (drop-drop k n rest) ∙ ap (drop k) whole ∙ drop_more k text tail h

  clears : (more : List ℕ) → Clear d before (chars text ++ (unsettled d (chars behind) ++ more))
  clears more = subst (Clear d before) (ap (λ l. l ++ more) (sym (laws.passes.settled_all d (chars behind))
      ∙ ap (λ l. l ++ unsettled d (chars behind)) (sym same)) ∙ append_assoc (chars text) (unsettled d (chars behind)) more)
      (clear_of d before (chars behind ++ more) (i.clear more))

  clear_text : Clear d before (chars text)
  clear_text = clear_front d before (chars text) (unsettled d (chars behind) ++ []) (clears [])

  clear_tail : (more : List ℕ) → Clear d (chars text) (unsettled d (chars behind) ++ more)
  clear_tail more = subst (λ (l : List ℕ). Clear d l (unsettled d (chars behind) ++ more)) (sym same) (laws.passes.settled_clear d (chars behind) more)

  taken : chars (take (n + length text) rest) ≡ before ++ chars text
  taken = ap chars (pieces n (length text) rest i.within)
      ∙ chars-append (take n rest) (take (length text) behind) (front_text rest n ur i.within i.back) ∙ ap (λ l. before ++ chars l) (sym front)

  all_settled : before ++ chars text ≡ settled d (chars rest)
  all_settled = ap (λ l. before ++ l) same
      ∙ sym (settled_behind laws d before (chars behind) (λ more. clear_of d before (chars behind ++ more) (i.clear more))) ∙ ap (settled d) (sym split)

  pieces_all : chars rest ≡ before ++ (chars text ++ chars tail)
  pieces_all = split ∙ ap (λ l. before ++ l) (ap chars whole ∙ chars-append text tail ut)

  pub reads_open : (t : Draft) → read_of t ≡ n + length text → runs_on d s (chars text) ≡ Unfinished (state_of t) (values_of t) (current_of t) → IsOpen d t rest
  reads_open t r e =
      let gone : drop (read_of t) rest ≡ tail = ap (λ k. drop k rest) r ∙ further (length text) (omega arith)
      ∙ ap (λ l. l ++ tail) (none (length text) text refl) in
      let here : chars (take (read_of t) rest) ≡ before ++ chars text = ap (λ k. chars (take k rest)) r ∙ taken in
      record {
        draft = record {
          within = (let k = long.1 in omega (arith, r, k));
          back = ap is_utf8 gone ∙ is_utf8-from_IsUtf8 tail utail;
          clear = λ more. subst (λ (l : List ℕ). NoneArises d (chars (take (read_of t) rest)) (l ++ more)) (sym (ap chars gone ∙ left))
              (subst (λ (l : List ℕ). NoneArises d l (unsettled d (chars behind) ++ more)) (sym here)
              (clear_at d (before ++ chars text) (unsettled d (chars behind) ++ more)
              (clear_join d before (chars text) (unsettled d (chars behind) ++ more) (clears more) clear_text (clear_tail more))));
          runs = ap (run d Start [] []) here ∙ laws.passes.run_join d Start [] [] before (chars text) clear_text ∙ ap (λ o. goes_on d o (chars text)) i.runs
              ∙ e;
        };
        all = here ∙ all_settled;
      }
    where
      none : (k : ℕ) (l : List ℕ) → k ≡ length l → drop k l ≡ []
      none k l e = grind (arith, common_steps)

  pub reads_row : (t : Draft) (len : ℕ) → IsEnded d s t text len → IsRowRead d false t rest
  reads_row t len k =
      let w = k.within in
      let gone : drop (read_of t) rest ≡ drop len text ++ tail = ap (λ k. drop k rest) k.read ∙ further len w in
      let uk = IsUtf8-from_is_utf8 (drop len text) k.back in
      record {
        within = (let r = k.read in let l = long.1 in omega (arith, r, l, w));
        back = ap is_utf8 gone ∙ is_utf8-from_IsUtf8 (drop len text ++ tail) (IsUtf8-append (drop len text) tail uk utail);
        found = ap (λ o. finish o false) (ap (run d Start [] []) pieces_all
            ∙ laws.passes.run_join d Start [] [] before (chars text ++ chars tail)
            (subst (λ (l : List ℕ). Clear d before (chars text ++ l)) (append-nil (unsettled d (chars behind)) ∙ sym left) (clears []))
            ∙ ap (λ o. goes_on d o (chars text ++ chars tail)) i.runs
            ∙ laws.passes.run_join d (state_of s) (values_of s) (current_of s) (chars text) (chars tail)
            (subst (Clear d (chars text)) (append-nil (unsettled d (chars behind)) ∙ sym left) (clear_tail []))
            ∙ ap (λ o. goes_on d o (chars tail)) k.found
            ∙ ap (Found (values_of t)) (sym (ap chars gone ∙ chars-append (drop len text) tail uk)));
      }

  pub reads_broken : (t : Draft) (stop : RowStop) (len : ℕ) → IsBrokenOff d s t text stop len → IsBrokenThere d false t rest stop
  reads_broken t stop len k =
      let w = k.within in
      let r = k.read in
      let l = long.1 in
      let gone : drop (read_of t) rest ≡ drop len text ++ tail = ap (λ k. drop k rest) k.read ∙ further len w in
      let uk = IsUtf8-from_is_utf8 (drop len text) k.back in
      let left_chars : chars (drop (read_of t) rest) ≡ chars (drop len text) ++ chars tail = ap chars gone ∙ chars-append (drop len text) tail uk in
      let some = (laws.passes.broken_within d (state_of s) (values_of s) (current_of s) (chars text) stop (chars (drop len text)) k.broken).1 in
      let more = some_bytes (drop len text) some in
      let there = is_utf8-from_IsUtf8 (drop len text ++ tail) (IsUtf8-append (drop len text) tail uk utail) in
      let back : is_utf8 (drop (read_of t) rest) ≡ true = ap is_utf8 gone ∙ there in
      let inside : read_of t < length rest = omega (arith, more, w, r, l, length-drop len text) in
      let taken_chars : chars rest ≡ chars (take (read_of t) rest) ++ chars (drop (read_of t) rest) =
      split_chars rest (read_of t) (front_text rest (read_of t) ur (omega (arith, inside)) back) in
      record {
        within = inside;
        back = back;
        broken = ap (run d Start [] []) pieces_all
            ∙ laws.passes.run_join d Start [] [] before (chars text ++ chars tail)
            (subst (λ (l : List ℕ). Clear d before (chars text ++ l)) (append-nil (unsettled d (chars behind)) ∙ sym left) (clears []))
            ∙ ap (λ o. goes_on d o (chars text ++ chars tail)) i.runs
            ∙ laws.passes.run_join d (state_of s) (values_of s) (current_of s) (chars text) (chars tail)
            (subst (Clear d (chars text)) (append-nil (unsettled d (chars behind)) ∙ sym left) (clear_tail []))
            ∙ ap (λ o. goes_on d o (chars tail)) k.broken
            ∙ ap (Broken stop) (sym left_chars);
        settled = λ e.
            omega (
              arith,
              some,
              ap length taken_chars,
              length-append (chars (take (read_of t) rest)) (chars (drop (read_of t) rest)),
              ap length left_chars,
              length-append (chars (drop len text)) (chars tail),
              ap length pieces_all,
              length-append before (chars text ++ chars tail),
              length-append (chars text) (chars tail),
              ap length all_settled,
              length-append before (chars text),
            );
      }

module _ (laws : RecordLaws) where
  pub reads_goes : {E : Type 0} (d : Dialect) (s t : Draft) (rest text : List ℕ) (r : Result Reading E) → IsUtf8 rest → IsUtf8 text → IsDraft d s rest
      → text ≡ take (length text) (drop (read_of s) rest)
      → chars text ≡ settled d (chars (drop (read_of s) rest)) → IfOk r (Reads d s t text) → IfOk r (GoesOn d false t rest)
  reads_goes d s t rest text (Ok reading.Unfinished) ur ut i front same e = (refl, reads_open laws d s rest text ur ut i front same t e.0 e.1)
  reads_goes d s t rest text (Ok reading.Ended) ur ut i front same e = reads_row laws d s rest text ur ut i front same t e.0 e.1
  reads_goes d s t rest text (Ok (reading.Broken stop)) ur ut i front same e = inl (reads_broken laws d s rest text ur ut i front same t stop e.0 e.1)
  reads_goes d s t rest text (Err x) ur ut i front same e = e

-- the last text, of which all was read
module _ (laws : RecordLaws) (d : Dialect) (s : Draft) (rest : List ℕ) (ur : IsUtf8 rest) (i : IsDraft d s rest) where
  abbrev all_behind : List ℕ
  all_behind = drop (read_of s) rest

  runs_all : run d Start [] [] (chars rest) ≡ runs_on d s (chars all_behind)
  runs_all =
      let read = chars (take (read_of s) rest) in
      ap (run d Start [] []) (split_chars rest (read_of s) (front_text rest (read_of s) ur i.within i.back))
      ∙ laws.passes.run_join d Start [] [] read (chars all_behind)
      (subst (λ (l : List ℕ). Clear d read l) (append-nil (chars all_behind)) (clear_of d read (chars all_behind ++ []) (i.clear [])))
      ∙ ap (λ o. goes_on d o (chars all_behind)) i.runs

  all_long : read_of s + length all_behind ≡ length rest
  all_long = let w = i.within in omega (arith, w, length-drop (read_of s) rest)

  pub last_ended : (t : Draft) (len : ℕ) → IsEnded d s t all_behind len → IsRowRead d true t rest
  last_ended t len k =
      let gone : drop (read_of t) rest ≡ drop len all_behind = ap (λ n. drop n rest) k.read ∙ sym (drop-drop len (read_of s) rest) in
      record {
        within = (let r = k.read in let w = k.within in let l = all_long in omega (arith, r, w, l));
        back = ap is_utf8 gone ∙ k.back;
        found = ap (λ o. finish o true) (runs_all ∙ k.found ∙ ap (λ l. Found (values_of t) (chars l)) (sym gone));
      }

  pub last_open : (t u : Draft) → read_of t ≡ read_of s + length all_behind
      → runs_on d s (chars all_behind) ≡ Unfinished (state_of t) (values_of t) (current_of t) → is_quoted (state_of t) ≡ false
      → read_of u ≡ read_of t → values_of u ≡ values_of t ++ current_of t ∷ [] → IsRowRead d true u rest
  last_open t u r e q ru vu =
      let all : read_of u ≡ length rest = (let l = all_long in omega (arith, r, ru, l)) in
      record {
        within = omega (arith, all);
        back = text_gone rest (read_of u) all;
        found = ap (λ o. finish o true) (runs_all ∙ e) ∙ unquoted_ends (state_of t) (values_of t) (current_of t) q ∙ ap (λ l. Found l []) (sym vu)
            ∙ ap (Found (values_of u)) (sym (ap chars (none rest (read_of u) all) ∙ chars-nil));
      }
    where
      none : (l : List ℕ) (n : ℕ) → n ≡ length l → drop n l ≡ []
      none l n e = grind (arith, common_steps)

  pub last_broken : (t : Draft) (stop : RowStop) (len : ℕ) → IsBrokenOff d s t all_behind stop len → IsBrokenThere d true t rest stop
  last_broken t stop len k =
      let gone : drop (read_of t) rest ≡ drop len all_behind = ap (λ n. drop n rest) k.read ∙ sym (drop-drop len (read_of s) rest) in
      let more = some_bytes (drop len all_behind)
      ((laws.passes.broken_within d (state_of s) (values_of s) (current_of s) (chars all_behind) stop (chars (drop len all_behind)) k.broken).1) in
      record {
        within = (let r = k.read in let w = k.within in let l = all_long in omega (arith, r, w, l, more, length-drop len all_behind));
        back = ap is_utf8 gone ∙ k.back;
        broken = runs_all ∙ k.broken ∙ ap (λ l. Broken stop (chars l)) (sym gone);
        settled = λ e. absurd cc;
      }

  pub last_left : (t : Draft) → read_of t ≡ read_of s + length all_behind
      → runs_on d s (chars all_behind) ≡ Unfinished (state_of t) (values_of t) (current_of t) → is_quoted (state_of t) ≡ true
      → IsLeftInQuotes d true t rest UnclosedQuote
  last_left t r e q = record { ended = refl; all = (let l = all_long in omega (arith, r, l)); name = refl; runs = runs_all ∙ e; quoted = q }
