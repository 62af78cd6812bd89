-- The number of characters that show that a rule is broken.
use Rattle.std.proofs.Common.{◌≡◌, ℕ, zero, suc, ◌+◌, ◌-◌, ◌<◌, ◌≤◌, Bool, true, false, ◌&&◌, List, [], ◌∷◌, ◌++◌, length, take, drop, get_or, Option}
use Rattle.std.proofs.Common.{Some, None, refl, sym, ap, ◌∙◌, subst, arith, append-nil, length-append, length-drop, ◌⊎◌, inl, inr, nat_eq}
use Rattle.std.specs.List.{starts_with}
use Rattle.std.proofs.lemmas.Bool.{cases_lt}
use Rattle.std.proofs.lemmas.Grind.{common_steps}
use Rattle.std.proofs.lemmas.List.{take-append-drop}
use Rattle.csvw_records.specs.declared.dialect.Dialect.{Dialect}
use Rattle.csvw_records.specs.declared.stop.RowStop.{RowStop}
use Rattle.csvw_records.specs.declared.stop.RowStop.TheVariants.{BadQuote, TextAfterQuote, UnclosedQuote}
use Rattle.csvw_records.specs.declared.scan.State.{State}
use Rattle.csvw_records.specs.declared.scan.State.TheVariants.{Start, Plain, Inside, Escaped, Closed}
use Rattle.csvw_records.specs.Files.{is_ignored}
use Rattle.csvw_records.specs.Lawful.{prefix_of}
use Rattle.csvw_records.specs.Scan.{Outcome, Found, Broken, Unfinished, is_quoted, run, finish}
use Rattle.csvw_records.specs.NextRow.{settled, unsettled, found_row, next_row, may_be_comment, begins_prefix}
use Rattle.csvw_records.specs.PartOfRow.{Breaks}
use Rattle.csvw_records.specs.Stops.{AfterFields, IsBroken, IsLeftOpen}
use Rattle.csvw_records.specs.AtFront.{IsCommon, IsPrefixLen, IsCr, IsShown, IsWrong}
use Rattle.csvw_records.proofs.Joins.{settled_all}
use Rattle.csvw_records.specs.PassLaws.{goes_on}
use Rattle.csvw_records.proofs.IgnoredRows.{ignored_stays}
use Rattle.csvw_records.proofs.Broken.{run_tells}
use Rattle.csvw_records.specs.RowLaws.{Tells, IsRule}
use Rattle.csvw_records.proofs.Continue.{unsettled_is, settled_len, fields_next, starts_split}
use Rattle.csvw_records.proofs.Sees.{run_on}
use Rattle.csvw_records.proofs.SettledLemmas.{settled_last}
use Rattle.csvw_records.proofs.RunSteps.{broken_within}

take_len : (n : ℕ) (l : List ℕ) → n ≤ length l → length (take n l) ≡ n
take_len n l h = grind (arith, common_steps)

get_take : (n k : ℕ) (l : List ℕ) → k < n → get_or (take n l) k 0 ≡ get_or l k 0
get_take n k l h = grind (arith, common_steps)

get_front : (k : ℕ) (a b : List ℕ) → k < length a → get_or (a ++ b) k 0 ≡ get_or a k 0
get_front k a b h = grind (arith, common_steps)

get_end : (a : List ℕ) (c : ℕ) → get_or (a ++ c ∷ []) (length a) 0 ≡ c
get_end [] c = refl
get_end (x ∷ xs) c = get_end xs c

split : (d : Dialect) (text : List ℕ) (k : ℕ)
    → run d Start [] [] text ≡ goes_on d (run d Start [] [] (settled d (take k text))) (unsettled d (take k text) ++ drop k text)
split d text k = ap (run d Start [] []) (sym (take-append-drop k text)) ∙ run_on d (take k text) (drop k text)

-- a text that ends in a CR that isn't settled
cr_unsettled : (d : Dialect) (text : List ℕ) (at : ℕ) → length text ≡ at + 1 → IsCr d text at → length (unsettled d text) ≡ 1
cr_unsettled d text at e (crlf, c) =
    let some : 0 < length text = omega (arith, e) in
    let place : at ≡ length text - 1 = omega (arith, e) in
    let s = settled_last d text crlf some (ap (λ n. get_or text n 0) (sym place) ∙ c) in
    omega (arith, settled_len d text, ap length s, take_len (length text - 1) text (omega arith))

unsettled_cr : (d : Dialect) (text : List ℕ) → 0 < length (unsettled d text)
    → (length (unsettled d text) ≡ 1) × ((d.line_terminators.crlf ≡ true) × (get_or text (length text - 1) 0 ≡ 13))
unsettled_cr d text h = elim (unsettled_is d text) [
  | inl e ↦ absurd (omega (arith, h, ap length e))
  | inr p ↦ (
    ap length p.0,
    (
      p.1,
      let whole : text ≡ settled d text ++ 13 ∷ [] = sym (settled_all d text) ∙ ap (λ l. settled d text ++ l) p.0 in
          let n : length text - 1 ≡ length (settled d text) = omega (arith, settled_len d text, ap length p.0) in
          ap (λ l. get_or l (length text - 1) 0) whole ∙ ap (λ n. get_or (settled d text ++ 13 ∷ []) n 0) n ∙ get_end (settled d text) 13,
    ),
  )
]

-- the text in front of a character by which the row is no comment
may_not_be : (d : Dialect) (text : List ℕ) (common len : ℕ) → IsPrefixLen (prefix_of d) text common → common < len → len ≤ length text
    → may_be_comment d (take len text) ≡ false
may_not_be d text common len p h w = by_prefix (prefix_of d) p
  where
    by_start : (prefix : List ℕ) → IsCommon prefix text common → (b : Bool) → starts_with nat_eq prefix (take len text) ≡ b → b ≡ false
    by_start prefix c false e = refl
    by_start prefix c true e =
        let t = starts_split prefix (take len text) e in
        let n = take_len len text w in
        let long : common < length prefix = omega (arith, h, n, ap length t.1, length-append (take len text) t.0) in
        let inside : common < length (take len text) = omega (arith, h, n) in
        absurd (c.most long (omega (arith, h, w)) (ap (λ l. get_or l common 0) t.1 ∙ get_front common (take len text) t.0 inside ∙ get_take len common text h))

    by_prefix : (o : Option (List ℕ)) → IsPrefixLen o text common → begins_prefix (take len text) o ≡ false
    by_prefix None p = refl
    by_prefix (Some prefix) c = by_start prefix c (starts_with nat_eq prefix (take len text)) refl

starts_take : (n : ℕ) (prefix : List ℕ) → starts_with nat_eq prefix (take n prefix) ≡ true
starts_take zero prefix = refl
starts_take (suc n) [] = refl
starts_take (suc n) (p ∷ ps) = let e : nat_eq p p ≡ true = grind arith in ap (λ b. b && starts_with nat_eq ps (take n ps)) e ∙ starts_take n ps

take_less : (m n : ℕ) (a b : List ℕ) → m ≤ n → take n a ≡ take n b → take m a ≡ take m b
take_less m n a b h e = sym (inner m n a h) ∙ ap (take m) e ∙ inner m n b h
  where
    inner : (m n : ℕ) (l : List ℕ) → m ≤ n → take m (take n l) ≡ take m l
    inner zero n l h = refl
    inner (suc m) zero l h = absurd (omega arith)
    inner (suc m) (suc n) [] h = refl
    inner (suc m) (suc n) (x ∷ xs) h = ap (λ l. x ∷ l) (inner m n xs (omega arith))

-- a text that the prefix begins with may become a comment
may_be : (d : Dialect) (text : List ℕ) (common k : ℕ) → IsPrefixLen (prefix_of d) text common → 0 < k → k ≤ common → may_be_comment d (take k text) ≡ true
may_be d text common k p some h = by_prefix (prefix_of d) p
  where
    by_prefix : (o : Option (List ℕ)) → IsPrefixLen o text common → begins_prefix (take k text) o ≡ true
    by_prefix None e = absurd (omega (arith, e, some, h))
    by_prefix (Some prefix) c = ap (starts_with nat_eq prefix) (sym (take_less k common prefix text h c.same)) ∙ starts_take k prefix

-- a rule that is broken in a front of the text is broken in the text
breaks_on : (d : Dialect) (i : ℕ) (text : List ℕ) (k : ℕ) (other stop : RowStop) (at : ℕ) → run d Start [] [] text ≡ Broken stop (drop at text)
    → (b : Breaks d i (take k text) other)
    → (other ≡ stop) × (b.rest ++ (unsettled d (take k text) ++ drop k text) ≡ drop at text)
breaks_on d i text k other stop at e b =
    let both : Broken other (b.rest ++ (unsettled d (take k text) ++ drop k text)) ≡ Broken stop (drop at text) =
    sym (split d text k ∙ ap (λ o. goes_on d o (unsettled d (take k text) ++ drop k text)) b.broken) ∙ e in
    (cc, cc)

module _ (d : Dialect) (i : ℕ) (text : List ℕ) (stop : RowStop) (at : ℕ) (n : is_ignored d i text ≡ false)
    (e : run d Start [] [] text ≡ Broken stop (drop at text)) (within : at < length text) where
  -- the part that shows it
  shown_breaks : (here common len : ℕ) → ((here ≡ at + 1) × IsCr d text at) ⊎ ((here ≡ at) × (IsCr d text at → ⊥))
      → IsPrefixLen (prefix_of d) text common → len ≤ length text → here < len → common < len
      → Breaks d i (take len text) stop
  shown_breaks here common len h p w past over = by_outcome (run d Start [] [] (settled d (take len text))) refl
    where
      part : List ℕ
      part = take len text

      not_ignored : is_ignored d i part ≡ false
      not_ignored = by_ignored (is_ignored d i part) refl
        where
          by_ignored : (b : Bool) → is_ignored d i part ≡ b → b ≡ false
          by_ignored false f = refl
          by_ignored true f = let stays = ignored_stays d i part (drop len text) f in let z : true ≡ false = sym stays
              ∙ ap (is_ignored d i) (take-append-drop len text) ∙ n in absurd cc

      not_short : (st : State) (vs : List (List ℕ)) (cur : List ℕ) → run d Start [] [] (settled d part) ≡ Unfinished st vs cur → ⊥
      not_short st vs cur o =
          let later = sym (split d text len ∙ ap (λ o. goes_on d o (unsettled d part ++ drop len text)) o) ∙ e in
          let reach = (broken_within d st vs cur (unsettled d part ++ drop len text) stop (drop at text) later).0 in
          let count : len ≤ at + length (unsettled d part) =
          omega (arith, reach, length-append (unsettled d part) (drop len text), length-drop len text, length-drop at text, within, w) in
          by_here h count
        where
          by_here : ((here ≡ at + 1) × IsCr d text at) ⊎ ((here ≡ at) × (IsCr d text at → ⊥)) → len ≤ at + length (unsettled d part) → ⊥
          by_here (inl (f, c)) count = elim (cases_lt 0 (length (unsettled d part))) [
            | inl some ↦ let u = (unsettled_cr d part some).0 in omega (arith, f, past, count, u)
            | inr no_one ↦ omega (arith, f, past, count, no_one)
          ]
          by_here (inr (f, c)) count = elim (cases_lt 0 (length (unsettled d part))) [
            | inl some ↦
                let one = unsettled_cr d part some in
                let is_cr = one.1 in
                let m = take_len len text w in
                let place : length part - 1 ≡ at = omega (arith, one.0, f, past, count, m) in
                c (is_cr.0, sym (get_take len at text (omega (arith, f, past))) ∙ ap (λ n. get_or part n 0) (sym place) ∙ is_cr.1)
            | inr no_one ↦ omega (arith, f, past, count, no_one)
          ]

      by_outcome : (o : Outcome) → run d Start [] [] (settled d part) ≡ o → Breaks d i part stop
      by_outcome (Found values after) o = let z = sym (split d text len ∙ ap (λ o. goes_on d o (unsettled d part ++ drop len text)) o) ∙ e in absurd cc
      by_outcome (Broken s rest) o =
          let z : Broken s (rest ++ (unsettled d part ++ drop len text)) ≡ Broken stop (drop at text) =
          sym (split d text len ∙ ap (λ o. goes_on d o (unsettled d part ++ drop len text)) o) ∙ e in
          let same : s ≡ stop = cc in
          record { rest = rest; not_ignored = not_ignored; may_not = may_not_be d text common len p over w; broken = o ∙ ap (λ x. Broken x rest) same }
      by_outcome (Unfinished st vs cur) o = absurd (not_short st vs cur o)

  -- no smaller part shows it
  shown_first : (len : ℕ) → IsShown d text at len → (k : ℕ) (other : RowStop) → k ≤ length text → Breaks d i (take k text) other → (len ≤ k) × (other ≡ stop)
  shown_first len s k other h b = (by_least s.least, on.0)
    where
      on : (other ≡ stop) × (b.rest ++ (unsettled d (take k text) ++ drop k text) ≡ drop at text)
      on = breaks_on d i text k other stop at e b

      some : 0 < length b.rest
      some = (broken_within d Start [] [] (settled d (take k text)) other b.rest b.broken).1

      count : at + 1 + length (unsettled d (take k text)) ≤ k
      count = omega (
        arith,
        some,
        h,
        within,
        ap length on.1,
        length-append b.rest (unsettled d (take k text) ++ drop k text),
        length-append (unsettled d (take k text)) (drop k text),
        length-drop k text,
        length-drop at text,
      )

      past_here : s.here + 1 ≤ k
      past_here = by_here s.is_here
        where
          by_here : ((s.here ≡ at + 1) × IsCr d text at) ⊎ ((s.here ≡ at) × (IsCr d text at → ⊥)) → s.here + 1 ≤ k
          by_here (inr (f, c)) = omega (arith, f, count)
          by_here (inl (f, c)) = elim (cases_lt (at + 1) k) [
            | inl more ↦ omega (arith, f, more)
            | inr last ↦
                let m = take_len k text h in
                let z : length (take k text) ≡ at + 1 = omega (arith, m, last, count) in
                let u = cr_unsettled d (take k text) at z (c.0, get_take k at text (omega (arith, count)) ∙ c.1) in
                omega (arith, u, count, last)
          ]

      past_common : s.common + 1 ≤ k
      past_common = elim (cases_lt s.common k) [
        | inl more ↦ omega (arith, more)
        | inr less ↦ let z : true ≡ false = sym (may_be d text s.common k s.is_common (omega (arith, count)) less) ∙ b.may_not in absurd cc
      ]

      by_least : (len ≤ s.here + 1) ⊎ (len ≤ s.common + 1) → len ≤ k
      by_least (inl l) = omega (arith, l, past_here)
      by_least (inr l) = omega (arith, l, past_common)

  is_rule : (whole : Bool) → IsBroken d i text whole stop
  is_rule whole = by_stop stop (subst (Tells d text) e (run_tells d text))
    where
      by_stop : (s : RowStop) → IsRule d text s → IsBroken d i text whole s
      by_stop BadQuote r = (n, r)
      by_stop TextAfterQuote r = (n, r)
      by_stop other r = absurd r

  none_found : (f : Bool) → next_row f d i text ≡ None
  none_found f = fields_next f d i text n ∙ ap (λ o. found_row d (finish o f)) e

  pub wrong_whole : (len : ℕ) → IsShown d text at len → IsWrong true d i text len stop
  wrong_whole len s = record {
    within = s.within;
    stands = by_places s.past_here s.past_common;
    first = shown_first len s;
    no_row = (none_found true, none_found false);
    is_broken = λ w. is_rule true;
  }
    where
      by_places : (s.here < len) ⊎ (len ≡ length text) → (s.common < len) ⊎ (len ≡ length text)
          → Breaks d i (take len text) stop ⊎ ((true ≡ true) × (len ≡ length text))
      by_places (inl a) (inl b) = inl (shown_breaks s.here s.common len s.is_here s.is_common s.within a b)
      by_places (inr a) b = inr (refl, a)
      by_places (inl a) (inr b) = inr (refl, b)

  pub wrong_part : (len : ℕ) → IsShown d text at len → may_be_comment d text ≡ false → at < length (settled d text) → IsWrong false d i text len stop
  wrong_part len s m front = record {
    within = s.within;
    stands = inl (shown_breaks s.here s.common len s.is_here s.is_common s.within (past_here s.past_here) (past_common s.past_common));
    first = shown_first len s;
    no_row = (none_found false, none_found false);
    is_broken = λ w. absurd cc;
  }
    where
      whole : take (length text) text ≡ text
      whole = grind (arith, common_steps)

      past_common : (s.common < len) ⊎ (len ≡ length text) → s.common < len
      past_common (inl a) = a
      past_common (inr a) = elim (cases_lt s.common len) [
        | inl b ↦ b
        | inr b ↦ let z : true ≡ false = sym (may_be d text s.common (length text) s.is_common (omega (arith, within)) (omega (arith, a, b)))
            ∙ ap (may_be_comment d) whole ∙ m in absurd cc
      ]

      past_here : (s.here < len) ⊎ (len ≡ length text) → s.here < len
      past_here (inl a) = a
      past_here (inr a) = by_here s.is_here
        where
          by_here : ((s.here ≡ at + 1) × IsCr d text at) ⊎ ((s.here ≡ at) × (IsCr d text at → ⊥)) → s.here < len
          by_here (inr (f, c)) = omega (arith, f, a, within)
          by_here (inl (f, c)) = elim (cases_lt s.here len) [
            | inl b ↦ b
            | inr b ↦
                let u = cr_unsettled d text at (omega (arith, a, b, f, within)) c in
                absurd (omega (arith, u, front, settled_len d text, a, b, f))
          ]

-- a quote that isn't closed where the text has ended
pub left_open : (d : Dialect) (i : ℕ) (text : List ℕ) (st : State) (vs : List (List ℕ)) (cur : List ℕ) → is_ignored d i text ≡ false
    → run d Start [] [] text ≡ Unfinished st vs cur → is_quoted st ≡ true
    → IsWrong true d i text (length text) UnclosedQuote
left_open d i text st vs cur n e q = record {
  within = omega arith;
  stands = inr (refl, refl);
  first = λ k other h b.
      let z : Broken other (b.rest ++ (unsettled d (take k text) ++ drop k text)) ≡ Unfinished st vs cur =
      sym (split d text k ∙ ap (λ o. goes_on d o (unsettled d (take k text) ++ drop k text)) b.broken) ∙ e in
      absurd cc;
  no_row = (
    fields_next true d i text n ∙ ap (λ o. found_row d (finish o true)) e ∙ ended st q,
    fields_next false d i text n
        ∙ ap (λ o. found_row d (finish o false)) e ∙ open_end st,
  );
  is_broken = λ w. (n, refl, by_state st q (subst (Tells d text) e (run_tells d text)));
}
  where
    ended : (st : State) → is_quoted st ≡ true → found_row d (finish (Unfinished st vs cur) true) ≡ None
    ended Inside q = refl
    ended Escaped q = refl
    ended Start q = absurd cc
    ended Plain q = absurd cc
    ended Closed q = absurd cc

    open_end : (st : State) → found_row d (finish (Unfinished st vs cur) false) ≡ None
    open_end Inside = refl
    open_end Escaped = refl
    open_end Start = refl
    open_end Plain = refl
    open_end Closed = refl

    by_state : (st : State) → is_quoted st ≡ true → Tells d text (Unfinished st vs cur) → IsLeftOpen d text
    by_state Inside q (values, src, a, o) = record {
      values = values;
      source = src;
      value = cur;
      escape = [];
      before = subst (λ l. AfterFields d text values l) (sym (append-nil src)) a;
      opened = o;
      last = inl refl;
    }
    by_state Escaped q (values, src, a, (opened, o, f, single)) =
        record {
          values = values;
          source = opened;
          value = cur;
          escape = 92 ∷ [];
          before = subst (λ l. AfterFields d text values l) f a;
          opened = o;
          last = inr (refl, single);
        }
    by_state Start q x = absurd cc
    by_state Plain q x = absurd cc
    by_state Closed q x = absurd cc
