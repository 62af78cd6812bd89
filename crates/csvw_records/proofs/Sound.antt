-- A row that is read is a row of the grammar.
use Rattle.std.proofs.Common.{◌≡◌, ◌≢◌, ℕ, ◌<◌, Bool, true, false, ◌&&◌, ◌==◌, not, if◌then◌else◌, List, [], ◌∷◌, ◌++◌, Option, Some, None, refl, sym}
use Rattle.std.proofs.Common.{ap, ◌∙◌, subst, arith, append_assoc, append-nil, ◌⊎◌, inl, inr}
use Rattle.csvw_records.specs.declared.dialect.Dialect.{Dialect}
use Rattle.csvw_records.specs.declared.stop.RowStop.TheVariants.{BadQuote, TextAfterQuote}
use Rattle.csvw_records.specs.declared.scan.State.{State}
use Rattle.csvw_records.specs.declared.scan.State.TheVariants.{Start, Plain, Inside, Escaped, Closed}
use Rattle.csvw_records.specs.declared.scan.Step.{Step}
use Rattle.csvw_records.specs.declared.scan.Step.TheVariants.{Keep, Skip, Open, Next, End, Stop}
use Rattle.csvw_records.specs.Grammar.{terminator_len, IsPlain, AreSkipped, AreUnits, IsUnit, IsOpened, IsField, AreFields}
use Rattle.csvw_records.specs.Files.{EndsRow}
use Rattle.csvw_records.specs.Scan.{Found, Broken, quote_is, pass}
use Rattle.csvw_records.proofs.RunSteps.{run_by}
use Rattle.csvw_records.specs.PassLaws.{ends_at}
use Rattle.std.proofs.lemmas.Bool.Decides.{nat_tests}

-- inside quotes: what is left of the field, its closing quote included
pub record InsideRest (d : Dialect) (q : ℕ) (cur source value : List ℕ) : Type 0 where
  pub inside : List ℕ
  pub more : List ℕ
  pub units : AreUnits d q inside more
  pub spelled : source ≡ inside ++ q ∷ []
  pub all : value ≡ cur ++ more

pub record OpenRest (d : Dialect) (source value : List ℕ) : Type 0 where
  pub spaces : List ℕ
  pub quote : ℕ
  pub rest : List ℕ
  pub is_quote : d.quote_char ≡ Some quote
  pub skipped : AreSkipped d quote spaces
  pub spelled : source ≡ spaces ++ quote ∷ rest
  pub inside : InsideRest d quote [] rest value

pub record EscapedRest (d : Dialect) (cur source value : List ℕ) : Type 0 where
  pub c : ℕ
  pub rest : List ℕ
  pub quote : ℕ
  pub is_quote : d.quote_char ≡ Some quote
  pub spelled : source ≡ c ∷ rest
  pub inside : InsideRest d quote (cur ++ c ∷ []) rest value

pub record DoubledRest (d : Dialect) (cur source value : List ℕ) : Type 0 where
  pub rest : List ℕ
  pub quote : ℕ
  pub is_quote : d.quote_char ≡ Some quote
  pub double : d.double_quote ≡ true
  pub spelled : source ≡ quote ∷ rest
  pub inside : InsideRest d quote (cur ++ quote ∷ []) rest value

-- what is left of a field of which cur was read
abbrev pub FieldRest : Dialect → State → List ℕ → List ℕ → List ℕ → List ℕ → Type 0
FieldRest d Start cur source value after = (IsPlain d source after × (value ≡ cur ++ source)) ⊎ OpenRest d source value
FieldRest d Plain cur source value after = IsPlain d source after × (value ≡ cur ++ source)
FieldRest d Inside cur source value after = (q : ℕ) × (d.quote_char ≡ Some q) × InsideRest d q cur source value
FieldRest d Escaped cur source value after = EscapedRest d cur source value
FieldRest d Closed cur source value after = ((source ≡ []) × (value ≡ cur)) ⊎ DoubledRest d cur source value

-- what is left of a row
abbrev pub RowRest : Dialect → State → List ℕ → List ℕ → List (List ℕ) → List ℕ → Type 0
RowRest d st cur row [] after = ⊥
RowRest d st cur row (v ∷ []) after = FieldRest d st cur row v after
RowRest d st cur row (v ∷ u ∷ us) after = (source more : List ℕ) × (row ≡ source ++ d.delimiter ∷ more)
    × FieldRest d st cur source v (d.delimiter ∷ more ++ after) × AreFields d more (u ∷ us) after

start_is_field : (d : Dialect) (source value after : List ℕ) → FieldRest d Start [] source value after → IsField d source value after
start_is_field d source value after (inl p) = inl p
start_is_field d source value after (inr o) =
    let opened : IsOpened d (o.spaces ++ o.quote ∷ o.inside.inside) value = record {
      spaces = o.spaces;
      quote = o.quote;
      inside = o.inside.inside;
      is_quote = o.is_quote;
      skipped = o.skipped;
      units = subst (AreUnits d o.quote o.inside.inside) (sym o.inside.all) o.inside.units;
      spelled = refl;
    } in
    inr (
      o.spaces ++ o.quote ∷ o.inside.inside,
      opened,
      o.spelled ∙ ap (λ l. o.spaces ++ o.quote ∷ l) o.inside.spelled
          ∙ sym (append_assoc o.spaces (o.quote ∷ o.inside.inside) (o.quote ∷ [])),
    )

pub start_is_fields : (d : Dialect) (row : List ℕ) (new : List (List ℕ)) (after : List ℕ) → RowRest d Start [] row new after → AreFields d row new after
start_is_fields d row [] after r = r
start_is_fields d row (v ∷ []) after r = start_is_field d row v after r
start_is_fields d row (v ∷ u ∷ us) after (source, more, spelled, field, fields) =
    (source, more, spelled, start_is_field d source v (d.delimiter ∷ more ++ after) field, fields)

-- what a pass found
pub record Reads (f : Bool) (d : Dialect) (st : State) (vs : List (List ℕ)) (cur text : List ℕ) (values : List (List ℕ)) (after : List ℕ) : Type 0 where
  pub row : List ℕ
  pub new : List (List ℕ)
  pub all : values ≡ vs ++ new
  pub spelled : text ≡ row ++ after
  pub fields : RowRest d st cur row new after
  pub ends : EndsRow f d after

pub ends_is : (d : Dialect) (text : List ℕ) → ends_at d text ≡ true → 0 < terminator_len d text
ends_is d text e = grind (arith, nat_tests)

pub no_ends_is : (d : Dialect) (text : List ℕ) → ends_at d text ≡ false → terminator_len d text ≡ 0
no_ends_is d text e = grind (arith, nat_tests)

reads_end : (f : Bool) (d : Dialect) (st : State) (vs : List (List ℕ)) (cur : List ℕ) (c : ℕ) (cs : List ℕ) (values : List (List ℕ)) (after : List ℕ)
    → Found (vs ++ cur ∷ []) (c ∷ cs) ≡ Found values after → ends_at d (c ∷ cs) ≡ true → ((l : List ℕ) → FieldRest d st cur [] cur l)
    → Reads f d st vs cur (c ∷ cs) values after
reads_end f d st vs cur c cs values after found e closed =
    let same : c ∷ cs ≡ after = cc in
    record { row = []; new = cur ∷ []; all = cc; spelled = same; fields = closed after; ends = subst (EndsRow f d) same (inl (ends_is d (c ∷ cs) e)) }

reads_next : (f : Bool) (d : Dialect) (st : State) (vs : List (List ℕ)) (cur : List ℕ) (c : ℕ) (cs : List ℕ) (values : List (List ℕ)) (after : List ℕ)
    → Reads f d Start (vs ++ cur ∷ []) [] cs values after → c ≡ d.delimiter → ((l : List ℕ) → FieldRest d st cur [] cur l)
    → Reads f d st vs cur (c ∷ cs) values after
reads_next f d st vs cur c cs values after r e closed = next r.row r.new r.all r.spelled r.fields r.ends
  where
    next : (row : List ℕ) (new : List (List ℕ)) → values ≡ (vs ++ cur ∷ []) ++ new → cs ≡ row ++ after → RowRest d Start [] row new after → EndsRow f d after
        → Reads f d st vs cur (c ∷ cs) values after
    next row [] all spelled fields ends = absurd fields
    next row (u ∷ us) all spelled fields ends = record {
      row = c ∷ row;
      new = cur ∷ u ∷ us;
      all = all ∙ append_assoc vs (cur ∷ []) (u ∷ us);
      spelled = ap (λ l. c ∷ l) spelled;
      fields = ([], row, ap (λ x. x ∷ row) e, closed (d.delimiter ∷ row ++ after), start_is_fields d row (u ∷ us) after fields);
      ends = ends;
    }

reads_move : (f : Bool) (d : Dialect) (st to : State) (vs : List (List ℕ)) (cur moved : List ℕ) (c : ℕ) (cs : List ℕ) (values : List (List ℕ)) (after : List ℕ)
    → Reads f d to vs moved cs values after
    → ((source value l : List ℕ) → cs ≡ source ++ l → FieldRest d to moved source value l → FieldRest d st cur (c ∷ source) value l)
    → Reads f d st vs cur (c ∷ cs) values after
reads_move f d st to vs cur moved c cs values after r back = move r.row r.new r.all r.spelled r.fields r.ends
  where
    move : (row : List ℕ) (new : List (List ℕ)) → values ≡ vs ++ new → cs ≡ row ++ after → RowRest d to moved row new after → EndsRow f d after
        → Reads f d st vs cur (c ∷ cs) values after
    move row [] all spelled fields ends = absurd fields
    move row (v ∷ []) all spelled fields ends =
        record { row = c ∷ row; new = v ∷ []; all = all; spelled = ap (λ l. c ∷ l) spelled; fields = back row v after spelled fields; ends = ends }
    move row (v ∷ u ∷ us) all spelled (source, more, joined, field, fields) ends = record {
      row = c ∷ row;
      new = v ∷ u ∷ us;
      all = all;
      spelled = ap (λ l. c ∷ l) spelled;
      fields = (
        c ∷ source,
        more,
        ap (λ l. c ∷ l) joined,
        back source v (d.delimiter ∷ more ++ after)
            (spelled ∙ ap (λ l. l ++ after) joined ∙ append_assoc source (d.delimiter ∷ more) after) field,
        fields,
      );
      ends = ends;
    }

-- the tests, by which of them decided
pub start_view : (e b q s : Bool) → let x : Step = if e then End else (if b then Next else (if q then Open else (if s then Keep Start else Keep Plain))) in
    ((e ≡ true) × (x ≡ End)) ⊎ (((e ≡ false) × (b ≡ true) × (x ≡ Next)) ⊎ (((e ≡ false) × (b ≡ false) × (q ≡ true) × (x ≡ Open))
    ⊎ (((e ≡ false) × (b ≡ false) × (q ≡ false) × (s ≡ true) × (x ≡ Keep Start)) ⊎ ((e ≡ false) × (b ≡ false) × (q ≡ false) × (s ≡ false) × (x ≡ Keep Plain)))))
start_view true b q s = inl (refl, refl)
start_view false true q s = inr (inl (refl, refl, refl))
start_view false false true s = inr (inr (inl (refl, refl, refl, refl)))
start_view false false false true = inr (inr (inr (inl (refl, refl, refl, refl, refl))))
start_view false false false false = inr (inr (inr (inr (refl, refl, refl, refl, refl))))

pub plain_view : (e b q : Bool) → let x : Step = if e then End else (if b then Next else (if q then Stop BadQuote else Keep Plain)) in
    ((e ≡ true) × (x ≡ End)) ⊎ (((e ≡ false) × (b ≡ true) × (x ≡ Next)) ⊎ ((x ≡ Stop BadQuote) ⊎ ((e ≡ false) × (b ≡ false) × (q ≡ false) × (x ≡ Keep Plain))))
plain_view true b q = inl (refl, refl)
plain_view false true q = inr (inl (refl, refl, refl))
plain_view false false true = inr (inr (inl refl))
plain_view false false false = inr (inr (inr (refl, refl, refl, refl)))

pub inside_view : (q e : Bool) → let x : Step = if q then Skip Closed else (if e then Skip Escaped else Keep Inside) in
    ((q ≡ true) × (x ≡ Skip Closed)) ⊎ (((q ≡ false) × (e ≡ true) × (x ≡ Skip Escaped)) ⊎ ((q ≡ false) × (e ≡ false) × (x ≡ Keep Inside)))
inside_view true e = inl (refl, refl)
inside_view false true = inr (inl (refl, refl, refl))
inside_view false false = inr (inr (refl, refl, refl))

pub closed_view : (e b q : Bool) → let x : Step = if e then End else (if b then Next else (if q then Keep Inside else Stop TextAfterQuote)) in
    ((e ≡ true) × (x ≡ End)) ⊎ (((e ≡ false) × (b ≡ true) × (x ≡ Next)) ⊎ ((x ≡ Stop TextAfterQuote) ⊎ ((q ≡ true) × (x ≡ Keep Inside))))
closed_view true b q = inl (refl, refl)
closed_view false true q = inr (inl (refl, refl, refl))
closed_view false false true = inr (inr (inr (refl, refl)))
closed_view false false false = inr (inr (inl refl))

-- what a test says
pub is_same : (a b : ℕ) → (a == b) ≡ true → a ≡ b
is_same a b e = grind (arith, nat_tests)

pub not_same : (a b : ℕ) → (a == b) ≡ false → a ≢ b
not_same a b e = grind (arith, nat_tests)

pub quote_here : (o : Option ℕ) (c : ℕ) → quote_is o c ≡ true → o ≡ Some c
quote_here None c e = absurd (grind arith)
quote_here (Some q) c e = ap Some (sym (is_same c q e))

pub no_quote_here : (o : Option ℕ) (c : ℕ) → quote_is o c ≡ false → Some c ≢ o
no_quote_here None c e h = cc
no_quote_here (Some q) c e h = not_same c q e cc

pub no_quote_is : (o : Option ℕ) (c q : ℕ) → quote_is o c ≡ false → o ≡ Some q → c ≢ q
no_quote_is o c q e h k = no_quote_here o c e (ap Some k ∙ sym h)

pub and_both : (a b : Bool) → (a && b) ≡ true → (a ≡ true) × (b ≡ true)
and_both true b e = (refl, e)
and_both false b e = absurd (grind arith)

pub not_true : (a : Bool) → not a ≡ true → a ≡ false
not_true true e = absurd (grind arith)
not_true false e = refl

-- one more character of plain text
plain_back : (d : Dialect) (cur : List ℕ) (c : ℕ) (cs source value l : List ℕ) → ends_at d (c ∷ cs) ≡ false → (c == d.delimiter) ≡ false
    → quote_is d.quote_char c ≡ false
    → cs ≡ source ++ l → IsPlain d source l × (value ≡ (cur ++ c ∷ []) ++ source) → IsPlain d (c ∷ source) l × (value ≡ cur ++ c ∷ source)
plain_back d cur c cs source value l e b q spelled (p, v) =
    let here : terminator_len d (c ∷ source ++ l) ≡ 0 = subst (λ (x : List ℕ). terminator_len d (c ∷ x) ≡ 0) spelled (no_ends_is d (c ∷ cs) e) in
    ((not_same c d.delimiter b, no_quote_here d.quote_char c q, here, p), v ∙ append_assoc cur (c ∷ []) source)

-- one more unit inside quotes
unit_back : (d : Dialect) (q c : ℕ) (cur source value unit : List ℕ) → IsUnit d q unit c → InsideRest d q (cur ++ c ∷ []) source value
    → InsideRest d q cur (unit ++ source) value
unit_back d q c cur source value unit u r = record {
  inside = unit ++ r.inside;
  more = c ∷ r.more;
  units = (unit, r.inside, u, refl, r.units);
  spelled = ap (λ l. unit ++ l) r.spelled ∙ sym (append_assoc unit r.inside (q ∷ []));
  all = r.all ∙ append_assoc cur (c ∷ []) r.more;
}

pub keep_unit : (double : Bool) (q c : ℕ) → c ≢ q → (not double && (c == 92)) ≡ false → c ≢ (if double then q else 92)
keep_unit true q c n e = n
keep_unit false q c n e = not_same c 92 e

pub escape_unit : (d : Dialect) (q c : ℕ) → d.double_quote ≡ false → IsUnit d q (92 ∷ c ∷ []) c
escape_unit d q c e = inr (rw e refl, λ h. absurd (grind (arith, h, e)))

pub double_unit : (d : Dialect) (q : ℕ) → d.double_quote ≡ true → IsUnit d q (q ∷ q ∷ []) q
double_unit d q e = inr (rw e refl, λ h. refl)

abbrev Ind : Bool → Dialect → List ℕ → List (List ℕ) → List ℕ → Type 0
Ind f d cs values after = (st : State) (vs : List (List ℕ)) (cur : List ℕ) → pass f d st vs cur cs ≡ Found values after → Reads f d st vs cur cs values after

pub same_quote : (d : Dialect) (a b : ℕ) → d.quote_char ≡ Some a → d.quote_char ≡ Some b → a ≡ b
same_quote d a b e f = let g : Some a ≡ Some b = sym e ∙ f in cc

start_back : (d : Dialect) (cur : List ℕ) (c : ℕ) (cs source value l : List ℕ) → ends_at d (c ∷ cs) ≡ false → (c == d.delimiter) ≡ false
    → quote_is d.quote_char c ≡ false
    → (d.skip_initial_space && (c == 32)) ≡ true → cs ≡ source ++ l → FieldRest d Start (cur ++ c ∷ []) source value l
    → FieldRest d Start cur (c ∷ source) value l
start_back d cur c cs source value l e b q s spelled (inl p) = inl (plain_back d cur c cs source value l e b q spelled p)
start_back d cur c cs source value l e b q s spelled (inr o) =
    let skips = and_both d.skip_initial_space (c == 32) s in
    inr (record {
      spaces = c ∷ o.spaces;
      quote = o.quote;
      rest = o.rest;
      is_quote = o.is_quote;
      skipped = (skips.0, is_same c 32 skips.1, not_same c d.delimiter b, no_quote_is d.quote_char c o.quote q o.is_quote, o.skipped);
      spelled = ap (λ x. c ∷ x) o.spelled;
      inside = o.inside;
    })

sound_start : (f : Bool) (d : Dialect) (vs : List (List ℕ)) (cur : List ℕ) (c : ℕ) (cs : List ℕ) (values : List (List ℕ)) (after : List ℕ)
    → pass f d Start vs cur (c ∷ cs) ≡ Found values after → Ind f d cs values after → Reads f d Start vs cur (c ∷ cs) values after
sound_start f d vs cur c cs values after h ih =
    elim (start_view (ends_at d (c ∷ cs)) (c == d.delimiter) (quote_is d.quote_char c) (d.skip_initial_space && (c == 32))) [
      | inl p ↦ reads_end f d Start vs cur c cs values after (sym (run_by f d Start vs cur c cs End p.1) ∙ h) p.0 (λ l. inl (tt, sym (append-nil cur)))
      | inr r ↦ elim r [
        | inl p ↦ reads_next f d Start vs cur c cs values after (ih Start (vs ++ cur ∷ []) [] (sym (run_by f d Start vs cur c cs Next p.2) ∙ h))
            (is_same c d.delimiter p.1) (λ l. inl (tt, sym (append-nil cur)))
        | inr r ↦ elim r [
          | inl p ↦ reads_move f d Start Inside vs cur [] c cs values after (ih Inside vs [] (sym (run_by f d Start vs cur c cs Open p.3) ∙ h))
              (λ source value l spelled field. inr (record {
                spaces = [];
                quote = field.0;
                rest = source;
                is_quote = field.1;
                skipped = tt;
                spelled = ap (λ x. x ∷ source) (same_quote d c field.0 (quote_here d.quote_char c p.2) field.1);
                inside = field.2;
              }))
          | inr r ↦ elim r [
            | inl p ↦ reads_move f d Start Start vs cur (cur ++ c ∷ []) c cs values after
                (ih Start vs (cur ++ c ∷ []) (sym (run_by f d Start vs cur c cs (Keep Start) p.4) ∙ h))
                (λ source value l spelled field. start_back d cur c cs source value l p.0 p.1 p.2 p.3 spelled field)
            | inr p ↦ reads_move f d Start Plain vs cur (cur ++ c ∷ []) c cs values after
                (ih Plain vs (cur ++ c ∷ []) (sym (run_by f d Start vs cur c cs (Keep Plain) p.4) ∙ h))
                (λ source value l spelled field. inl (plain_back d cur c cs source value l p.0 p.1 p.2 spelled field))
          ]
        ]
      ]
    ]

sound_plain : (f : Bool) (d : Dialect) (vs : List (List ℕ)) (cur : List ℕ) (c : ℕ) (cs : List ℕ) (values : List (List ℕ)) (after : List ℕ)
    → pass f d Plain vs cur (c ∷ cs) ≡ Found values after → Ind f d cs values after → Reads f d Plain vs cur (c ∷ cs) values after
sound_plain f d vs cur c cs values after h ih =
    elim (plain_view (ends_at d (c ∷ cs)) (c == d.delimiter) (quote_is d.quote_char c)) [
      | inl p ↦ reads_end f d Plain vs cur c cs values after (sym (run_by f d Plain vs cur c cs End p.1) ∙ h) p.0 (λ l. (tt, sym (append-nil cur)))
      | inr r ↦ elim r [
        | inl p ↦ reads_next f d Plain vs cur c cs values after (ih Start (vs ++ cur ∷ []) [] (sym (run_by f d Plain vs cur c cs Next p.2) ∙ h))
            (is_same c d.delimiter p.1) (λ l. (tt, sym (append-nil cur)))
        | inr r ↦ elim r [
          | inl p ↦ let bad : Broken BadQuote (c ∷ cs) ≡ Found values after = sym (run_by f d Plain vs cur c cs (Stop BadQuote) p) ∙ h in absurd cc
          | inr p ↦ reads_move f d Plain Plain vs cur (cur ++ c ∷ []) c cs values after
              (ih Plain vs (cur ++ c ∷ []) (sym (run_by f d Plain vs cur c cs (Keep Plain) p.3) ∙ h))
              (λ source value l spelled field. plain_back d cur c cs source value l p.0 p.1 p.2 spelled field)
        ]
      ]
    ]

closing_back : (d : Dialect) (cur : List ℕ) (c : ℕ) (source value l : List ℕ) → d.quote_char ≡ Some c → FieldRest d Closed cur source value l
    → FieldRest d Inside cur (c ∷ source) value l
closing_back d cur c source value l is_quote (inl (empty, same)) =
    (c, is_quote, record { inside = []; more = []; units = refl; spelled = ap (λ x. c ∷ x) empty; all = same ∙ sym (append-nil cur) })
closing_back d cur c source value l is_quote (inr o) =
    let joined : o.quote ∷ o.quote ∷ o.rest ≡ c ∷ source = ap (λ x. x ∷ o.quote ∷ o.rest) (same_quote d o.quote c o.is_quote is_quote)
    ∙ ap (λ x. c ∷ x) (sym o.spelled) in (
      o.quote,
      o.is_quote,
      subst (λ (x : List ℕ). InsideRest d o.quote cur x value) joined
          (unit_back d o.quote o.quote cur o.rest value (o.quote ∷ o.quote ∷ []) (double_unit d o.quote o.double) o.inside),
    )

escape_back : (d : Dialect) (cur : List ℕ) (c : ℕ) (source value l : List ℕ) → c ≡ 92 → d.double_quote ≡ false
    → FieldRest d Escaped cur source value l → FieldRest d Inside cur (c ∷ source) value l
escape_back d cur c source value l slash double o =
    let joined : 92 ∷ o.c ∷ o.rest ≡ c ∷ source = ap (λ x. x ∷ o.c ∷ o.rest) (sym slash) ∙ ap (λ x. c ∷ x) (sym o.spelled) in (
      o.quote,
      o.is_quote,
      subst (λ (x : List ℕ). InsideRest d o.quote cur x value) joined
          (unit_back d o.quote o.c cur o.rest value (92 ∷ o.c ∷ []) (escape_unit d o.quote o.c double) o.inside),
    )

sound_inside : (f : Bool) (d : Dialect) (vs : List (List ℕ)) (cur : List ℕ) (c : ℕ) (cs : List ℕ) (values : List (List ℕ)) (after : List ℕ)
    → pass f d Inside vs cur (c ∷ cs) ≡ Found values after → Ind f d cs values after → Reads f d Inside vs cur (c ∷ cs) values after
sound_inside f d vs cur c cs values after h ih =
    elim (inside_view (quote_is d.quote_char c) (not d.double_quote && (c == 92))) [
      | inl p ↦ reads_move f d Inside Closed vs cur cur c cs values after (ih Closed vs cur (sym (run_by f d Inside vs cur c cs (Skip Closed) p.1) ∙ h))
          (λ source value l spelled field. closing_back d cur c source value l (quote_here d.quote_char c p.0) field)
      | inr r ↦ elim r [
        | inl p ↦ let both = and_both (not d.double_quote) (c == 92) p.1 in
            reads_move f d Inside Escaped vs cur cur c cs values after (ih Escaped vs cur (sym (run_by f d Inside vs cur c cs (Skip Escaped) p.2) ∙ h))
            (λ source value l spelled field. escape_back d cur c source value l (is_same c 92 both.1) (not_true d.double_quote both.0) field)
        | inr p ↦ reads_move f d Inside Inside vs cur (cur ++ c ∷ []) c cs values after
            (ih Inside vs (cur ++ c ∷ []) (sym (run_by f d Inside vs cur c cs (Keep Inside) p.2) ∙ h))
            (λ source value l spelled field. (
              field.0,
              field.1,
              unit_back d field.0 c cur source value (c ∷ [])
                  (let n = no_quote_is d.quote_char c field.0 p.0 field.1 in inl (refl, n, keep_unit d.double_quote field.0 c n p.1)) field.2,
            ))
      ]
    ]

sound_closed : (f : Bool) (d : Dialect) (vs : List (List ℕ)) (cur : List ℕ) (c : ℕ) (cs : List ℕ) (values : List (List ℕ)) (after : List ℕ)
    → pass f d Closed vs cur (c ∷ cs) ≡ Found values after → Ind f d cs values after → Reads f d Closed vs cur (c ∷ cs) values after
sound_closed f d vs cur c cs values after h ih =
    elim (closed_view (ends_at d (c ∷ cs)) (c == d.delimiter) (d.double_quote && quote_is d.quote_char c)) [
      | inl p ↦ reads_end f d Closed vs cur c cs values after (sym (run_by f d Closed vs cur c cs End p.1) ∙ h) p.0 (λ l. inl (refl, refl))
      | inr r ↦ elim r [
        | inl p ↦ reads_next f d Closed vs cur c cs values after (ih Start (vs ++ cur ∷ []) [] (sym (run_by f d Closed vs cur c cs Next p.2) ∙ h))
            (is_same c d.delimiter p.1) (λ l. inl (refl, refl))
        | inr r ↦ elim r [
          | inl p ↦ let bad : Broken TextAfterQuote (c ∷ cs) ≡ Found values after = sym (run_by f d Closed vs cur c cs (Stop TextAfterQuote) p) ∙ h in absurd cc
          | inr p ↦ let both = and_both d.double_quote (quote_is d.quote_char c) p.0 in
              reads_move f d Closed Inside vs cur (cur ++ c ∷ []) c cs values after
              (ih Inside vs (cur ++ c ∷ []) (sym (run_by f d Closed vs cur c cs (Keep Inside) p.1) ∙ h))
              (λ source value l spelled field. inr (record {
                rest = source;
                quote = c;
                is_quote = quote_here d.quote_char c both.1;
                double = both.0;
                spelled = refl;
                inside = subst (λ (x : ℕ). InsideRest d x (cur ++ c ∷ []) source value)
                    (same_quote d field.0 c field.1 (quote_here d.quote_char c both.1)) field.2;
              }))
        ]
      ]
    ]

-- the text ended
sound_end : (f : Bool) (d : Dialect) (st : State) (vs : List (List ℕ)) (cur : List ℕ) (values : List (List ℕ)) (after : List ℕ)
    → pass f d st vs cur [] ≡ Found values after → Reads f d st vs cur [] values after
sound_end false d Start vs cur values after h = absurd cc
sound_end false d Plain vs cur values after h = absurd cc
sound_end false d Inside vs cur values after h = absurd cc
sound_end false d Escaped vs cur values after h = absurd cc
sound_end false d Closed vs cur values after h = absurd cc
sound_end true d Start vs cur values after h =
    record { row = []; new = cur ∷ []; all = cc; spelled = cc; fields = inl (tt, sym (append-nil cur)); ends = inr (refl, cc) }
sound_end true d Plain vs cur values after h =
    record { row = []; new = cur ∷ []; all = cc; spelled = cc; fields = (tt, sym (append-nil cur)); ends = inr (refl, cc) }
sound_end true d Inside vs cur values after h = absurd cc
sound_end true d Escaped vs cur values after h = absurd cc
sound_end true d Closed vs cur values after h = record { row = []; new = cur ∷ []; all = cc; spelled = cc; fields = inl (refl, refl); ends = inr (refl, cc) }

pub sound : (f : Bool) (d : Dialect) (st : State) (vs : List (List ℕ)) (cur text : List ℕ) (values : List (List ℕ)) (after : List ℕ)
    → pass f d st vs cur text ≡ Found values after → Reads f d st vs cur text values after
sound f d st vs cur [] values after h = sound_end f d st vs cur values after h
sound f d Start vs cur (c ∷ cs) values after h = sound_start f d vs cur c cs values after h (λ st vs cur. sound f d st vs cur cs values after)
sound f d Plain vs cur (c ∷ cs) values after h = sound_plain f d vs cur c cs values after h (λ st vs cur. sound f d st vs cur cs values after)
sound f d Inside vs cur (c ∷ cs) values after h = sound_inside f d vs cur c cs values after h (λ st vs cur. sound f d st vs cur cs values after)
sound f d Escaped vs cur (c ∷ cs) values after h =
    reads_move f d Escaped Inside vs cur (cur ++ c ∷ []) c cs values after
    (sound f d Inside vs (cur ++ c ∷ []) cs values after (sym (run_by f d Escaped vs cur c cs (Keep Inside) refl) ∙ h))
    (λ source value l spelled field. record { c = c; rest = source; quote = field.0; is_quote = field.1; spelled = refl; inside = field.2 })
sound f d Closed vs cur (c ∷ cs) values after h = sound_closed f d vs cur c cs values after h (λ st vs cur. sound f d st vs cur cs values after)
