-- The front of a row that was read, and what reading it on does.
use Rattle.std.proofs.Common.{◌≡◌, ◌∙◌, ℕ, zero, suc, ◌+◌, ◌-◌, ◌<◌, ◌≤◌, Bool, true, ◌&&◌, if◌then◌else◌, List, [], ◌∷◌, ◌++◌, map, length}
use Rattle.std.proofs.Common.{take, drop, refl, sym, ap, arith, append-nil, length-append, chars, nat_lt}
use Rattle.std.specs.Prelude.{IsUtf8, encode_utf8, encode_utf8_all, slice_range, slice_index, nat_le, Result, Ok, Err, is_ok, IfOk, OnOk}
use Rattle.std.specs.Borrow.{Bor}
use Rattle.std.specs.Str.{is_utf8}
use Rattle.std.proofs.lemmas.Grind.{common_steps}
use Rattle.std.proofs.lemmas.Bool.Decides.{nat_tests}
use Rattle.std.proofs.lemmas.List.{take-append-drop, drop-drop, map-append}
use Rattle.std.proofs.lemmas.List.Folds.{list_all-append}
use Rattle.std.proofs.lemmas.Str.{chars-nil, IsUtf8-nil, IsUtf8-append, IsUtf8-from_is_utf8, is_utf8-from_IsUtf8, chars-append, encodes-chars}
use Rattle.std.proofs.lemmas.Str.{chars_past_char, IsUtf8-take, IsCharBoundary-from_drop}
use Rattle.csvw_records.specs.declared.dialect.Dialect.{Dialect}
use Rattle.csvw_fields.specs.declared.bound.Bound.{Bound}
use Rattle.csvw_fields.specs.declared.draft.Draft.{Draft}
use Rattle.csvw_records.specs.declared.scan.State.{State}
use Rattle.csvw_records.specs.declared.scan.State.TheVariants.{Start, Inside}
use Rattle.csvw_records.specs.declared.scan.Step.TheVariants.{Open}
use Rattle.csvw_records.specs.Scan.{step_of, run}
use Rattle.csvw_records.specs.PassLaws.{act_run}
use Rattle.csvw_records.specs.NextRow.{settled}
use Rattle.csvw_fields.proofs.Ascii.{ascii_at, no_cr}
use Rattle.csvw_fields.specs.Bounds.{apart_all, texts_apart, is_apart}
use Rattle.csvw_fields.specs.Drafts.{IsFresh, Keeps}
use Rattle.csvw_records.specs.Grammar.{terminator_len}
use Rattle.csvw_fields.proofs.BoundLemmas.{all_more}
use Rattle.csvw_records.specs.RecordLaws.{RecordLaws}

pub drop_nil : (n : ℕ) → drop n (let e : List ℕ = [] in e) ≡ []
drop_nil zero = refl
drop_nil (suc n) = refl

pub text_nil : (n : ℕ) (l : List ℕ) → l ≡ [] → is_utf8 (drop n l) ≡ true
text_nil n l e = ap (λ l. is_utf8 (drop n l)) e ∙ ap is_utf8 (drop_nil n) ∙ is_utf8-from_IsUtf8 [] IsUtf8-nil

pub fresh_of : (s : Draft) → s.read ≡ 0 → s.state ≡ Start → s.texts.items ≡ [] → s.bounds.items ≡ [] → IsFresh s
fresh_of s r st t b = record {
  read = r;
  state = st;
  values = ap (λ l. map chars (texts_apart s.texts.items l)) b;
  current = ap (λ l. chars (drop s.from l)) t ∙ ap chars (drop_nil s.from) ∙ chars-nil;
}

-- a text that grows where there is memory
drop_front : (n : ℕ) (a b : List ℕ) → n ≤ length a → drop n (a ++ b) ≡ drop n a ++ b
drop_front n a b h = grind (arith, common_steps)

pub kept_text : {T E : Type 0} (r : Result T E) (from : ℕ) (old piece new : List ℕ) → from ≤ length old → is_utf8 (drop from old) ≡ true → IsUtf8 piece
    → new ≡ (if is_ok r then old ++ piece else old) → is_utf8 (drop from new) ≡ true
kept_text (Ok x) from old piece new h u v e =
    ap (λ l. is_utf8 (drop from l)) e ∙ ap is_utf8 (drop_front from old piece h)
    ∙ is_utf8-from_IsUtf8 (drop from old ++ piece) (IsUtf8-append (drop from old) piece (IsUtf8-from_is_utf8 (drop from old) u) v)
kept_text (Err x) from old piece new h u v e = ap (λ l. is_utf8 (drop from l)) e ∙ u

pub kept_apart : {T E : Type 0} (r : Result T E) (old piece new : List ℕ) (bounds : List Bound) → apart_all old bounds ≡ true
    → new ≡ (if is_ok r then old ++ piece else old)
    → (apart_all new bounds ≡ true) × (texts_apart new bounds ≡ texts_apart old bounds)
kept_apart (Ok x) old piece new bounds a e = let m = all_more old piece bounds a in
    (ap (λ l. apart_all l bounds) e ∙ m.0, ap (λ l. texts_apart l bounds) e ∙ m.1)
kept_apart (Err x) old piece new bounds a e = (ap (λ l. apart_all l bounds) e ∙ a, ap (λ l. texts_apart l bounds) e)

pub kept_current : {T E : Type 0} (r : Result T E) (from c : ℕ) (old piece new : List ℕ) → from ≤ length old → is_utf8 (drop from old) ≡ true
    → IsUtf8 piece → chars piece ≡ c ∷ []
    → new ≡ (if is_ok r then old ++ piece else old) → OnOk r (chars (drop from new) ≡ chars (drop from old) ++ c ∷ [])
kept_current (Ok x) from c old piece new h u v p e =
    ap (λ l. chars (drop from l)) e ∙ ap chars (drop_front from old piece h)
    ∙ chars-append (drop from old) piece (IsUtf8-from_is_utf8 (drop from old) u) ∙ ap (λ l. chars (drop from old) ++ l) p
kept_current (Err x) from c old piece new h u v p e = tt

-- one more field that is whole
two_parts : (a b c d e : Bool) → a ≡ true → b ≡ true → c ≡ true → d ≡ true → e ≡ true → (a && ((b && (c && (d && e))) && true)) ≡ true
two_parts a b c d e f g h i j = rw (f, g, h, i, j) refl

range_to_end : (l : List ℕ) (from to : ℕ) → to ≡ length l → from ≤ to → slice_range l from to ≡ drop from l
range_to_end l from to e h = grind (arith, common_steps)

pub closed_apart : {T E : Type 0} (r : Result T E) (texts : List ℕ) (bounds new : List Bound) (b : Bound) → apart_all texts bounds ≡ true
    → b.from ≤ length texts → b.to ≡ length texts → b.apart ≡ true
    → is_utf8 (drop b.from texts) ≡ true → new ≡ (if is_ok r then bounds ++ b ∷ [] else bounds) → apart_all texts new ≡ true
closed_apart (Ok x) texts bounds new b a h t p u e =
    ap (apart_all texts) e ∙ list_all-append (λ b. is_apart texts b) bounds (b ∷ [])
    ∙ two_parts _ _ _ _ _ a p (let k : b.from ≤ b.to = omega (arith, h, t) in grind (arith, nat_tests))
    (let k : b.to ≤ length texts = omega (arith, t) in grind (arith, nat_tests))
    (ap is_utf8 (range_to_end texts b.from b.to t (omega (arith, h, t))) ∙ u)
closed_apart (Err x) texts bounds new b a h t p u e = ap (apart_all texts) e ∙ a

pub closed_values : {T E : Type 0} (r : Result T E) (texts : List ℕ) (bounds new : List Bound) (b : Bound) → b.from ≤ length texts → b.to ≡ length texts
    → new ≡ (if is_ok r then bounds ++ b ∷ [] else bounds)
    → OnOk r (map chars (texts_apart texts new) ≡ map chars (texts_apart texts bounds) ++ chars (drop b.from texts) ∷ [])
closed_values (Ok x) texts bounds new b h t e =
    ap (λ l. map chars (texts_apart texts l)) e ∙ ap (map chars) (map-append (λ b. slice_range texts b.from b.to) bounds (b ∷ []))
    ∙ map-append chars (texts_apart texts bounds) (slice_range texts b.from b.to ∷ [])
    ∙ ap (λ l. map chars (texts_apart texts bounds) ++ chars l ∷ []) (range_to_end texts b.from b.to t (omega (arith, h, t)))
closed_values (Err x) texts bounds new b h t e = tt

pub closed_current : {T E : Type 0} (r : Result T E) (texts : List ℕ) (to : ℕ) → to ≡ length texts → OnOk r (chars (drop to texts) ≡ [])
closed_current (Ok x) texts to e = ap chars (gone texts to e) ∙ chars-nil
  where
    gone : (l : List ℕ) (n : ℕ) → n ≡ length l → drop n l ≡ []
    gone l n e = grind (arith, common_steps)
closed_current (Err x) texts to e = tt

pub text_gone : (l : List ℕ) (n : ℕ) → n ≡ length l → is_utf8 (drop n l) ≡ true
text_gone l n e = ap is_utf8 (gone l n e) ∙ is_utf8-from_IsUtf8 [] IsUtf8-nil
  where
    gone : (l : List ℕ) (n : ℕ) → n ≡ length l → drop n l ≡ []
    gone l n e = grind (arith, common_steps)

pub one_char : (text : List ℕ) (c : ℕ) → IsUtf8 text → text ≡ encode_utf8 c → chars text ≡ c ∷ []
one_char text c u e = chars_past_char text [] c u (e ∙ sym (append-nil (encode_utf8 c))) ∙ ap (λ l. c ∷ l) chars-nil

-- quotes that open
pub open_runs : (d : Dialect) (st : State) (vs : List (List ℕ)) (cur new : List ℕ) (c : ℕ) (cs : List ℕ) (ends : Bool)
    → nat_lt 0 (terminator_len d (c ∷ cs)) ≡ ends → step_of d st c ends ≡ Open → new ≡ []
    → run d st vs cur (c ∷ cs) ≡ run d Inside vs new cs
open_runs d st vs cur new c cs ends e f g = ap (act_run d vs cur c cs) (ap (step_of d st c) e ∙ f) ∙ ap (λ l. run d Inside vs l cs) (sym g)

-- a CR at the end
settled_snoc : (d : Dialect) (cs : List ℕ) → d.line_terminators.crlf ≡ true → settled d (cs ++ 13 ∷ []) ≡ cs
settled_snoc d [] e = rw e refl
settled_snoc d (c ∷ []) e = ap (λ l. c ∷ l) (settled_snoc d [] e)
settled_snoc d (c ∷ x ∷ cs) e = ap (λ l. c ∷ l) (settled_snoc d (x ∷ cs) e)

pub settled_cut : (d : Dialect) (r : List ℕ) → IsUtf8 r → d.line_terminators.crlf ≡ true → 0 < length r → slice_index r (length r - 1) ≡ 13
    → chars (take (length r - 1) r) ≡ settled d (chars r)
settled_cut d r u crlf some cr =
    let n = length r - 1 in
    let a = ascii_at r n 13 u (omega (arith, some)) cr (omega arith) in
    let none : drop (n + 1) r ≡ [] = gone r (n + 1) (omega (arith, some)) in
    let one : chars (drop n r) ≡ 13 ∷ [] = a.here_chars ∙ ap (λ l. 13 ∷ chars l) none ∙ ap (λ l. 13 ∷ l) chars-nil in
    sym (settled_snoc d (chars (take n r)) crlf) ∙ ap (settled d) (sym (a.spelled ∙ ap (λ l. chars (take n r) ++ l) one))
  where
    gone : (l : List ℕ) (n : ℕ) → n ≡ length l → drop n l ≡ []
    gone l n e = grind (arith, common_steps)

module _ (laws : RecordLaws) where
  pub settled_none : (d : Dialect) (r : List ℕ) → IsUtf8 r → (d.line_terminators.crlf ≡ true → 0 < length r → slice_index r (length r - 1) ≡ 13 → ⊥)
      → chars r ≡ settled d (chars r)
  settled_none d r u n = sym (laws.passes.settled_all d (chars r)) ∙ ap (λ l. settled d (chars r) ++ l) (no_cr d r u n) ∙ append-nil (settled d (chars r))

-- the texts of fields that are whole
pub encoded_all : (texts : List ℕ) (bounds : List Bound) → apart_all texts bounds ≡ true
    → texts_apart texts bounds ≡ map encode_utf8_all (map chars (texts_apart texts bounds))
encoded_all texts [] e = refl
encoded_all texts (b ∷ bs) e =
    let t = both (is_apart texts b) (apart_all texts bs) e in
    let u = last b.apart (nat_le b.from b.to) (nat_le b.to (length texts)) (is_utf8 (slice_range texts b.from b.to)) t.0 in
    ap (λ x. x ∷ texts_apart texts bs) (sym (encodes-chars (slice_range texts b.from b.to) (IsUtf8-from_is_utf8 (slice_range texts b.from b.to) u)))
    ∙ ap (λ l. encode_utf8_all (chars (slice_range texts b.from b.to)) ∷ l) (encoded_all texts bs t.1)
  where
    both : (a c : Bool) → (a && c) ≡ true → (a ≡ true) × (c ≡ true)
    both a c h = (grind arith, grind arith)

    last : (a b c d : Bool) → (a && (b && (c && d))) ≡ true → d ≡ true
    last a b c d h = grind arith

-- the end of a text behind a character
pub back_more : (text rest code behind : List ℕ) → length rest ≤ length text → drop (length text - length rest) text ≡ rest → rest ≡ code ++ behind
    → (length behind ≤ length text) × (drop (length text - length behind) text ≡ behind)
back_more text rest code behind h e f =
    let long = ap length f in
    let k : length behind ≤ length text = omega (arith, h, long, length-append code behind) in
    let n : length text - length behind ≡ (length text - length rest) + length code = omega (arith, h, long, length-append code behind) in
    (k, ap (λ m. drop m text) n ∙ sym (drop-drop (length code) (length text - length rest) text) ∙ ap (drop (length code)) (e ∙ f) ∙ past code behind)
  where
    past : (a b : List ℕ) → drop (length a) (a ++ b) ≡ b
    past a b = grind (arith, common_steps)

pub front_text : (text : List ℕ) (n : ℕ) → IsUtf8 text → n ≤ length text → is_utf8 (drop n text) ≡ true → IsUtf8 (take n text)
front_text text n u h e = IsUtf8-take text n u (IsCharBoundary-from_drop text n h (IsUtf8-from_is_utf8 (drop n text) e))

pub no_chars : (l : List ℕ) → length l ≡ 0 → chars l ≡ []
no_chars [] e = chars-nil
no_chars (x ∷ xs) e = absurd (omega (arith, e))

pub some_bytes : (l : List ℕ) → 0 < length (chars l) → 0 < length l
some_bytes [] h = absurd (omega (arith, h, ap length chars-nil))
some_bytes (x ∷ xs) h = omega arith

pub take_whole : (l : List ℕ) → take (length l) l ≡ l
take_whole l = grind (arith, common_steps)

pub map_twice : {X Y Z : Type 0} (f : Y → Z) (g : X → Y) (l : List X) → map f (map g l) ≡ map (λ x. f (g x)) l
map_twice f g [] = refl
map_twice f g (x ∷ xs) = ap (λ l. f (g x) ∷ l) (map_twice f g xs)

pub kept_texts : (from : ℕ) (old piece new : List ℕ) → from ≤ length old → is_utf8 (drop from old) ≡ true → new ≡ old ++ piece
    → chars (drop from new) ≡ chars (drop from old) ++ chars piece
kept_texts from old piece new h u e = ap (λ l. chars (drop from l)) e ∙ ap chars (drop_front from old piece h)
    ∙ chars-append (drop from old) piece (IsUtf8-from_is_utf8 (drop from old) u)

-- the end of a text behind what was kept of it
pub back_kept : (text rest left : List ℕ) → length rest ≤ length text → drop (length text - length rest) text ≡ rest
    → drop (length rest - length left) rest ≡ left
    → (length left ≤ length text) × (drop (length text - length left) text ≡ left)
back_kept text rest left h e f =
    let n = length rest - length left in
    back_more text rest (take n rest) left h e (sym (take-append-drop n rest) ∙ ap (λ l. take n rest ++ l) f)

-- the character at the front of what is left of a text, and the terminator that may stand there
pub record OverChar (d : Dialect) (text left behind : List ℕ) (c len : ℕ) : Type 0 where
  pub within : length left ≤ length text
  pub back : drop (length text - length left) text ≡ left
  pub same : chars left ≡ c ∷ chars behind
  pub again : c ∷ chars behind ≡ chars (drop (length text - length left) text)
  pub ends : nat_lt 0 (terminator_len d (c ∷ chars behind)) ≡ nat_lt 0 len

module _ (laws : RecordLaws) where
  pub over_char : (d : Dialect) (text rest left behind : List ℕ) (c : ℕ) (bytes : List ℕ) (len : ℕ) → length rest ≤ length text
      → drop (length text - length rest) text ≡ rest → drop (length rest - length left) rest ≡ left → is_utf8 left ≡ true → left ≡ encode_utf8 c ++ behind
      → bytes ≡ left → len ≡ terminator_len d bytes → OverChar d text left behind c len
  over_char d text rest left behind c bytes len within back kept is_text spelled same_bytes len_is =
      let u = IsUtf8-from_is_utf8 left is_text in
      let same : chars left ≡ c ∷ chars behind = chars_past_char left behind c u spelled in
      let a = back_kept text rest left within back kept in
      record {
        within = a.0;
        back = a.1;
        same = same;
        again = sym same ∙ ap chars (sym a.1);
        ends = ap (λ l. nat_lt 0 (terminator_len d l)) (sym same)
            ∙ ap (nat_lt 0) (laws.terminators.term_same d left u ∙ ap (terminator_len d) (sym same_bytes) ∙ sym len_is);
      }

-- text that was kept in two parts
pub both_kept : {E : Type 0} (d : Dialect) (old mid new : Draft) (text rest : List ℕ) (r : Result (Bor (List ℕ)) E) → Keeps d old mid text rest
    → IfOk r (λ left. Keeps d mid new rest left.now) → IfOk r (λ left. Keeps d old new text left.now)
both_kept d old mid new text rest (Ok left) a b =
    let k = back_kept text rest left.now a.within a.back b.back in
    record { within = k.0; is_text = b.is_text; back = k.1; runs = a.runs ∙ b.runs }
both_kept d old mid new text rest (Err e) a b = tt
