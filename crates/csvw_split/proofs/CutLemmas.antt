-- Cuts of some bytes are cuts of these bytes and more, and so is the front; the front that was just read, and one cut more.
use Rattle.std.proofs.Common.{◌≡◌, ℕ, ◌+◌, ◌≤◌, List, [], ◌∷◌, ◌++◌, length, take, Option, Some, None, sym, ap, subst, ◌∙◌, arith, length-append, take_all}
use Rattle.std.specs.Prelude.{IfSome, IsSome}
use Rattle.std.specs.List.{All}
use Rattle.std.specs.Option.{unwrap_or}
use Rattle.std.proofs.lemmas.List.{take-append-le}
use Rattle.std.proofs.lemmas.List.Elements.{All-push, All-weaker}
use Rattle.csvw_records.specs.declared.dialect.Dialect.{Dialect}
use Rattle.csvw_part_laws.specs.Parts.{AreWholeRows}
use Rattle.csvw_columns.specs.declared.plan.TablePlan.{TablePlan}
use Rattle.csvw_split.specs.declared.cuts.Cut.{Cut}
use Rattle.csvw_split.specs.declared.cuts.FileCuts.{FileCuts}
use Rattle.csvw_split.specs.Cuts.{Cuts, IsAfterFront, IsCut}
use Rattle.csvw_split.specs.FileState.{Follows, HasGiven, HasRows}
use Rattle.csvw_split.specs.Front.{HasFront, IsFront}

pub cut_later : (d : Dialect) (text more : List ℕ) (c : Cut) → IsCut d text c → IsCut d (text ++ more) c
cut_later d text more c is =
    let within = is.within in
    let all = length-append text more in
    let same : take c.first_byte (text ++ more) ≡ take c.first_byte text = take-append-le c.first_byte text more within in
    record { within = omega arith; rows = subst (λ t. HasRows d t c.rows_before c.data_rows_before) (sym same) is.rows }

pub cuts_later : (d : Dialect) (text more : List ℕ) (cuts : List Cut) → All (IsCut d text) cuts → All (IsCut d (text ++ more)) cuts
cuts_later d text more cuts all = All-weaker (IsCut d text) (IsCut d (text ++ more)) (λ c is. cut_later d text more c is) cuts all

front_later : (t : TablePlan) (text more : List ℕ) (front : ℕ) → IsFront t text front → IsFront t (text ++ more) front
front_later t text more front is =
    let within = is.within in
    let all = length-append text more in
    let same : take front (text ++ more) ≡ take front text = take-append-le front text more within in
    record {
      within = omega arith;
      rows = is.rows;
      whole = subst (λ bytes. AreWholeRows t.dialect bytes is.rows) (sym same) is.whole;
      skipped = is.skipped;
      given = is.given;
    }

known_front_later : (t : TablePlan) (text more : List ℕ) (front : Option ℕ) → IfSome front (IsFront t text) → IfSome front (IsFront t (text ++ more))
known_front_later t text more None is = tt
known_front_later t text more (Some front) is = front_later t text more front is

-- some bytes more were read and counted
pub cuts_fed : (s n : FileCuts) (t : TablePlan) (text more : List ℕ) → Cuts s t text → Follows n.file t.dialect (text ++ more)
    → n.bytes ≡ s.bytes + length more → n.cuts ≡ s.cuts → n.wanted ≡ s.wanted → n.header_bytes ≡ s.header_bytes → Cuts n t (text ++ more)
cuts_fed s n t text more h follows count same wanted header =
    let was = h.bytes in
    let all = length-append text more in
    record {
      follows = follows;
      bytes = omega arith;
      skipped = ap (λ w. w.skip_rows) wanted ∙ h.skipped;
      needed = ap (λ w. w.front_rows) wanted ∙ h.needed;
      front = subst (λ o. IfSome o (IsFront t (text ++ more))) (sym header) (known_front_later t text more s.header_bytes h.front);
      cuts = subst (All (IsCut t.dialect (text ++ more))) (sym same) (cuts_later t.dialect text more s.cuts h.cuts);
      after_front = subst (λ o. All (IsAfterFront o) n.cuts) (sym header) (subst (All (IsAfterFront s.header_bytes)) (sym same) h.after_front);
    }

-- all bytes so far are the front, if they have the rows that are needed
pub front_here : (s : FileCuts) (t : TablePlan) (text : List ℕ) (rows given : ℕ) → Cuts s t text → HasGiven t.dialect text rows given
    → s.wanted.skip_rows ≤ rows → s.wanted.front_rows ≤ given → IsFront t text s.bytes
front_here s t text rows given h has skipped needed =
    let bytes = h.bytes in
    let skips = h.skipped in
    let needs = h.needed in
    let rows_are = has.rows_are in
    let given_are = has.given_are in
    record {
      within = omega arith;
      rows = has.all;
      whole = subst (λ b. AreWholeRows t.dialect b has.all) (sym (take_all s.bytes text (omega arith))) has.whole;
      skipped = omega arith;
      given = omega arith;
    }

no_cuts : (front : ℕ) (cuts : List Cut) → All (IsAfterFront None) cuts → All (IsAfterFront (Some front)) cuts
no_cuts front cuts all = All-weaker (IsAfterFront None) (IsAfterFront (Some front)) (λ c never. absurd never) cuts all

-- the length of the front is noted
pub front_noted : (s n : FileCuts) (t : TablePlan) (text : List ℕ) → Cuts s t text → IsFront t text s.bytes → s.header_bytes ≡ None
    → n.header_bytes ≡ Some s.bytes → n.file ≡ s.file → n.bytes ≡ s.bytes → n.wanted ≡ s.wanted → n.cuts ≡ s.cuts → Cuts n t text
front_noted s n t text h is none header file bytes wanted cuts = record {
  follows = subst (λ f. Follows f t.dialect text) (sym file) h.follows;
  bytes = bytes ∙ h.bytes;
  skipped = ap (λ w. w.skip_rows) wanted ∙ h.skipped;
  needed = ap (λ w. w.front_rows) wanted ∙ h.needed;
  front = subst (λ o. IfSome o (IsFront t text)) (sym header) is;
  cuts = subst (All (IsCut t.dialect text)) (sym cuts) h.cuts;
  after_front = subst (λ o. All (IsAfterFront o) n.cuts) (sym header)
      (no_cuts s.bytes n.cuts (subst (All (IsAfterFront None)) (sym cuts) (subst (λ o. All (IsAfterFront o) s.cuts) none h.after_front)));
}

after_front_here : (front : Option ℕ) (t : TablePlan) (text : List ℕ) (c : Cut) → IsSome front → IfSome front (IsFront t text) → c.first_byte ≡ length text
    → IsAfterFront front c
after_front_here None t text c some is at = cc
after_front_here (Some front) t text c some is at = let within = is.within in omega arith

-- a cut is added where a row ends
pub cut_added : (s n : FileCuts) (t : TablePlan) (text : List ℕ) (c : Cut) → Cuts s t text → IsSome s.header_bytes
    → HasRows t.dialect text c.rows_before c.data_rows_before → c.first_byte ≡ s.bytes → n.header_bytes ≡ s.header_bytes → n.file ≡ s.file
    → n.bytes ≡ s.bytes → n.wanted.skip_rows ≡ s.wanted.skip_rows → n.wanted.front_rows ≡ s.wanted.front_rows → n.cuts ≡ s.cuts ++ c ∷ [] → Cuts n t text
cut_added s n t text c h some rows at header file bytes skips needs cuts =
    let counted = h.bytes in
    let is_cut : IsCut t.dialect text c = record {
      within = omega arith;
      rows = subst (λ b. HasRows t.dialect b c.rows_before c.data_rows_before) (sym (take_all c.first_byte text (omega arith))) rows;
    } in
    let after = after_front_here s.header_bytes t text c some h.front (at ∙ counted) in
    record {
      follows = subst (λ f. Follows f t.dialect text) (sym file) h.follows;
      bytes = bytes ∙ h.bytes;
      skipped = skips ∙ h.skipped;
      needed = needs ∙ h.needed;
      front = subst (λ o. IfSome o (IsFront t text)) (sym header) h.front;
      cuts = subst (All (IsCut t.dialect text)) (sym cuts) (All-push (IsCut t.dialect text) s.cuts c h.cuts is_cut);
      after_front = subst (λ o. All (IsAfterFront o) n.cuts) (sym header)
          (subst (All (IsAfterFront s.header_bytes)) (sym cuts) (All-push (IsAfterFront s.header_bytes) s.cuts c h.after_front after));
    }

front_before : (t : TablePlan) (text : List ℕ) (front : Option ℕ) (other : ℕ) (c : Cut) → IfSome front (IsFront t text) → IsAfterFront front c
    → HasFront t text (unwrap_or front other) c.first_byte
front_before t text None other c is after = absurd after
front_before t text (Some front) other c is after = record { is_front = is; before = after }

-- the front is before each cut
pub fronts_before : (t : TablePlan) (text : List ℕ) (front : Option ℕ) (other : ℕ) (cuts : List Cut) → IfSome front (IsFront t text)
    → All (IsAfterFront front) cuts → All (λ (c : Cut). HasFront t text (unwrap_or front other) c.first_byte) cuts
fronts_before t text front other cuts is all =
    All-weaker (IsAfterFront front) (λ (c : Cut). HasFront t text (unwrap_or front other) c.first_byte) (λ c after. front_before t text front other c is after)
    cuts all
