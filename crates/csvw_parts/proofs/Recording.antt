-- The records of rows that were written in several batches.
use Rattle.std.proofs.Common.{◌≡◌, ◌∙◌, ℕ, Bool, true, false, List, [], ◌∷◌, ◌++◌, append-nil, refl, sym, subst, flat_map, Option, Some, None}
use Rattle.std.specs.Prelude.{nat_eq, if◌then◌else◌}
use Rattle.std.specs.List.Sorted.{IsPermutation}
use Rattle.std.specs.Io.KnownBytes.{Appends, Keeps}
use Rattle.std.proofs.KnownBytes.{Appends-nil, Appends-trans}
use Rattle.std.proofs.lemmas.Grind.{flat_map-append}
use Rattle.std.proofs.lemmas.List.Elements.{All-append, All-nil}
use Rattle.std.proofs.lemmas.List.Sorted.{IsPermutation-append, IsPermutation-trans}
use Rattle.csvw_annotate.specs.declared.row.Row.{Row}
use Rattle.csvw_key_records.specs.Records.{Fits, line_of}
use Rattle.csvw_key_records.specs.declared.record.KeyRecord.{KeyRecord}
use Rattle.csvw_keys.specs.Books.{no_rows}
use Rattle.csvw_keys.specs.KeyRules.{KeyRule, recorded_rules}
use Rattle.csvw_keys.specs.Tables.{with_rows}
use Rattle.csvw_keys.specs.declared.key_book.KeyBook.{KeyBook}
use Rattle.csvw_engine_core.specs.Tables.{AddsRows}
use Rattle.csvw_row_keys.specs.RowRecords.{records_of}
use Rattle.csvw_row_keys.specs.RecordLaws.{JoinsRecords}
use Rattle.csvw_streams.specs.declared.counted.Counted.{Counted}
use Rattle.csvw_streams.specs.Counted.{inner_of}
use Rattle.csvw_streams.specs.Streams.{stream_of, Sends}
use Rattle.csvw_parts.specs.Outlets.{only}
use Rattle.csvw_parts.specs.Recording.{BothSome, ForgetsRows, IsFlushed, Recorded, SendsRecords, StartsBook, WritesBook}

-- the rows of two tables
abbrev pub joined : (ℕ → List Row) → (ℕ → List Row) → ℕ → List Row
joined a b n = a n ++ b n

pub two_tables : JoinsRecords → (rules : List KeyRule) (a b : ℕ → List Row) → IsPermutation (records_of rules (joined a b)) (records_of rules a ++ records_of rules b)
two_tables law rules a b =
    subst (λ (t : ℕ → List Row). IsPermutation (records_of rules t) (records_of rules a ++ records_of rules b)) (λ i n. a n ++ append-nil (b n) i)
    (subst (λ (l : List KeyRecord). IsPermutation (records_of rules (λ n. a n ++ (b n ++ []))) (records_of rules a ++ l)) (append-nil (records_of rules b))
    (law rules (a ∷ b ∷ [])))

one_more : (b : Bool) (xs ys : List Row) → (if b then [] ++ xs else []) ++ (if b then [] ++ ys else []) ≡ (if b then [] ++ (xs ++ ys) else [])
one_more true xs ys = refl
one_more false xs ys = refl

pub only_more : (table : ℕ) (xs ys : List Row) → joined (only table xs) (only table ys) ≡ only table (xs ++ ys)
only_more table xs ys = λ i n. one_more (nat_eq table n) xs ys i

one_none : (b : Bool) → [] ≡ (let none : List Row = [] in if b then none ++ none else none)
one_none true = refl
one_none false = refl

only_none : (table : ℕ) → no_rows ≡ only table []
only_none table = λ i n. one_none (nat_eq table n) i

appends_kept : (old mid new : Option (List ℕ)) (text : List ℕ) → Appends old mid text → Keeps mid new → Appends old new text
appends_kept None mid new text a k = tt
appends_kept (Some xs) None new text a k = absurd a
appends_kept (Some xs) (Some ys) None text a k = absurd k
appends_kept (Some xs) (Some ys) (Some zs) text a k = k ∙ a

module _ {W : Type 0} (contents : W → Option (List ℕ)) (rules : List KeyRule) (law : JoinsRecords) where
  pub sends_more : (a b : ℕ → List Row) (first old new : Counted W) → SendsRecords contents rules a first old → SendsRecords contents rules b old new
      → SendsRecords contents rules (joined a b) first new
  sends_more a b first old new p q = record {
    records = p.records ++ q.records;
    are = IsPermutation-trans _ _ _ (two_tables law rules a b) (IsPermutation-append _ _ _ _ p.are q.are);
    fit = All-append Fits p.records q.records p.fit q.fit;
    sent = subst (Sends (stream_of contents first new)) (sym (flat_map-append line_of p.records q.records))
        (Appends-trans _ _ _ (flat_map line_of p.records) (flat_map line_of q.records) p.sent.0 q.sent.0, q.sent.1 ∙ p.sent.1);
  }

  pub sends_none : (table : ℕ) (w : Counted W) → SendsRecords contents rules (only table []) w w
  sends_none table w = record {
    records = [];
    are = subst (λ (t : ℕ → List Row). IsPermutation (records_of rules t) []) (only_none table) (law rules []);
    fit = All-nil Fits;
    sent = (Appends-nil _, refl);
  }

  pub recorded_none : (table : ℕ) (book : KeyBook) (w : Option (Counted W)) → Recorded contents rules (only table []) book book w w
  recorded_none table book None = tt
  recorded_none table book (Some w) = λ empty. record { empty = empty; sends = sends_none table w }

  pub recorded_nothing : (book : KeyBook) (w : Option (Counted W)) → Recorded contents rules no_rows book book w w
  recorded_nothing book w =
      subst (λ (t : ℕ → List Row). Recorded contents rules t book book w w) (sym (only_none 0)) (recorded_none 0 book w)

  pub recorded_join : (a b : ℕ → List Row) (first old new : KeyBook) (u v w : Option (Counted W)) → Recorded contents rules a first old u v
      → Recorded contents rules b old new v w → Recorded contents rules (joined a b) first new u w
  recorded_join a b first old new None None None p q = tt
  recorded_join a b first old new None None (Some w) p q = absurd q
  recorded_join a b first old new None (Some v) w p q = absurd p
  recorded_join a b first old new (Some u) None w p q = absurd p
  recorded_join a b first old new (Some u) (Some v) None p q = absurd q
  recorded_join a b first old new (Some u) (Some v) (Some w) p q = λ empty.
      let f = p empty in
      let s = q f.empty in
      record { empty = s.empty; sends = sends_more a b u v w f.sends s.sends }

  pub recorded_more : (table : ℕ) (xs ys : List Row) (first old new : KeyBook) (u v w : Option (Counted W))
      → Recorded contents rules (only table xs) first old u v → Recorded contents rules (only table ys) old new v w
      → Recorded contents rules (only table (xs ++ ys)) first new u w
  recorded_more table xs ys first old new u v w p q =
      subst (λ (t : ℕ → List Row). Recorded contents rules t first new u w) (only_more table xs ys)
      (recorded_join (only table xs) (only table ys) first old new u v w p q)

  -- rows that a book took, and whose records were written
  pub recorded_step : (table : ℕ) (rows : List Row) (first old new : KeyBook) (u v : Option (Counted W)) → AddsRows table rows first old
      → BothSome (WritesBook contents rules old) u v → ForgetsRows old new → Recorded contents rules (only table rows) first new u v
  recorded_step table rows first old new None None adds writes forgets = tt
  recorded_step table rows first old new None (Some v) adds writes forgets = writes
  recorded_step table rows first old new (Some u) None adds writes forgets = writes
  recorded_step table rows first old new (Some u) (Some v) adds writes forgets = λ empty.
      let k = adds (recorded_rules rules) no_rows empty in
      record { empty = forgets (recorded_rules rules) (with_rows no_rows table rows) k; sends = writes (with_rows no_rows table rows) k }

  -- the flush at the end adds nothing
  pub recorded_all : (tables : ℕ → List Row) (first last : KeyBook) (u v w : Option (Counted W)) → StartsBook rules u first
      → Recorded contents rules tables first last u v → BothSome (IsFlushed contents) v w → BothSome (SendsRecords contents rules tables) u w
  recorded_all tables first last None None None starts p q = tt
  recorded_all tables first last None None (Some w) starts p q = q
  recorded_all tables first last None (Some v) w starts p q = absurd p
  recorded_all tables first last (Some u) None w starts p q = absurd p
  recorded_all tables first last (Some u) (Some v) None starts p q = q
  recorded_all tables first last (Some u) (Some v) (Some w) starts p q =
      let s = (p starts).sends in
      record {
        records = s.records;
        are = s.are;
        fit = s.fit;
        sent = (appends_kept (contents (inner_of u)) (contents (inner_of v)) (contents (inner_of w)) (flat_map line_of s.records) s.sent.0 q.0, q.1 ∙ s.sent.1);
      }
