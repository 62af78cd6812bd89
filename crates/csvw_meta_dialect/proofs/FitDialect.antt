-- A dialect in a document without faults is lawful.
use Rattle.std.proofs.Common.{◌≡◌, ◌≢◌, option_map, All, bytes_eq, nat_le, option_and_then, ◌≤◌, ◌==◌, ◌||◌, ℕ, List, [], ◌∷◌, Bool, true, false}
use Rattle.std.proofs.Common.{Option, Some, None, refl, arith, length, subst, nat_lt, if◌then◌else◌, IfSome, codes}
use Rattle.std.specs.Str.{chars}
use Rattle.std.specs.List.{list_any}
use Rattle.std.proofs.lemmas.Bool.{eq-eqb, leb-true}
use Rattle.serde_json.specs.Data.{Data, null, boolean, number, string, array, object}
use Rattle.serde_json.specs.Find.{as_str, as_number, as_u64}
use Rattle.csvw_records.specs.declared.dialect.Dialect.{Dialect}
use Rattle.csvw_records.specs.declared.dialect.LineTerminators.{LineTerminators}
use Rattle.csvw_records.specs.Lawful.{has_break, prefix_breaks}
use Rattle.csvw_description.specs.Plannable.{IsFitDialect}
use Rattle.csvw_meta_core.specs.declared.fault.MetaCode.{MetaCode}
use Rattle.csvw_meta_core.specs.declared.fault.MetaCode.TheVariants.{BadDialect, BadProperty, NotSupported, TooMany}
use Rattle.csvw_meta_core.specs.declared.fault.MetaFault.{MetaFault}
use Rattle.csvw_meta_core.specs.Read.{Read, fine, faulty, property, optional, or_null, each}
use Rattle.csvw_meta_core.specs.Kinds.{truth, whole, any_whole, character, fixed}
use Rattle.csvw_meta_core.specs.Links.{id}
use Rattle.csvw_meta_core.specs.declared.context.Context.{Context}
use Rattle.csvw_meta_dialect.specs.declared.dialect.CellSymbols.{CellSymbols}
use Rattle.csvw_meta_dialect.specs.declared.dialect.DialectFound.{DialectFound}
use Rattle.csvw_meta_dialect.specs.declared.dialect.HeaderAndSkips.{HeaderAndSkips}
use Rattle.csvw_meta_dialect.specs.Dialect.{is_break_char, mark, comment_prefix, terminator, terminators, joined, neither, all_symbols, clashes, trim}
use Rattle.csvw_meta_dialect.specs.Dialect.{cell_symbols, header_and_skips, dialect_parts, dialect_faults, lawful_dialect, dialect_of, dialect, no_dialect}
use Rattle.csvw_meta_core.specs.Fine.{Ensures, each_fine, none_in_both, if_fine, also_fine, on_linked_fine, property_fine}
use Rattle.csvw_meta_dialect.proofs.FineLemmas.{over_fine, on_kind_fine, or_null_fine}

-- neither CR nor LF
abbrev IsMark : ℕ → Type 0
IsMark c = is_break_char c ≡ false

mark_fine : (several : MetaCode) (at : List ℕ) (d : Data) → Ensures (mark several at d) IsMark
mark_fine several at d =
    let next : ℕ → Read ℕ = λ c. if is_break_char c then faulty BadDialect at 0 else fine c in
    over_fine (λ c. Unit {0}) IsMark 0 (character several at d) next (λ h. tt)
    (λ c q. if_fine IsMark (is_break_char c) (faulty BadDialect at 0) (fine c) (λ b h. cc) (λ b h. b))

-- no CR and no LF in it
abbrev IsPrefix : List ℕ → Type 0
IsPrefix s = has_break (chars s) ≡ false

prefix_fine : (at : List ℕ) (d : Data) → Ensures (comment_prefix at d) IsPrefix
prefix_fine at d =
    let last : List ℕ → Read (List ℕ) = λ s. if has_break (chars s) then faulty BadDialect at [] else fine s in
    let next : List ℕ → Read (List ℕ) = λ s. if (length s == 0) || nat_lt 16 (length s) then faulty BadProperty at [] else last s in
    on_kind_fine IsPrefix BadProperty at d [] (as_str d) next
    (λ s. if_fine IsPrefix ((length s == 0) || nat_lt 16 (length s)) (faulty BadProperty at []) (last s) (λ b h. cc)
    (λ b. if_fine IsPrefix (has_break (chars s)) (faulty BadDialect at []) (fine s) (λ b h. cc) (λ b h. b)))

-- some line terminator
abbrev HasTerminator : LineTerminators → Type 0
HasTerminator t = (t.crlf || t.lf) ≡ true

terminator_fine : (at : List ℕ) (d : Data) → Ensures (terminator at d) HasTerminator
terminator_fine at d =
    let crlf : Read LineTerminators = fine (record { crlf = true; lf = false }) in
    let lf : Read LineTerminators = fine (record { crlf = false; lf = true }) in
    let none : Read LineTerminators = faulty NotSupported at neither in
    let second : List ℕ → Read LineTerminators = λ s. if bytes_eq s (10 ∷ []) then lf else none in
    let next : List ℕ → Read LineTerminators = λ s. if bytes_eq s (13 ∷ 10 ∷ []) then crlf else second s in
    on_kind_fine HasTerminator BadProperty at d neither (as_str d) next
    (λ s. if_fine HasTerminator (bytes_eq s (13 ∷ 10 ∷ [])) crlf (second s) (λ b h. refl)
    (λ b. if_fine HasTerminator (bytes_eq s (10 ∷ [])) lf none (λ c h. refl) (λ c h. cc)))

either_true : (a b c d : Bool) → (a || b) ≡ true → ((a || c) || (b || d)) ≡ true
either_true true b c d h = refl
either_true false true true d h = refl
either_true false true false d h = refl
either_true false false c d h = cc

joined_fine : (ts : List LineTerminators) → All HasTerminator ts → (length ts == 0) ≡ false → HasTerminator (joined ts)
joined_fine [] all some = cc
joined_fine (t ∷ ts) all some = either_true t.crlf t.lf (list_any (λ u. u.crlf) ts) (list_any (λ u. u.lf) ts) (all 0 t (omega arith))

terminators_fine : (at : List ℕ) (d : Data) → Ensures (terminators at d) HasTerminator
terminators_fine at (string s) h = terminator_fine at (string s) h
terminators_fine at (array ds) h =
    let next : List LineTerminators → Read LineTerminators = λ ts. if length ts == 0 then faulty BadDialect at neither else fine (joined ts) in
    over_fine (All HasTerminator) HasTerminator neither (each terminator at 0 ds) next
    (each_fine HasTerminator (λ n. terminator) (λ n. terminator_fine) at 0 ds)
    (λ ts all. if_fine HasTerminator (length ts == 0) (faulty BadDialect at neither) (fine (joined ts)) (λ b g. cc) (λ b g. joined_fine ts all b))
    h
terminators_fine at null h = cc
terminators_fine at (boolean b) h = cc
terminators_fine at (number n) h = cc
terminators_fine at (object ms) h = cc

whole_fine : (most : ℕ) (at : List ℕ) (d : Data) → Ensures (whole most at d) (λ n. n ≤ most)
whole_fine most at d =
    let next : ℕ → Read ℕ = λ n. if nat_le n most then fine n else faulty TooMany at 0 in
    on_kind_fine (λ n. n ≤ most) BadProperty at d 0 (option_and_then as_u64 (as_number d)) next
    (λ n. if_fine (λ k. k ≤ most) (nat_le n most) (fine n) (faulty TooMany at 0) (λ b h. leb-true n most b) (λ b h. cc))

-- ---- the rule over several values

last_true : (a b : Bool) → (a || (b || true)) ≡ true
last_true true b = refl
last_true false true = refl
last_true false false = refl

middle_true : (a b : Bool) → (a || (true || b)) ≡ true
middle_true true b = refl
middle_true false b = refl

apart : (delimiter : ℕ) (quote : Option ℕ) (double : Bool) → clashes all_symbols delimiter quote double ≡ false → quote ≢ Some delimiter
apart delimiter None double h e = cc
apart delimiter (Some q) double h e =
    let same : q ≡ delimiter = cc in
    let test : (q == delimiter) ≡ true = eq-eqb q delimiter same in
    let wrong : true ≡ false = rw test at h in
    cc

delimiter_escape : (delimiter : ℕ) (quote : Option ℕ) (double : Bool) → clashes all_symbols delimiter quote double ≡ false → double ≡ false → delimiter ≢ 92
delimiter_escape delimiter None double h e is =
    let test : (delimiter == 92) ≡ true = eq-eqb delimiter 92 is in
    let wrong : true ≡ false = rw (e, test) at h in
    cc
delimiter_escape delimiter (Some q) double h e is =
    let test : (delimiter == 92) ≡ true = eq-eqb delimiter 92 is in
    let tested : ((q == delimiter) || ((q == 92) || true)) ≡ false = rw (e, test) at h in
    let wrong = last_true (q == delimiter) (q == 92) in
    cc

quote_escape : (delimiter : ℕ) (quote : Option ℕ) (double : Bool) → clashes all_symbols delimiter quote double ≡ false → double ≡ false → quote ≢ Some 92
quote_escape delimiter None double h e is = cc
quote_escape delimiter (Some q) double h e is =
    let same : q ≡ 92 = cc in
    let test : (q == 92) ≡ true = eq-eqb q 92 same in
    let tested : ((q == delimiter) || (true || (delimiter == 92))) ≡ false = rw (e, test) at h in
    let wrong = middle_true (q == delimiter) (delimiter == 92) in
    cc

-- ---- the parts of a dialect

not_break : (c b : ℕ) → IsMark c → is_break_char b ≡ true → c ≢ b
not_break c b h t e = let wrong : is_break_char b ≡ false = subst IsMark e h in cc

quote_not_break : (quote : Option ℕ) (b : ℕ) → IfSome quote IsMark → is_break_char b ≡ true → quote ≢ Some b
quote_not_break None b h t e = cc
quote_not_break (Some q) b h t e = not_break q b h t (let same : q ≡ b = cc in same)

prefix_breaks_none : (prefix : Option (List ℕ)) → IfSome prefix IsPrefix → prefix_breaks (option_map chars prefix) ≡ false
prefix_breaks_none None h = refl
prefix_breaks_none (Some s) h = h

-- the prefix that is the default
default_prefix : IsPrefix (codes "#")
unfolding chars
default_prefix = refl

record FitsInSymbols (symbols : CellSymbols) : Type 0 where
  pub delimiter : IsMark symbols.delimiter
  pub quote : IfSome symbols.quote_char IsMark

symbols_fine : (at : List ℕ) (d : Data) → Ensures (cell_symbols at d) FitsInSymbols
unfolding cell_symbols
symbols_fine at d h =
    let p1 = none_in_both (property (mark NotSupported) 44 at d (codes "delimiter")).faults _ h in
    let p2 = none_in_both (property (or_null (mark BadProperty)) (Some 34) at d (codes "quoteChar")).faults _ p1.1 in
    record {
      delimiter = property_fine IsMark (mark NotSupported) (mark_fine NotSupported) 44 refl at d (codes "delimiter") p1.0;
      quote = property_fine (λ o. IfSome o IsMark) (or_null (mark BadProperty)) (or_null_fine IsMark (mark BadProperty) (mark_fine BadProperty))
          (Some 34) refl at d (codes "quoteChar") p2.0;
    }

skips_fine : (at : List ℕ) (d : Data) → Ensures (header_and_skips at d) (λ (skips : HeaderAndSkips). skips.skip_columns ≤ 1024)
unfolding header_and_skips
skips_fine at d h =
    let p1 = none_in_both (property truth true at d (codes "header")).faults _ h in
    let p2 = none_in_both (optional (whole 8) at d (codes "headerRowCount")).faults _ p1.1 in
    let p3 = none_in_both (property any_whole 0 at d (codes "skipRows")).faults _ p2.1 in
    let p4 = none_in_both (property (whole 1024) 0 at d (codes "skipColumns")).faults _ p3.1 in
    property_fine (λ n. n ≤ 1024) (whole 1024) (whole_fine 1024) 0 (omega arith) at d (codes "skipColumns") p4.0

-- all but the rule
record FitsInParts (d : Dialect) : Type 0 where
  pub delimiter : IsMark d.delimiter
  pub quote : IfSome d.quote_char IsMark
  pub prefix : IfSome d.comment_prefix IsPrefix
  pub terminators : HasTerminator d.line_terminators
  pub skipped : d.skip_columns ≤ 1024

parts_fine : (at : List ℕ) (d : Data) → Ensures (dialect_parts at d) FitsInParts
unfolding dialect_parts
parts_fine at d h =
    let p1 = none_in_both (cell_symbols at d).faults _ h in
    let p2 = none_in_both (property (or_null comment_prefix) (Some (codes "#")) at d (codes "commentPrefix")).faults _ p1.1 in
    let p3 = none_in_both (header_and_skips at d).faults _ p2.1 in
    let p4 = none_in_both (property truth false at d (codes "skipInitialSpace")).faults _ p3.1 in
    let p5 = none_in_both (optional trim at d (codes "trim")).faults _ p4.1 in
    let p6 = none_in_both (property terminators (record { crlf = true; lf = true }) at d (codes "lineTerminators")).faults _ p5.1 in
    let symbols = symbols_fine at d p1.0 in
    record {
      delimiter = symbols.delimiter;
      quote = symbols.quote;
      prefix = property_fine (λ o. IfSome o IsPrefix) (or_null comment_prefix) (or_null_fine IsPrefix comment_prefix prefix_fine)
          (Some (codes "#")) default_prefix at d (codes "commentPrefix") p2.0;
      terminators = property_fine HasTerminator terminators terminators_fine (record { crlf = true; lf = true }) refl
          at d (codes "lineTerminators") p6.0;
      skipped = skips_fine at d p3.0;
    }

-- ---- the whole

fit : (d : Dialect) → FitsInParts d → clashes all_symbols d.delimiter d.quote_char d.double_quote ≡ false → IsFitDialect d
fit d parts h = record {
  lawful = record {
    delimiter_cr = not_break d.delimiter 13 parts.delimiter refl;
    delimiter_lf = not_break d.delimiter 10 parts.delimiter refl;
    quote_cr = quote_not_break d.quote_char 13 parts.quote refl;
    quote_lf = quote_not_break d.quote_char 10 parts.quote refl;
    prefix = prefix_breaks_none d.comment_prefix parts.prefix;
    apart = apart d.delimiter d.quote_char d.double_quote h;
    delimiter_escape = delimiter_escape d.delimiter d.quote_char d.double_quote h;
    quote_escape = quote_escape d.delimiter d.quote_char d.double_quote h;
    terminators = parts.terminators;
  };
  skipped = parts.skipped;
}

unclashed : (b : Bool) (fault : MetaFault) → (if b then fault ∷ [] else []) ≡ [] → b ≡ false
unclashed true fault h = cc
unclashed false fault h = refl

ruled_fine : (at : List ℕ) (d : Dialect) → FitsInParts d → dialect_faults at [] d ≡ [] → IsFitDialect d
ruled_fine at d fits h = fit d fits (unclashed (clashes all_symbols d.delimiter d.quote_char d.double_quote) (record { code = BadDialect; pointer = at }) h)

lawful_fine : (at : List ℕ) (d : Data) → Ensures (lawful_dialect at d) IsFitDialect
lawful_fine at d = also_fine FitsInParts IsFitDialect (dialect_parts at d) (dialect_faults at) (parts_fine at d) (ruled_fine at)

-- the dialect of a table or a group
dialect_of_fine : (context : Context) (table : ℕ) (at : List ℕ) (d : Data) → Ensures (dialect_of context table at d) (λ found. IsFitDialect found.dialect)
unfolding dialect_of
dialect_of_fine context table at d h =
    let p1 = none_in_both (optional (id context.base) at d (codes "@id")).faults _ h in
    let p2 = none_in_both (optional (fixed (codes "Dialect")) at d (codes "@type")).faults _ p1.1 in
    let p3 = none_in_both (lawful_dialect at d).faults _ p2.1 in
    lawful_fine at d p3.0

abbrev HasFitDialect : DialectFound → Type 0
HasFitDialect found = IsFitDialect found.dialect

pub dialect_fine : (context : Context) (table : ℕ) (at : List ℕ) (d : Data) → Ensures (dialect context table at d) HasFitDialect
dialect_fine context table at d = on_linked_fine HasFitDialect at d no_dialect (dialect_of context table at d) (dialect_of_fine context table at d)
