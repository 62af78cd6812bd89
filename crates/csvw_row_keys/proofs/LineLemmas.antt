-- The lines of lists are those of the records of rows. All that is listed is recorded.
use Rattle.std.proofs.Common.{◌≡◌, ◌∙◌, ℕ, suc, List, [], ◌∷◌, ◌++◌, ◌&&◌, Bool, true, false, refl, sym, ap, not, flat_map, map, nat_eq, bytes_eq, All, if◌then◌else◌}
use Rattle.std.specs.Cmp.Lexicographic.{bytes_decides}
use Rattle.std.proofs.lemmas.Bool.{and_from, eq-eqb, or_left, or_right}
use Rattle.std.proofs.lemmas.Grind.{flat_map-append}
use Rattle.std.proofs.lemmas.List.{append-nil}
use Rattle.std.proofs.lemmas.List.Elements.{All-cons, All-nil, All-weaker}
use Rattle.csvw_annotate.specs.declared.row.Row.{Row}
use Rattle.csvw_key_records.specs.declared.record.KeyRecord.{KeyRecord}
use Rattle.csvw_key_records.specs.declared.record.Role.TheVariants as role
use Rattle.csvw_key_records.specs.Records.{line_of}
use Rattle.csvw_keys.specs.Key.{is_null_key, key_of}
use Rattle.csvw_keys.specs.KeyRules.{KeyRule, Unique, Refers, Recorded, is_recorded, recorded_rules}
use Rattle.csvw_keys.specs.RecordingBooks.{keyed_rows}
use Rattle.csvw_row_keys.specs.declared.listing.Listing.{Listing}
use Rattle.csvw_row_keys.specs.Listings.{listed_records, listing_lines, listing_records, listings_for, listings_from}
use Rattle.csvw_row_keys.specs.RowRecords.{record_of, records_from, refers_records, rule_records}

-- ---- lines

lines_of_all : {X : Type 0} (f : X → List KeyRecord) (xs : List X) → flat_map (λ x. flat_map line_of (f x)) xs ≡ flat_map line_of (flat_map f xs)
lines_of_all f [] = refl
lines_of_all f (x ∷ xs) =
    ap (λ l. flat_map line_of (f x) ++ l) (lines_of_all f xs) ∙ sym (flat_map-append line_of (f x) (flat_map f xs))

module _ (rule table : ℕ) (columns : List ℕ) where
  abbrev unique : Listing
  unique = record { rule = rule; role = role.Unique; table = table; columns = columns }

  abbrev referenced : Listing
  referenced = record { rule = rule; role = role.Referenced; table = table; columns = columns }

  abbrev refers : Listing
  refers = record { rule = rule; role = role.Refers; table = table; columns = columns }

  all_unique : (rows : List Row) → flat_map (listed_records unique) (keyed_rows columns rows) ≡ map (record_of rule role.Unique table columns) rows
  all_unique [] = refl
  all_unique (row ∷ rows) = ap (λ rs. record_of rule role.Unique table columns row ∷ rs) (all_unique rows)

  all_referenced : (rows : List Row)
      → flat_map (listed_records referenced) (keyed_rows columns rows) ≡ map (record_of rule role.Referenced table columns) rows
  all_referenced [] = refl
  all_referenced (row ∷ rows) = ap (λ rs. record_of rule role.Referenced table columns row ∷ rs) (all_referenced rows)

  by_null : (null : Bool) (r : KeyRecord) → (if not null then r ∷ [] else []) ≡ (if null then [] else r ∷ [])
  by_null true r = refl
  by_null false r = refl

  all_referring : (rows : List Row) → flat_map (listed_records refers) (keyed_rows columns rows) ≡ flat_map (refers_records rule table columns) rows
  all_referring [] = refl
  all_referring (row ∷ rows) =
      ap (λ rs. rs ++ flat_map (listed_records refers) (keyed_rows columns rows))
      (by_null (is_null_key (key_of columns row)) (record_of rule role.Refers table columns row))
      ∙ ap (λ rs. refers_records rule table columns row ++ rs) (all_referring rows)

module _ (tables : ℕ → List Row) where
  rule_lines : (n : ℕ) (rule : KeyRule) → flat_map (listing_lines tables) (listings_for n rule) ≡ flat_map line_of (rule_records tables n rule)
  rule_lines n (Unique table columns) =
      append-nil _ ∙ lines_of_all (listed_records (unique n table columns)) (keyed_rows columns (tables table))
      ∙ ap (flat_map line_of) (all_unique n table columns (tables table))
  rule_lines n (Refers table columns other others) =
      ap (λ l. listing_lines tables (referenced n other others) ++ l)
      (append-nil _ ∙ lines_of_all (listed_records (refers n table columns)) (keyed_rows columns (tables table))
      ∙ ap (flat_map line_of) (all_referring n table columns (tables table)))
      ∙ ap (λ l. l ++ flat_map line_of (flat_map (refers_records n table columns) (tables table)))
      (lines_of_all (listed_records (referenced n other others)) (keyed_rows others (tables other))
      ∙ ap (flat_map line_of) (all_referenced n other others (tables other)))
      ∙ sym (flat_map-append line_of (map (record_of n role.Referenced other others) (tables other))
      (flat_map (refers_records n table columns) (tables table)))
  rule_lines n (Recorded table columns) = refl

  rule_listed : (n : ℕ) (rule : KeyRule) → flat_map (listing_records tables) (listings_for n rule) ≡ rule_records tables n rule
  rule_listed n (Unique table columns) = append-nil _ ∙ all_unique n table columns (tables table)
  rule_listed n (Refers table columns other others) =
      ap (λ l. listing_records tables (referenced n other others) ++ l) (append-nil _ ∙ all_referring n table columns (tables table))
      ∙ ap (λ l. l ++ flat_map (refers_records n table columns) (tables table)) (all_referenced n other others (tables other))
  rule_listed n (Recorded table columns) = refl

  pub records_are : (n : ℕ) (rules : List KeyRule) → flat_map (listing_records tables) (listings_from n rules) ≡ records_from tables n rules
  records_are n [] = refl
  records_are n (rule ∷ rules) =
      flat_map-append (listing_records tables) (listings_for n rule) (listings_from (suc n) rules)
      ∙ ap (λ l. l ++ flat_map (listing_records tables) (listings_from (suc n) rules)) (rule_listed n rule)
      ∙ ap (λ l. rule_records tables n rule ++ l) (records_are (suc n) rules)

  pub lines_are : (n : ℕ) (rules : List KeyRule) → flat_map (listing_lines tables) (listings_from n rules) ≡ flat_map line_of (records_from tables n rules)
  lines_are n [] = refl
  lines_are n (rule ∷ rules) =
      flat_map-append (listing_lines tables) (listings_for n rule) (listings_from (suc n) rules)
      ∙ ap (λ l. l ++ flat_map (listing_lines tables) (listings_from (suc n) rules)) (rule_lines n rule)
      ∙ ap (λ l. flat_map line_of (rule_records tables n rule) ++ l) (lines_are (suc n) rules)
      ∙ sym (flat_map-append line_of (rule_records tables n rule) (records_from tables (suc n) rules))

-- ---- what is recorded

abbrev IsRecorded : List KeyRule → Listing → Type 0
IsRecorded rules listing = is_recorded listing.table listing.columns (recorded_rules rules) ≡ true

same_place : (table : ℕ) (columns : List ℕ) → (nat_eq table table && bytes_eq columns columns) ≡ true
same_place table columns = and_from (nat_eq table table) (bytes_eq columns columns) (eq-eqb table table refl) ((bytes_decides columns columns).1 refl)

pub all_recorded : (n : ℕ) (rules : List KeyRule) → All (IsRecorded rules) (listings_from n rules)
all_recorded n [] = All-nil (IsRecorded [])
all_recorded n (Unique table columns ∷ rules) =
    let after = IsRecorded (Unique table columns ∷ rules) in
    All-cons after (unique n table columns) (listings_from (suc n) rules) (or_left _ _ (same_place table columns))
    (All-weaker (IsRecorded rules) after (λ l there. or_right _ _ there) _ (all_recorded (suc n) rules))
all_recorded n (Refers table columns other others ∷ rules) =
    let after = IsRecorded (Refers table columns other others ∷ rules) in
    All-cons after (referenced n other others) (refers n table columns ∷ listings_from (suc n) rules)
    (or_right _ _ (or_left _ _ (same_place other others)))
    (All-cons after (refers n table columns) (listings_from (suc n) rules) (or_left _ _ (same_place table columns))
    (All-weaker (IsRecorded rules) after (λ l there. or_right _ _ (or_right _ _ there)) _ (all_recorded (suc n) rules)))
all_recorded n (Recorded table columns ∷ rules) = all_recorded (suc n) rules
