-- So far the lines of the first lists were sent.
use Rattle.std.proofs.Common.{◌≡◌, ℕ, List, All, true, flat_map, take}
use Rattle.csvw_annotate.specs.declared.row.Row.{Row}
use Rattle.csvw_streams.specs.Streams.{stream_of, Sends}
use Rattle.csvw_key_records.specs.Records.{Fits}
use Rattle.csvw_keys.specs.Books.{KeepsKeys}
use Rattle.csvw_keys.specs.KeyRules.{KeyRule, is_recorded}
use Rattle.csvw_row_keys.specs.Listings.{listing_lines, listing_records}
use Rattle.csvw_row_keys.proofs.writing.write_listings.Given as goal

abbrev pub invariant-loop-listing : goal.invariant-loop-listing
invariant-loop-listing g l = record {
  written : (rules : List KeyRule) (tables : ℕ → List Row) → KeepsKeys l.keys rules tables
      → All (λ listing. is_recorded listing.table listing.columns rules ≡ true) l.listings
      → Sends (stream_of g.V.Write.contents l.fn.w l.w) (flat_map (listing_lines tables) (take l.listing-index l.listings));
  fit : (rules : List KeyRule) (tables : ℕ → List Row) → KeepsKeys l.keys rules tables
      → All (λ listing. is_recorded listing.table listing.columns rules ≡ true) l.listings
      → All Fits (flat_map (listing_records tables) (take l.listing-index l.listings));
}
