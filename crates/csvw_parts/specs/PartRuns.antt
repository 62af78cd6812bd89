-- A run over the pieces of one part: `RunsPart`.
use Rattle.std.specs.Prelude.{◌≡◌, ℕ, Bool, ◌&&◌, ◌||◌, nat_eq, nat_lt, if◌then◌else◌, List, [], ◌++◌, filter, flat_map, length, Option}
use Rattle.std.specs.List.{list_any}
use Rattle.std.specs.List.Sorted.{IsPermutation, IsSorted}
use Rattle.csvw_streams.specs.declared.counted.Counted.{Counted}
use Rattle.csvw_part_plan.specs.declared.piece.Piece.{Piece}
use Rattle.csvw_fault.specs.declared.fault.Fault.{Fault}
use Rattle.csvw_keys.specs.KeyRules.{rules_of}
use Rattle.csvw_keys.specs.declared.key_book.KeyBook.{KeyBook}
use Rattle.csvw_report.specs.Order.{fault_cmp}
use Rattle.csvw_triples.specs.OpeningTriples.{opening}
use Rattle.csvw_triples_core.specs.Taking.{IsAsReady}
use Rattle.csvw_triples_core.specs.declared.term.Triple.{Triple}
use Rattle.csvw_parts.specs.Fronts.{Opens}
use Rattle.csvw_parts.specs.Outlets.{Outs}
use Rattle.csvw_parts.specs.PartGains.{AreTaken, HaveBefore, Taken, header_faults, rows_of, taken_faults, taken_triples}
use Rattle.csvw_parts.specs.PartSteps.{AddsPieces, Reached, reached}
use Rattle.csvw_parts.specs.Recording.{BothSome, IsFlushed, SendsRecords, StartsBook}
use Rattle.csvw_parts.specs.declared.run.PartRequest.{PartRequest}
use Rattle.csvw_parts.specs.declared.state.PartRun.{PartRun}

-- those of some pieces that a part has
abbrev pub own_of : ℕ → List Piece → List Piece
own_of number pieces = filter (λ piece. nat_eq piece.part number) pieces

-- the pieces of the part
abbrev pub own_pieces : PartRequest → List Piece
own_pieces request = own_of request.number request.pieces.now

-- the triples of the group and its tables, which part 1 has
abbrev pub opening_of : PartRequest → List Triple
opening_of request = if nat_eq request.number 1 then opening request.mode request.plan.now else []

-- the table begins with this piece of the part
abbrev pub begins_with : ℕ → ℕ → Piece → Bool
begins_with number table piece = nat_eq piece.part number && nat_eq piece.table table && nat_eq piece.first_byte 0

-- no table of the group has this number, as the group itself, whose number is 0
abbrev pub is_no_table : PartRequest → ℕ → Bool
is_no_table request table = nat_eq table 0 || nat_lt (length request.plan.now.tables) table

-- the table begins in the part; what is no table begins in part 1
abbrev pub begins_in : PartRequest → ℕ → Bool
begins_in request table =
    if is_no_table request table then nat_eq request.number 1 else list_any (begins_with request.number table) request.pieces.now

-- the warnings of the tables that begin in the part
abbrev pub warnings_of : PartRequest → List Fault
warnings_of request = filter (λ warning. begins_in request warning.place.table) request.plan.now.warnings

module _ {O R S W : Type 0} (opener : Opens O R) (out : Outs S W) (request : PartRequest) where
  -- The sink took the opening, if this is part 1. Then the pieces of the part were read, in order, from the first state of the opener to the last.
  pub record ReadsOwn (old new : O) (sink gained : S) (records : Option (Counted W)) : Type 0 where
    pub opened : S
    pub opens : out.gains sink (opening_of request) opened
    pub ready : IsAsReady out.is_open out.failed sink opened
    pub book : KeyBook
    pub starts : StartsBook (rules_of request.plan.now) records book
    pub last : Reached O S W
    pub pieces : AddsPieces opener out request (own_pieces request) (reached old opened book records (warnings_of request)) last
    pub opener_is : last.opener ≡ new
    pub sink_is : last.has.sink ≡ gained

  -- The sink took the opening, if this is part 1, and then the triples of the rows of the pieces. The faults are the warnings of the tables that
  -- begin here, those of their headers and those of the cells of the rows. If records are asked for, the lines of those of the rows were written.
  pub record GivesPart (old new : O) (sink gained : S) (records : Option (Counted W)) (run : PartRun W) (own : ReadsOwn old new sink gained records)
      (b : HaveBefore opener out request (own_pieces request) (reached old own.opened own.book records (warnings_of request)) own.last own.pieces)
      : Type 0 where
    pub taken : List Taken
    pub are : AreTaken opener out request (own_pieces request) (reached old own.opened own.book records (warnings_of request)) own.last own.pieces b taken
    pub took : out.gains sink (opening_of request ++ flat_map (taken_triples request.mode) taken) gained
    pub ready : IsAsReady out.is_open out.failed sink gained
    pub faults : IsPermutation
        ((warnings_of request
        ++ header_faults opener out request (own_pieces request) (reached old own.opened own.book records (warnings_of request)) own.last own.pieces)
        ++ flat_map taken_faults taken)
        run.outcome.faults
    pub recorded : BothSome (SendsRecords out.contents (rules_of request.plan.now) (rows_of taken)) records run.records

  -- The pieces of the part were read. After all bytes that may come before them, they give their rows. The faults are sorted.
  pub record RunsPart (old new : O) (sink gained : S) (records : Option (Counted W)) (run : PartRun W) : Type 0 where
    pub own : ReadsOwn old new sink gained records
    pub told : IsPermutation own.last.faults run.outcome.faults
    pub flushed : BothSome (IsFlushed out.contents) own.last.has.records run.records
    pub order : IsSorted fault_cmp run.outcome.faults
    pub gives :
        (b : HaveBefore opener out request (own_pieces request) (reached old own.opened own.book records (warnings_of request)) own.last own.pieces)
        → GivesPart old new sink gained records run own b
