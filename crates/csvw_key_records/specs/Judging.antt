-- The state of a judge of sorted records: `Holds`.
use Rattle.std.specs.Prelude.{◌≡◌, ◌⊎◌, ◌&&◌, nat_eq, ℕ, false, true, List, [], ◌∷◌, ◌++◌}
use Rattle.std.specs.Cmp.Lexicographic.{slice_cmp}
use Rattle.std.specs.List.{All, list_any}
use Rattle.std.specs.List.Sorted.{IsPermutation}
use Rattle.std.specs.Ordering.{is_gt, nat_cmp}
use Rattle.std.specs.declared.cmp.Ordering.TheVariants.{Less}
use Rattle.csvw_fault.specs.declared.fault.Fault.{Fault}
use Rattle.csvw_key_records.specs.declared.judge.Disorder.{Disorder}
use Rattle.csvw_key_records.specs.declared.judge.Disorder.TheVariants as why
use Rattle.csvw_key_records.specs.declared.judge.KeyJudge.{KeyJudge}
use Rattle.csvw_key_records.specs.declared.reading.KeyLine.{KeyLine}
use Rattle.csvw_key_records.specs.declared.record.KeyRecord.{KeyRecord}
use Rattle.csvw_key_records.specs.declared.record.Role.TheVariants.{Unique}
use Rattle.csvw_key_records.specs.Groups.{IsGroup, has_unique}
use Rattle.csvw_key_records.specs.RecordFaults.{record_faults}
use Rattle.csvw_key_records.specs.Records.{Fits, IsFront, front, front_of, line_of}
use Rattle.csvw_key_records.specs.Sorted.{AreSorted}

-- the text is the line of the last of these records, or empty if there are none
abbrev pub IsLast : List KeyRecord → List ℕ → Type 0
IsLast records last =
    ((records ≡ []) × (last ≡ []))
    ⊎ ((before : List KeyRecord) × (p : KeyRecord) × (records ≡ before ++ p ∷ []) × (last ≡ line_of p))

-- a line can't follow the last one: it does not come after it
abbrev pub BreaksOrder : List ℕ → List ℕ → Disorder → Type 0
BreaksOrder last text why.Memory = ⊥
BreaksOrder last text why.Order = slice_cmp nat_cmp last text ≡ Less → ⊥
BreaksOrder last text why.Twice = slice_cmp nat_cmp last text ≡ Less → ⊥
BreaksOrder last text why.Row = ⊥

-- the record can't follow these: with it they are not sorted, or one of them has its primary key and its row
abbrev pub IsDisorder : List KeyRecord → KeyRecord → Disorder → Type 0
IsDisorder records r why.Memory = Unit {0}
IsDisorder records r why.Order = AreSorted (records ++ r ∷ []) → ⊥
IsDisorder records r why.Twice = AreSorted (records ++ r ∷ []) → ⊥
IsDisorder records r why.Row = (r.role ≡ Unique) × (list_any (λ q. has_unique r.rule r.key q && nat_eq r.place.row q.place.row) records ≡ true)

-- The judge took these records, which are sorted, and these are their faults. It knows the last line, and what is known of its key.
pub record Holds (judge : KeyJudge) (records : List KeyRecord) (faults : List Fault) : Type 0 where
  pub fit : All Fits records
  pub sorted : AreSorted records
  pub upto : All (λ q. is_gt (slice_cmp nat_cmp (line_of q) judge.last.items) ≡ false) records
  pub is_last : IsLast records judge.last.items
  pub group : (rule : ℕ) (key rest : List ℕ) → IsFront rule key → judge.last.items ≡ front rule key ++ rest → IsGroup judge.group rule key records
  pub found : IsPermutation (record_faults records) faults

-- the line is that of a record
pub record IsLineOf (line : KeyLine) (r : KeyRecord) : Type 0 where
  pub text : line.text.now ≡ line_of r
  pub front : line.front.now ≡ front_of r
  pub role : line.role ≡ r.role
  pub place : line.place ≡ r.place
