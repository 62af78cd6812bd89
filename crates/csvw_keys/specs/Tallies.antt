-- How often keys occur.
use Rattle.std.specs.Prelude.{◌≡◌, ℕ, List, [], ◌∷◌, ◌++◌, true, Option, Some, None, count_by, unwrap_or, ⊤, if◌then◌else◌}
use Rattle.std.specs.Ordering.{is_eq}
use Rattle.std.specs.declared.cmp.Ordering.{Ordering}
use Rattle.std.specs.BTreeMap.{BTreeMap, get}
use Rattle.csvw_keys.specs.declared.times.Times.{Times}
use Rattle.csvw_keys.specs.declared.times.Times.TheVariants.{Never}
use Rattle.csvw_keys.specs.Times.{more, times}

-- the counts are ahead by this key
abbrev pub IsAheadAt : {K : Type 0} → Option (K × Times) → K → Type 0
IsAheadAt None key = ⊥
IsAheadAt (Some ahead) key = ahead.0 ≡ key

module _ {K : Type 0} (cmp : K → K → Ordering) where
  -- how often a key occurs in a map; a missing key never occurs
  abbrev pub times_at : BTreeMap K Times → K → Times
  times_at counts key = unwrap_or (get cmp counts key) Never

  -- the same, except for the key that the counts are ahead by
  abbrev pub tally_times : Option (K × Times) → BTreeMap K Times → K → Times
  tally_times None counts key = times_at counts key
  tally_times (Some ahead) counts key = if is_eq (cmp ahead.0 key) then ahead.1 else times_at counts key

  -- the counts have the key that they are ahead by once more than it occurs
  abbrev pub HasAhead : Option (K × Times) → BTreeMap K Times → Type 0
  HasAhead None counts = ⊤
  HasAhead (Some ahead) counts = (q : K) → is_eq (cmp ahead.0 q) ≡ true → get cmp counts q ≡ Some (more ahead.1)

  -- how many keys are equal to a key
  abbrev pub count_of : K → List K → ℕ
  count_of key keys = count_by (λ k. is_eq (cmp key k)) keys

  -- the counts of each key are those in this list
  pub record Tallies (ahead : Option (K × Times)) (counts : BTreeMap K Times) (keys : List K) : Type 0 where
    pub each : (key : K) → tally_times ahead counts key ≡ times (count_of key keys)
    pub has_ahead : HasAhead ahead counts

  -- one key occurs once more than before, the others as often
  abbrev pub IsRaised : BTreeMap K Times → BTreeMap K Times → K → Times → Type 0
  IsRaised old new key before = (q : K) → get cmp new q ≡ (if is_eq (cmp key q) then Some (more before) else get cmp old q)

  -- the key occurred so often in this list, and the counts are those with it
  pub record IsCounted (before : Times) (ahead : Option (K × Times)) (counts : BTreeMap K Times) (keys : List K) (key : K) : Type 0 where
    pub before_it : before ≡ times (count_of key keys)
    pub with_it : Tallies ahead counts (keys ++ key ∷ [])
