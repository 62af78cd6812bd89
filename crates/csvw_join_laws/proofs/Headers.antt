-- The faults of the headers of all pieces, one after the other, are those of the tables, since each table begins with one piece.
use Rattle.std.proofs.Common.{◌≡◌, ◌≢◌, ◌∙◌, ℕ, zero, suc, ◌-◌, ◌<◌, ◌≤◌, List, [], ◌∷◌, ◌++◌, Option, Some, None, refl, sym, ap, ap₂, arith, inl, inr, drop, flat_map, length, length-drop}
use Rattle.std.specs.Prelude.{slice_get}
use Rattle.std.specs.List.{All}
use Rattle.std.proofs.lemmas.List.Elements.{All-head, All-tail}
use Rattle.csvw_fault.specs.declared.fault.Fault.{Fault}
use Rattle.csvw_part_plan.specs.Plans.{AreChained, TileFront, last_of}
use Rattle.csvw_part_plan.specs.declared.piece.Piece.{Piece}
use Rattle.csvw_parts.specs.PartSteps.{begun_faults}
use Rattle.csvw_join_laws.specs.Joining.{Planned}
use Rattle.csvw_join_laws.proofs.Begins.{last_table}
use Rattle.csvw_join_laws.proofs.Chains.{at_drop}
use Rattle.csvw_join_laws.proofs.Ranges.{last}

-- the faults of the header of a table, if it is there
abbrev pub faults_at : Option Planned → List Fault
faults_at None = []
faults_at (Some t) = t.1.header_faults

module _ (planned : List Planned) where
  -- the faults of the header of a piece's table, if the table begins with it
  abbrev pub header_of : Piece → List Fault
  header_of p = begun_faults p.first_byte (faults_at (slice_get planned (p.table - 1)))

  abbrev headers : List Planned → List Fault
  headers ts = flat_map (λ t. t.1.header_faults) ts

  none_begun : (byte : ℕ) (faults : List Fault) → 0 < byte → begun_faults byte faults ≡ []
  none_begun zero faults some = absurd (omega arith)
  none_begun (suc byte) faults some = refl

  -- no table is after that of the last piece
  no_tables : (k : ℕ) (t : Planned) (ts : List Planned) → drop k planned ≡ t ∷ ts → suc k ≡ length planned → ts ≡ []
  no_tables k t [] at end = refl
  no_tables k t (u ∷ us) at end =
      let long : length planned - k ≡ length (t ∷ u ∷ us) = sym (length-drop k planned) ∙ ap length at in
      absurd (omega (arith, long, end))

  one_more : (k : ℕ) (t : Planned) (ts : List Planned) → drop k planned ≡ t ∷ ts → suc k < length planned
      → (u : Planned) × (us : List Planned) × (ts ≡ u ∷ us)
  one_more k t [] at more =
      let long : length planned - k ≡ 1 = sym (length-drop k planned) ∙ ap length at in
      absurd (omega (arith, long, more))
  one_more k t (u ∷ us) at more = (u, us, refl)

  -- the faults of the header of the table at a place
  header_is : (p : Piece) (k : ℕ) (t : Planned) (ts : List Planned) → p.table ≡ suc k → drop k planned ≡ t ∷ ts
      → header_of p ≡ begun_faults p.first_byte t.1.header_faults
  header_is p k t ts table at =
      let place : p.table - 1 ≡ k = omega arith in
      ap (λ o. begun_faults p.first_byte (faults_at o)) (ap (slice_get planned) place ∙ (at_drop planned k t ts at).0)

  headers_from : (p : Piece) (ps : List Piece) (k : ℕ) (t : Planned) (ts : List Planned) → AreChained p ps → All (λ x. x.table ≤ length planned) ps
      → (last p ps).table ≡ length planned → p.table ≡ suc k → drop k planned ≡ t ∷ ts
      → flat_map header_of (p ∷ ps) ≡ begun_faults p.first_byte t.1.header_faults ++ headers ts
  headers_from p [] k t ts chain few end table at =
      let none = no_tables k t ts at (omega (arith, end, table)) in
      ap₂ (λ a b. a ++ b) (header_is p k t ts table at) (ap headers (sym none))
  headers_from p (q ∷ qs) k t ts chain few end table at =
      let low = λ (x : Piece). x.table ≤ length planned in
      let here = header_is p k t ts table at in
      elim chain.0.0 [
        | inl on ↦
            let same = on.table in
            let more = headers_from q qs k t ts chain.1 (All-tail low q qs few) end (same ∙ table) at in
            ap₂ (λ a b. a ++ b) here (more ∙ ap (λ l. l ++ headers ts) (none_begun q.first_byte t.1.header_faults on.later))
        | inr next ↦
            let up = next.table in
            let within = All-head low q qs few in
            let some = one_more k t ts at (omega (arith, within, up, table)) in
            let at' : drop (suc k) planned ≡ some.0 ∷ some.1 = (at_drop planned k t ts at).1 ∙ some.2 in
            let more = headers_from q qs (suc k) some.0 some.1 chain.1 (All-tail low q qs few) end (omega (arith, up, table)) at' in
            let first = ap (λ n. begun_faults n some.0.1.header_faults ++ headers some.1) next.begins.first_byte in
            ap₂ (λ a b. a ++ b) here (more ∙ first ∙ ap headers (sym some.2))
      ]

  first_headers : (p : Piece) (ps : List Piece) (tables : List Planned) → planned ≡ tables → AreChained p ps → All (λ x. x.table ≤ length planned) (p ∷ ps)
      → (last p ps).table ≡ length planned → p.table ≡ 1 → p.first_byte ≡ 0 → flat_map header_of (p ∷ ps) ≡ headers tables
  first_headers p ps [] same chain few end table first =
      let low = All-head (λ (x : Piece). x.table ≤ length planned) p ps few in
      let none : length planned ≡ 0 = ap length same in
      absurd (omega (arith, low, table, none))
  first_headers p ps (t ∷ ts) same chain few end table first =
      headers_from p ps zero t ts chain (All-tail (λ (x : Piece). x.table ≤ length planned) p ps few) end table same
      ∙ ap (λ n. begun_faults n t.1.header_faults ++ headers ts) first

  no_headers : (tables : List Planned) → planned ≡ tables → (0 < length planned → ⊥) → headers tables ≡ []
  no_headers [] same none = refl
  no_headers (t ∷ ts) same none = let some = ap length same in absurd (none (omega (arith, some)))

  -- the faults of all headers, in order
  pub headers_joined : (pieces : List Piece) → TileFront pieces → All (λ x. x.table ≤ length planned) pieces
      → (0 < length planned → last_of (length planned) pieces ≢ None) → flat_map header_of pieces ≡ headers planned
  headers_joined [] tile few top = sym (no_headers planned refl (λ some. top some refl))
  headers_joined (p ∷ ps) tile few top =
      let low = All-head (λ (x : Piece). x.table ≤ length planned) p ps few in
      let number = tile.0.table in
      let end = last_table (length planned) p ps tile.1 few (top (omega (arith, low, number))) in
      first_headers p ps planned refl tile.1 few end number tile.0.begins.first_byte
