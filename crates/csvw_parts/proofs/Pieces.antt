-- A table that goes on with the bytes of a reader.
use Rattle.std.proofs.Common.{◌≡◌, ◌∙◌, ◌<◌, ◌≤◌, Bool, ℕ, List, [], ◌++◌, append-nil, length, take, refl, sym, subst, arith, false}
use Rattle.std.proofs.Common.{Option, Err}
use Rattle.std.specs.Io.KnownBytes.{Consumes}
use Rattle.std.proofs.KnownBytes.{Consumes-trans}
use Rattle.std.proofs.lemmas.Grind.{common_steps}
use Rattle.csvw_records.specs.RowValue.{Given}
use Rattle.csvw_streams.specs.declared.counted.Counted.{Counted}
use Rattle.csvw_streams.specs.Count.{one_more}
use Rattle.csvw_streams.specs.Counted.{inner_of, failures_of}
use Rattle.csvw_columns.specs.declared.plan.TablePlan.{TablePlan}
use Rattle.csvw_annotate.specs.declared.row.Row.{Row}
use Rattle.csvw_triples_core.specs.Taking.{IsAsReady}
use Rattle.csvw_triples_core.specs.declared.mode.Mode.{Mode}
use Rattle.csvw_triples_core.specs.declared.term.Triple.{Triple}
use Rattle.csvw_engine_core.specs.Tables.{Gone, GivesAll, Outlets, TableHolds, is_ended}
use Rattle.csvw_engine_core.specs.declared.table.Table.{Table}
use Rattle.csvw_engine_core.proofs.Going.{gone_nothing}
use Rattle.csvw_engine_core.proofs.Joining.{gone_join}
use Rattle.csvw_parts.specs.declared.fault.PartFault.{PartFault}
use Rattle.csvw_parts.specs.declared.fault.PartFault.TheVariants as fault
use Rattle.csvw_parts.specs.Parts.{GoesOn, ReadsPart}
use Rattle.csvw_parts.specs.Pieces.{GivesPiece}

pub take_len : (n : ℕ) (l : List ℕ) → n ≤ length l → length (take n l) ≡ n
take_len n l h = grind (arith, common_steps)

-- a read that gives nothing adds nothing
pub and_nothing : (known between now : Option (List ℕ)) (bytes : List ℕ) → Consumes known between bytes → Consumes between now [] → Consumes known now bytes
and_nothing known between now bytes h none =
    subst (Consumes known now) (append-nil bytes) (Consumes-trans known between now bytes [] h none)

module _ {S : Type 0} (gains : S → List Triple → S → Type 0) (cuts : S → Triple → S → Type 0) (is_open : S → Bool) (failed : S → ℕ)
    (stays : (s : S) → gains s [] s) (goes_on : (a b c : S) (xs ys : List Triple) → gains a xs b → gains b ys c → gains a (xs ++ ys) c)
    (plan : TablePlan) where
  -- no bytes yet
  pub nothing_yet : (t : Table) (s : Outlets S) → GoesOn gains is_open failed plan t t s s []
  nothing_yet t s mode bytes given rows h = (
    subst (λ (b : List ℕ). Gone gains plan mode b false given rows t t s s) (sym (append-nil bytes))
        (gone_nothing gains cuts is_open failed stays goes_on plan mode bytes false given rows t s h),
    (refl, refl),
  )

  -- a piece more
  pub piece_more : (first old new : Table) (start now after : Outlets S) (text piece : List ℕ) → GoesOn gains is_open failed plan first old start now text
      → ((mode : Mode) (bytes : List ℕ) (given : List Given) (rows : List Row) → TableHolds plan mode old bytes false given rows
      → GivesAll gains plan mode (bytes ++ piece) false given rows old new now after × IsAsReady is_open failed now.sink after.sink)
      → GoesOn gains is_open failed plan first new start after (text ++ piece)
  piece_more first old new start now after text piece before fed mode bytes given rows h =
      let b = before mode bytes given rows h in
      let g = b.0 in
      let f = fed mode (bytes ++ text) (given ++ g.raws) (rows ++ g.more) g.holds in (
        gone_join gains goes_on plan mode bytes text piece given rows first old new start now after g f.0.gone,
        (f.1.0 ∙ b.1.0, f.1.1 ∙ b.1.1),
      )

  module _ {R : Type 0} (remaining : R → Option (List ℕ)) (first old : Table) (reader between next : Counted R) (start now : Outlets S) (count : ℕ)
      (text : List ℕ) (few : length text < count) (consumed : Consumes (remaining (inner_of reader)) (remaining (inner_of between)) text)
      (steady : failures_of between ≡ failures_of reader) (so_far : GoesOn gains is_open failed plan first old start now text)
      (not_ended : is_ended old ≡ false) where
    -- a read that gave no piece
    pub no_piece : (room : List ℕ) (left : ℕ) (f : PartFault) → GivesPiece remaining between next room left (Err f)
        → ReadsPart gains cuts is_open failed remaining plan first old reader next count start now (Err f)
    no_piece room left fault.Memory p = absurd p
    no_piece room left (fault.Stop reason) p = absurd p
    no_piece room left fault.Read (none, one) = (
      text,
      few,
      record {
        consumed = and_nothing (remaining (inner_of reader)) (remaining (inner_of between)) (remaining (inner_of next)) text consumed none;
        goes_on = so_far;
        not_ended = not_ended;
      },
      one ∙ steady_more,
    )
      where
        steady_more : one_more (failures_of between) ≡ one_more (failures_of reader)
        steady_more = λ i. one_more (steady i)
    no_piece room left fault.ShortFile (none, end, same) = (
      text,
      few,
      record {
        consumed = and_nothing (remaining (inner_of reader)) (remaining (inner_of between)) (remaining (inner_of next)) text consumed none;
        goes_on = so_far;
        not_ended = not_ended;
      },
      end,
    )
