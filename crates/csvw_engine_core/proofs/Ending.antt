-- How a table ends.
use Rattle.std.proofs.Common.{◌≡◌, ◌<◌, ℕ, zero, suc, Bool, true, List, [], ◌∷◌, ◌++◌, refl, sym, ap, ◌∙◌, subst, arith, map, length, Some, None}
use Rattle.std.proofs.Common.{Result, Ok, Err, inl, inr}
use Rattle.std.proofs.lemmas.List.{take_all, drop_all}
use Rattle.csvw_rows.specs.GivenLaws.{GivenFirst}
use Rattle.csvw_records.specs.RowValue.{Given}
use Rattle.csvw_columns_core.specs.declared.columns.Columns.{Columns}
use Rattle.csvw_columns.specs.HeaderMatch.{IsMatch}
use Rattle.csvw_columns.specs.declared.plan.TablePlan.{TablePlan}
use Rattle.csvw_annotate.specs.declared.row.Row.{Row}
use Rattle.csvw_triples_core.specs.Taking.{IsAsReady}
use Rattle.csvw_triples_core.specs.declared.mode.Mode.{Mode}
use Rattle.csvw_triples_core.specs.declared.term.Triple.{Triple}
use Rattle.csvw_engine_core.specs.Annotated.{header_count, header_row, header_rows, data_rows, first_width, first_source, source_of, needed, IsHead}
use Rattle.csvw_engine_core.specs.Annotated.{HasRows, AreAnnotated, GivesNone}
use Rattle.csvw_engine_core.specs.Heads.{Settled}
use Rattle.csvw_engine_core.specs.Tables.{Outlets, Gone, GivesAll, GivesWhole, TableOutcome, EndOutcome, SettlesHead, SettlesTable, is_ended}
use Rattle.csvw_engine_core.specs.declared.stop.Stop.{Stop}
use Rattle.csvw_engine_core.specs.declared.stop.Stop.TheVariants as stop
use Rattle.csvw_engine_core.specs.declared.table.Table.{Table}
use Rattle.csvw_engine_core.proofs.Going.{some_given, same_triples, same_faults, none_more}
use Rattle.csvw_engine_core.proofs.Headers.{below_needed}

short_width : (n : ℕ) (given : List Given) → length given < needed n → first_width n given ≡ None
short_width zero [] h = refl
short_width zero (g ∷ given) h = absurd (omega arith)
short_width (suc n) given h = refl

first_at_end : (given : List Given) → source_of (map header_row given) 0 ≡ first_source given
first_at_end [] = refl
first_at_end (g ∷ given) = refl

-- all rows of a short header
short_rows : (plan : TablePlan) (given : List Given) → length given < needed (header_count plan) → header_rows plan given ≡ map header_row given
short_rows plan given h = ap (map header_row) (take_all (header_count plan) given (below_needed (header_count plan) (length given) h))

short_data : (plan : TablePlan) (given : List Given) → length given < needed (header_count plan) → data_rows plan given ≡ []
short_data plan given h = drop_all (header_count plan) given (below_needed (header_count plan) (length given) h)

module _ {S : Type 0} (gains : S → List Triple → S → Type 0) (cuts : S → Triple → S → Type 0) (is_open : S → Bool) (failed : S → ℕ)
    (stays : (s : S) → gains s [] s) (goes_on : (a b c : S) (xs ys : List Triple) → gains a xs b → gains b ys c → gains a (xs ++ ys) c)
    (plan : TablePlan) (mode : Mode) (bytes : List ℕ) (given : List Given) (rows : List Row) (old : Table) (before now : Outlets S) where
  -- a stop before the end
  pub ends_wrong : (new : Table) (reason : Stop) → TableOutcome gains cuts is_open failed plan mode bytes true given rows old new before now (Err reason)
      → EndOutcome gains cuts is_open failed plan mode bytes given rows old new before now (Err reason)
  ends_wrong new stop.Memory h = h
  ends_wrong new stop.Write h = h
  ends_wrong new (stop.Rows table row reason) h = h
  ends_wrong new (stop.Table table row reason) h = (
    record { raws = h.0.raws; more = h.0.more; columns = h.0.columns; faults = h.0.faults; table = h.0.table; why = inl h.0.why; took = h.0.took },
    h.1,
  )
  ends_wrong new other h = absurd h

  pub end_err : (new : Table) (r : Result Unit Stop) (e f : Stop) → r ≡ Err e → e ≡ f
      → EndOutcome gains cuts is_open failed plan mode bytes given rows old new before now (Err f)
      → EndOutcome gains cuts is_open failed plan mode bytes given rows old new before now r
  end_err new r e f p q so = subst (EndOutcome gains cuts is_open failed plan mode bytes given rows old new before now) (sym (p ∙ ap Err q)) so

  module _ (mid : Table) (all : GivesAll gains plan mode bytes true given rows old mid before now) where
    abbrev g : Gone gains plan mode bytes true given rows old mid before now
    g = all.gone

    -- the columns were known
    known_end : (columns : Columns) → mid.head.columns ≡ Some columns → GivesWhole gains plan mode bytes rows old mid before now
    known_end columns e =
        let head : IsHead plan (given ++ g.raws) (Some columns) mid.head.faults =
        subst (λ z. IsHead plan (given ++ g.raws) z mid.head.faults) e g.holds.head.known in
        record {
          more = g.more;
          holds = record {
            number_is = g.holds.number_is;
            mode_is = g.holds.mode_is;
            ended = g.holds.reader.ended_is;
            given = given ++ g.raws;
            at_rest = all.at_rest;
            columns = columns;
            columns_are = e;
            table = record { head = head.1; has = subst (λ z. HasRows plan z (given ++ g.raws) (rows ++ g.more)) e g.holds.has };
          };
          took = g.took;
          kept = g.kept;
          told = g.told;
          keeps = g.keeps;
        }

    module _ (none : mid.head.columns ≡ None) where
      short : length (given ++ g.raws) < needed (header_count plan)
      short = let k : IsHead plan (given ++ g.raws) None mid.head.faults =
          subst (λ z. IsHead plan (given ++ g.raws) z mid.head.faults) none g.holds.head.known in k.0

      no_more : mid.head.columns ≡ None → g.more ≡ []
      no_more e = none_more plan mid.head.columns (given ++ g.raws) rows g.more g.holds.has e

      heads_all : header_rows plan (given ++ g.raws) ≡ mid.head.rows
      heads_all = short_rows plan (given ++ g.raws) short ∙ sym (g.holds.head.waits none)

      -- the header had fewer rows, and makes columns
      settled_end : (new : Table) → new ≡ record mid { head = new.head } → Settled plan None mid.head new.head
          → GivesWhole gains plan mode bytes rows old new before now
      settled_end new same s =
          let stay : (columns : Columns) → mid.head.columns ≡ Some columns → new.head.columns ≡ Some columns =
          λ columns e. let wrong : None ≡ Some columns = sym none ∙ e in cc in
          let empty : rows ++ g.more ≡ [] = subst (λ z. HasRows plan z (given ++ g.raws) (rows ++ g.more)) none g.holds.has in
          record {
            more = g.more;
            holds = record {
              number_is = ap (λ (t : Table). t.number) same ∙ g.holds.number_is;
              mode_is = ap (λ (t : Table). t.mode) same ∙ g.holds.mode_is;
              ended = ap (λ (t : Table). is_ended t) same ∙ g.holds.reader.ended_is;
              given = given ++ g.raws;
              at_rest = all.at_rest;
              columns = s.columns;
              columns_are = s.is;
              table = record {
                head = subst (λ z. IsMatch plan z (first_width (header_count plan) (given ++ g.raws)) s.columns new.head.faults) (sym heads_all)
                    (subst (λ w. IsMatch plan mid.head.rows w s.columns new.head.faults)
                    (sym (short_width (header_count plan) (given ++ g.raws) short)) s.gives);
                has = subst (λ z. AreAnnotated s.columns z (rows ++ g.more)) (sym (short_data plan (given ++ g.raws) short)) empty;
              };
            };
            took = subst (λ ts. gains before.sink ts now.sink)
                (sym (same_triples mode plan.number mid.head.columns new.head.columns g.more stay no_more)) g.took;
            kept = g.kept;
            told = ap (λ (t : Table). t.faults) same
                ∙ (g.told ∙ ap (λ z. old.faults ++ z) (sym (same_faults plan.number mid.head.columns new.head.columns g.more stay no_more)));
            keeps = λ columns e. stay columns (g.keeps columns e);
          }

      -- or is refused
      settle_ends : GivenFirst → IsAsReady is_open failed before.sink now.sink → (new : Table) (r : Result Unit Stop) → SettlesHead plan mid new r
          → EndOutcome gains cuts is_open failed plan mode bytes given rows old new before now r
      settle_ends law ready new (Ok u) (same, settled) = (settled_end new same settled, ready)
      settle_ends law ready new (Err stop.Memory) s =
          (some_given gains cuts is_open failed stays goes_on plan mode bytes true given rows old before law mid now g, ready)
      settle_ends law ready new (Err (stop.Table table row reason)) (_, (_, gives_none, source)) = (
        record {
          raws = g.raws;
          more = g.more;
          columns = mid.head.columns;
          faults = mid.head.faults;
          table = record { head = g.holds.head.known; has = g.holds.has };
          why = inr (
            all.at_rest,
            none,
            record {
              short = short;
              refused = subst (λ z. GivesNone plan z (first_width (header_count plan) (given ++ g.raws)) reason) (sym heads_all)
                  (subst (λ w. GivesNone plan mid.head.rows w reason) (sym (short_width (header_count plan) (given ++ g.raws) short)) gives_none);
              row_is = source ∙ (ap (λ z. source_of z 0) (g.holds.head.waits none) ∙ first_at_end (given ++ g.raws));
            },
          );
          took = g.took;
        },
        ready,
      )
      settle_ends law ready new (Err other) s = absurd s.1

    pub ends : GivenFirst → IsAsReady is_open failed before.sink now.sink → (new : Table) (r : Result Unit Stop) → SettlesTable plan mid new r
        → EndOutcome gains cuts is_open failed plan mode bytes given rows old new before now r
    ends law ready new r (inl (columns, known, same, ok)) =
        subst (EndOutcome gains cuts is_open failed plan mode bytes given rows old new before now) (sym ok)
        (subst (λ t. GivesWhole gains plan mode bytes rows old t before now) (sym same) (known_end columns known), ready)
    ends law ready new r (inr (none, settles)) = settle_ends none law ready new r settles
