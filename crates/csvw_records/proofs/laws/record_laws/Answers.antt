use Rattle.csvw_records.proofs.Broken.{run_tells}
use Rattle.csvw_records.proofs.Complete.{nothing_ends}
use Rattle.csvw_records.proofs.Continue.{term_some, unsettled_is, clear_all, fields_next, continues_maybe, continues_ignored}
use Rattle.csvw_records.proofs.FrontLaws.{by_file, begins_front_of, rows_later, begins_later_front}
use Rattle.csvw_records.proofs.GoingOn.{breaks_next, last_goes, goes_on_begins, no_stop}
use Rattle.csvw_records.proofs.Joins.{settled_all, settled_clear, run_join, line_joins}
use Rattle.csvw_records.proofs.Lookahead.{term_within, term_stays, row_stays, rows_again}
use Rattle.csvw_records.proofs.IgnoredRows.{terminator_breaks, ends_break, ignored_same}
use Rattle.csvw_records.proofs.Prefixes.{same_start}
use Rattle.csvw_records.proofs.RowLaws.{line_complete, row_complete, row_sound, row_unique}
use Rattle.csvw_records.proofs.RunSteps.{run_plain, broken_within}
use Rattle.csvw_records.proofs.Sees.{sees, continues_quoted, continues_unquoted}
use Rattle.csvw_records.proofs.SettledLemmas.{settled_last, settled_same}
use Rattle.csvw_records.proofs.Shown.{wrong_whole, wrong_part, left_open}
use Rattle.csvw_records.proofs.Stands.{no_more, stops_at, rows_before, are_longest, not_all}
use Rattle.csvw_records.proofs.Terminators.{term_chars, term_text, term_codes, term_same}
use Rattle.csvw_records.proofs.Texts.{byte_len_less, breaks_none, decide_part, not_both, first_end}
use Rattle.csvw_records.proofs.Utf8.{text_more, pending_on, by_begun}
use Rattle.csvw_records.specs.RecordLaws.{RecordsAreLawful}
use Rattle.csvw_records.proofs.laws.record_laws.Goals as goal

pub returns : goal.returns
unfolding RecordsAreLawful
returns c = record {
  texts = record {
    text_more = text_more;
    pending_on = pending_on;
    by_begun = by_begun;
    same_start = same_start;
    byte_len_less = byte_len_less;
  };
  terminators = record {
    term_some = term_some;
    nothing_ends = nothing_ends;
    term_within = term_within;
    term_stays = term_stays;
    term_same = term_same;
    term_codes = term_codes;
    term_chars = term_chars;
    term_text = term_text;
    terminator_breaks = terminator_breaks;
    ends_break = ends_break;
    ignored_same = ignored_same;
  };
  passes = record {
    settled_all = settled_all;
    unsettled_is = unsettled_is;
    settled_last = settled_last;
    settled_same = settled_same;
    settled_clear = settled_clear;
    clear_all = clear_all;
    run_join = run_join;
    run_plain = run_plain;
    broken_within = broken_within;
    line_joins = line_joins;
    fields_next = fields_next;
  };
  rows = record {
    line_complete = line_complete;
    row_complete = row_complete;
    row_sound = row_sound;
    row_unique = row_unique;
    row_stays = row_stays;
    rows_again = rows_again;
    no_more = no_more;
    breaks_none = breaks_none;
    breaks_next = breaks_next;
    run_tells = run_tells;
    sees = sees;
  };
  parts = record {
    continues_maybe = continues_maybe;
    continues_ignored = continues_ignored;
    continues_quoted = continues_quoted;
    continues_unquoted = continues_unquoted;
    wrong_whole = wrong_whole;
    wrong_part = wrong_part;
    left_open = left_open;
  };
  stops = record {
    decide_part = decide_part;
    not_both = not_both;
    first_end = first_end;
    stops_at = stops_at;
    rows_before = rows_before;
    are_longest = are_longest;
    not_all = not_all;
    last_goes = last_goes;
    goes_on_begins = goes_on_begins;
    no_stop = no_stop;
  };
  fronts = record {
    by_file = by_file;
    begins_front_of = begins_front_of;
    rows_later = rows_later;
    begins_later_front = begins_later_front;
  };
}
