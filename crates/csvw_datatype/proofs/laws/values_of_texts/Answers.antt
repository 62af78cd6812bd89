use Rattle.std.proofs.Common.{◌≡◌, ◌∙◌, sym, ℕ, List, Option, Some, ℤ}
use Rattle.csvw_datatype_core.specs.declared.date_time.DateTime.{DateTime}
use Rattle.csvw_datatype_core.specs.declared.date_time.DateTime.TheVariants as date_times
use Rattle.csvw_datatype_core.specs.declared.date_time.Zone.{Zone}
use Rattle.csvw_datatype_core.specs.DateTimes.{date_time_value}
use Rattle.csvw_datatype_core.specs.LexicalDates.{IsMomentNumber}
use Rattle.csvw_datatype.proofs.LawLemmas as law
use Rattle.csvw_datatype.proofs.TextBoundLemmas.{never_local, of_moments, text_is_bound}
use Rattle.csvw_datatype.proofs.laws.values_of_texts.Goals as goal

abbrev InRange : Option DateTime → Zone → List ℕ → Type 0
InRange o zone text = (moment : ℤ) → o ≡ Some (date_times.Second moment) → IsMomentNumber moment

abbrev StaysWritten : Option DateTime → Zone → List ℕ → Type 0
StaysWritten o zone text = (form : List ℕ) → o ≡ Some (date_times.Written form) → date_time_value zone form ≡ Some (date_times.Written form)

pub returns-clause-writable : goal.returns-clause-writable
returns-clause-writable c =
    law.writable c.one_date.ensures.in_range c.one_moment.ensures.in_range (of_moments InRange c.date_times.ensures.in_range c.stamps.ensures.in_range)
    c.zoned_dates.ensures.in_range

pub returns-clause-in_type : goal.returns-clause-in_type
returns-clause-in_type c =
    law.bound c.one_date.ensures.in_range c.one_moment.ensures.in_range c.canonical_texts_stay.ensures
    (text_is_bound (record {
      time = c.one_clock_text.ensures;
      part = λ part text form is.
          sym (c.date_parts_have_fields.ensures.fields part form) ∙ c.date_parts_have_fields.ensures.form part text form is;
      second = of_moments InRange c.date_times.ensures.in_range c.stamps.ensures.in_range;
      zone = never_local c.date_times.ensures.zone c.stamps.ensures.zone;
      written = of_moments StaysWritten c.one_date_time_text.ensures c.stamps.ensures.written;
      day = c.zoned_dates.ensures.in_range;
      dated = c.zoned_dates.ensures.written;
      duration = c.one_duration_text.ensures;
    }))
