-- That tables can be read has at most one proof, so an invariant can contain it.
use Rattle.std.specs.Prelude.{List, [], ◌∷◌}
use Rattle.std.proofs.Props.{props}
use mathlib.Core.HLevel.{×_prop, Unit-prop}
use Rattle.csvw_records.specs.declared.dialect.Dialect.{Dialect}
use Rattle.csvw_records.specs.Lawful.{IsLawful}
use Rattle.csvw_datatype.specs.SoundProp.{IsSound-prop}
use Rattle.csvw_columns.specs.Distinct.{AreNamedApart}
use Rattle.csvw_columns.specs.Ready.{AreReady, IsReady}
use Rattle.csvw_columns_core.specs.Sound.{AreSound-prop}
use Rattle.csvw_columns.specs.declared.plan.TablePlan.{TablePlan}

lawful-prop : (d : Dialect) → IsProp (IsLawful d)
lawful-prop d x y =
    let delimiter_cr_prop : IsProp _ = hlevel props in
    let delimiter_lf_prop : IsProp _ = hlevel props in
    let quote_cr_prop : IsProp _ = hlevel props in
    let quote_lf_prop : IsProp _ = hlevel props in
    let prefix_prop : IsProp _ = hlevel props in
    let apart_prop : IsProp _ = hlevel props in
    let delimiter_escape_prop : IsProp _ = hlevel props in
    let quote_escape_prop : IsProp _ = hlevel props in
    let terminators_prop : IsProp _ = hlevel props in
    λ i. record {
      delimiter_cr = delimiter_cr_prop x.delimiter_cr y.delimiter_cr i;
      delimiter_lf = delimiter_lf_prop x.delimiter_lf y.delimiter_lf i;
      quote_cr = quote_cr_prop x.quote_cr y.quote_cr i;
      quote_lf = quote_lf_prop x.quote_lf y.quote_lf i;
      prefix = prefix_prop x.prefix y.prefix i;
      apart = apart_prop x.apart y.apart i;
      delimiter_escape = delimiter_escape_prop x.delimiter_escape y.delimiter_escape i;
      quote_escape = quote_escape_prop x.quote_escape y.quote_escape i;
      terminators = terminators_prop x.terminators y.terminators i;
    }

ready-prop : (plan : TablePlan) → IsProp (IsReady plan)
ready-prop plan x y =
    let skipped_prop : IsProp _ = hlevel props in
    let limit_prop : IsProp _ = hlevel props in
    let names_prop : IsProp (AreNamedApart plan.declared) = hlevel props in
    λ i. record {
      dialect = lawful-prop plan.dialect x.dialect y.dialect i;
      skipped = skipped_prop x.skipped y.skipped i;
      limit = limit_prop x.limit y.limit i;
      names = names_prop x.names y.names i;
      declared = AreSound-prop plan.declared x.declared y.declared i;
      header = IsSound-prop _ x.header y.header i;
    }

pub AreReady-prop : (plans : List TablePlan) → IsProp (AreReady plans)
AreReady-prop [] = Unit-prop
AreReady-prop (plan ∷ plans) = ×_prop (ready-prop plan) (AreReady-prop plans)
