use Rattle.csvw_fields.proofs.BoundLemmas.{apart_bounds, empty_bounds}
use Rattle.csvw_fields.proofs.DraftRuns.{fresh_draft, draft_grows}
use Rattle.csvw_fields.specs.FieldLaws.{FieldsAreLawful}
use Rattle.csvw_fields.proofs.laws.field_laws.Goals as goal

pub returns : goal.returns
unfolding FieldsAreLawful
returns c = record {
  fresh_draft = fresh_draft;
  draft_grows = draft_grows;
  apart_bounds = apart_bounds;
  empty_bounds = empty_bounds;
}
