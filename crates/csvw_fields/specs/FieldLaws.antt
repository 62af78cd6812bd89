-- Laws of drafts and bounds, by which a reader of rows is proved.
use Rattle.std.specs.Prelude.{◌≡◌, ◌==◌, ℕ, true, List, ◌++◌, length, IsUtf8}
use Rattle.std.specs.List.{list_all}
use Rattle.std.specs.Str.{is_utf8}
use Rattle.csvw_records.specs.declared.dialect.Dialect.{Dialect}
use Rattle.csvw_fields.specs.Bounds.{are_bounds, fields_at, apart_all, texts_apart}
use Rattle.csvw_fields.specs.Drafts.{IsFresh, IsDraft}
use Rattle.csvw_fields.specs.declared.bound.Bound.{Bound}
use Rattle.csvw_fields.specs.declared.draft.Draft.{Draft}

pub record FieldLaws : Type 0 where
  -- a draft of nothing is one of each text
  pub fresh_draft : (d : Dialect) (s : Draft) (rest : List ℕ) → IsFresh s → is_utf8 rest ≡ true → IsDraft d s rest
  -- it stays one if more bytes come
  pub draft_grows : (d : Dialect) (s : Draft) (rest more : List ℕ) → IsDraft d s rest → IsUtf8 more → IsDraft d s (rest ++ more)
  -- bounds in the second buffer are bounds of both
  pub apart_bounds : (text spare : List ℕ) (bounds : List Bound) → apart_all spare bounds ≡ true
      → (are_bounds text spare bounds ≡ true) × (fields_at text spare bounds ≡ texts_apart spare bounds)
  -- a bound is empty if its text is
  pub empty_bounds : (text spare : List ℕ) (bounds : List Bound) → are_bounds text spare bounds ≡ true
      → list_all (λ b. b.from == b.to) bounds ≡ list_all (λ x. length x == 0) (fields_at text spare bounds)

-- all these laws hold: one fact, which a search for proofs doesn't look into
unfoldable pub FieldsAreLawful : Type 0
FieldsAreLawful = FieldLaws

pub field_laws_of : FieldsAreLawful → FieldLaws
unfolding FieldsAreLawful
field_laws_of laws = laws
