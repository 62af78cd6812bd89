-- The rows that a reader gave, and the rows that come first.
use Rattle.std.proofs.Common.{◌≡◌, ℕ, ◌+◌, true, false, List, [], ◌∷◌, ◌++◌, length, map, refl, sym, ap, ◌∙◌, subst, ◌⊎◌, inl, inr}
use Rattle.std.specs.List.{enumerate_from}
use Rattle.csvw_records.specs.declared.dialect.Dialect.{Dialect}
use Rattle.csvw_records.specs.Lawful.{IsLawful}
use Rattle.csvw_records.specs.Files.{Row, AreRows, EndsOpen, Front, Body, given, remaining, content, is_text, without_mark}
use Rattle.csvw_rows.specs.SourceState.{rest_of}
use Rattle.csvw_records.specs.RowValue.{Given}
use Rattle.csvw_records.specs.Stops.{Begins}
use Rattle.csvw_records.specs.FirstRows.{ComeFirst}
use Rattle.csvw_rows.specs.GivenLaws.{GivenBegin, GivenBeginLater, GivenFirst, GivenFirstLater, NothingGiven}
use Rattle.csvw_records.specs.FrontLaws.{Begun}
use Rattle.csvw_rows.proofs.Bodies.{Body_append}
use Rattle.csvw_rows.proofs.TextLemmas.{text_none}
use Rattle.csvw_records.specs.RecordLaws.{RecordLaws}

body_begun : (d : Dialect) (rows front : List Row) → Begun rows front → (rest : List Given) × (Body d front ≡ Body d rows ++ rest)
body_begun d rows front (more, e) =
    (map (given d) (enumerate_from (0 + length (remaining d 1 rows)) (remaining d (1 + length rows) more)), ap (Body d) e ∙ Body_append d rows more)

module _ (laws : RecordLaws) where
  pub given_begin : GivenBegin
  given_begin s d max bytes ended before front h f = told (body_begun d h.rows front (by_reached h.read.reached))
    where
      w : IsLawful d
      w = subst IsLawful h.dialect s.rules.lawful

      by_reached : AreRows d 0 (content bytes) h.rows (rest_of s.source) ⊎ ((ended ≡ true) × (is_text bytes ≡ true) × EndsOpen d (content bytes) h.rows
          × (rest_of s.source ≡ []) × Begins d max (content bytes)) → Begun h.rows front
      by_reached (inl are) = laws.fronts.begins_front_of d max bytes ended h.rows front (rest_of s.source) w h.read.limits are f
      by_reached (inr (e, t, o, z, b)) = by_front f
        where
          by_front : Front d max bytes ended front → Begun h.rows front
          by_front (inl (e, k)) = laws.fronts.by_file d (content bytes) h.rows front [] w (inr o) k.are_rows
          by_front (inr (n, longest)) = absurd (n e h.rows (record { is_utf8 = t; are_rows = inr o; limits = h.read.limits }))

      told : (rest : List Given) × (Body d front ≡ Body d h.rows ++ rest) → (rest : List Given) × (Body d front ≡ before ++ rest)
      told (rest, e) = (rest, e ∙ ap (λ l. l ++ rest) (sym h.given_is))

  pub given_begin_later : GivenBeginLater
  given_begin_later s d max bytes more ended before later h g = told (body_begun d h.rows later (by_reached h.read.reached))
    where
      w : IsLawful d
      w = subst IsLawful h.dialect s.rules.lawful

      by_reached : AreRows d 0 (content bytes) h.rows (rest_of s.source) ⊎ ((false ≡ true) × (is_text bytes ≡ true) × EndsOpen d (content bytes) h.rows
          × (rest_of s.source ≡ []) × Begins d max (content bytes)) → Begun h.rows later
      by_reached (inl are) = laws.fronts.begins_later_front d max bytes more ended h.rows later (rest_of s.source) w h.read.limits are g
      by_reached (inr (e, t, o, z, b)) = absurd cc

      told : (rest : List Given) × (Body d later ≡ Body d h.rows ++ rest) → (rest : List Given) × (Body d later ≡ before ++ rest)
      told (rest, e) = (rest, e ∙ ap (λ l. l ++ rest) (sym h.given_is))

pub given_first : GivenFirst
given_first s d max bytes ended before h = record { rows = h.rows; come = by_reached h.read.reached; all = h.given_is }
  where
    by_reached : AreRows d 0 (content bytes) h.rows (rest_of s.source) ⊎ ((ended ≡ true) × (is_text bytes ≡ true) × EndsOpen d (content bytes) h.rows
        × (rest_of s.source ≡ []) × Begins d max (content bytes)) → ComeFirst d max bytes ended h.rows
    by_reached (inl are) = inl (record { rest = rest_of s.source; are_rows = are; limits = h.read.limits })
    by_reached (inr (e, t, o, z, b)) = inr (e, record { is_utf8 = t; are_rows = inr o; limits = h.read.limits })

module _ (laws : RecordLaws) where
  pub given_first_later : GivenFirstLater
  given_first_later s d max bytes more ended before h = record { rows = h.rows; come = by_reached h.read.reached; all = h.given_is }
    where
      by_reached : AreRows d 0 (content bytes) h.rows (rest_of s.source) ⊎ ((false ≡ true) × (is_text bytes ≡ true) × EndsOpen d (content bytes) h.rows
          × (rest_of s.source ≡ []) × Begins d max (content bytes)) → ComeFirst d max (bytes ++ more) ended h.rows
      by_reached (inl are) = let a = laws.fronts.rows_later d bytes more h.rows (rest_of s.source) are in inl
          (record { rest = a.0; are_rows = a.1; limits = h.read.limits })
      by_reached (inr (e, t, o, z, b)) = absurd cc

  pub nothing_given : NothingGiven
  nothing_given s d max before h = h.given_is ∙ by_rows h.rows h.read.reached
    where
      none : content (let e : List ℕ = [] in e) ≡ []
      none = ap without_mark text_none

      by_rows : (rows : List Row) → AreRows d 0 (content []) rows (rest_of s.source) ⊎ ((false ≡ true) × (is_text [] ≡ true) × EndsOpen d (content []) rows
          × (rest_of s.source ≡ []) × Begins d max (content [])) → Body d rows ≡ []
      by_rows [] r = refl
      by_rows (row ∷ rows) (inl are) =
          absurd (laws.rows.no_more d 0 row rows (rest_of s.source) (subst (λ (l : List ℕ). AreRows d 0 l (row ∷ rows) (rest_of s.source)) none are))
      by_rows (row ∷ rows) (inr (e, t, o, z, b)) = absurd cc
