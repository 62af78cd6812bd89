-- About links, if `AsBefore` is replaced by the link of the column before.
use Rattle.std.proofs.Common.{◌≡◌, ◌∙◌, ℕ, zero, suc, ◌+◌, ◌<◌, List, [], ◌∷◌, ◌++◌, refl, sym, ap, map, take, get_or, length, arith}
use Rattle.std.proofs.lemmas.List.{take_more, map-append, length-map}
use Rattle.csvw_template.specs.declared.vars.Var.{Var}
use Rattle.csvw_columns_core.specs.declared.column.Column.{Column}
use Rattle.csvw_columns_core.specs.declared.columns.Columns.{Columns}
use Rattle.csvw_annotate.specs.declared.bound_link.AboutLink.{AboutLink}
use Rattle.csvw_annotate.specs.declared.bound_link.AboutLink.TheVariants.{AsBefore, Own}
use Rattle.csvw_annotate.specs.declared.bound_link.BoundLink.{BoundLink}
use Rattle.csvw_annotate.specs.declared.bound_link.BoundLink.TheVariants.{Same}
use Rattle.csvw_annotate.specs.declared.bound_link.Which.{Which}
use Rattle.csvw_annotate.specs.declared.bound_link.Which.TheVariants.{About}
use Rattle.csvw_annotate.specs.declared.links.Made.{Made}
use Rattle.csvw_annotate.specs.BoundLinks.{link_in, link_of_column, told_abouts}
use Rattle.csvw_annotate.specs.Links.{no_link}
use Rattle.csvw_annotate.specs.MadeAt.{IsAboutLink, IsMadeAt, IsMadeBefore}

abbrev last_or : BoundLink → List BoundLink → BoundLink
last_or before [] = before
last_or before (link ∷ links) = last_or link links

told_own : (b : BoundLink) (links : List AboutLink) (link : BoundLink) → told_abouts b (links ++ Own link ∷ []) ≡ told_abouts b links ++ link ∷ []
told_own b [] link = refl
told_own b (AsBefore ∷ links) link = ap (λ xs. b ∷ xs) (told_own b links link)
told_own b (Own x ∷ links) link = ap (λ xs. x ∷ xs) (told_own x links link)

told_before : (b : BoundLink) (links : List AboutLink) → told_abouts b (links ++ AsBefore ∷ []) ≡ told_abouts b links ++ last_or b (told_abouts b links) ∷ []
told_before b [] = refl
told_before b (AsBefore ∷ links) = ap (λ xs. b ∷ xs) (told_before b links)
told_before b (Own x ∷ links) = ap (λ xs. x ∷ xs) (told_before x links)

last_is : (f : Column → BoundLink) (b : BoundLink) (i : ℕ) (columns : List Column) (column : Column) → i < length columns → column ≡ get_or columns i column
    → last_or b (map f (take (suc i) columns)) ≡ f column
last_is f b i [] column lt e = absurd (omega (arith, lt))
last_is f b zero (c ∷ columns) column lt e = ap f (sym e)
last_is f b (suc i) (c ∷ columns) column lt e = last_is f (f c) i columns column (omega (arith, lt)) e

-- the column at a place
abbrev at : (columns : List Column) (i : ℕ) → i < length columns → Column
at [] i lt = absurd (omega (arith, lt))
at (c ∷ columns) zero lt = c
at (c ∷ columns) (suc i) lt = at columns i (omega (arith, lt))

at_is : (columns : List Column) (i : ℕ) (lt : i < length columns) → at columns i lt ≡ get_or columns i (at columns i lt)
at_is [] i lt = absurd (omega (arith, lt))
at_is (c ∷ columns) zero lt = refl
at_is (c ∷ columns) (suc i) lt = at_is columns i (omega (arith, lt))

-- the links of the columns passed so far, and one more
one_more : (f : Column → BoundLink) (columns : List Column) (i : ℕ) (column : Column) → i < length columns → column ≡ get_or columns i column
    → map f (take i columns) ++ f column ∷ [] ≡ map f (take (i + 1) columns)
one_more f columns i column lt is =
    sym (map-append f (take i columns) (column ∷ [])) ∙ ap (λ x. map f (take i columns ++ x ∷ [])) is ∙ sym (ap (map f) (take_more columns i column lt))

-- one about link more
pub about_more : (columns : Columns) (links : List AboutLink) (link : AboutLink) (i : ℕ) → i < length columns.columns
    → told_abouts (Same no_link) links ≡ map (link_of_column About columns) (take i columns.columns) → IsAboutLink columns link i
    → told_abouts (Same no_link) (links ++ link ∷ []) ≡ map (link_of_column About columns) (take (i + 1) columns.columns)
about_more columns links (Own link) i lt told is =
    let f = link_of_column About columns in
    let column = at columns.columns i lt in
    let there = at_is columns.columns i lt in
    told_own (Same no_link) links link ∙ ap (λ xs. xs ++ link ∷ []) told ∙ ap (λ x. map f (take i columns.columns) ++ x ∷ []) (is column there)
    ∙ one_more f columns.columns i column lt there
about_more columns links AsBefore zero lt told is = absurd is
about_more columns links AsBefore (suc i) lt told is =
    let f = link_of_column About columns in
    let below : i < length columns.columns = omega arith in
    let one = at columns.columns i below in
    let other = at columns.columns (suc i) lt in
    let there = at_is columns.columns (suc i) lt in
    told_before (Same no_link) links ∙ ap (λ xs. xs ++ last_or (Same no_link) xs ∷ []) told
    ∙ ap (λ x. map f (take (suc i) columns.columns) ++ x ∷ [])
    (last_is f (Same no_link) i columns.columns one below (at_is columns.columns i below) ∙ is one other (at_is columns.columns i below) there)
    ∙ one_more f columns.columns (suc i) other lt there

told_length : (b : BoundLink) (links : List AboutLink) → length (told_abouts b links) ≡ length links
told_length b [] = refl
told_length b (AsBefore ∷ links) = ap (λ n. suc n) (told_length b links)
told_length b (Own x ∷ links) = ap (λ n. suc n) (told_length x links)

-- there is an about link for each column
pub about_places : (columns : Columns) (links : List AboutLink) → told_abouts (Same no_link) links ≡ map (link_of_column About columns) columns.columns
    → length links ≡ length columns.columns
about_places columns links told =
    sym (told_length (Same no_link) links) ∙ ap length told ∙ length-map columns.columns (link_of_column About columns)

told_at : (b : BoundLink) (links : List AboutLink) (i : ℕ) (link d : BoundLink) (x : AboutLink) → i < length links → x ≡ get_or links i x → x ≡ Own link
    → get_or (told_abouts b links) i d ≡ link
told_at b [] i link d x lt e f = absurd (omega (arith, lt))
told_at b (AsBefore ∷ links) zero link d x lt e f = let wrong : AsBefore ≡ Own link = sym e ∙ f in cc
told_at b (Own y ∷ links) zero link d x lt e f = let same : Own y ≡ Own link = sym e ∙ f in cc
told_at b (AsBefore ∷ links) (suc i) link d x lt e f = told_at b links i link d x (omega (arith, lt)) e f
told_at b (Own y ∷ links) (suc i) link d x lt e f = told_at y links i link d x (omega (arith, lt)) e f

first_as_before : (b : BoundLink) (links : List AboutLink) (d : BoundLink) (x : AboutLink) → 0 < length links → x ≡ get_or links 0 x → x ≡ AsBefore
    → get_or (told_abouts b links) 0 d ≡ b
first_as_before b [] d x lt e f = absurd (omega (arith, lt))
first_as_before b (AsBefore ∷ links) d x lt e f = refl
first_as_before b (Own y ∷ links) d x lt e f = let wrong : Own y ≡ AsBefore = sym e ∙ f in cc

later_as_before : (b : BoundLink) (links : List AboutLink) (i : ℕ) (d : BoundLink) (x : AboutLink) → suc i < length links → x ≡ get_or links (suc i) x
    → x ≡ AsBefore
    → get_or (told_abouts b links) (suc i) d ≡ get_or (told_abouts b links) i d
later_as_before b [] i d x lt e f = absurd (omega (arith, lt))
later_as_before b (AsBefore ∷ links) zero d x lt e f = first_as_before b links d x (omega (arith, lt)) e f
later_as_before b (Own y ∷ links) zero d x lt e f = first_as_before y links d x (omega (arith, lt)) e f
later_as_before b (AsBefore ∷ links) (suc i) d x lt e f = later_as_before b links i d x (omega (arith, lt)) e f
later_as_before b (Own y ∷ links) (suc i) d x lt e f = later_as_before y links i d x (omega (arith, lt)) e f

-- the link of the column at a place
pub mapped_at : (f : Column → BoundLink) (columns : List Column) (i : ℕ) (column : Column) (d : BoundLink) → i < length columns
    → column ≡ get_or columns i column
    → get_or (map f columns) i d ≡ f column
mapped_at f [] i column d lt e = absurd (omega (arith, lt))
mapped_at f (c ∷ columns) zero column d lt e = ap f (sym e)
mapped_at f (c ∷ columns) (suc i) column d lt e = mapped_at f columns i column d (omega (arith, lt)) e

module _ (columns : Columns) (links : List AboutLink) (told : told_abouts (Same no_link) links ≡ map (link_of_column About columns) columns.columns)
    (values : List Var) where
  -- an about link of its own
  pub own_at : (i : ℕ) (link : BoundLink) (x : AboutLink) (made : Made) → i < length columns.columns → x ≡ get_or links i x → x ≡ Own link
      → made ≡ link_in columns.url values link → IsMadeAt About columns values i made
  own_at i link x made lt e f m column at_column =
      let within : i < length links = let n = about_places columns links told in omega arith in
      m ∙ ap (link_in columns.url values) (
      sym (told_at (Same no_link) links i link link x within e f) ∙ ap (λ xs. get_or xs i link) told
      ∙ mapped_at (link_of_column About columns) columns.columns i column link lt at_column
      )

  -- that of the column before
  pub before_at : (i : ℕ) (x : AboutLink) (made : Made) → i < length columns.columns → x ≡ get_or links i x → x ≡ AsBefore
      → IsMadeBefore columns values i made → IsMadeAt About columns values i made
  before_at zero x made lt e f before column at_column =
      let d = Same no_link in
      let within : 0 < length links = let n = about_places columns links told in omega arith in
      before ∙ ap (link_in columns.url values) (
      sym (first_as_before d links d x within e f) ∙ ap (λ xs. get_or xs 0 d) told
      ∙ mapped_at (link_of_column About columns) columns.columns 0 column d lt at_column
      )
  before_at (suc i) x made lt e f before column at_column =
      let d = Same no_link in
      let below : i < length columns.columns = omega arith in
      let within : suc i < length links = let n = about_places columns links told in omega arith in
      let one = at columns.columns i below in
      let there = at_is columns.columns i below in
      before one there ∙ ap (link_in columns.url values) (
      sym (mapped_at (link_of_column About columns) columns.columns i one d below there) ∙ sym (ap (λ xs. get_or xs i d) told)
      ∙ sym (later_as_before d links i d x within e f) ∙ ap (λ xs. get_or xs (suc i) d) told
      ∙ mapped_at (link_of_column About columns) columns.columns (suc i) column d lt at_column
      )

-- a link of the column at a place
pub bound_at : (which : Which) (columns : Columns) (links : List BoundLink) (values : List Var) (place : ℕ) (link : BoundLink) (made : Made)
    → links ≡ map (link_of_column which columns) columns.columns → place < length columns.columns → link ≡ get_or links place link
    → made ≡ link_in columns.url values link → IsMadeAt which columns values place made
bound_at which columns links values place link made is lt e m column at_column =
    m ∙ ap (link_in columns.url values) (
    e ∙ ap (λ xs. get_or xs place link) is ∙ mapped_at (link_of_column which columns) columns.columns place column link lt at_column
    )
