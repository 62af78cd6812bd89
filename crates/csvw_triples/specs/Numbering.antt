-- The numbers of the blank nodes of annotations, in the order of the triples that lead to them: `note_numbers`.
use Rattle.std.specs.Prelude.{ℕ, zero, suc, ◌+◌, List, [], ◌∷◌, flat_map}
use Rattle.csvw_triples_core.specs.declared.origin.Origin.{Origin}
use Rattle.csvw_triples_core.specs.declared.origin.Origin.TheVariants as origin
use Rattle.csvw_triples_core.specs.declared.term.Term.{Term}
use Rattle.csvw_triples_core.specs.declared.term.Term.TheVariants as term
use Rattle.csvw_triples_core.specs.declared.term.Triple.{Triple}

abbrev pub number_of : Origin → List ℕ
number_of (origin.Note n) = n ∷ []
number_of origin.Group = []
number_of (origin.Table t) = []
number_of (origin.Row t r) = []
number_of (origin.Subject t r) = []
number_of (origin.Entry t r c i) = []

abbrev pub number_in : Term → List ℕ
number_in (term.Named iri) = []
number_in (term.Blank o) = number_of o
number_in (term.Literal lit) = []

-- the numbers of the annotation objects that these triples end with, in their order
abbrev pub note_numbers : List Triple → List ℕ
note_numbers xs = flat_map (λ x. number_in x.o) xs

-- the next numbers after n, so many of them
abbrev pub counted : ℕ → ℕ → List ℕ
counted n zero = []
counted n (suc count) = (n + 1) ∷ counted (n + 1) count
