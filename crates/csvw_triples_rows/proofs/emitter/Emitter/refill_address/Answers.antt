-- The fragment of a row needs no escape in an IRI.
use Rattle.std.proofs.Common.{◌≡◌, ◌∙◌, ℕ, List, true, sym, subst}
use Rattle.csvw_iri.specs.Safe.{is_iri}
use Rattle.csvw_triples_rows.proofs.Fragments.{fragment_raw}
use Rattle.csvw_triples_rows.proofs.emitter.Emitter.refill_address.Goals as goal

pub refill_with_fragment-requires-clause-raw : goal.refill_with_fragment-requires-clause-raw
refill_with_fragment-requires-clause-raw c =
    subst (λ (text : List ℕ). is_iri text ≡ true) (sym (c.as_str.ensures ∙ c.in_ok-refill_fragment.ensures)) (fragment_raw c.args.row.now.source)
