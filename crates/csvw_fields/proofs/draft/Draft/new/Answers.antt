use Rattle.std.proofs.Common.{rules, refl, ap}
use Rattle.csvw_fields.specs.Bounds.{apart_all}
use Rattle.csvw_fields.proofs.DraftLemmas.{fresh_of, text_nil}
use Rattle.csvw_fields.proofs.draft.Draft.new.Goals as goal

pub invariant_of-result-clause-within : goal.invariant_of-result-clause-within
invariant_of-result-clause-within c = search rules

pub invariant_of-result-clause-is_text : goal.invariant_of-result-clause-is_text
invariant_of-result-clause-is_text c = text_nil 0 _ c.new.ensures.items

pub invariant_of-result-clause-bounded : goal.invariant_of-result-clause-bounded
invariant_of-result-clause-bounded c = ap (apart_all c.new.result.items) c.new-2.ensures.items

pub returns : goal.returns
returns c = fresh_of _ refl refl c.new.ensures.items c.new-2.ensures.items
