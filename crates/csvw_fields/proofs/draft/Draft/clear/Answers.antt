use Rattle.std.proofs.Common.{rules, refl, ap}
use Rattle.csvw_fields.specs.Bounds.{apart_all}
use Rattle.csvw_fields.proofs.DraftLemmas.{fresh_of, text_nil}
use Rattle.csvw_fields.proofs.draft.Draft.clear.Goals as goal

pub invariant_of-self-clause-within : goal.invariant_of-self-clause-within
invariant_of-self-clause-within c = search rules

pub invariant_of-self-clause-is_text : goal.invariant_of-self-clause-is_text
invariant_of-self-clause-is_text c = text_nil 0 _ c.clear.ensures.items

pub invariant_of-self-clause-bounded : goal.invariant_of-self-clause-bounded
invariant_of-self-clause-bounded c = ap (apart_all c.clear.new.self.items) c.clear-2.ensures.items

pub returns : goal.returns
returns c = fresh_of _ refl refl c.clear.ensures.items c.clear-2.ensures.items
