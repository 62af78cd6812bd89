-- A fault of one part is a fault of the whole.
use Rattle.std.proofs.Common.{List, ◌++◌}
use Rattle.std.proofs.lemmas.List.Elements.{Contains-append_left, Contains-append_right}
use Rattle.csvw_meta_core.specs.declared.fault.MetaFault.{MetaFault}
use Rattle.csvw_meta_core.specs.declared.fault.Refusal.{Refusal}
use Rattle.csvw_meta_core.specs.declared.fault.Refusal.TheVariants as refusal
use Rattle.csvw_meta_core.specs.Reads.{Fails}

pub fails_first : (e : Refusal) (xs ys : List MetaFault) → Fails e xs → Fails e (xs ++ ys)
fails_first refusal.Memory xs ys h = tt
fails_first (refusal.Fault f) xs ys h = Contains-append_left xs ys f h

pub fails_last : (e : Refusal) (xs ys : List MetaFault) → Fails e ys → Fails e (xs ++ ys)
fails_last refusal.Memory xs ys h = tt
fails_last (refusal.Fault f) xs ys h = Contains-append_right xs ys f h
