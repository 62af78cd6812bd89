-- The plan of a document, or its fault.
use Rattle.std.proofs.Common.{◌≡◌, ◌≢◌, ◌≤◌, ◌+◌, ℕ, suc, List, [], ◌∷◌, length, refl, sym, ap, ◌∙◌, subst, inl, inr}
use Rattle.std.proofs.Common.{Ok, Err}
use Rattle.csvw_description.specs.declared.description.Description.{Description}
use Rattle.csvw_description.specs.declared.table.TableDescription.{TableDescription}
use Rattle.csvw_meta_core.specs.declared.fault.MetaCode.{MetaCode}
use Rattle.csvw_meta_core.specs.declared.fault.MetaCode.TheVariants.{Memory}
use Rattle.csvw_meta_core.specs.declared.fault.MetaFault.{MetaFault}
use Rattle.csvw_meta.specs.Document.{Document, IsFault}
use Rattle.csvw_columns.specs.FreeOf.{IsFreeOf}
use Rattle.csvw_columns.specs.Plannable.{Builds}
use Rattle.csvw_columns.specs.PlanOf.{targets_of, table_plans}
use Rattle.csvw_columns.specs.declared.plan.Plan.{Plan}
use Rattle.csvw_engine_core.specs.declared.stop.Stop.{Stop}
use Rattle.csvw_engine_core.specs.declared.stop.Stop.TheVariants as stop
use Rattle.csvw_engine.specs.Planning.{IsMetaStop, TellsFault}

pub told : (described : Document) (fault : MetaFault) (reason : Stop) → TellsFault fault reason → (fault.code ≢ Memory → IsFault described fault)
    → IsMetaStop described reason
told described fault reason (inl (c, e)) h = rw e tt
told described fault reason (inr (apart, e)) h = rw e (h apart)

-- for what can be planned only memory can be missing
pub lacks_memory : (d : Description) (fault : MetaFault) (reason : Stop) → ((code : MetaCode) → IsFreeOf code d) → Builds d (Err fault)
    → TellsFault fault reason → reason ≡ stop.Memory
lacks_memory d fault reason free h (inl (c, e)) = e
lacks_memory d fault reason free h (inr (apart, e)) = absurd (h.1 apart (free fault.code))

-- a plan for each table
as_many : (group d : Description) (n : ℕ) (tables : List TableDescription) → length (table_plans (targets_of group) d n tables) ≡ length tables
as_many group d n [] = refl
as_many group d n (t ∷ ts) = ap suc (as_many group d (n + 1) ts)

-- no more tables than the limit
pub few_of : (d : Description) (plan : Plan) → Builds d (Ok plan) → length plan.tables ≤ 64
few_of d plan h = subst (λ n. n ≤ 64) (sym (ap (λ (p : Plan). length p.tables) h.0 ∙ as_many d d 1 d.tables)) h.1.fit.limit
