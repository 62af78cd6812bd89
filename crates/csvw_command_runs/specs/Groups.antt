-- A run over the files of a group of tables, from their opening to their closing: `RunsGroup`.
use Rattle.std.specs.Prelude.{◌≡◌, ◌⊎◌, ℕ, Bool, true, false, List, [], ◌∷◌, ◌++◌, map, Option, None, Some, Result, Ok, Err}
use Rattle.std.specs.Prelude.{bytes_eq, codes, if◌then◌else◌}
use Rattle.std.specs.Borrow.{Bor}
use Rattle.clap.specs.Words.{Text}
use Rattle.csvw_streams.specs.declared.counted.Counted.{Counted}
use Rattle.csvw_streams.specs.Counted.{inner_of, failures_of}
use Rattle.csvw_streams.specs.Streams.{Stream, IsIdle}
use Rattle.csvw_triples_core.specs.declared.mode.Mode.{Mode}
use Rattle.csvw_triples_core.specs.declared.mode.Mode.TheVariants as mode
use Rattle.csvw_report.specs.declared.outcome.Outcome.{Outcome}
use Rattle.csvw_engine_core.specs.declared.stop.Stop.{Stop}
use Rattle.csvw_engine_core.specs.declared.stop.Stop.TheVariants as stop
use Rattle.csvw_engine.specs.Rooms.{IsOrder}
use Rattle.csvw_engine.specs.Runs.{Runs}
use Rattle.csvw_engine.specs.declared.room.Order.{Order}
use Rattle.csvw_engine.specs.declared.room.Order.TheVariants.{InTurns, TableByTable}
use Rattle.csvw_command_core.specs.Asked.{paths_of}
use Rattle.csvw_command_core.specs.declared.request.Group.{Group}
use Rattle.csvw_command_runs.specs.Answers.{TellsStop}
use Rattle.csvw_files.specs.Files.{ReadsFile, ReadsNot}
use Rattle.csvw_files.specs.ResourceFiles.{BundlesFiles, BundlesNot}
use Rattle.csvw_files.specs.declared.resources.ResourceFile.{ResourceFile}
use Rattle.csvw_command_runs.specs.Resources.{AreResources}
use Rattle.csvw_command_runs.specs.Status.{outcome_status}
use Rattle.csvw_defaults.specs.Documents.{IsDefaulted}
use Rattle.csvw_meta.specs.Document.{document_by}
use Rattle.csvw_meta_core.specs.declared.fault.MetaFault.{MetaFault}
use Rattle.csvw_meta_core.specs.declared.profile.Profile.{Profile}
use Rattle.csvw_meta_core.specs.declared.profile.Profile.TheVariants.{Core, W3c}

-- a path gives this reader, which hasn't failed, and the rest follows
pub record OpensFirst {O R : Type 0} (opens : O → Text → Option R → O → Type 0) (old : O) (path : Text) (r : Counted R) (Rest : O → Type 0) : Type 0 where
  pub between : O
  pub opened : opens old path (Some (inner_of r)) between
  pub steady : failures_of r ≡ 0
  pub rest : Rest between

-- the paths give these readers, from the first on
abbrev pub OpensAll : {O R : Type 0} → (O → Text → Option R → O → Type 0) → O → List Text → List (Counted R) → O → Type 0
OpensAll opens old [] readers new = (readers ≡ []) × (new ≡ old)
OpensAll opens old (path ∷ paths) [] new = ⊥
OpensAll opens old (path ∷ paths) (r ∷ readers) new = OpensFirst opens old path r (λ between. OpensAll opens between paths readers new)

-- a reader is handed back, and the rest follows
pub record ClosesFirst {O R : Type 0} (closes : O → Counted R → O → Type 0) (old : O) (r : Counted R) (Rest : O → Type 0) : Type 0 where
  pub between : O
  pub closed : closes old r between
  pub rest : Rest between

-- these readers are handed back, from the first on
abbrev pub ClosesAll : {O R : Type 0} → (O → Counted R → O → Type 0) → O → List (Counted R) → O → Type 0
ClosesAll closes old [] new = new ≡ old
ClosesAll closes old (r ∷ readers) new = ClosesFirst closes old r (λ between. ClosesAll closes between readers new)

-- the first of the paths gives no reader
abbrev pub MissesFirst : {O R : Type 0} → (O → Text → Option R → O → Type 0) → O → List Text → O → Type 0
MissesFirst opens old [] new = ⊥
MissesFirst opens old (path ∷ paths) new = opens old path None new

-- the first paths give readers; then the next gives none, or memory runs out
pub record StopsOpening {O R : Type 0} (opens : O → Text → Option R → O → Type 0) (old : O) (paths : List Text) (new : O) (reason : Stop) : Type 0 where
  pub front : List Text
  pub rest : List Text
  pub parts : paths ≡ front ++ rest
  pub readers : List (Counted R)
  pub between : O
  pub opened : OpensAll opens old front readers between
  pub fails : ((reason ≡ stop.Memory) × (new ≡ between)) ⊎ ((reason ≡ stop.Read) × MissesFirst opens between rest new)

-- The metadata is read, and its resources take the place of their URLs.
pub record BundlesMeta {O R : Type 0} (opens : O → Text → Option R → O → Type 0) (closes : O → Counted R → O → Type 0) (remaining : R → Option (List ℕ))
    (group : Group) (old new : O) (bytes : List ℕ) : Type 0 where
  pub own : List ℕ
  pub between : O
  pub read : ReadsFile opens closes remaining group.meta.now old between own
  pub resources : List ResourceFile
  pub are_resources : AreResources (map (λ word. word.now) group.resources.items) resources
  pub bundled : BundlesFiles opens closes remaining resources group.base.now own between new bytes

-- the metadata is read, and it can't be had with its resources
pub record LacksResource {O R : Type 0} (opens : O → Text → Option R → O → Type 0) (closes : O → Counted R → O → Type 0)
    (remaining : R → Option (List ℕ)) (group : Group) (old new : O) (reason : Stop) : Type 0 where
  pub own : List ℕ
  pub between : O
  pub read : ReadsFile opens closes remaining group.meta.now old between own
  pub resources : List ResourceFile
  pub are_resources : AreResources (map (λ word. word.now) group.resources.items) resources
  pub not_bundled : BundlesNot opens closes remaining resources group.base.now own between new reason

-- why the metadata isn't read with its resources
abbrev pub BundlesNoMeta : {O R : Type 0} → (O → Text → Option R → O → Type 0) → (O → Counted R → O → Type 0) → (R → Option (List ℕ)) → Group → O → O → Stop
    → Type 0
BundlesNoMeta opens closes remaining group old new reason =
    ((reason ≡ stop.Memory) × (new ≡ old))
    ⊎ (ReadsNot opens closes group.meta.now old new reason ⊎ LacksResource opens closes remaining group old new reason)

-- the profile of a name; without one it is the core
abbrev pub profile_of : Option (Bor Text) → Profile
profile_of None = Core
profile_of (Some name) = if bytes_eq name.now (codes "w3c") then W3c else Core

-- The metadata is read with its resources. Then the values that the profile ignores are left out.
pub record ReadsMeta {O R : Type 0} (opens : O → Text → Option R → O → Type 0) (closes : O → Counted R → O → Type 0) (remaining : R → Option (List ℕ))
    (group : Group) (old new : O) (bytes : List ℕ) : Type 0 where
  pub whole : List ℕ
  pub bundled : BundlesMeta opens closes remaining group old new whole
  pub ignored : List MetaFault
  pub defaulted : IsDefaulted (profile_of group.profile) whole bytes ignored

-- the metadata is read with its resources, and then memory runs out
pub record LacksMemoryThen {O R : Type 0} (opens : O → Text → Option R → O → Type 0) (closes : O → Counted R → O → Type 0) (remaining : R → Option (List ℕ))
    (group : Group) (old new : O) (reason : Stop) : Type 0 where
  pub whole : List ℕ
  pub bundled : BundlesMeta opens closes remaining group old new whole
  pub is_memory : reason ≡ stop.Memory

-- why the metadata isn't read
abbrev pub ReadsNoMeta : {O R : Type 0} → (O → Text → Option R → O → Type 0) → (O → Counted R → O → Type 0) → (R → Option (List ℕ)) → Group → O → O → Stop
    → Type 0
ReadsNoMeta opens closes remaining group old new reason =
    BundlesNoMeta opens closes remaining group old new reason ⊎ LacksMemoryThen opens closes remaining group old new reason

-- the metadata is read, and then the files of the tables are opened
pub record OpensGroup {O R : Type 0} (opens : O → Text → Option R → O → Type 0) (closes : O → Counted R → O → Type 0) (remaining : R → Option (List ℕ))
    (group : Group) (old new : O) (bytes : List ℕ) (readers : List (Counted R)) : Type 0 where
  pub between : O
  pub meta_read : ReadsMeta opens closes remaining group old between bytes
  pub files_opened : OpensAll opens between (paths_of group) readers new

-- the metadata is read, and then a file of a table isn't opened
pub record LacksFile {O R : Type 0} (opens : O → Text → Option R → O → Type 0) (closes : O → Counted R → O → Type 0) (remaining : R → Option (List ℕ))
    (group : Group) (old new : O) (reason : Stop) : Type 0 where
  pub between : O
  pub bytes : List ℕ
  pub meta_read : ReadsMeta opens closes remaining group old between bytes
  pub stops : StopsOpening opens between (paths_of group) new reason

-- why a group isn't opened
abbrev pub OpensNot : {O R : Type 0} → (O → Text → Option R → O → Type 0) → (O → Counted R → O → Type 0) → (R → Option (List ℕ)) → Group → O → O → Stop
    → Type 0
OpensNot opens closes remaining group old new reason =
    ReadsNoMeta opens closes remaining group old new reason ⊎ LacksFile opens closes remaining group old new reason

-- the group isn't opened, which is reported
pub record TellsUnopened {O R : Type 0} (opens : O → Text → Option R → O → Type 0) (closes : O → Counted R → O → Type 0) (remaining : R → Option (List ℕ))
    (group : Group) (old new : O) (out err : Stream) (status : ℕ) : Type 0 where
  pub reason : Stop
  pub not_opened : OpensNot opens closes remaining group old new reason
  pub idle : IsIdle out
  pub told : TellsStop reason err status

-- what is told of a run's end behind it
abbrev pub EndsSo : Result Outcome Stop → Stream → ℕ → Type 0
EndsSo (Ok outcome) err status = IsIdle err × (status ≡ outcome_status outcome)
EndsSo (Err reason) err status = TellsStop reason err status

-- a run comes to its end, with what it leaves of `err`
pub record ComesToEnd (Leaves : Stream → Result Outcome Stop → Type 0) (err : Stream) (status : ℕ) : Type 0 where
  pub outcome : Outcome
  pub leaves : Leaves err (Ok outcome)
  pub status_is : status ≡ outcome_status outcome

-- a run stops, and what `err` held and how often it had failed by then; the stop is told behind that
pub record StopsEarly (Leaves : Stream → Result Outcome Stop → Type 0) (err : Stream) (status : ℕ) : Type 0 where
  pub reason : Stop
  pub held : Option (List ℕ)
  pub failures : ℕ
  pub leaves : Leaves (record err { holds = held; failed = failures }) (Err reason)
  pub told : TellsStop reason (record err { held = held; failures = failures }) status

-- the order in which the tables are read: in turn, or one after the other
abbrev pub order_of : Bool → Order
order_of true = InTurns
order_of false = TableByTable

-- The graph goes to `out`, and the report to `err`; where there is no graph, the report goes to `out`.
abbrev pub Leaves : {R : Type 0} → (R → Option (List ℕ)) → Mode → Order → Profile → List ℕ → List ℕ → List (Counted R) → List (Counted R) → Stream
    → Stream → Result Outcome Stop → Type 0
Leaves remaining mode.Validate order profile meta base readers left out err result =
    Runs remaining (IsOrder order) (document_by profile base meta) mode.Validate readers left err out result
Leaves remaining mode.Minimal order profile meta base readers left out err result =
    Runs remaining (IsOrder order) (document_by profile base meta) mode.Minimal readers left out err result
Leaves remaining mode.Standard order profile meta base readers left out err result =
    Runs remaining (IsOrder order) (document_by profile base meta) mode.Standard readers left out err result

-- the mode of a conversion, minimal or not
abbrev pub conversion : Bool → Mode
conversion true = mode.Minimal
conversion false = mode.Standard

-- The group is opened, and a run made over its readers. They are handed back, in order, as the run left them.
pub record RunsOpened {O R : Type 0} (opens : O → Text → Option R → O → Type 0) (closes : O → Counted R → O → Type 0) (remaining : R → Option (List ℕ))
    (mode : Mode) (group : Group) (old new : O) (out err : Stream) (status : ℕ) : Type 0 where
  pub bytes : List ℕ
  pub readers : List (Counted R)
  pub between : O
  pub opened : OpensGroup opens closes remaining group old between bytes readers
  pub left : List (Counted R)
  pub closed : ClosesAll closes between left new
  pub runs : ComesToEnd (Leaves remaining mode (order_of group.turns) (profile_of group.profile) bytes group.base.now readers left out) err status
      ⊎ StopsEarly (Leaves remaining mode (order_of group.turns) (profile_of group.profile) bytes group.base.now readers left out) err status

-- What a run over the files of a group does, and the status that it ends with.
abbrev pub RunsGroup : {O R : Type 0} → (O → Text → Option R → O → Type 0) → (O → Counted R → O → Type 0) → (R → Option (List ℕ)) → Mode → Group → O → O
    → Stream → Stream → ℕ → Type 0
RunsGroup opens closes remaining mode group old new out err status =
    RunsOpened opens closes remaining mode group old new out err status ⊎ TellsUnopened opens closes remaining group old new out err status
