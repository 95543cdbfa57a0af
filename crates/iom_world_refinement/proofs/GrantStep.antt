-- A grant of the driver is one of the ledger machine.
use Rattle.std.proofs.Common.{◌≡◌, ◌≢◌, ◌<◌, ◌≤◌, ◌∙◌, ℕ, Bool, true, false, not, List, [], ◌∷◌, length, All, nat_eq, Option, Some, None, Result, Ok, Err, get_or, refl, sym, ap, subst, arith}
use Rattle.std.specs.List.{IsDistinct}
use Rattle.iom_walk_coherence.specs.Walks.{Walk}
use Rattle.iom_base.specs.declared.grant_rights.GrantRights.{GrantRights}
use Rattle.iom_base.specs.declared.owner.Owner.TheVariants.{OneDevice}
use Rattle.iom_base.specs.GrantRights.{rights_of}
use Rattle.iom_base.specs.Modes.{size_in}
use Rattle.iom_base.specs.Sizes.{table_limit_of}
use Rattle.iom_driver.specs.declared.device.Attachment.{Attachment}
use Rattle.iom_driver.specs.declared.device.Attachment.TheVariants.{Detached, Attached, Quarantined, Leaving}
use Rattle.iom_driver.specs.declared.device.Stages.{Stages}
use Rattle.iom_driver.specs.Calls.{AnswersGrant, TakesTables, LacksTables, granted_leaf}
use Rattle.iom_driver.specs.Choices.{owned_by, cleared}
use Rattle.iom_driver.specs.Devices.{has_device, attachment_by_id, attached_stages, stages_of, is_away, is_quarantined}
use Rattle.iom_driver.specs.Reasons.{why_not_grant, granting_reasons}
use Rattle.iom_driver.specs.State.{DriverState}
use Rattle.iom_driver.proofs.Chosen.{are_chosen}
use Rattle.iom_driver.proofs.Owners.{length-cleared}
use Rattle.iom_driver.proofs.Places.{attached_is}
use Rattle.iom_iommu.specs.OwnIommu.{Iommu}
use Rattle.iom_iommu.specs.Parts.{flights_of}
use Rattle.iom_ledger.specs.declared.entry.HistoryEntry.TheVariants as entry
use Rattle.iom_base.specs.declared.refusal.Refusal.{Refusal}
use Rattle.iom_base.specs.declared.refusal.Refusal.TheVariants.{NoFrames, Memory, NotStarted, NoSuchDevice, NotAttached}
use Rattle.iom_base.specs.declared.refusal.Refusal.TheVariants as refusal
use Rattle.iom_base.specs.Refusals.{first_that_applies}
use Rattle.iom_machine.specs.declared.outcome.Outcome.{Outcome}
use Rattle.iom_machine.specs.declared.state.State.{State}
use Rattle.iom_machine.specs.Frames.{FewerThan, IsFreeBesides, reserved_for}
use Rattle.iom_machine.specs.Machine as machine
use Rattle.iom_machine.specs.Refusals as refusals
use Rattle.iom_machine.specs.Refusals.{MayRefuseGrant, table_limit_at}
use Rattle.iom_page_table.specs.FirstTables.{missing_for}
use Rattle.iom_table_frames.specs.Owners.{IsFreeForTable, HasFree}
use Rattle.iom_world_effects.specs.Answers.{outcome_of_done}
use Rattle.iom_world_effects.specs.Devices.{shown_attachment}
use Rattle.iom_world_effects.specs.Effect.{GrantsPage}
use Rattle.iom_world_effects.specs.Frames.{ShowsFrames}
use Rattle.iom_world_effects.specs.Parts.{Parts}
use Rattle.iom_world_effects.specs.Shows.{PartsShow}
use Rattle.iom_world_effects.specs.Invariant.{InvariantWith}
use Rattle.iom_world_refinement.proofs.ChoiceLemmas.{fewer_free}
use Rattle.iom_world_effects.proofs.FrameLemmas.{shows_marked, shows_kept}
use Rattle.iom_world_refinement.proofs.FreeLemmas.{free_in_machine, free_in_world}
use Rattle.iom_world_refinement.proofs.MissingLemmas.{missing_limit}
use Rattle.iom_world_refinement.proofs.ReasonLemmas.{grant_first, how_shown, refused_as}
use Rattle.iom_world_effects.proofs.UnchangedLemmas.{shows_still, not_owned, length-mapped}

-- THE REASONS

-- where no reason applies the device is attached
attached_then : (started there : Bool) (how : Attachment) (later : List (Bool × Refusal))
    → first_that_applies ((not started, NotStarted) ∷ (not there, NoSuchDevice) ∷ (is_away how, NotAttached) ∷ (is_quarantined how, refusal.Quarantined) ∷ later) ≡ None
    → (found : Stages) × (attached_stages how ≡ Some found)
attached_then false there how later none = cc
attached_then true false how later none = cc
attached_then true true Detached later none = cc
attached_then true true (Attached stage) later none = (stage, refl)
attached_then true true (Quarantined ticket stage) later none = cc
attached_then true true (Leaving ticket stage) later none = cc

-- where the frames aren't enough, fewer are free than may be lacking
fewer_than_limit : (old : Parts) (state : State) (frame count limit : ℕ) → PartsShow old state → count ≤ limit → ¬ HasFree old.driver.owners old.driver.ledger (Some frame) count (length old.memory)
    → (numbers : List ℕ) → IsDistinct nat_eq numbers → All (IsFreeBesides state (Some frame)) numbers → length numbers < limit
fewer_than_limit old state frame count limit shows few lacks numbers distinct free =
    let d = old.driver in
    let fewer = fewer_free d.owners d.ledger (Some frame) count (length old.memory) numbers lacks distinct (λ k n lt. known (get_or numbers k n) (free k n lt)) in
    omega (arith, fewer, few)
  where
    named : (n : ℕ) → n ≢ frame → ◌≡◌ {A = Option ℕ} (Some frame) (Some n) → ⊥
    named n differs same = let one : frame ≡ n = cc in differs (sym one)

    known : (n : ℕ) → IsFreeBesides state (Some frame) n → (n < length old.memory) × IsFreeForTable old.driver.owners old.driver.ledger (Some frame) n
    known n is_free = free_in_world old.memory old.driver.owners old.driver.ledger state (Some frame) n shows.ledger shows.frames (named n is_free.1) is_free.0

may_lack_tables : {walks : List Walk} (old : Parts) (events : ℕ) (state : State) (id page frame : ℕ) (why : Refusal) (stage : Stages) → InvariantWith walks old events → PartsShow old state
    → stages_of old.driver.devices id ≡ Some stage → LacksTables old.driver old.memory id page frame why → MayRefuseGrant state id frame why
may_lack_tables old events state id page frame NoFrames stage invariants shows attached lacks =
    let size = size_in stage.mode in
    let how = how_shown old events state id invariants shows ∙ ap shown_attachment (attached_is (attachment_by_id old.driver.devices id) stage attached) in
    let limit : table_limit_at (refusals.attachment_of state id) ≡ table_limit_of size = ap table_limit_at how in
    subst (λ n. FewerThan n (IsFreeBesides state (Some frame))) (sym limit)
    (fewer_than_limit old state frame (missing_for size old.memory stage.root page) (table_limit_of size) shows (missing_limit size old.memory stage.root page)
    (λ has. lacks (record { stage = stage; attached = attached; enough = has })))
may_lack_tables old events state id page frame Memory stage invariants shows attached lacks = tt
may_lack_tables old events state id page frame _ stage invariants shows attached lacks = absurd lacks

-- THE STEP

-- the machine's state after it
abbrev granted_state : State → ℕ → ℕ → ℕ → GrantRights → List ℕ → State
granted_state state id page frame rights tables =
    record state { history = entry.Granted id page frame (rights_of rights) ∷ state.history; frames = reserved_for (OneDevice id) tables state.frames }

size_granted : (d d' : DriverState) (memory memory' : List (List ℕ)) (id page frame : ℕ) (rights : GrantRights) → TakesTables d memory id page frame rights d' memory' → length memory' ≡ length memory
size_granted d d' memory memory' id page frame rights takes =
    ap (λ (m : List (List ℕ)). length m) takes.bytes
    ∙ length-mapped (size_in takes.stage.mode) (cleared takes.tables memory) takes.stage.root page (granted_leaf frame rights) takes.tables ∙ length-cleared takes.tables memory

shows_granted : (old new : Parts) (id page frame : ℕ) (rights : GrantRights) → length old.memory ≡ length old.driver.owners
    → (takes : TakesTables old.driver old.memory id page frame rights new.driver new.memory) → new.iommu ≡ old.iommu → new.devices ≡ old.devices
    → (state : State) → PartsShow old state → PartsShow new (granted_state state id page frame rights takes.tables)
shows_granted old new id page frame rights many takes iommu devices state shows =
    let d = old.driver in
    let chosen = are_chosen d.owners d.ledger (Some frame) (length old.memory) (missing_for (size_in takes.stage.mode) old.memory takes.stage.root page) takes.tables takes.chosen in
    let owners : new.driver.owners ≡ owned_by (OneDevice id) takes.tables d.owners = ap (λ (x : DriverState). x.owners) takes.driver in
    let marked = shows_marked (OneDevice id) takes.tables old.memory d.owners state.frames shows.frames (sym many) chosen.inside in
    let kept = subst (λ ms. ShowsFrames old.memory ms (reserved_for (OneDevice id) takes.tables state.frames)) (sym owners) marked in
    record {
      ledger = takes.agrees state.history shows.ledger;
      frames = shows_kept old.memory new.memory new.driver.owners (reserved_for (OneDevice id) takes.tables state.frames) kept
          (λ k free. takes.others k (not_owned new.driver.owners k (OneDevice id) free)) (size_granted d new.driver old.memory new.memory id page frame rights takes);
      devices = rw (devices, ap (λ (i : Iommu). (flights_of i).rows) iommu, ap (λ (x : DriverState). x.devices) takes.driver) shows.devices;
      given = shows.given ∙ sym (ap (λ (x : DriverState). x.given) takes.driver);
      confirmed = shows.confirmed ∙ sym (ap (λ (x : DriverState). x.confirmed) takes.driver);
      all_earlier = rw (ap (λ (x : DriverState). x.confirmed) takes.driver) shows.all_earlier;
      none_later = rw (ap (λ (x : DriverState). x.confirmed) takes.driver) shows.none_later;
      levels = shows.levels ∙ sym (ap (λ (x : DriverState). x.levels) takes.driver);
      limits = shows.limits;
    }

-- the tables are free frames of the machine
free_tables : (old new : Parts) (id page frame : ℕ) (rights : GrantRights) → (takes : TakesTables old.driver old.memory id page frame rights new.driver new.memory)
    → (state : State) → PartsShow old state → All (IsFreeBesides state (Some frame)) takes.tables
free_tables old new id page frame rights takes state shows = λ k n lt.
    let d = old.driver in
    let chosen = are_chosen d.owners d.ledger (Some frame) (length old.memory) (missing_for (size_in takes.stage.mode) old.memory takes.stage.root page) takes.tables takes.chosen in
    let free = chosen.free k n lt in (
      free_in_machine old.memory d.owners d.ledger state (get_or takes.tables k n) shows.ledger shows.frames (chosen.inside k n lt) free.unmarked free.ungranted,
      λ same. free.other (ap Some (sym same)),
    )

pub grant_step : {walks : List Walk} (old new : Parts) (events id page frame : ℕ) (rights : GrantRights) (reply : Outcome) → InvariantWith walks old events → GrantsPage old id page frame rights reply new
    → (state : State) → PartsShow old state → (taken : List ℕ) × (next : State) × machine.Grants taken state id page frame rights reply next × PartsShow new next
grant_step old new events id page frame rights reply invariants effect state shows = by effect.answer effect.reply_is effect.call
  where
    by : (answer : Result (Unit {0}) Refusal) → reply ≡ outcome_of_done answer → AnswersGrant old.driver old.memory id page frame rights answer new.driver new.memory
        → (taken : List ℕ) × (next : State) × machine.Grants taken state id page frame rights reply next × PartsShow new next
    by (Ok done) is call =
        let takes = call.1 in
        let next = granted_state state id page frame rights takes.tables in (
          takes.tables,
          next,
          subst (λ t. machine.Grants takes.tables state id page frame rights t next) (sym is)
              (grant_first old events state id page frame invariants shows ∙ call.0, free_tables old new id page frame rights takes state shows, refl),
          shows_granted old new id page frame rights invariants.ready.stand.size takes effect.iommu effect.devices state shows,
        )
    by (Err why) is call =
        let d = old.driver in (
          [],
          state,
          subst (λ t. machine.Grants [] state id page frame rights t state) (sym is) (
            refused_as (why_not_grant d id page frame) (refusals.grant_reasons state id page frame) (LacksTables d old.memory id page frame) (MayRefuseGrant state id frame) why
                (grant_first old events state id page frame invariants shows)
                (λ none.
                let stage = attached_then d.started (has_device d.devices id) (attachment_by_id d.devices id) (granting_reasons d id page frame) none in
                may_lack_tables old events state id page frame why stage.0 invariants shows stage.1) call.0,
            refl,
          ),
          shows_still old new state call.2 (ap (λ (i : Iommu). flights_of i) effect.iommu) effect.devices call.1.rest (call.1.agrees state.history shows.ledger) shows,
        )
