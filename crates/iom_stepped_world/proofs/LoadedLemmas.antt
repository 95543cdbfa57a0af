-- A load does what its event is to do.
use Rattle.std.proofs.Common.{◌≡◌, ◌+◌, ◌∙◌, inl, inr, ℕ, Bool, true, false, List, Result, Err, OnErr, ap, refl, sym, subst}
use Rattle.std.proofs.Math.Logic.{∥∥₁_map}
use Rattle.iom_base.specs.declared.refusal.Refusal.{Refusal}
use Rattle.iom_base.specs.declared.refusal.Refusal.TheVariants.{NoSuchDevice}
use Rattle.iom_driver.specs.StateOf.{state_of}
use Rattle.iom_driver.specs.declared.driver.Driver.{Driver}
use Rattle.iom_iommu.specs.OwnIommu.{Iommu}
use Rattle.iom_iommu.specs.Parts.{frames_of}
use Rattle.iom_iommu.specs.Stepped.{LoadsNext}
use Rattle.iom_iommu.specs.declared.begun.Load as iommu
use Rattle.iom_iommu.specs.declared.begun.Load.TheVariants as load
use Rattle.iom_iommu.specs.declared.reply.Reply.TheVariants as reply
use Rattle.iom_stepped_board.specs.Requests.{MakesLoad}
use Rattle.iom_stepped_hardware.specs.Requests.{HearsLoad}
use Rattle.iom_stepped_machine.specs.Machine.{Load}
use Rattle.iom_stepped_refinement.specs.Effect.{SteppedEffect}
use Rattle.iom_stepped_refinement.specs.Runs.{WalksKeepFacts}
use Rattle.iom_stepped_refinement.specs.Shows.{told_at_load}
use Rattle.iom_stepped_refinement.proofs.FactsStay.{now_counted}
use Rattle.iom_stepped_world.specs.Happens.{Does, StaysIfRefused}
use Rattle.iom_stepped_world.specs.Shown.{SteppedShown}
use Rattle.iom_stepped_world.specs.Told.{told_load}
use Rattle.iom_stepped_world.proofs.Around.{Around, leads, merely_held, nothing_changed}
use Rattle.iom_walks.specs.Invariant.{AreWalks}
use Rattle.iom_walks.specs.Walks.{WalkRow}
use Rattle.iom_world.specs.OnHardware.{hardware_of}
use Rattle.iom_world.proofs.InParts.{same_parts}
use Rattle.iom_world_effects.specs.Invariant.{PartsInvariant}
use Rattle.iom_world_effects.specs.Parts.{Parts}
use Rattle.iom_world_walks.specs.Events.{IsCounted}
use Rattle.iom_world_walks.specs.Invariant.{SteppedInvariant}
use Rattle.iom_world_walks.specs.Laws.{LoadsKeepInvariant}

-- any device may, so no kind is wrong
not_wrong : {X : Type 0} → ◌≡◌ {A = Bool} true false → X
not_wrong is = cc

-- ALL STAYS TRUE of the parts
loaded_so_keeps : LoadsKeepInvariant → WalksKeepFacts → (driver : Driver) (old new : Parts) (events id : ℕ) (rows new_rows : List WalkRow) (answer : Result iommu.Load Refusal)
    → old.driver ≡ state_of driver → AreWalks rows → SteppedInvariant old rows events → new.driver ≡ old.driver
    → MakesLoad (hardware_of old) rows id answer (hardware_of new) new_rows → PartsInvariant new (events + 1)
loaded_so_keeps loads facts driver old new events id rows new_rows answer is walks invariant stays so = elim so.by_device [
  | inl none ↦ subst (λ p. PartsInvariant p (events + 1)) (sym (same_parts old new none.same stays)) (facts old rows (events + 1) counted.0)
  | inr (inl wrong) ↦ not_wrong wrong.cannot
  | inr (inr does) ↦
      facts new new_rows (events + 1)
      (loads driver old new (events + 1) id rows new_rows does.given is walks counted.0
      (record { driver = stays; devices = does.call.devices; fabric = does.call.fabric; below = counted.1.accepted }) does.call.call)
]
  where
    counted : SteppedInvariant old rows (events + 1) × IsCounted old (events + 1)
    counted = now_counted old rows events invariant

pub loaded_keeps : LoadsKeepInvariant → WalksKeepFacts → (driver : Driver) (old new : Parts) (events id : ℕ) (rows new_rows : List WalkRow) (answer : Result iommu.Load Refusal)
    → old.driver ≡ state_of driver → AreWalks rows → ∥ SteppedInvariant old rows events ∥₁ → new.driver ≡ old.driver
    → MakesLoad (hardware_of old) rows id answer (hardware_of new) new_rows → PartsInvariant new (events + 1)
loaded_keeps loads facts driver old new events id rows new_rows answer is walks invariant stays so =
    merely_held driver new (events + 1) (stays ∙ is) (∥∥₁_map invariant (λ it. loaded_so_keeps loads facts driver old new events id rows new_rows answer is walks it stays so))

-- the IOMMU is for as many frames
frames_loaded : (memory now : List (List ℕ)) (old new : Iommu) (rows new_rows : List WalkRow) (id : ℕ) (given : iommu.Load) → LoadsNext memory old rows id given now new new_rows → frames_of new ≡ frames_of old
frames_loaded memory now old new rows new_rows id load.Nothing loads = ap frames_of loads.1.1
frames_loaded memory now old new rows new_rows id load.Loaded loads = ap (λ parts. parts.frames) loads.1.rest
frames_loaded memory now old new rows new_rows id (load.Ended (reply.Accepted number)) loads = ap (λ parts. parts.frames) loads.replied.rest
frames_loaded memory now old new rows new_rows id (load.Ended (reply.Fault cause)) loads = ap (λ parts. parts.frames) loads.replied.rest
frames_loaded memory now old new rows new_rows id (load.Ended reply.Busy) loads = absurd loads.replied
frames_loaded memory now old new rows new_rows id (load.Ended reply.BadSpan) loads = absurd loads.replied

load_never_refused : (old new : SteppedShown) (given : iommu.Load) → StaysIfRefused (told_at_load given) old new
load_never_refused old new load.Nothing = tt
load_never_refused old new load.Loaded = tt
load_never_refused old new (load.Ended reply.BadSpan) = tt
load_never_refused old new (load.Ended reply.Busy) = tt
load_never_refused old new (load.Ended (reply.Accepted number)) = tt
load_never_refused old new (load.Ended (reply.Fault cause)) = tt

-- THE LOAD does what its event is to do
pub loaded_does : (old new : SteppedShown) (id : ℕ) (answer : Result iommu.Load Refusal) → Around old new → new.world.parts.driver ≡ old.world.parts.driver → new.world.disks ≡ old.world.disks
    → HearsLoad answer old.world.inside id new.world.inside → MakesLoad (hardware_of old.world.parts) old.rows id answer (hardware_of new.world.parts) new.rows → Does old (Load id) (told_load answer) new
loaded_does old new id answer around stays disks hears so =
    let all : All answer = elim so.by_device [
      | inl none ↦
          let parts = same_parts old.world.parts new.world.parts none.same stays in
          let rows = subst (λ (a : Result iommu.Load Refusal). OnErr a (new.rows ≡ old.rows)) none.answered so.refused in
          subst All (sym none.answered) (inr (record { absent = none.absent; told = refl; same = (parts, rows) }), nothing_changed old new (told_load (Err NoSuchDevice)) parts rows, ap (λ (p : Parts). frames_of p.iommu) parts)
      | inr (inl wrong) ↦ not_wrong wrong.cannot
      | inr (inr does) ↦
          subst All (sym does.answered) (
            inl (record {
              kind = does.able.0;
              there = does.able.1;
              load = does.given;
              told = refl;
              call = does.call.call;
              stays = record { driver = stays; devices = does.call.devices; fabric = does.call.fabric };
            }),
            load_never_refused old new does.given,
            frames_loaded old.world.parts.memory new.world.parts.memory old.world.parts.iommu new.world.parts.iommu old.rows new.rows id does.given does.call.call,
          )
    ] in
    record {
      leads = leads old new (Load id) (told_load answer) around tt all.0 disks all.2;
      inside = record { load = answer; answered = refl; hears = hears };
      refused = all.1;
    }
  where
    All : Result iommu.Load Refusal → Type 0
    All a = SteppedEffect old.world.disks old.world.parts old.rows (Load id) (told_load a) new.world.parts new.rows × StaysIfRefused (told_load a) old new
        × (frames_of new.world.parts.iommu ≡ frames_of old.world.parts.iommu)
