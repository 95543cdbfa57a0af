-- What an event does to the parts of a world is a lawful step of the ledger machine, and a refusal changes nothing.
use Rattle.std.proofs.Common.{◌≡◌, ◌+◌, ◌∙◌, sym, ap, subst}
use Rattle.iom_machine.specs.declared.event.Event.{Event}
use Rattle.iom_machine.specs.declared.outcome.Outcome.{Outcome}
use Rattle.iom_world.specs.declared.world.World.{World}
use Rattle.iom_world_effects.specs.Below.{LawsBelow, AddressFits}
use Rattle.iom_world_effects.specs.Effect.{Effect}
use Rattle.iom_machine.specs.Disks.{disks_after}
use Rattle.iom_world.specs.Happens.{Happens}
use Rattle.iom_virtio_blk.specs.declared.disk.Disk.{Ghosts}
use Rattle.iom_virtio_blk.specs.DiskStates.{DiskState}
use Rattle.iom_world.specs.Blocks.{EffectOnBlocks}
use Rattle.iom_world.specs.Shown.{parts_of, disks_of, shown_of}
use Rattle.iom_world_refinement.proofs.CommandsStay.{commands_stay}
use Rattle.iom_machine.proofs.StepChanges.{step_change}
use Rattle.iom_world_effects.proofs.DriverLemmas.{driver_invariant}
use Rattle.iom_world_refinement.proofs.EventSteps.{steps}
use Rattle.iom_world_refinement.proofs.RefusedSame.{refused_same}
use Rattle.iom_world_refinement.proofs.StoppedLemmas.{stays_stopped}
use Rattle.iom_world_invariant.proofs.AskedLemmas.{service_laws}
use Rattle.iom_world_refinement.proofs.GuestMay.{reads_guest_tables}
use Rattle.iom_world_effects.proofs.PartsLemmas.{reported_of}

-- WHAT HAPPENS
pub happens : {D : Type 0} {d : Ghosts D} (shown : D → DiskState) → LawsBelow → (old new : World D d) (event : Event) (reply : Outcome) → AddressFits event
    → Effect (disks_of old) (parts_of old) event reply (parts_of new) → disks_of new ≡ disks_after event reply (disks_of old) → EffectOnBlocks (shown_of shown old) event reply (shown_of shown new)
    → new.hardware.board.events ≡ old.hardware.board.events + 1 → Happens (shown_of shown old) event reply (shown_of shown new)
happens shown laws old new event reply fits effect disks blocks counted =
    let service = service_laws laws in
    let reported = reported_of laws.reported old.driver in
    let before = old.hardware.board.events in
    let after = new.hardware.board.events in
    record {
      step = λ state shows.
          let next = steps service (disks_of old) (parts_of old) (parts_of new) after before old.invariants (driver_invariant old.driver) reported new.invariants event reply fits effect state shows.0 shows.1 in (
            next.0,
            next.1,
            (next.2, (step_change state next.0 event reply next.1).disks ∙ ap (disks_after event reply) shows.1 ∙ sym disks),
          );
      effect = effect;
      disks = disks;
      blocks = blocks;
      commands = commands_stay (disks_of old) (parts_of old) (parts_of new) before event reply old.invariants (driver_invariant old.driver) reported effect;
      guest = λ state shows id access. reads_guest_tables service (parts_of old) before old.invariants (driver_invariant old.driver) state shows.0 id access;
      stopped = λ stopped. stays_stopped (parts_of old) (parts_of new) before after old.invariants (driver_invariant old.driver) reported new.invariants stopped (disks_of old) event reply effect;
      refused = refused_same (disks_of old) (parts_of old) (parts_of new) event reply effect;
      events = counted;
    }

-- the same of an event that is of this form
pub happens_at : {D : Type 0} {d : Ghosts D} (shown : D → DiskState) → LawsBelow → (old new : World D d) (event form : Event) (reply : Outcome) → event ≡ form → AddressFits form
    → Effect (disks_of old) (parts_of old) form reply (parts_of new) → disks_of new ≡ disks_after form reply (disks_of old) → EffectOnBlocks (shown_of shown old) form reply (shown_of shown new)
    → new.hardware.board.events ≡ old.hardware.board.events + 1 → Happens (shown_of shown old) event reply (shown_of shown new)
happens_at shown laws old new event form reply is fits effect disks blocks counted =
    subst (λ (e : Event). Happens (shown_of shown old) e reply (shown_of shown new)) (sym is) (happens shown laws old new form reply fits effect disks blocks counted)
