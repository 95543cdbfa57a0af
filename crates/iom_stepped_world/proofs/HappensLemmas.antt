-- What an event does is a step of the ledger machine with walks, and all stays true.
use Rattle.std.proofs.Common.{◌≡◌, ℕ, List, [], None, Option, Some, IsSome, refl, subst, sym}
use Rattle.std.proofs.Math.Logic.{∥∥₁_elim, ∥∥₁_map, ∥∥₁_prop}
use Rattle.iom_base.specs.DeviceKinds.{is_any_kind}
use Rattle.iom_board.specs.BoardParts.{board_parts}
use Rattle.iom_board.specs.Permits.{IsPermitted}
use Rattle.iom_board.proofs.Permitted.{added}
use Rattle.iom_coherence.proofs.ListLemmas.{in_none}
use Rattle.iom_inflight.specs.Flights.{row_of as flight_row}
use Rattle.iom_iommu.specs.Parts.{flights_of}
use Rattle.iom_machine.specs.declared.event.Event.{Event}
use Rattle.iom_machine.specs.declared.event.Event.TheVariants as events
use Rattle.iom_stepped_hardware.specs.Laws.{NoneIsBeside}
use Rattle.iom_stepped_machine.specs.Machine.{SteppedEvent, SteppedOutcome, Whole}
use Rattle.iom_stepped_refinement.specs.Runs.{EventFits, EventNamesFit, EventsAreSteps, EventsKeepFacts, IdleWorldsAreSound, IsOfCode, IsSound}
use Rattle.iom_stepped_world.specs.Happens.{Does, SteppedHappens}
use Rattle.iom_stepped_world.specs.Others.{PagesFit}
use Rattle.iom_stepped_world.specs.Shown.{moment, stepped_of}
use Rattle.iom_stepped_world.specs.Sound.{AreBesideWorld, AreSound}
use Rattle.iom_stepped_world.proofs.BesideEvents.{device_there}
use Rattle.iom_stepped_world.proofs.LoadsMay.{loads_may}
use Rattle.iom_stepped_world.proofs.StepLemmas.{row_with}
use Rattle.iom_virtio_blk.specs.DiskStates.{DiskState}
use Rattle.iom_virtio_blk.specs.declared.disk.Disk.{Ghosts}
use Rattle.iom_walks.specs.Invariant.{AreWalks}
use Rattle.iom_walks.specs.Walks.{UnderWay, WalkRow, under_way_of}
use Rattle.iom_world.specs.Shown.{inside_of, parts_of}
use Rattle.iom_world.specs.declared.world.World.{World}
use Rattle.iom_world_walks.specs.Events.{NamesFit}
use Rattle.iom_world_walks.specs.Invariant.{SteppedInvariant}

-- what an event names is in range
pub names_fit : (event : Event) → EventFits (Whole event) → PagesFit event → NamesFit event
names_fit (events.Read id address len) fits pages = fits
names_fit (events.Write id address bytes) fits pages = fits
names_fit (events.Ask id page) fits pages = pages
names_fit _ fits pages = tt

module _ {D : Type 0} {d : Ghosts D} (shown : D → DiskState) where
  -- what calls and types say of a world
  of_code : (world : World D d) (rows : List WalkRow) → AreWalks rows → AreBesideWorld shown world rows → IsOfCode (moment (stepped_of shown world rows))
  of_code world rows walks beside = record {
    driver = world.driver;
    state = refl;
    ready = world.invariants.ready;
    walks = walks;
    room = λ id some. (there id (under_way_of rows id) refl some, beside.board.room id some);
  }
    where
      there : (id : ℕ) (found : Option UnderWay) → under_way_of rows id ≡ found → IsSome found → IsSome (flight_row (flights_of (parts_of world).iommu).rows id)
      there id None is some = cc
      there id (Some own) is some =
          let row = row_with rows id own is in
          let kind = device_there rows (parts_of world).devices id row.0 beside.board.ids row.1 in
          added is_any_kind (flights_of (parts_of world).iommu).rows (parts_of world).devices id None world.invariants.known.iommu (subst (λ k. IsPermitted is_any_kind k None) (sym kind.1) refl) refl

  -- THE EVENT
  module _ (keeps : EventsKeepFacts) (steps : EventsAreSteps) (old new : World D d) (rows new_rows : List WalkRow) (event : SteppedEvent) (outcome : SteppedOutcome) (walks : AreWalks rows)
      (walked : AreWalks new_rows) (sound : AreSound shown old rows) (names : EventNamesFit event) (does : Does (stepped_of shown old rows) event outcome (stepped_of shown new new_rows))
      (beside : AreBesideWorld shown new new_rows) where
    module _ (invariant : SteppedInvariant (parts_of old) rows old.hardware.board.events) where
      before : IsSound (moment (stepped_of shown old rows))
      before = record { code = of_code old rows walks sound.beside; invariants = invariant }

      after : IsSound (moment (stepped_of shown new new_rows))
      after = keeps (moment (stepped_of shown old rows)) (moment (stepped_of shown new new_rows)) event outcome before (of_code new new_rows walked beside) names does.leads

    pub happened : SteppedHappens (stepped_of shown old rows) event outcome (stepped_of shown new new_rows)
    happened = record {
      step = λ state shows. ∥∥₁_map sound.invariant (λ it.
          steps (moment (stepped_of shown old rows)) (moment (stepped_of shown new new_rows)) event outcome state (before it) (after it) does.leads shows);
      guest = λ state shows. ∥∥₁_elim sound.invariant ∥∥₁_prop (loads_may (parts_of old) old.hardware.board.events state.ledger shows.0.ledger rows);
      does = does;
    }

    pub sound_still : AreSound shown new new_rows
    sound_still = record { invariant = ∥∥₁_map sound.invariant (λ it. (after it).invariants); beside = beside }

  -- AT POWER-ON
  pub sound_at_first : IdleWorldsAreSound → NoneIsBeside → (world : World D d) → (parts_of world).devices ≡ [] → AreSound shown world []
  sound_at_first idle none world empty = record {
    invariant = ∣ idle (parts_of world) [] world.hardware.board.events world.invariants (λ row there. absurd (in_none row there)) ∣₁;
    beside = none (board_parts world.hardware.board) (inside_of shown world).blocks empty;
  }
