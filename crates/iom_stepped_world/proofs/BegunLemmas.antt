-- A request that begins does what its event is to do.
use Rattle.std.proofs.Common.{◌≡◌, ◌+◌, ◌∙◌, ◌^◌, ◌<◌, inl, inr, ℕ, Bool, true, List, OnErr, Result, Err, ap, refl, sym, subst}
use Rattle.std.proofs.Math.Logic.{∥∥₁_map}
use Rattle.iom_base.specs.DeviceKinds.{sends_untranslated}
use Rattle.iom_base.specs.declared.access.Access.{Access}
use Rattle.iom_base.specs.declared.device_kind.DeviceKind.{DeviceKind}
use Rattle.iom_base.specs.declared.refusal.Refusal.{Refusal}
use Rattle.iom_base.specs.declared.refusal.Refusal.TheVariants.{NoSuchDevice, WrongKind}
use Rattle.iom_driver.specs.StateOf.{state_of}
use Rattle.iom_driver.specs.declared.driver.Driver.{Driver}
use Rattle.iom_iommu.specs.OwnIommu.{Iommu}
use Rattle.iom_iommu.specs.Parts.{frames_of}
use Rattle.iom_iommu.specs.Stepped.{BeginsRequest}
use Rattle.iom_iommu.specs.declared.begun.Begun.{Begun}
use Rattle.iom_iommu.specs.declared.begun.Begun.TheVariants as begun
use Rattle.iom_iommu.specs.declared.reply.Reply.TheVariants as reply
use Rattle.iom_machine.specs.declared.outcome.Outcome.TheVariants as outcome
use Rattle.iom_stepped_board.specs.Requests.{BeginsAccessBeside}
use Rattle.iom_stepped_machine.specs.Machine.{Answer, SteppedOutcome, Whole}
use Rattle.iom_stepped_machine.specs.Walks.{Asking, Begins, Reads, Writes, access_of, event_of}
use Rattle.iom_stepped_refinement.specs.Effect.{BeginsSo, SteppedEffect}
use Rattle.iom_stepped_refinement.specs.Laws.{AsksAlone}
use Rattle.iom_stepped_refinement.specs.Runs.{EventFits, WalksKeepFacts, disks_then}
use Rattle.iom_stepped_refinement.specs.Shows.{CanAsk, told_at_begin}
use Rattle.iom_stepped_refinement.proofs.FactsStay.{now_counted}
use Rattle.iom_stepped_world.specs.Asked.{IsSent}
use Rattle.iom_stepped_world.specs.Happens.{Does, StaysIfRefused}
use Rattle.iom_stepped_world.specs.Inside.{EffectInside}
use Rattle.iom_stepped_world.specs.Shown.{SteppedShown}
use Rattle.iom_stepped_world.specs.Told.{told_begun}
use Rattle.iom_stepped_world.proofs.Around.{Around, disks_left, leads, merely_held, nothing_changed, rows_stay}
use Rattle.iom_walks.specs.Walks.{WalkRow}
use Rattle.iom_world.specs.OnHardware.{hardware_of}
use Rattle.iom_world.proofs.InParts.{same_parts}
use Rattle.iom_world_effects.proofs.PresentLemmas.{kind_absent}
use Rattle.iom_world_effects.specs.Invariant.{PartsInvariant}
use Rattle.iom_world_effects.specs.Parts.{Parts}
use Rattle.iom_world_effects.specs.Requests.{AsksAccess}
use Rattle.iom_world_walks.specs.Events.{IsCounted}
use Rattle.iom_world_walks.specs.Invariant.{SteppedInvariant}
use Rattle.iom_world_walks.specs.Laws.{BeginsKeepInvariant}

-- ALL STAYS TRUE of the parts
begun_so_keeps : (can : DeviceKind → Bool) → BeginsKeepInvariant → WalksKeepFacts → (driver : Driver) (old new : Parts) (events id : ℕ) (rows new_rows : List WalkRow) (access : Access) (answer : Result Begun Refusal)
    → old.driver ≡ state_of driver → SteppedInvariant old rows events → new.driver ≡ old.driver → access.address < 2 ^ 64
    → BeginsAccessBeside can (hardware_of old) rows id access answer (hardware_of new) new_rows → PartsInvariant new (events + 1)
begun_so_keeps can begins facts driver old new events id rows new_rows access answer is invariant stays fits so = elim so.by_device [
  | inl none ↦ same (same_parts old new none.same stays)
  | inr (inl wrong) ↦ same (same_parts old new wrong.same stays)
  | inr (inr does) ↦
      facts new new_rows (events + 1)
      (begins driver old new (events + 1) id rows new_rows access does.given is counted.0
      (record { driver = stays; devices = does.call.devices; fabric = does.call.fabric; below = counted.1.accepted }) fits does.call.call)
]
  where
    counted : SteppedInvariant old rows (events + 1) × IsCounted old (events + 1)
    counted = now_counted old rows events invariant

    same : new ≡ old → PartsInvariant new (events + 1)
    same is = subst (λ p. PartsInvariant p (events + 1)) (sym is) (facts old rows (events + 1) counted.0)

pub begun_keeps : (can : DeviceKind → Bool) → BeginsKeepInvariant → WalksKeepFacts → (driver : Driver) (old new : Parts) (events id : ℕ) (rows new_rows : List WalkRow) (access : Access) (answer : Result Begun Refusal)
    → old.driver ≡ state_of driver → ∥ SteppedInvariant old rows events ∥₁ → new.driver ≡ old.driver → access.address < 2 ^ 64
    → BeginsAccessBeside can (hardware_of old) rows id access answer (hardware_of new) new_rows → PartsInvariant new (events + 1)
begun_keeps can begins facts driver old new events id rows new_rows access answer is invariant stays fits so =
    merely_held driver new (events + 1) (stays ∙ is)
    (∥∥₁_map invariant (λ it. begun_so_keeps can begins facts driver old new events id rows new_rows access answer is it stays fits so))

-- the IOMMU is for as many frames
frames_begun : (memory now : List (List ℕ)) (old new : Iommu) (rows new_rows : List WalkRow) (id : ℕ) (access : Access) (given : Begun) → BeginsRequest memory old rows id access given now new new_rows
    → frames_of new ≡ frames_of old
frames_begun memory now old new rows new_rows id access (begun.Answered reply.BadSpan) begins = ap frames_of begins.1.1
frames_begun memory now old new rows new_rows id access (begun.Answered reply.Busy) begins = ap frames_of begins.2.1
frames_begun memory now old new rows new_rows id access begun.Occupied begins = ap frames_of begins.3.1
frames_begun memory now old new rows new_rows id access begun.Walking begins = ap (λ parts. parts.frames) begins.1.rest
frames_begun memory now old new rows new_rows id access (begun.Answered (reply.Accepted number)) begins = ap (λ parts. parts.frames) begins.replied.rest
frames_begun memory now old new rows new_rows id access (begun.Answered (reply.Fault cause)) begins = ap (λ parts. parts.frames) begins.replied.rest

pub begun_frames : (can : DeviceKind → Bool) (old new : Parts) (id : ℕ) (rows new_rows : List WalkRow) (access : Access) (answer : Result Begun Refusal) → new.driver ≡ old.driver
    → BeginsAccessBeside can (hardware_of old) rows id access answer (hardware_of new) new_rows → frames_of new.iommu ≡ frames_of old.iommu
begun_frames can old new id rows new_rows access answer stays so = elim so.by_device [
  | inl none ↦ ap (λ (p : Parts). frames_of p.iommu) (same_parts old new none.same stays)
  | inr (inl wrong) ↦ ap (λ (p : Parts). frames_of p.iommu) (same_parts old new wrong.same stays)
  | inr (inr does) ↦ frames_begun old.memory new.memory old.iommu new.iommu rows new_rows id access does.given does.call.call
]

-- block devices stay
unchanged_inside : (old new : SteppedShown) (id : ℕ) (asking : Asking) (outcome : SteppedOutcome) → IsSent asking → new.world.inside ≡ old.world.inside
    → EffectInside old (Whole (event_of id asking)) outcome new
unchanged_inside old new id (Reads address len) (Answer answered) sent same = same
unchanged_inside old new id (Writes address bytes) (Answer answered) sent same = same
unchanged_inside old new id (Reads address len) _ sent same = same
unchanged_inside old new id (Writes address bytes) _ sent same = same
unchanged_inside old new id (Begins access) outcome sent same = absurd sent

-- what is refused changes nothing
pub never_refused : (old new : SteppedShown) (given : Begun) → StaysIfRefused (told_at_begin given) old new
never_refused old new (begun.Answered reply.BadSpan) = tt
never_refused old new (begun.Answered reply.Busy) = tt
never_refused old new (begun.Answered (reply.Accepted number)) = tt
never_refused old new (begun.Answered (reply.Fault cause)) = tt
never_refused old new begun.Occupied = tt
never_refused old new begun.Walking = tt

module _ (old new : SteppedShown) (id : ℕ) (asking : Asking) (sent : IsSent asking) (stays : new.world.parts.driver ≡ old.world.parts.driver) where
  -- A DEVICE THAT CAN'T ASK SO is refused
  abbrev refusal : Refusal → Type 0
  refusal why = SteppedEffect old.world.disks old.world.parts old.rows (Whole (event_of id asking)) (Answer (outcome.Refused why)) new.world.parts new.rows

  refused_so : (why : Refusal) → new.rows ≡ old.rows → AsksAccess sends_untranslated old.world.parts id (access_of asking) (outcome.Refused why) new.world.parts → refusal why
  refused_so why rows effect = by asking sent effect
    where
      by : (a : Asking) → IsSent a → AsksAccess sends_untranslated old.world.parts id (access_of a) (outcome.Refused why) new.world.parts
          → SteppedEffect old.world.disks old.world.parts old.rows (Whole (event_of id a)) (Answer (outcome.Refused why)) new.world.parts new.rows
      by (Reads address len) is asks = inr (
        record {
          answered = outcome.Refused why;
          told = refl;
          effect = asks;
          asks = inr (inl (why, refl));
          leaves = rows_stay old.world.parts _ _ old.rows new.rows rows (λ id gives. gives);
        },
        why,
        refl,
      )
      by (Writes address bytes) is asks = inr (
        record {
          answered = outcome.Refused why;
          told = refl;
          effect = asks;
          asks = inr (inl (why, refl));
          leaves = rows_stay old.world.parts _ _ old.rows new.rows rows (λ id gives. gives);
        },
        why,
        refl,
      )
      by (Begins access) is asks = absurd is

  begins_so : (given : Begun) → BeginsSo old.world.parts old.rows id asking (told_at_begin given) new.world.parts new.rows
      → SteppedEffect old.world.disks old.world.parts old.rows (Whole (event_of id asking)) (told_at_begin given) new.world.parts new.rows
  begins_so given so = by asking sent so
    where
      by : (a : Asking) → IsSent a → BeginsSo old.world.parts old.rows id a (told_at_begin given) new.world.parts new.rows
          → SteppedEffect old.world.disks old.world.parts old.rows (Whole (event_of id a)) (told_at_begin given) new.world.parts new.rows
      by (Reads address len) is begins = inl begins
      by (Writes address bytes) is begins = inl begins
      by (Begins access) is begins = absurd is

  effect : (answer : Result Begun Refusal) → (access_of asking).address < 2 ^ 64
      → BeginsAccessBeside sends_untranslated (hardware_of old.world.parts) old.rows id (access_of asking) answer (hardware_of new.world.parts) new.rows
      → SteppedEffect old.world.disks old.world.parts old.rows (Whole (event_of id asking)) (told_begun answer) new.world.parts new.rows × StaysIfRefused (told_begun answer) old new
  effect answer fits so = elim so.by_device [
    | inl none ↦
        let parts = same_parts old.world.parts new.world.parts none.same stays in
        let rows = subst (λ (a : Result Begun Refusal). OnErr a (new.rows ≡ old.rows)) none.answered so.refused in
        subst Both (sym none.answered) (refused_so NoSuchDevice rows (inl (record { absent = kind_absent old.world.parts.devices id none.absent; reply_is = refl; same = parts })), nothing_changed old new (told_begun (Err NoSuchDevice)) parts rows)
    | inr (inl wrong) ↦
        let parts = same_parts old.world.parts new.world.parts wrong.same stays in
        let rows = subst (λ (a : Result Begun Refusal). OnErr a (new.rows ≡ old.rows)) wrong.answered so.refused in
        subst Both (sym wrong.answered)
        (refused_so WrongKind rows (inr (inl (record { kind = wrong.kind; there = wrong.there; cannot = wrong.cannot; reply_is = refl; same = parts }))), nothing_changed old new (told_begun (Err WrongKind)) parts rows)
    | inr (inr does) ↦
        subst Both (sym does.answered) (
          begins_so does.given (record {
            asks = record { kind = does.able.0; there = does.able.1; can = can_ask asking sent does.able.0 does.able.2 };
            fits = fits;
            alone = alone asking sent;
            begun = does.given;
            told = refl;
            call = does.call.call;
            stays = record { driver = stays; devices = does.call.devices; fabric = does.call.fabric };
          }),
          never_refused old new does.given,
        )
  ]
    where
      Both : Result Begun Refusal → Type 0
      Both a = SteppedEffect old.world.disks old.world.parts old.rows (Whole (event_of id asking)) (told_begun a) new.world.parts new.rows × StaysIfRefused (told_begun a) old new

      can_ask : (a : Asking) → IsSent a → (kind : DeviceKind) → sends_untranslated kind ≡ true → CanAsk kind a
      can_ask (Reads address len) is kind can = can
      can_ask (Writes address bytes) is kind can = can
      can_ask (Begins access) is kind can = absurd is

      alone : (a : Asking) → IsSent a → AsksAlone old.rows id a
      alone (Reads address len) is = tt
      alone (Writes address bytes) is = tt
      alone (Begins access) is = absurd is

  no_disk_asked : (a : Asking) (outcome : SteppedOutcome) → disks_then (Whole (event_of id a)) outcome old.world.disks ≡ old.world.disks
  no_disk_asked (Reads address len) outcome = disks_left (event_of id (Reads address len)) outcome old.world.disks tt
  no_disk_asked (Writes address bytes) outcome = disks_left (event_of id (Writes address bytes)) outcome old.world.disks tt
  no_disk_asked (Begins access) outcome = disks_left (event_of id (Begins access)) outcome old.world.disks tt

  fits_event : (a : Asking) → (access_of a).address < 2 ^ 64 → EventFits (Whole (event_of id a))
  fits_event (Reads address len) fits = fits
  fits_event (Writes address bytes) fits = fits
  fits_event (Begins access) fits = tt

  -- THE REQUEST does what its event is to do
  pub begun_does : (answer : Result Begun Refusal) → Around old new → (access_of asking).address < 2 ^ 64 → new.world.disks ≡ old.world.disks → new.world.inside ≡ old.world.inside
      → BeginsAccessBeside sends_untranslated (hardware_of old.world.parts) old.rows id (access_of asking) answer (hardware_of new.world.parts) new.rows
      → Does old (Whole (event_of id asking)) (told_begun answer) new
  begun_does answer around fits disks inside so =
      let both = effect answer fits so in
      record {
        leads = leads old new (Whole (event_of id asking)) (told_begun answer) around (fits_event asking fits) both.0 (disks ∙ sym (no_disk_asked asking (told_begun answer)))
            (begun_frames sends_untranslated old.world.parts new.world.parts id old.rows new.rows (access_of asking) answer stays so);
        inside = unchanged_inside old new id asking (told_begun answer) sent inside;
        refused = both.1;
      }
