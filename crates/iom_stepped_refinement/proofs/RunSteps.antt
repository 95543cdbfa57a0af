-- EACH EVENT of a world with requests under way is a step of the ledger machine with walks, and each run a run.
use Rattle.std.proofs.Common.{◌+◌, ◌≡◌, ℕ, ◌∙◌, inl, inr, [], ◌∷◌, length, None, refl, sym, ap, subst}
use Rattle.iom_iommu.specs.Parts.{flights_of}
use Rattle.iom_machine.specs.declared.event.Event.{Event}
use Rattle.iom_machine.specs.declared.event.Event.TheVariants as happens
use Rattle.iom_machine.specs.Devices.{device_of}
use Rattle.iom_machine.specs.PowerOn.{opening}
use Rattle.iom_stepped_machine.specs.Laws.{without_walks}
use Rattle.iom_stepped_machine.specs.Machine.{Load, SteppedEvent, SteppedOutcome, SteppedState, SteppedStep, Whole}
use Rattle.iom_stepped_machine.specs.Walks.{Asking, event_of}
use Rattle.iom_stepped_refinement.specs.Effect.{AllStays, BeginsSo, BusySo, FetchesSo, HappensSo, LoadsOfNobody, LoadsSo, OthersStay, SteppedEffect, WaitsSo, WholeEffect}
use Rattle.iom_stepped_refinement.specs.Laws.{AsksWith, BeginsAreSteps, BusyIsAStep, FetchesAreSteps, LoadsAreSteps, OthersAreSteps, WaitsAreSteps}
use Rattle.iom_stepped_refinement.specs.Runs.{EventFits, EventsAreSteps, IsSound, Moment, RunsAreReached, RunsAreRuns, ShowsMoment, disks_then, EventsKeepFacts}
use Rattle.iom_stepped_refinement.specs.Shows.{SteppedShow}
use Rattle.iom_stepped_refinement.proofs.AnswerSteps.{absent_from}
use Rattle.iom_stepped_refinement.proofs.DisksAfter.{disks_stepped}
use Rattle.iom_world_effects.specs.Below.{AddressFits}
use Rattle.iom_world_effects.proofs.PresentLemmas.{kind_absent}
use Rattle.iom_world_effects.proofs.RowPlaces.{absent_shown}
use Rattle.iom_stepped_refinement.proofs.FactsStay.{now_counted}
use Rattle.iom_world_walks.specs.Events.{IsCounted}
use Rattle.iom_world_walks.specs.Invariant.{SteppedInvariant}
use Rattle.iom_world_walks.specs.Laws.{IsOfRequest}
use Rattle.iom_base.specs.declared.access.Access.{Access}

-- the laws of each
pub record StepLaws : Type 0 where
  pub begins : BeginsAreSteps
  pub waits : WaitsAreSteps
  pub loads : LoadsAreSteps
  pub fetches : FetchesAreSteps
  pub others : OthersAreSteps
  pub busy : BusyIsAStep

pub step_laws : BeginsAreSteps → WaitsAreSteps → LoadsAreSteps → FetchesAreSteps → OthersAreSteps → BusyIsAStep → StepLaws
step_laws begins waits loads fetches others busy = record { begins = begins; waits = waits; loads = loads; fetches = fetches; others = others; busy = busy }

module _ (laws : StepLaws) (old new : Moment) (sound : IsSound old) (later : IsSound new) (size : length new.parts.memory ≡ length old.parts.memory) (state : SteppedState)
    (shows : ShowsMoment old state) where
  abbrev IsStep : SteppedEvent → SteppedOutcome → Type 0
  IsStep event told = (next : SteppedState) × SteppedStep state event told next × SteppedShow new.parts new.rows next

  counted : SteppedInvariant old.parts old.rows (old.events + 1) × IsCounted old.parts (old.events + 1)
  counted = now_counted old.parts old.rows old.events sound.invariants

  same_shown : AllStays old.parts old.rows new.parts new.rows → SteppedShow new.parts new.rows state
  same_shown (parts, rows) = subst (λ p. SteppedShow p new.rows state) (sym parts) (subst (λ rs. SteppedShow old.parts rs state) (sym rows) shows.0)

  of_request : OthersStay old.parts new.parts → IsOfRequest old.parts new.parts (old.events + 1)
  of_request stays = record { driver = stays.driver; devices = stays.devices; fabric = stays.fabric; below = counted.1.accepted }

  begins : (id : ℕ) (asking : Asking) (told : SteppedOutcome) → BeginsSo old.parts old.rows id asking told new.parts new.rows → IsStep (Whole (event_of id asking)) told
  begins id asking told so =
      subst (IsStep (Whole (event_of id asking))) (sym so.told)
      (laws.begins sound.code.driver old.parts new.parts (old.events + 1) id old.rows new.rows asking so.begun state sound.code.state counted.0 (of_request so.stays) so.fits so.asks so.alone so.call shows.0)

  happens_so : (event : Event) (told : SteppedOutcome) → AddressFits event → (event ≡ happens.Fetch → ⊥) → HappensSo old.disks old.parts old.rows event told new.parts new.rows → IsStep (Whole event) told
  happens_so event told fits other so =
      subst (IsStep (Whole event)) (sym so.told)
      (laws.others sound.code.driver old.disks old.parts new.parts (old.events + 1) new.events event so.answered old.rows new.rows state sound.code.state counted.0 later.invariants so.asks fits other size shows.1
      so.effect so.leaves shows.0)

  waits : (id : ℕ) (told : SteppedOutcome) → WaitsSo old.parts old.rows id told new.parts new.rows → IsStep (Whole (happens.Step id)) told
  waits id told so = subst (IsStep (Whole (happens.Step id))) (sym so.told) (state, laws.waits old.parts id old.rows state so.able so.under_way shows.0, same_shown so.same)

  fetches : (told : SteppedOutcome) → FetchesSo old.parts old.rows told new.parts new.rows → IsStep (Whole happens.Fetch) told
  fetches told so =
      subst (IsStep (Whole happens.Fetch)) (sym so.told)
      (laws.fetches sound.code.driver old.parts new.parts (old.events + 1) so.answered old.rows new.rows state sound.code.state counted.0 so.fetches size so.anew shows.0)

  busy : (id : ℕ) (access : Access) (event : Event) (told : SteppedOutcome) → AsksWith event id access → BusySo old.parts old.rows id access event told new.parts new.rows → IsStep (Whole event) told
  busy id access event told asks so =
      subst (IsStep (Whole event)) (sym so.told) (state, laws.busy old.parts id access event old.rows state so.able asks so.under_way so.within so.full shows.0, same_shown so.same)

  loads : (id : ℕ) (told : SteppedOutcome) → LoadsSo old.parts old.rows id told new.parts new.rows → IsStep (Load id) told
  loads id told so =
      subst (IsStep (Load id)) (sym so.told)
      (laws.loads sound.code.driver old.parts new.parts (old.events + 1) id so.kind old.rows new.rows so.load state sound.code.state sound.code.walks counted.0 (of_request so.stays) (sound.code.room id) so.there so.call
      shows.0)

  nobody : (id : ℕ) (told : SteppedOutcome) → LoadsOfNobody old.parts old.rows id told new.parts new.rows → IsStep (Load id) told
  nobody id told so =
      let parts = old.parts in
      let none : device_of state.ledger id ≡ None =
      absent_from parts state.ledger id shows.0.ledger.devices (absent_shown parts.driver.devices (flights_of parts.iommu).rows parts.devices id (kind_absent parts.devices id so.absent)) in
      subst (IsStep (Load id)) (sym so.told) (state, (refl, none, refl), same_shown so.same)

  whole : (event : Event) (told : SteppedOutcome) → AddressFits event → WholeEffect old.disks old.parts old.rows event told new.parts new.rows → IsStep (Whole event) told
  whole (happens.Read id address len) told fits effect = elim effect [
    | inl so ↦ begins id _ told so
    | inr (so, why, refused) ↦ happens_so (happens.Read id address len) told fits (λ is. cc) so
  ]
  whole (happens.Write id address bytes) told fits effect = elim effect [
    | inl so ↦ begins id _ told so
    | inr (so, why, refused) ↦ happens_so (happens.Write id address bytes) told fits (λ is. cc) so
  ]
  whole (happens.Step id) told fits effect = elim effect [
    | inl (access, so) ↦ begins id _ told so
    | inr (inl so) ↦ waits id told so
    | inr (inr so) ↦ happens_so (happens.Step id) told fits (λ is. cc) so.happens
  ]
  whole happens.Fetch told fits effect = fetches told effect
  whole (happens.ReadTranslated id address len) told fits effect = elim effect [
    | inl so ↦ busy id _ (happens.ReadTranslated id address len) told (refl, refl) so
    | inr so ↦ happens_so (happens.ReadTranslated id address len) told fits (λ is. cc) so
  ]
  whole (happens.WriteTranslated id address bytes) told fits effect = elim effect [
    | inl so ↦ busy id _ (happens.WriteTranslated id address bytes) told (refl, refl) so
    | inr so ↦ happens_so (happens.WriteTranslated id address bytes) told fits (λ is. cc) so
  ]
  whole (happens.ReadThroughCache id address len) told fits effect = elim effect [
    | inl so ↦ busy id _ (happens.ReadThroughCache id address len) told (refl, refl) so
    | inr so ↦ happens_so (happens.ReadThroughCache id address len) told fits (λ is. cc) so
  ]
  whole (happens.WriteThroughCache id address bytes) told fits effect = elim effect [
    | inl so ↦ busy id _ (happens.WriteThroughCache id address bytes) told (refl, refl) so
    | inr so ↦ happens_so (happens.WriteThroughCache id address bytes) told fits (λ is. cc) so
  ]
  whole _ told fits effect = happens_so _ told fits (λ is. cc) effect

pub events_are_steps : StepLaws → EventsAreSteps
events_are_steps laws old new event told state sound later leads shows =
    let step = by event leads.fits leads.effect in
    (step.0, step.1, (step.2, disks_stepped state step.0 event told step.1 ∙ ap (disks_then event told) shows.1 ∙ sym leads.disks))
  where
    by : (event : SteppedEvent) → EventFits event → SteppedEffect old.disks old.parts old.rows event told new.parts new.rows
        → (next : SteppedState) × SteppedStep state event told next × SteppedShow new.parts new.rows next
    by (Whole event) fits effect = whole laws old new sound later leads.size state shows event told fits effect
    by (Load id) fits effect = elim effect [
      | inl so ↦ loads laws old new sound later leads.size state shows id told so
      | inr so ↦ nobody laws old new sound later leads.size state shows id told so
    ]

pub runs_are_runs : EventsKeepFacts → EventsAreSteps → RunsAreRuns
runs_are_runs keeps steps old new [] [] state sound goes shows = (state, refl, subst (λ moment. ShowsMoment moment state) (sym goes) shows, subst IsSound (sym goes) sound)
runs_are_runs keeps steps old new (event ∷ events) (told ∷ outcomes) state sound (mid, code, names, leads, goes) shows =
    let later : IsSound mid = keeps old mid event told sound code names leads in
    let step = steps old mid event told state sound later leads shows in
    let rest = runs_are_runs keeps steps mid new events outcomes step.0 later goes step.2 in
    (rest.0, (step.0, step.1, rest.1), rest.2, rest.3)
runs_are_runs keeps steps old new [] (told ∷ outcomes) state sound goes shows = absurd goes
runs_are_runs keeps steps old new (event ∷ events) [] state sound goes shows = absurd goes

pub runs_are_reached : RunsAreRuns → RunsAreReached
runs_are_reached runs old new events outcomes limits frames levels disks sound shows goes =
    let run = runs old new events outcomes (without_walks (opening limits frames levels disks)) sound goes shows in
    (run.0, (events, outcomes, limits, frames, levels, disks, run.1), run.2, run.3)
