-- An event that happens as in a world without walks does what it is to do.
use Rattle.std.proofs.Common.{◌≡◌, ◌∙◌, inl, inr, ℕ, List, Option, Result, Ok, Err, None, Some, ap, refl, sym, subst}
use Rattle.iom_base.specs.declared.refusal.Refusal.{Refusal}
use Rattle.iom_iommu.specs.Parts.{frames_of}
use Rattle.iom_machine.specs.declared.event.Event.{Event}
use Rattle.iom_machine.specs.declared.event.Event.TheVariants as events
use Rattle.iom_machine.specs.declared.outcome.Outcome.{Outcome}
use Rattle.iom_machine.specs.declared.outcome.Outcome.TheVariants as outcome
use Rattle.iom_stepped_machine.specs.Machine.{Answer, Whole, asker_of}
use Rattle.iom_stepped_refinement.specs.Effect.{HappensSo, WholeEffect}
use Rattle.iom_stepped_refinement.specs.Laws.{LeavesRows}
use Rattle.iom_stepped_refinement.specs.Runs.{EventFits}
use Rattle.iom_stepped_world.specs.Happens.{Does}
use Rattle.iom_stepped_world.specs.Inside.{EffectInside}
use Rattle.iom_stepped_world.specs.Others.{GivesUpWhenDone, LeavesWalks}
use Rattle.iom_stepped_world.specs.Shown.{SteppedShown}
use Rattle.iom_stepped_world.proofs.Around.{Around, leads, stays_refused}
use Rattle.iom_stepped_world.proofs.FramesStay.{same_frames}
use Rattle.iom_stepped_hardware.proofs.AskLemmas.{given_up_others, given_up_own}
use Rattle.iom_stepped_world.proofs.StepLemmas.{row_with}
use Rattle.iom_walks.specs.Calls.{given_up}
use Rattle.iom_walks.specs.Walks.{UnderWay, WalkRow, row_of, under_way_of}
use Rattle.iom_world.specs.Blocks.{EffectOnBlocks}
use Rattle.iom_world.specs.Happens.{Happens}
use Rattle.iom_world.proofs.IommuStays.{LeavesFlights, flights_left}
use Rattle.iom_world_effects.specs.Commits.{CommitsAccess}
use Rattle.iom_world_effects.specs.Effect.{AddsRow, Effect}
use Rattle.iom_world_effects.specs.Parts.{Parts}
use Rattle.iom_world_walks.specs.Events.{GivesUp}

-- no walk begins at the event, and none is begun anew
abbrev pub IsOther : Event → Type 0
IsOther (events.Read id address len) = ⊥
IsOther (events.Write id address bytes) = ⊥
IsOther (events.ReadTranslated id address len) = ⊥
IsOther (events.WriteTranslated id address bytes) = ⊥
IsOther (events.ReadThroughCache id address len) = ⊥
IsOther (events.WriteThroughCache id address bytes) = ⊥
IsOther (events.Step id) = ⊥
IsOther events.Fetch = ⊥
IsOther event = Unit {0}

pub left_other : (event : Event) → LeavesWalks event → IsOther event
left_other (events.Plug id what) leaves = absurd leaves
left_other (events.Detach id) leaves = absurd leaves
left_other (events.Reset id) leaves = absurd leaves
left_other (events.Revive id) leaves = absurd leaves
left_other (events.Queue id size descriptors available used) leaves = absurd leaves
left_other events.Fetch leaves = absurd leaves
left_other (events.Read id address len) leaves = absurd leaves
left_other (events.Write id address bytes) leaves = absurd leaves
left_other (events.ReadTranslated id address len) leaves = absurd leaves
left_other (events.WriteTranslated id address bytes) leaves = absurd leaves
left_other (events.ReadThroughCache id address len) leaves = absurd leaves
left_other (events.WriteThroughCache id address bytes) leaves = absurd leaves
left_other (events.Step id) leaves = absurd leaves
left_other event leaves = tt

pub over_other : (event : Event) (id : ℕ) → GivesUpWhenDone event id → IsOther event
over_other (events.Reset device) id over = tt
over_other (events.Revive device) id over = tt
over_other (events.Queue device size descriptors available used) id over = tt
over_other _ id over = absurd over

pub over_leaves : (event : Event) (id : ℕ) → GivesUpWhenDone event id → LeavesFlights event
over_leaves (events.Reset device) id over = tt
over_leaves (events.Revive device) id over = tt
over_leaves (events.Queue device size descriptors available used) id over = tt
over_leaves _ id over = absurd over

-- such an event asks for no access
no_asker : (event : Event) (id : ℕ) → IsOther event → asker_of event ≡ Some id → ⊥
no_asker (events.Read device address len) id other is = other
no_asker (events.Write device address bytes) id other is = other
no_asker (events.ReadTranslated device address len) id other is = other
no_asker (events.WriteTranslated device address bytes) id other is = other
no_asker (events.ReadThroughCache device address len) id other is = other
no_asker (events.WriteThroughCache device address bytes) id other is = other
no_asker (events.Step device) id other is = other
no_asker events.Fetch id other is = other
no_asker event id other is = cc

fits_other : (event : Event) → IsOther event → EventFits (Whole event)
fits_other (events.Read device address len) other = absurd other
fits_other (events.Write device address bytes) other = absurd other
fits_other event other = tt

whole_other : (event : Event) (disks : List ℕ) (old new : Parts) (rows new_rows : List WalkRow) (answered : Outcome) → IsOther event
    → HappensSo disks old rows event (Answer answered) new new_rows → WholeEffect disks old rows event (Answer answered) new new_rows
whole_other (events.Read device address len) disks old new rows new_rows answered other so = absurd other
whole_other (events.Write device address bytes) disks old new rows new_rows answered other so = absurd other
whole_other (events.ReadTranslated device address len) disks old new rows new_rows answered other so = absurd other
whole_other (events.WriteTranslated device address bytes) disks old new rows new_rows answered other so = absurd other
whole_other (events.ReadThroughCache device address len) disks old new rows new_rows answered other so = absurd other
whole_other (events.WriteThroughCache device address bytes) disks old new rows new_rows answered other so = absurd other
whole_other (events.Step device) disks old new rows new_rows answered other so = absurd other
whole_other events.Fetch disks old new rows new_rows answered other so = absurd other
whole_other event disks old new rows new_rows answered other so = so

inside_other : (event : Event) (old new : SteppedShown) (answered : Outcome) → IsOther event → EffectOnBlocks old.world event answered new.world → EffectInside old (Whole event) (Answer answered) new
inside_other (events.Step device) old new answered other effect = absurd other
inside_other event old new answered other effect = effect

-- the IOMMU is for as many frames
committed_frames : (old new : Parts) (id : ℕ) (answered : Outcome) → CommitsAccess old id answered new → frames_of new.iommu ≡ frames_of old.iommu
committed_frames old new id answered (inl unknown) = same_frames old new unknown.same
committed_frames old new id answered (inr makes) = ap (λ parts. parts.frames) makes.call.rest

pub frames_other : (event : Event) (disks : List ℕ) (old new : Parts) (answered : Outcome) → IsOther event → Effect disks old event answered new → frames_of new.iommu ≡ frames_of old.iommu
frames_other (events.Read device address len) disks old new answered other effect = absurd other
frames_other (events.Write device address bytes) disks old new answered other effect = absurd other
frames_other (events.ReadTranslated device address len) disks old new answered other effect = absurd other
frames_other (events.WriteTranslated device address bytes) disks old new answered other effect = absurd other
frames_other (events.ReadThroughCache device address len) disks old new answered other effect = absurd other
frames_other (events.WriteThroughCache device address bytes) disks old new answered other effect = absurd other
frames_other (events.Step device) disks old new answered other effect = absurd other
frames_other events.Fetch disks old new answered other effect = absurd other
frames_other (events.Commit id) disks old new answered other effect = committed_frames old new id answered effect
frames_other (events.Plug id what) disks old new answered other effect = elim effect [
  | inl lacks ↦ same_frames old new lacks.same
  | inr plugs ↦ by plugs.answer plugs.row
]
  where
    by : (answer : Result (Unit {0}) Refusal) → AddsRow answer old.iommu id new.iommu → frames_of new.iommu ≡ frames_of old.iommu
    by (Ok done) adds = ap (λ parts. parts.frames) adds.rest
    by (Err why) same = ap frames_of same
frames_other event disks old new answered other effect = ap (λ kept. kept.1) (flights_left disks old new event answered tt effect)

-- THE EVENT does what it is to do
pub other_does : (old new : SteppedShown) (event : Event) (answered : Outcome) → Around old new → IsOther event → Happens old.world event answered new.world
    → LeavesRows old.world.parts event answered old.rows new.rows → ((why : Refusal) → answered ≡ outcome.Refused why → new.rows ≡ old.rows) → Does old (Whole event) (Answer answered) new
other_does old new event answered around other happens leaves same = record {
  leads = leads old new (Whole event) (Answer answered) around (fits_other event other)
      (whole_other event old.world.disks old.world.parts new.world.parts old.rows new.rows answered other (record {
        answered = answered;
        told = refl;
        effect = happens.effect;
        asks = inl (λ id is. absurd (no_asker event id other is));
        leaves = leaves;
      }))
      happens.disks (frames_other event old.world.disks old.world.parts new.world.parts answered other happens.effect);
  inside = inside_other event old new answered other happens.blocks;
  refused = stays_refused old new answered happens.refused same;
}

-- these events give nothing up
pub gives_nothing : (old : Parts) (event : Event) (answered : Outcome) → LeavesWalks event → (id : ℕ) → GivesUp old event answered id → ⊥
gives_nothing old (events.Plug device what) answered leaves id gives = gives
gives_nothing old (events.Detach device) answered leaves id gives = leaves
gives_nothing old (events.Reset device) answered leaves id gives = leaves
gives_nothing old (events.Revive device) answered leaves id gives = leaves
gives_nothing old (events.Queue device size descriptors available used) answered leaves id gives = leaves
gives_nothing old event answered leaves id gives = gives

-- these only where they are done
pub gives_when_done : (old : Parts) (event : Event) (answered : Outcome) (id : ℕ) → GivesUpWhenDone event id → (device : ℕ) → GivesUp old event answered device → (device ≡ id) × (answered ≡ outcome.Done)
gives_when_done old (events.Reset device) answered id over other gives = (gives.0 ∙ over, gives.1)
gives_when_done old (events.Revive device) answered id over other gives = (gives.0 ∙ over, gives.1)
gives_when_done old (events.Queue device size descriptors available used) answered id over other gives = (gives.0 ∙ over, gives.1)
gives_when_done old _ answered id over other gives = absurd over

pub done_gives : (old : Parts) (event : Event) (id : ℕ) → GivesUpWhenDone event id → GivesUp old event outcome.Done id
done_gives old (events.Reset device) id over = (sym over, refl)
done_gives old (events.Revive device) id over = (sym over, refl)
done_gives old (events.Queue device size descriptors available used) id over = (sym over, refl)
done_gives old _ id over = absurd over

-- WHAT IS UNDER WAY OF ONE DEVICE is given up
pub rows_given_up : (old : Parts) (event : Event) (answered : Outcome) (rows : List WalkRow) (id : ℕ) → GivesUp old event answered id → ((device : ℕ) → GivesUp old event answered device → device ≡ id)
    → LeavesRows old event answered rows (given_up rows (row_of rows id))
rows_given_up old event answered rows id gives alone = record {
  left = λ other keeps. inl (given_up_others rows id other (λ is. keeps (subst (GivesUp old event answered) (sym is) gives)));
  gone = λ other gone. subst (λ n. under_way_of (given_up rows (row_of rows id)) n ≡ None) (sym (alone other gone)) none;
}
  where
    none : under_way_of (given_up rows (row_of rows id)) id ≡ None
    none = by (under_way_of (given_up rows (row_of rows id)) id) refl
      where
        by : (found : Option UnderWay) → under_way_of (given_up rows (row_of rows id)) id ≡ found → found ≡ None
        by None is = refl
        by (Some own) is = let has = row_with (given_up rows (row_of rows id)) id own is in absurd (given_up_own rows id has.0 own has.1 has.2)
