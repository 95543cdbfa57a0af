-- REQUESTS BEGIN ANEW by a fetch, or one is given up: all stays true of a world, and each request under way stands somewhere.
use Rattle.std.proofs.Common.{◌≡◌, ◌≢◌, ℕ, ◌^◌, ◌<◌, ◌==◌, ◌⊎◌, inl, inr, ◌∙◌, Bool, true, false, not, List, [], ◌∷◌, length, map, filter, Contains, Option, Some, None, refl, sym, ap, subst, arith}
use Rattle.std.proofs.lemmas.Bool.{eqb-true}
use Rattle.iom_coherence.proofs.ListLemmas.{cons_cases, contains_filter, contains_from_filter, contains_head, contains_tail, contains_map, in_none}
use Rattle.iom_directory_build.specs.Pages.{root_level}
use Rattle.iom_driver.specs.Directory.{NamesDirectory, mode_of}
use Rattle.iom_driver.specs.Layout.{directory_frame}
use Rattle.iom_driver.specs.State.{DriverState}
use Rattle.iom_command_queue.specs.declared.command.Command.TheVariants.{IotinvalVma, IotinvalGvma, IofenceC, IodirInvalDdt, AtsInval}
use Rattle.iom_iommu.specs.Parts.{registers_of, slots_of}
use Rattle.iom_iommu.specs.Stepped.{BeginsAnewAfter, begins_anew}
use Rattle.iom_iommu.specs.declared.fetched.Fetched.{Fetched}
use Rattle.iom_iommu.specs.declared.fetched.Fetched.TheVariants.{Did, Waiting, Empty, Stopped}
use Rattle.iom_machine.specs.declared.outcome.Outcome.{Outcome}
use Rattle.iom_registers.specs.declared.directory.DirectoryPointer.{DirectoryPointer}
use Rattle.iom_stepped_requests.specs.Serving.{Remaining, Serves, Locates, Translates, begun_anew, in_directory, served_or, without_directory}
use Rattle.iom_stepped_requests.specs.Standing.{still_serving}
use Rattle.iom_stepped_requests.specs.declared.request.Request.{Request}
use Rattle.iom_walk_coherence.specs.Transitions.{AreOfOthers}
use Rattle.iom_walk_coherence.specs.Walks as coherence
use Rattle.iom_walk_loads.specs.Directory.{locating, locating_by, locating_from}
use Rattle.iom_walks.specs.Calls.{AllBeginAnew, OneBeginsAnew, WhatBeginsAnew}
use Rattle.iom_walks.specs.Walks.{UnderWay, WalkRow}
use Rattle.iom_world_effects.specs.Effect.{FetchesNext}
use Rattle.iom_world_effects.specs.Invariant.{InvariantWith}
use Rattle.iom_world_effects.specs.Parts.{Parts}
use Rattle.iom_world_effects.proofs.DriverLemmas.{DriverInvariant}
use Rattle.iom_world_effects.proofs.PartsLemmas.{StaysReady}
use Rattle.iom_world_invariant.proofs.FetchKeeps.{WalksFetched, keeps_fetched}
use Rattle.iom_standing_walks.specs.Driven.{DrivenWalksStand}
use Rattle.iom_world_walks.specs.Leaving.{LeavesTables}
use Rattle.iom_world_walks.specs.Invariant.{SteppedInvariant}
use Rattle.iom_world_walks.specs.Standing.{IsTooWide, StandsAs, RowsStand}
use Rattle.iom_world_walks.proofs.BeginLoads.{AtRoot, at_root, none_without, way_by}
use Rattle.iom_world_walks.proofs.StillLemmas.{rows_still}

-- of what is under way then it is known what it was
anew_of : (ddtp : DirectoryPointer) (rows new_rows : List WalkRow) → AllBeginAnew ddtp rows new_rows → (row : WalkRow) (own : UnderWay) → Contains new_rows row → row.under_way ≡ Some own
    → (before : WalkRow) × (was : UnderWay) × Contains rows before × (before.under_way ≡ Some was) × OneBeginsAnew ddtp was own
anew_of ddtp [] [] all row own there is = absurd (in_none row there)
anew_of ddtp [] (new ∷ news) all row own there is = absurd all
anew_of ddtp (old ∷ olds) [] all row own there is = absurd all
anew_of ddtp (old ∷ olds) (new ∷ news) (first, others) row own there is = elim (cons_cases new news row there) [
  | inl same ↦ here (old.under_way) (new.under_way) refl (ap (λ (r : WalkRow). r.under_way) same ∙ is) first.under_way
  | inr later ↦
      let before = anew_of ddtp olds news others row own later is in
      (before.0, before.1, contains_tail old olds before.0 before.2, before.3, before.4)
]
  where
    here : (was now : Option UnderWay) → old.under_way ≡ was → now ≡ Some own → WhatBeginsAnew ddtp was now
        → (before : WalkRow) × (was_one : UnderWay) × Contains (old ∷ olds) before × (before.under_way ≡ Some was_one) × OneBeginsAnew ddtp was_one own
    here None None at goes begins = cc
    here None (Some now) at goes begins = absurd begins
    here (Some was) None at goes begins = absurd begins
    here (Some was) (Some now) at goes begins = let one : now ≡ own = cc in (old, was, contains_head old olds, at, subst (OneBeginsAnew ddtp was) one begins)

-- a walk of each request that isn't served is under way, wherever it stands
walks_somewhere : (driver : DriverState) (memory : List (List ℕ)) (walks : List coherence.Walk) (own : Request) (remaining : Remaining) → StandsAs driver memory walks own remaining
    → (IsTooWide driver own.device) ⊎ ((standing : coherence.Standing) × Contains walks (coherence.walk_at own.device standing))
walks_somewhere driver memory walks own (Serves answer) (wide, is) = inl wide
walks_somewhere driver memory walks own (Locates request anew rest) (same, there, stands) = inr (coherence.InDirectory, there)
walks_somewhere driver memory walks own (Translates request context translated rest) (same, standing, there, stands) = inr (standing, there)

-- ALL BEGIN ANEW that are under way

-- in a driver's directory one that begins anew stands at the root, where its id has a place there
module _ {walks : List coherence.Walk} (parts : Parts) (events : ℕ) (invariants : InvariantWith walks parts events) (own : DriverInvariant parts.driver) (request : Request) where
  from_root : AtRoot parts.driver parts.memory request true (begun_anew (length parts.memory) (registers_of parts.iommu).ddtp request)
  from_root =
      subst (λ o. AtRoot parts.driver parts.memory request true (served_or o (in_directory (length parts.memory) true (λ key. None) request (locating (registers_of parts.iommu).ddtp request.device))))
      (sym (ap without_directory names.mode ∙ none_without parts.driver.levels own.sizes.in_range))
      (subst (λ w. AtRoot parts.driver parts.memory request true (in_directory (length parts.memory) true (λ key. None) request w)) (sym way)
      (at_root parts.driver parts.memory (λ key. None) request true))
    where
      names : NamesDirectory (length parts.memory) parts.driver.levels (registers_of parts.iommu)
      names = invariants.ready.directory invariants.started

      way : locating (registers_of parts.iommu).ddtp request.device ≡ locating_from (root_level parts.driver.levels) (directory_frame (length parts.memory)) request.device
      way =
          ap (λ m. locating_by m (registers_of parts.iommu).ddtp.ppn request.device) names.mode ∙ ap (λ n. locating_by (mode_of parts.driver.levels) n request.device) names.root
          ∙ way_by parts.driver.levels own.sizes.in_range (directory_frame (length parts.memory)) request.device

  -- and its walk is one of those that began anew
  anew_stands : (remaining : Remaining) → AtRoot parts.driver parts.memory request true remaining
      → (IsTooWide parts.driver request.device) ⊎ Contains walks (coherence.walk_at request.device coherence.InDirectory) → StandsAs parts.driver parts.memory walks request remaining
  anew_stands (Serves answer) at either = at
  anew_stands (Locates other anew rest) (same, stands) (inl wide) = let fits = stands.fits in absurd (omega (arith, fits, wide))
  anew_stands (Locates other anew rest) (same, stands) (inr there) = (same, there, stands)
  anew_stands (Translates other context translated rest) never either = absurd never

-- the walks then
abbrev pub walks_anew : Bool → List coherence.Walk → List coherence.Walk
walks_anew true walks = map coherence.begun_anew walks
walks_anew false walks = walks

walks_after : (answer : Fetched) (walks : List coherence.Walk) → WalksFetched answer walks (walks_anew (begins_anew answer) walks)
walks_after (Did (IotinvalVma gscid pscid page)) walks = λ walk there. there
walks_after (Did (IotinvalGvma gscid page)) walks = λ walk there. there
walks_after (Did (IofenceC store wsi pr pw)) walks = refl
walks_after (Did (IodirInvalDdt device)) walks = λ walk there. there
walks_after (Did (AtsInval device range)) walks = refl
walks_after Waiting walks = refl
walks_after Empty walks = refl
walks_after Stopped walks = refl

-- A FETCH
pub fetch_keeps : {walks : List coherence.Walk} → DrivenWalksStand → (old new : Parts) (events : ℕ) (reply : Outcome) (rows new_rows : List WalkRow) → InvariantWith walks old events → DriverInvariant old.driver
    → StaysReady old.driver → (slots_of old.iommu).last < events → (fetches : FetchesNext old reply new) → LeavesTables old.driver old.memory new.driver new.memory
    → BeginsAnewAfter (begins_anew fetches.answer) (registers_of new.iommu).ddtp rows new_rows → RowsStand old.driver old.memory walks rows → SteppedInvariant new new_rows events
fetch_keeps {walks = walks} driven old new events reply rows new_rows invariants own stays_ready below fetches leaves begins stand =
    by (begins_anew fetches.answer) begins (keeps_fetched old new events reply invariants own stays_ready below fetches (walks_after fetches.answer walks))
  where
    own_now : DriverInvariant new.driver
    own_now = subst DriverInvariant (sym fetches.driver) own

    all_anew : InvariantWith (map coherence.begun_anew walks) new events → AllBeginAnew (registers_of new.iommu).ddtp rows new_rows → RowsStand new.driver new.memory (map coherence.begun_anew walks) new_rows
    all_anew now all row next there is =
        let before = anew_of (registers_of new.iommu).ddtp rows new_rows all row next there is in
        let was = before.1 in
        let stood = stand before.0 was before.2 before.3 in
        let request : next.request ≡ was.request = before.4.request in
        let at = anew_stands new events now own_now was.request (begun_anew (length new.memory) (registers_of new.iommu).ddtp was.request) (from_root new events now own_now was.request)
        (elim (walks_somewhere old.driver old.memory walks was.request (still_serving (length old.memory) was.serving) stood.1) [
          | inl wide ↦ inl (subst (λ (d : DriverState). IsTooWide d was.request.device) (sym fetches.driver) wide)
          | inr somewhere ↦ inr (contains_map coherence.begun_anew walks (coherence.walk_at was.request.device somewhere.0) somewhere.1)
        ]) in (
          subst (λ (r : Request). r.asked.address < 2 ^ 64) (sym request) stood.0,
          subst (λ (r : Request). StandsAs new.driver new.memory (map coherence.begun_anew walks) r (still_serving (length new.memory) next.serving)) (sym request)
              (subst (StandsAs new.driver new.memory (map coherence.begun_anew walks) was.request) (sym (before.4.begun (length new.memory))) at),
        )

    by : (anew : Bool) → BeginsAnewAfter anew (registers_of new.iommu).ddtp rows new_rows → InvariantWith (walks_anew anew walks) new events → SteppedInvariant new new_rows events
    by true all now = (map coherence.begun_anew walks, now, all_anew now all)
    by false same now =
        (walks, now, rows_still driven old new events walks invariants.started leaves now new_rows (subst (RowsStand old.driver old.memory walks) (sym same) stand))

-- ONE IS GIVEN UP: of the walks those of other devices are left
abbrev pub others_than : ℕ → List coherence.Walk → List coherence.Walk
others_than id walks = filter (λ (walk : coherence.Walk). not (id == walk.device)) walks

pub left_of_others : (id : ℕ) (walks : List coherence.Walk) → AreOfOthers (others_than id walks) id walks
left_of_others id walks walk there =
    let both = contains_from_filter (λ (w : coherence.Walk). not (id == w.device)) walks walk there in (both.0, by (id == walk.device) both.1)
  where
    by : (b : Bool) → not b ≡ true → b ≡ false
    by true never = cc
    by false is = refl

-- where no request of the device is under way, each stands among those
pub stand_apart : (driver : DriverState) (memory : List (List ℕ)) (walks : List coherence.Walk) (id : ℕ) (rows : List WalkRow)
    → ((row : WalkRow) (own : UnderWay) → Contains rows row → row.under_way ≡ Some own → own.request.device ≢ id) → RowsStand driver memory walks rows → RowsStand driver memory (others_than id walks) rows
stand_apart driver memory walks id rows apart stand row own there is =
    let stood = stand row own there is in (stood.0, by (still_serving (length memory) own.serving) stood.1)
  where
    still_there : (standing : coherence.Standing) → Contains walks (coherence.walk_at own.request.device standing) → Contains (others_than id walks) (coherence.walk_at own.request.device standing)
    still_there standing at = contains_filter (λ (w : coherence.Walk). not (id == w.device)) walks (coherence.walk_at own.request.device standing) at (other (id == own.request.device) refl)
      where
        other : (b : Bool) → (id == own.request.device) ≡ b → not b ≡ true
        other true same = absurd (apart row own there is (sym (eqb-true id own.request.device same)))
        other false differs = refl

    by : (remaining : Remaining) → StandsAs driver memory walks own.request remaining → StandsAs driver memory (others_than id walks) own.request remaining
    by (Serves answer) stands = stands
    by (Locates request anew rest) (same, at, stands) = (same, still_there coherence.InDirectory at, stands)
    by (Translates request context translated rest) (same, standing, at, stands) = (same, standing, still_there standing at, stands)
