-- A FETCH is a step of the ledger machine with walks, after which all walks begin anew where its command ends what is cached.
use Rattle.std.proofs.Common.{◌≡◌, ℕ, ◌∙◌, inl, inr, List, [], ◌∷◌, length, Option, Some, None, option_map, refl, sym, ap, subst, arith}
use Rattle.std.proofs.lemmas.Bool.Decides.{eqb_tells}
use Rattle.std.proofs.lemmas.Bool.{eq-eqb}
use Rattle.iom_command_queue.specs.declared.command.Command.TheVariants.{IotinvalVma, IotinvalGvma, IofenceC, IodirInvalDdt, AtsInval}
use Rattle.iom_device.specs.declared.device.Device.{Device}
use Rattle.iom_iommu.specs.Parts.{registers_of}
use Rattle.iom_iommu.specs.Requests as requests
use Rattle.iom_iommu.specs.Stepped.{BeginsAnewAfter, begins_anew}
use Rattle.iom_iommu.specs.declared.fetched.Fetched.{Fetched}
use Rattle.iom_iommu.specs.declared.fetched.Fetched.TheVariants.{Did, Waiting, Empty, Stopped}
use Rattle.iom_machine.specs.declared.event.Event.TheVariants.{Fetch}
use Rattle.iom_machine.specs.declared.outcome.Outcome.{Outcome}
use Rattle.iom_machine.specs.declared.outcome.Outcome.TheVariants as outcome
use Rattle.iom_registers.specs.declared.directory.DirectoryPointer.{DirectoryPointer}
use Rattle.iom_stepped_machine.specs.Machine.{Answer, SteppedState, SteppedStep, Whole, walks_after}
use Rattle.iom_stepped_machine.specs.Walks.{Walk, Walks, begun_anew}
use Rattle.iom_stepped_requests.specs.Laws.{RequestsEnd}
use Rattle.iom_stepped_requests.specs.Whole.{ServedWithin}
use Rattle.iom_stepped_requests.specs.declared.request.Request.{Request}
use Rattle.iom_walk_coherence.specs.Walks as copies
use Rattle.iom_walks.proofs.Rows.{differs}
use Rattle.iom_walks.specs.Calls.{AllBeginAnew, OneBeginsAnew, RowBeginsAnew, WhatBeginsAnew}
use Rattle.iom_walks.specs.Walks.{UnderWay, WalkRow, row_of}
use Rattle.iom_world_effects.specs.Effect.{FetchesNext, fetch_named}
use Rattle.iom_world_effects.specs.Invariant.{InvariantWith}
use Rattle.iom_world_effects.specs.Parts.{Parts}
use Rattle.iom_world_effects.proofs.DriverLemmas.{DriverInvariant}
use Rattle.iom_world_refinement.proofs.EventLemmas.{no_choice}
use Rattle.iom_world_refinement.proofs.FetchStep.{fetch_step}
use Rattle.iom_stepped_refinement.specs.Shows.{ShowsRequest, ShowsRow, ShowsUnderWay, SteppedShow, WalksShow}
use Rattle.iom_stepped_refinement.proofs.WalkShows.{shown_still}

-- each row has begun anew
abbrev HasBegunAnew : DirectoryPointer → Option WalkRow → Option WalkRow → Type 0
HasBegunAnew ddtp None None = Unit {0}
HasBegunAnew ddtp None (Some new) = ⊥
HasBegunAnew ddtp (Some old) None = ⊥
HasBegunAnew ddtp (Some old) (Some new) = RowBeginsAnew ddtp old new

row_anew : (ddtp : DirectoryPointer) (old new : List WalkRow) (id : ℕ) → AllBeginAnew ddtp old new → HasBegunAnew ddtp (row_of old id) (row_of new id)
row_anew ddtp [] [] id anew = tt
row_anew ddtp [] (new ∷ news) id anew = absurd anew
row_anew ddtp (old ∷ olds) [] id anew = absurd anew
row_anew ddtp (old ∷ olds) (new ∷ news) id anew = elim (eqb_tells old.device id) [
  | inl e ↦ rw (e.0, eq-eqb new.device id (anew.0.device ∙ e.1)) anew.0
  | inr ne ↦ rw (ne.0, differs new.device id (λ same. ne.1 (sym anew.0.device ∙ same))) (row_anew ddtp olds news id anew.1)
]

module _ (ends : RequestsEnd) (frames : ℕ) (devices : List Device) (ddtp : DirectoryPointer) where
  -- the walk is shown with no load made
  request_anew : (id : ℕ) (row new_row : WalkRow) (own new_own : UnderWay) (walk : Walk) → new_row.bytes ≡ row.bytes → OneBeginsAnew ddtp own new_own → ShowsRequest frames devices id row own walk
      → ShowsRequest frames devices id new_row new_own (record walk { loads = 0 })
  request_anew id row new_row own new_own walk bytes anew shows = record {
    asks = shows.asks;
    access =
        ap (λ (r : Request). requests.access_of r.asked.address new_own.len r.asked.kind new_row.bytes) anew.request
        ∙ ap (λ n. requests.access_of own.request.asked.address n own.request.asked.kind new_row.bytes) anew.len
        ∙ ap (λ b. requests.access_of own.request.asked.address own.len own.request.asked.kind b) bytes ∙ shows.access;
    left = 27;
    ends = subst (ServedWithin 27 frames) (sym (anew.begun frames)) (ends frames ddtp None (λ key. None) own.request).1;
    few = omega arith;
  }

  under_way_anew : (id : ℕ) (row new_row : WalkRow) (own new_own : Option UnderWay) (walk : Option Walk) → new_row.bytes ≡ row.bytes → WhatBeginsAnew ddtp own new_own
      → ShowsUnderWay frames devices id row own walk → ShowsUnderWay frames devices id new_row new_own (option_map (λ (walk : Walk). record walk { loads = 0 }) walk)
  under_way_anew id row new_row None None walk bytes anew shows = ap (option_map (λ (walk : Walk). record walk { loads = 0 })) shows
  under_way_anew id row new_row None (Some new_own) walk bytes anew shows = absurd anew
  under_way_anew id row new_row (Some own) None walk bytes anew shows = absurd anew
  under_way_anew id row new_row (Some own) (Some new_own) walk bytes anew shows =
      (record shows.0 { loads = 0 }, ap (option_map (λ (walk : Walk). record walk { loads = 0 })) shows.1, request_anew id row new_row own new_own shows.0 bytes anew shows.2)

  anew_shown : (rows new_rows : List WalkRow) (walks : Walks) → AllBeginAnew ddtp rows new_rows → WalksShow frames devices rows walks → WalksShow frames devices new_rows (begun_anew walks)
  anew_shown rows new_rows walks anew shows id = by (row_of rows id) (row_of new_rows id) (row_anew ddtp rows new_rows id anew) (shows id)
    where
      by : (row new_row : Option WalkRow) → HasBegunAnew ddtp row new_row → ShowsRow frames devices id row (walks id) → ShowsRow frames devices id new_row (begun_anew walks id)
      by None None is shown = ap (option_map (λ (walk : Walk). record walk { loads = 0 })) shown
      by None (Some new) is shown = absurd is
      by (Some old) None is shown = absurd is
      by (Some old) (Some new) is shown = under_way_anew id old new old.under_way new.under_way (walks id) is.bytes is.under_way shown

pub anew_step : {walks : List copies.Walk} (ends : RequestsEnd) (old new : Parts) (events : ℕ) (reply : Outcome) (rows new_rows : List WalkRow) → InvariantWith walks old events → DriverInvariant old.driver
    → (fetches : FetchesNext old reply new) → length new.memory ≡ length old.memory → BeginsAnewAfter (begins_anew fetches.answer) (registers_of new.iommu).ddtp rows new_rows
    → (state : SteppedState) → SteppedShow old rows state → (next : SteppedState) × SteppedStep state (Whole Fetch) (Answer reply) next × SteppedShow new new_rows next
anew_step ends old new events reply rows new_rows invariants own fetches size anew state shows =
    let step = fetch_step old new events reply invariants own fetches state.ledger shows.ledger in
    let next : SteppedState = record { ledger = step.0; walks = walks_after state.ledger Fetch reply state.walks } in (
      next,
      ((no_choice, step.1), refl),
      record {
        ledger = step.2;
        walks =
            subst (λ (r : Outcome). WalksShow (length new.memory) new.devices new_rows (walks_after state.ledger Fetch r state.walks)) (sym fetches.reply_is) (by fetches.answer anew);
      },
    )
  where
    ddtp : DirectoryPointer
    ddtp = (registers_of new.iommu).ddtp

    same : new_rows ≡ rows → WalksShow (length new.memory) new.devices new_rows state.walks
    same is = shown_still (length old.memory) (length new.memory) old.devices new.devices rows new_rows state.walks size fetches.devices is shows.walks

    begun : AllBeginAnew ddtp rows new_rows → WalksShow (length new.memory) new.devices new_rows (begun_anew state.walks)
    begun all =
        shown_still (length old.memory) (length new.memory) old.devices new.devices new_rows new_rows (begun_anew state.walks) size fetches.devices refl
        (anew_shown ends (length old.memory) old.devices ddtp rows new_rows state.walks all shows.walks)

    by : (answer : Fetched) → BeginsAnewAfter (begins_anew answer) ddtp rows new_rows
        → WalksShow (length new.memory) new.devices new_rows (walks_after state.ledger Fetch (outcome.Fetched (fetch_named answer)) state.walks)
    by (Did (IotinvalVma gscid pscid page)) all = begun all
    by (Did (IotinvalGvma gscid page)) all = begun all
    by (Did (IofenceC store wsi pr pw)) is = same is
    by (Did (IodirInvalDdt device)) all = begun all
    by (Did (AtsInval device range)) is = same is
    by Waiting is = same is
    by Empty is = same is
    by Stopped is = same is
