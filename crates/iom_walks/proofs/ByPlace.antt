-- What a call of a row leaves of all rows, by the place where the row stands.
use Rattle.std.proofs.Common.{◌≡◌, ◌∙◌, ℕ, List, Option, Some, None, MatchOption, get_or, set, refl, sym, ap, subst}
use Rattle.std.proofs.lemmas.Option.{get_or_from_slice_get}
use Rattle.std.proofs.lemmas.List.{set-get_or}
use Rattle.iom_base.specs.Spans.{FitsInPage}
use Rattle.iom_inflight.specs.Invariant.{CarriesBytes}
use Rattle.iom_stepped_requests.specs.Standing.{request_of}
use Rattle.iom_stepped_requests.specs.declared.request.Request.{Request}
use Rattle.iom_stepped_requests.specs.declared.walk.RequestWalk.{RequestWalk}
use Rattle.iom_tlb.specs.Content.{Translations}
use Rattle.iom_walks.specs.Calls.{Loads, row_going_on, row_walking, given_up}
use Rattle.iom_walks.specs.Invariant.{AreWalks, RowInvariant, UnderWayInvariant}
use Rattle.iom_walks.specs.Rows.{RowLoads, RowStandsAt, StartsThere}
use Rattle.iom_walks.specs.Walks.{UnderWay, WalkRow, row_of, with_row, idle_row, under_way_in, under_way_of}
use Rattle.iom_walks.specs.declared.outcome.Loaded.{Loaded}
use Rattle.iom_walks.specs.declared.outcome.Loaded.TheVariants as loaded
use Rattle.iom_walks.proofs.Kept.{sound_replaced, sound_row}

-- the place that was found
pub stands_found : (rows : List WalkRow) (device place : ℕ) (found : Option ℕ) → found ≡ Some place
    → MatchOption found (row_of rows device ≡ None) (RowStandsAt rows device) → RowStandsAt rows device place
stands_found rows device place None is at = cc
stands_found rows device place (Some other) is at = let same : other ≡ place = cc in subst (RowStandsAt rows device) same at

module _ (rows : List WalkRow) (device place : ℕ) (found : WalkRow) (stands : RowStandsAt rows device place) (read : found ≡ get_or rows place found) where
  is_row : found ≡ stands.row
  is_row = read ∙ get_or_from_slice_get rows place stands.row found stands.there

  pub found_row : row_of rows device ≡ Some found
  found_row = stands.first ∙ ap Some (sym is_row)

  own : found.device ≡ device
  own = ap (λ (r : WalkRow). r.device) is_row ∙ stands.own

  put_back : (new : WalkRow) → new ≡ found → set rows place new ≡ rows
  put_back new same = ap (λ (r : WalkRow). set rows place r) (same ∙ read) ∙ set-get_or rows place found

  pub put_own : (new changed : WalkRow) → new ≡ changed → changed.device ≡ found.device → set rows place new ≡ with_row rows changed
  put_own new changed same kept =
      stands.replaced new (ap (λ (r : WalkRow). r.device) same ∙ kept ∙ own) ∙ ap (λ (r : WalkRow). with_row rows r) same

  pub under_way_found : under_way_of rows device ≡ found.under_way
  under_way_found = ap under_way_in found_row

  -- a sound row is put there
  sound_own : (new changed : WalkRow) → new ≡ changed → changed.device ≡ found.device → AreWalks rows → RowInvariant changed.device changed.bytes changed.under_way
      → AreWalks (set rows place new)
  sound_own new changed same kept invariants is = subst AreWalks (sym (put_own new changed same kept)) (sound_replaced rows changed invariants is)

  -- what is under way there is sound
  found_sound : (under_way : UnderWay) → AreWalks rows → found.under_way ≡ Some under_way → UnderWayInvariant found.device found.bytes under_way
  found_sound under_way invariants walks =
      subst (RowInvariant found.device found.bytes) walks (sound_row rows device found invariants.rows_are found_row)

  -- a load is made
  pub loads_at : (memory : List (List ℕ)) (cached : Translations) (answer : Loaded) (new : WalkRow) → AreWalks rows → RowLoads memory cached found answer new
      → Loads memory cached rows device answer (set rows place new)
  loads_at memory cached loaded.Nothing new invariants is = (under_way_found ∙ is.0, put_back new is.1)
  loads_at memory cached loaded.GoesOn new invariants is = record {
    row = found;
    was_there = found_row;
    under_way = is.under_way;
    walks = is.walks;
    walk = is.walk;
    of_request = is.of_request;
    made = is.made;
    after = put_own new (row_going_on found is.under_way is.walk) is.after refl;
  }
  loads_at memory cached (loaded.Ended ended) new invariants is =
      let sound = found_sound is.under_way invariants is.walks in
      record {
        row = found;
        was_there = found_row;
        under_way = is.under_way;
        walks = is.walks;
        request = is.request;
        len = is.len;
        answered = is.answered;
        own = sound.own ∙ own;
        within = sound.within;
        carries = sound.carries;
        after = put_own new (idle_row found) is.after refl;
      }

  pub sound_loads_at : (memory : List (List ℕ)) (cached : Translations) (answer : Loaded) (new : WalkRow) → AreWalks rows → RowLoads memory cached found answer new
      → AreWalks (set rows place new)
  sound_loads_at memory cached loaded.Nothing new invariants is = subst AreWalks (sym (put_back new is.1)) invariants
  sound_loads_at memory cached loaded.GoesOn new invariants is =
      let sound = found_sound is.under_way invariants is.walks in
      sound_own new (row_going_on found is.under_way is.walk) is.after refl invariants
      (record { own = sound.own; of_request = is.of_request; served = tt; within = sound.within; carries = sound.carries })
  sound_loads_at memory cached (loaded.Ended ended) new invariants is = sound_own new (idle_row found) is.after refl invariants tt

  -- a request begins
  pub sound_walks_at : (request : Request) (len : ℕ) (bytes : List ℕ) (walk : RequestWalk) (new : WalkRow) → AreWalks rows → new ≡ row_walking found request len bytes walk
      → request.device ≡ device → request_of walk ≡ request → FitsInPage request.asked.address len → CarriesBytes request.asked.kind len bytes → AreWalks (set rows place new)
  sound_walks_at request len bytes walk new invariants is named of_request within carries =
      sound_own new (row_walking found request len bytes walk) is refl invariants
      (record { own = named ∙ sym own; of_request = of_request; served = tt; within = within; carries = carries })

  pub starts_at : (walk : RequestWalk) (len : ℕ) (bytes : List ℕ) (new : WalkRow) → new ≡ row_walking found (request_of walk) len bytes walk
      → StartsThere rows device walk len bytes (set rows place new)
  starts_at walk len bytes new is =
      record { row = found; was_there = found_row; after = put_own new (row_walking found (request_of walk) len bytes walk) is refl }

  -- it is given up
  pub gives_up_at : (new : WalkRow) → new ≡ idle_row found → set rows place new ≡ given_up rows (row_of rows device)
  gives_up_at new is = put_own new (idle_row found) is refl ∙ ap (given_up rows) (sym found_row)

  pub sound_gives_up_at : (new : WalkRow) → AreWalks rows → new ≡ idle_row found → AreWalks (set rows place new)
  sound_gives_up_at new invariants is = sound_own new (idle_row found) is refl invariants tt
