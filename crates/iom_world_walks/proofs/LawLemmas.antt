-- What the laws of the crates below come to for requests under way in a world of a driver.
use Rattle.std.proofs.Common.{◌≡◌, ℕ, Bool, true, false, ◌==◌, ◌∙◌, List, [], ◌∷◌, Option, Some, None, refl, sym, ap, subst, if◌then◌else◌}
use Rattle.std.proofs.lemmas.Bool.{eqb-true}
use Rattle.iom_driver.specs.Laws.{OthersLeaveStanding, RecordsLeaveStanding}
use Rattle.iom_driver.specs.State.{DriverState}
use Rattle.iom_driver.specs.StateOf.{state_of}
use Rattle.iom_driver.specs.declared.driver.Driver.{Driver}
use Rattle.iom_standing_walks.specs.Driven.{DrivenWalksStand}
use Rattle.iom_standing_walks.specs.Faults.{EntryFaultsNow, PageEndsNow, GuestEntryFaultsNow}
use Rattle.iom_standing_walks.specs.Judged.{FirstIsJudgedNow, SecondIsJudgedNow, EntryIsJudgedNow, PageIsJudgedNow}
use Rattle.iom_standing_walks.specs.Pages.{DirectoryEndsAsNow, DirectoryGoesOn}
use Rattle.iom_standing_walks.specs.Standing.{LoadsAreOfNow}
use Rattle.iom_walks.specs.Invariant.{RowInvariant, RowsInvariant}
use Rattle.iom_walks.specs.Walks.{UnderWay, WalkRow, row_of}
use Rattle.iom_world_effects.specs.Below.{LawsBelow}
use Rattle.iom_world_effects.proofs.DriverLemmas.{DriverInvariant, driver_invariant}
use Rattle.iom_world_effects.proofs.PartsLemmas.{StaysReady, StaysReported, reported_of, stays_of}
use Rattle.iom_world_invariant.proofs.AskedLemmas.{service_laws}
use Rattle.iom_world_walks.proofs.EffectsLeave.{OthersLeave, RecordsLeave}
use Rattle.iom_world_walks.proofs.RowLoads.{RowLaws}

-- the laws of loads
pub row_laws : LawsBelow → LoadsAreOfNow → FirstIsJudgedNow → SecondIsJudgedNow → EntryIsJudgedNow → PageIsJudgedNow → EntryFaultsNow → PageEndsNow → GuestEntryFaultsNow → DirectoryEndsAsNow → DirectoryGoesOn → DrivenWalksStand → RowLaws
row_laws below loads first second entry page entry_faults page_ends guest_faults ends goes_on driven = record {
  loads = record { loads = loads; first = first; second = second; entry = entry; page = page; entry_faults = entry_faults; page_ends = page_ends; guest_faults = guest_faults };
  service = service_laws below;
  ends = ends;
  goes_on = goes_on;
  driven = driven;
}

-- what is true of a driver is true of its state
pub record IsDrivers (d : DriverState) : Type 0 where
  pub own : DriverInvariant d
  pub stays_ready : StaysReady d
  pub reported : StaysReported d
  pub others : OthersLeave d
  pub records : RecordsLeave d

pub drivers : LawsBelow → OthersLeaveStanding → RecordsLeaveStanding → (driver : Driver) (d : DriverState) → d ≡ state_of driver → IsDrivers d
drivers below others records driver d is = subst IsDrivers (sym is) (record {
  own = driver_invariant driver;
  stays_ready = stays_of below.unchanged driver;
  reported = reported_of below.reported driver;
  others = others driver;
  records = records driver;
})

-- a request under way is of the device whose row it is in
pub row_is_own : (rows : List WalkRow) (id : ℕ) → RowsInvariant rows → (row : WalkRow) (own : UnderWay) → row_of rows id ≡ Some row → row.under_way ≡ Some own → own.request.device ≡ id
row_is_own [] id sound row own there is = cc
row_is_own (first ∷ others) id (one, rest) row own there is = by (first.device == id) refl there (λ later. row_is_own others id rest row own later is)
  where
    mine : (under_way : Option UnderWay) → first.under_way ≡ under_way → under_way ≡ Some own → own.request.device ≡ first.device
    mine None at goes = cc
    mine (Some now) at goes = let same : now ≡ own = cc in subst (λ (u : UnderWay). u.request.device ≡ first.device) same (subst (RowInvariant first.device first.bytes) at one).own

    by : (b : Bool) → (first.device == id) ≡ b → (if b then Some first else row_of others id) ≡ Some row → (row_of others id ≡ Some row → own.request.device ≡ id) → own.request.device ≡ id
    by true same at later = let this : first ≡ row = cc in mine first.under_way refl (ap (λ (r : WalkRow). r.under_way) this ∙ is) ∙ eqb-true first.device id same
    by false differs at later = later at
