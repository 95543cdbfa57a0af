-- That calls keep the frames of all accesses in flight among as many.
use Rattle.std.proofs.Common.{◌≡◌, ◌<◌, ◌+◌, ◌++◌, ℕ, Bool, true, false, List, [], ◌∷◌, Option, Some, None, IsSome, refl, sym, inl, inr, subst}
use Rattle.std.proofs.lemmas.Bool.Decides.{eqb_tells}
use Rattle.std.proofs.lemmas.Bool.{false≢true}
use Rattle.iom_base.specs.declared.access.AcceptedAccess.{AcceptedAccess}
use Rattle.iom_inflight.specs.declared.made.MadeAt.{MadeAt}
use Rattle.iom_inflight.specs.Flights.{NumberedAccess, FlightRow, Flights, new_row, row_of, with_row}
use Rattle.iom_inflight.specs.Calls.{Adds, IsAccepted, MakesOldestInFlight, IsFirstIn, IsReadyToCommit, with_access}
use Rattle.iom_inflight.specs.Invariant.{AreAccessesIn, AreRowsIn}

-- those of a device's row are
pub row_in_memory : (frames : ℕ) (rows : List FlightRow) (device : ℕ) (row : FlightRow) → AreRowsIn frames rows → row_of rows device ≡ Some row → AreAccessesIn frames row.waiting
row_in_memory frames [] device row all at = cc
row_in_memory frames (first ∷ others) device row all at = elim (eqb_tells first.device device) [
  | inl e ↦ let same : Some first ≡ Some row = rw e.0 at at in let is : first ≡ row = cc in subst (λ (r : FlightRow). AreAccessesIn frames r.waiting) is all.0
  | inr ne ↦ row_in_memory frames others device row all.1 (rw ne.0 at at)
]

with_row_in_memory : (frames : ℕ) (rows : List FlightRow) (own : FlightRow) → AreRowsIn frames rows → AreAccessesIn frames own.waiting → AreRowsIn frames (with_row rows own)
with_row_in_memory frames [] own all is = tt
with_row_in_memory frames (first ∷ others) own all is = elim (eqb_tells first.device own.device) [
  | inl e ↦ rw e.0 (is, all.1)
  | inr ne ↦ rw ne.0 (all.0, with_row_in_memory frames others own all.1 is)
]

append_in_memory : (frames : ℕ) (rows : List FlightRow) (own : FlightRow) → AreRowsIn frames rows → AreAccessesIn frames own.waiting → AreRowsIn frames (rows ++ own ∷ [])
append_in_memory frames [] own all is = (is, tt)
append_in_memory frames (first ∷ others) own all is = (all.0, append_in_memory frames others own all.1 is)

accesses_in_append : (frames : ℕ) (waiting : List NumberedAccess) (access : NumberedAccess) → AreAccessesIn frames waiting → access.accepted.frame < frames → AreAccessesIn frames (waiting ++ access ∷ [])
accesses_in_append frames [] access all lt = (lt, tt)
accesses_in_append frames (first ∷ later) access all lt = (all.0, accesses_in_append frames later access all.1 lt)

rest_in : (frames : ℕ) (waiting : List NumberedAccess) (oldest : NumberedAccess) (later : List NumberedAccess) → waiting ≡ oldest ∷ later → AreAccessesIn frames waiting → AreAccessesIn frames later
rest_in frames [] oldest later is all = cc
rest_in frames (first ∷ others) oldest later is all = let rest : others ≡ later = cc in subst (AreAccessesIn frames) rest all.1

-- A DEVICE is added
pub adds_in_memory : (frames : ℕ) (old : Flights) (device : ℕ) (added : Bool) (new : Flights) → Adds old device added new → AreRowsIn frames old.rows → AreRowsIn frames new.rows
adds_in_memory frames old device true new adds all =
    subst (λ (f : Flights). AreRowsIn frames f.rows) (sym adds.2) (append_in_memory frames old.rows (new_row device) all tt)
adds_in_memory frames old device false new adds all = subst (λ (f : Flights). AreRowsIn frames f.rows) (sym adds.1) all

-- AN ACCESS is accepted, on a frame that is among them
pub accepted_in_memory : (frames : ℕ) (old : Flights) (device : ℕ) (accepted : AcceptedAccess) (number : ℕ) (new : Flights) → IsAccepted old device accepted number new
    → accepted.frame < frames → AreRowsIn frames old.rows → AreRowsIn frames new.rows
accepted_in_memory frames old device accepted number new is lt all =
    let own = with_access is.row accepted (old.so_far + 1) in
    let waiting = accesses_in_append frames is.row.waiting (record { accepted = accepted; number = old.so_far + 1 }) (row_in_memory frames old.rows device is.row all is.stands) lt in
    subst (λ (f : Flights). AreRowsIn frames f.rows) (sym is.after) (with_row_in_memory frames old.rows own all waiting)

-- THE OLDEST ACCESS is made
pub makes_in_memory : (frames : ℕ) (memory : List (List ℕ)) (old : Flights) (device : ℕ) (made : Option MadeAt) (new_memory : List (List ℕ)) (new : Flights)
    → MakesOldestInFlight memory old device made new_memory new → AreRowsIn frames old.rows → AreRowsIn frames new.rows
makes_in_memory frames memory old device None new_memory new makes all = subst (λ (f : Flights). AreRowsIn frames f.rows) (sym makes.2) all
makes_in_memory frames memory old device (Some made) new_memory new makes all =
    let later = rest_in frames makes.row.waiting makes.oldest makes.later makes.waiting (row_in_memory frames old.rows device makes.row all makes.stands) in
    subst (λ (f : Flights). AreRowsIn frames f.rows) (sym makes.after) (with_row_in_memory frames old.rows (record makes.row { waiting = makes.later }) all later)

first_in : (frames : ℕ) (waiting : List NumberedAccess) → AreAccessesIn frames waiting → IsFirstIn frames waiting
first_in frames [] all = tt
first_in frames (oldest ∷ later) all = all.0

-- a device that was added is ready
pub ready_in_memory : (frames : ℕ) (rows : List FlightRow) (device : ℕ) → IsSome (row_of rows device) → AreRowsIn frames rows → IsReadyToCommit frames (row_of rows device)
ready_in_memory frames rows device there all = by (row_of rows device) there (λ row at. row_in_memory frames rows device row all at)
  where
    by : (found : Option FlightRow) → IsSome found → ((row : FlightRow) → found ≡ Some row → AreAccessesIn frames row.waiting) → IsReadyToCommit frames found
    by None there each = absurd (false≢true there)
    by (Some row) there each = first_in frames row.waiting (each row refl)
