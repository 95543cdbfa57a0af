-- What is left free at an event, and that one more event is counted.
use Rattle.std.proofs.Common.{◌+◌, ◌<◌, ℕ, List, [], arith}
use Rattle.iom_walk_coherence.specs.Walks.{Walk}
use Rattle.iom_base.specs.declared.access.Access.{Access}
use Rattle.iom_base.specs.Accesses.{read_of}
use Rattle.iom_iommu.specs.Parts.{flights_of, slots_of}
use Rattle.iom_machine.specs.declared.choice.Choice.{Choice}
use Rattle.iom_device.specs.Caches.{epoch_in}
use Rattle.iom_world_effects.specs.Parts.{Parts}
use Rattle.iom_world_effects.specs.Invariant.{InvariantWith}

-- no access is chosen
abbrev pub no_access : Access
no_access = read_of 0 1

-- nothing is left free
abbrev pub no_choice : Choice
no_choice = record { directory = []; taken = []; returned = []; frame = 0; device = 0; page = 0; access = no_access }

-- a frame is chosen
abbrev pub frame_chosen : ℕ → Choice
frame_chosen frame = record { directory = []; taken = []; returned = []; frame = frame; device = 0; page = 0; access = no_access }

-- a block device's access is chosen, and a frame
abbrev pub access_chosen : Access → ℕ → Choice
access_chosen access frame = record { directory = []; taken = []; returned = []; frame = frame; device = 0; page = 0; access = access }

-- a device's question is chosen
abbrev pub question_chosen : ℕ → ℕ → Choice
question_chosen device page = record { directory = []; taken = []; returned = []; frame = 0; device = device; page = page; access = no_access }

-- frames are taken
abbrev pub frames_taken : List ℕ → Choice
frames_taken taken = record { directory = []; taken = taken; returned = []; frame = 0; device = 0; page = 0; access = no_access }

-- pages of the directory and frames are taken
abbrev pub pages_taken : List ℕ → List ℕ → Choice
pages_taken pages taken = record { directory = pages; taken = taken; returned = []; frame = 0; device = 0; page = 0; access = no_access }

-- what is sound stays so where one more event is counted
pub sound_counted : {walks : List Walk} (parts : Parts) (events : ℕ) → InvariantWith walks parts events → InvariantWith walks parts (events + 1)
sound_counted parts events invariants = record {
  ready = invariants.ready;
  started = invariants.started;
  unmarked = invariants.unmarked;
  size = invariants.size;
  known = invariants.known;
  small = invariants.small;
  counted = (let count = invariants.counted in omega (arith, count));
  serials = (let last = invariants.serials in omega (arith, last));
  epochs = λ id. let epoch = invariants.epochs id in omega (arith, epoch);
  contexts = invariants.contexts;
  copies = invariants.copies;
}

-- no more accesses were accepted than events came before the one that is counted
pub below_counted : {walks : List Walk} (parts : Parts) (events : ℕ) → InvariantWith walks parts events → (flights_of parts.iommu).so_far < events + 1
below_counted parts events invariants = let count = invariants.counted in omega (arith, count)

-- nor were more serials given
pub serials_counted : {walks : List Walk} (parts : Parts) (events : ℕ) → InvariantWith walks parts events → (slots_of parts.iommu).last < events + 1
serials_counted parts events invariants = let last = invariants.serials in omega (arith, last)

pub epochs_counted : {walks : List Walk} (parts : Parts) (events : ℕ) → InvariantWith walks parts events → (id : ℕ) → epoch_in parts.devices id < events + 1
epochs_counted parts events invariants id = let low = invariants.epochs id in omega (arith, low)
