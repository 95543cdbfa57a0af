-- What a disk shows, and what its calls do.
use Rattle.std.specs.Prelude.{◌≡◌, ℕ, zero, suc, ◌<◌, ◌≤◌, ◌⊎◌, Bool, true, false, List, [], ◌∷◌, length, slice_get, slice_set, Option, Some, None}
use Rattle.iom_virtio_blk.specs.DiskStates.{DiskState}

-- what is seen of the disk that stands in a place, if there is one; `shown` is that of the disk's trait
abbrev pub disk_in : {T : Type 0} → (T → DiskState) → Option T → Option DiskState
disk_in shown None = None
disk_in shown (Some disk) = Some (shown disk)

-- which disk it is, if there is one
abbrev pub name_in : Option DiskState → Option ℕ
name_in None = None
name_in (Some disk) = Some disk.name

-- whether the next call fails
abbrev pub fails_next : List ℕ → Bool
fails_next [] = false
fails_next (zero ∷ later) = true
fails_next (suc before ∷ later) = false

-- which calls will fail, when one more was made
abbrev pub after_call : List ℕ → List ℕ
after_call [] = []
after_call (zero ∷ later) = later
after_call (suc before ∷ later) = before ∷ later

-- where it is settled which calls fail: whether this one was to, and which are to come
abbrev pub IsSettled : Option (List ℕ) → (has_failed : Bool) → Option (List ℕ) → Type 0
IsSettled None has_failed new = new ≡ None
IsSettled (Some failing) has_failed new = (fails_next failing ≡ has_failed) × (new ≡ Some (after_call failing))

-- it is the same disk, of which one more call was made, and went well
pub record GoesWell (old new : DiskState) : Type 0 where
  pub name : new.name ≡ old.name
  pub failures : new.failures ≡ old.failures
  pub failing : IsSettled old.failing false new.failing

-- or failed, which it counts
pub record Fails (old new : DiskState) : Type 0 where
  pub name : new.name ≡ old.name
  pub failures : old.failures < new.failures
  pub failing : IsSettled old.failing true new.failing

-- how many sectors there are, where there is a disk
abbrev pub sector_count : Option DiskState → Option ℕ
sector_count None = None
sector_count (Some disk) = Some (length disk.sectors)

-- the sector is old or new, all others are as before
abbrev pub IsOldOrNew : List (List ℕ) → ℕ → List ℕ → List (List ℕ) → Type 0
IsOldOrNew old sector bytes new = (new ≡ old) ⊎ (new ≡ slice_set old sector bytes)

-- why a call may have failed: there is no disk, or no such sector, and nothing was called; or the disk counts a failure
abbrev pub HasReason : Option DiskState → ℕ → Option DiskState → Type 0
HasReason None sector new = Unit {0}
HasReason (Some old) sector None = ⊥
HasReason (Some old) sector (Some new) = ((length old.sectors ≤ sector) × (new ≡ old)) ⊎ Fails old new

-- the disk was called once, and went well
abbrev pub CalledWell : Option DiskState → Option DiskState → Type 0
CalledWell None new = ⊥
CalledWell (Some old) None = ⊥
CalledWell (Some old) (Some new) = GoesWell old new

-- no sector changed
abbrev pub KeepsSectors : Option DiskState → Option DiskState → Type 0
KeepsSectors None None = Unit {0}
KeepsSectors None (Some new) = ⊥
KeepsSectors (Some old) None = ⊥
KeepsSectors (Some old) (Some new) = new.sectors ≡ old.sectors

-- the sector was read
abbrev pub DidRead : Option DiskState → ℕ → List ℕ → Type 0
DidRead None sector bytes = ⊥
DidRead (Some old) sector bytes = slice_get old.sectors sector ≡ Some bytes

-- the sector is there and was written, all others are as before
abbrev pub DidWrite : Option DiskState → ℕ → List ℕ → Option DiskState → Type 0
DidWrite None sector bytes new = ⊥
DidWrite (Some old) sector bytes None = ⊥
DidWrite (Some old) sector bytes (Some new) = (sector < length old.sectors) × (new.sectors ≡ slice_set old.sectors sector bytes)

-- a write that failed: nothing changed, or the sector is there and was written
abbrev pub Tears : Option DiskState → ℕ → List ℕ → Option DiskState → Type 0
Tears None sector bytes None = Unit {0}
Tears None sector bytes (Some new) = ⊥
Tears (Some old) sector bytes None = ⊥
Tears (Some old) sector bytes (Some new) = (new.sectors ≡ old.sectors) ⊎ ((sector < length old.sectors) × (new.sectors ≡ slice_set old.sectors sector bytes))

-- there is a disk
abbrev pub IsThere : Option DiskState → Type 0
IsThere None = ⊥
IsThere (Some disk) = Unit {0}

-- why a flush may have failed: there is no disk, or it counts a failure
abbrev pub HasFlushReason : Option DiskState → Option DiskState → Type 0
HasFlushReason None new = Unit {0}
HasFlushReason (Some old) None = ⊥
HasFlushReason (Some old) (Some new) = Fails old new
