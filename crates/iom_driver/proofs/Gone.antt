-- The devices, and the owners, once some leaving devices' tickets are confirmed.
use Rattle.std.proofs.Common.{suc, ◌≡◌, ◌==◌, ◌<◌, ◌∙◌, ℕ, Bool, true, false, nat_le, List, [], ◌∷◌, map, Option, Some, None, option_map, slice_get, refl, sym, ap, subst, if◌then◌else◌, arith}
use Rattle.std.specs.Option.{option_map_or}
use Rattle.std.proofs.lemmas.Bool.Decides.{nat_tests}
use Rattle.std.proofs.lemmas.Bool.{lt-leb}
use Rattle.std.proofs.lemmas.Option.{slice_get-map}
use Rattle.iom_base.specs.declared.owner.Owner.{Owner}
use Rattle.iom_base.specs.declared.owner.Owner.TheVariants.{System, OneDevice}
use Rattle.iom_driver.specs.declared.device.Attachment.{Attachment}
use Rattle.iom_driver.specs.declared.device.Attachment.TheVariants.{Detached, Attached, Quarantined, Leaving}
use Rattle.iom_driver.specs.declared.device.Device.{Device}
use Rattle.iom_driver.specs.declared.device.Stages.{Stages}
use Rattle.iom_driver.specs.Confirmed.{has_left_until, driven_once_confirmed, is_gone, owner_given_back}
use Rattle.iom_driver.specs.Devices.{device_by_id, attachment_by_id, attached_stages, owned_stages, stages_of, owned_stages_of, HaveOwnIds}
use Rattle.iom_driver.specs.Invariant.{LeaveUnderTickets}

-- how an attachment is afterwards
abbrev pub after : ℕ → Attachment → Attachment
after done a = if has_left_until done a then Detached else a

pub device_confirmed : (done : ℕ) (devices : List Device) (id : ℕ) → device_by_id (map (driven_once_confirmed done) devices) id ≡ option_map (driven_once_confirmed done) (device_by_id devices id)
device_confirmed done [] id = refl
device_confirmed done (device ∷ others) id = by (device.id == id) (device_confirmed done others id)
  where
    by : (b : Bool) → device_by_id (map (driven_once_confirmed done) others) id ≡ option_map (driven_once_confirmed done) (device_by_id others id)
        → ◌≡◌ {A = Option Device} (if b then Some (driven_once_confirmed done device) else device_by_id (map (driven_once_confirmed done) others) id)
        (option_map (driven_once_confirmed done) (if b then Some device else device_by_id others id))
    by true rest = refl
    by false rest = rest

pub attachment_confirmed : (done : ℕ) (devices : List Device) (id : ℕ) → attachment_by_id (map (driven_once_confirmed done) devices) id ≡ after done (attachment_by_id devices id)
attachment_confirmed done devices id =
    ap (λ (o : Option Device). option_map_or (λ (d : Device). d.attachment) o Detached) (device_confirmed done devices id) ∙ by (device_by_id devices id)
  where
    by : (o : Option Device) → option_map_or (λ (d : Device). d.attachment) (option_map (driven_once_confirmed done) o) Detached ≡ after done (option_map_or (λ (d : Device). d.attachment) o Detached)
    by None = refl
    by (Some device) = refl

-- an attached device stays attached, and none becomes so
pub stage_after : (done : ℕ) (a : Attachment) → attached_stages (after done a) ≡ attached_stages a
stage_after done Detached = refl
stage_after done (Attached stage) = refl
stage_after done (Quarantined ticket stage) = refl
stage_after done (Leaving ticket stage) = by (nat_le ticket done)
  where
    by : (b : Bool) → attached_stages (if b then Detached else Leaving ticket stage) ≡ None
    by true = refl
    by false = refl

pub stage_confirmed : (done : ℕ) (devices : List Device) (id : ℕ) → stages_of (map (driven_once_confirmed done) devices) id ≡ stages_of devices id
stage_confirmed done devices id = ap attached_stages (attachment_confirmed done devices id) ∙ stage_after done (attachment_by_id devices id)

-- what is owned was owned, by a device that hasn't left
owned_after : (done : ℕ) (a : Attachment) (stage : Stages) → owned_stages (after done a) ≡ Some stage → (owned_stages a ≡ Some stage) × (has_left_until done a ≡ false)
owned_after done a stage at = by (has_left_until done a) refl at
  where
    by : (b : Bool) → has_left_until done a ≡ b → owned_stages (if b then Detached else a) ≡ Some stage → (owned_stages a ≡ Some stage) × (has_left_until done a ≡ false)
    by true e at = absurd (none_some at)
      where
        none_some : ◌≡◌ {A = Option Stages} None (Some stage) → ⊥
        none_some same = cc
    by false e at = (at, e)

pub still_owned : (done : ℕ) (devices : List Device) (id : ℕ) (stage : Stages) → owned_stages_of (map (driven_once_confirmed done) devices) id ≡ Some stage
    → (owned_stages_of devices id ≡ Some stage) × (has_left_until done (attachment_by_id devices id) ≡ false)
still_owned done devices id stage at = owned_after done (attachment_by_id devices id) stage (sym (ap owned_stages (attachment_confirmed done devices id)) ∙ at)

-- one that still leaves did so, under a later ticket
leaving_after : (done ticket : ℕ) (stage : Stages) (a : Attachment) → after done a ≡ Leaving ticket stage → (a ≡ Leaving ticket stage) × (done < ticket)
leaving_after done ticket stage Detached at = cc
leaving_after done ticket stage (Attached own) at = cc
leaving_after done ticket stage (Quarantined t own) at = cc
leaving_after done ticket stage (Leaving t own) at = by (nat_le t done) refl at
  where
    by : (b : Bool) → nat_le t done ≡ b → ◌≡◌ {A = Attachment} (if b then Detached else Leaving t own) (Leaving ticket stage) → ◌≡◌ {A = Attachment} (Leaving t own) (Leaving ticket stage) × (done < ticket)
    by true e at = cc
    by false e at = let same : t ≡ ticket = cc in let late : done < t = grind (arith, nat_tests) in (at, subst (λ n. done < n) same late)

pub still_leaving : (done : ℕ) (devices : List Device) (id ticket : ℕ) (stage : Stages) → attachment_by_id (map (driven_once_confirmed done) devices) id ≡ Leaving ticket stage
    → (attachment_by_id devices id ≡ Leaving ticket stage) × (done < ticket)
still_leaving done devices id ticket stage at = leaving_after done ticket stage (attachment_by_id devices id) (sym (attachment_confirmed done devices id) ∙ at)

-- one that is still quarantined was so
quarantined_after : (done ticket : ℕ) (stage : Stages) (a : Attachment) → after done a ≡ Quarantined ticket stage → a ≡ Quarantined ticket stage
quarantined_after done ticket stage Detached at = cc
quarantined_after done ticket stage (Attached own) at = cc
quarantined_after done ticket stage (Quarantined t own) at = at
quarantined_after done ticket stage (Leaving t own) at = by (nat_le t done) at
  where
    by : (b : Bool) → ◌≡◌ {A = Attachment} (if b then Detached else Leaving t own) (Quarantined ticket stage) → ◌≡◌ {A = Attachment} (Leaving t own) (Quarantined ticket stage)
    by true at = cc
    by false at = at

pub still_quarantined : (done : ℕ) (devices : List Device) (id ticket : ℕ) (stage : Stages) → attachment_by_id (map (driven_once_confirmed done) devices) id ≡ Quarantined ticket stage
    → attachment_by_id devices id ≡ Quarantined ticket stage
still_quarantined done devices id ticket stage at = quarantined_after done ticket stage (attachment_by_id devices id) (sym (attachment_confirmed done devices id) ∙ at)

pub detached_after : (done : ℕ) (a : Attachment) → a ≡ Detached → after done a ≡ Detached
detached_after done a at = ap (after done) at

pub ids_confirmed : (done : ℕ) (devices : List Device) → HaveOwnIds devices → HaveOwnIds (map (driven_once_confirmed done) devices)
ids_confirmed done [] own = own
ids_confirmed done (device ∷ others) own = (device_confirmed done others device.id ∙ ap (option_map (driven_once_confirmed done)) own.0, ids_confirmed done others own.1)

-- frames: nobody's stays nobody's, the system's the system's, and that of a device that hasn't left its own
pub unmarked_back : (done : ℕ) (devices : List Device) (owners : List (Option Owner)) (n : ℕ) → slice_get owners n ≡ Some None → slice_get (map (owner_given_back done devices) owners) n ≡ Some None
unmarked_back done devices owners n at = slice_get-map (owner_given_back done devices) owners n ∙ ap (option_map (owner_given_back done devices)) at

pub marked_back : (done : ℕ) (devices : List Device) (owners : List (Option Owner)) (n : ℕ) (owner : Owner) → slice_get owners n ≡ Some (Some owner) → is_gone done devices owner ≡ false
    → slice_get (map (owner_given_back done devices) owners) n ≡ Some (Some owner)
marked_back done devices owners n owner at unchanged = slice_get-map (owner_given_back done devices) owners n ∙ ap (option_map (owner_given_back done devices)) at ∙ rw unchanged refl

-- where no ticket of a leaving device is confirmed, nothing changes
stays_so : (done : ℕ) (a : Attachment) → ((ticket : ℕ) (stage : Stages) → a ≡ Leaving ticket stage → done < ticket) → has_left_until done a ≡ false
stays_so done Detached late = refl
stays_so done (Attached stage) late = refl
stays_so done (Quarantined ticket stage) late = refl
stays_so done (Leaving ticket stage) late = lt-leb ticket done (late ticket stage refl)

pub none_left : (devices : List Device) (given done : ℕ) → LeaveUnderTickets devices given done → (id : ℕ) → has_left_until done (attachment_by_id devices id) ≡ false
none_left devices given done leaving id = stays_so done (attachment_by_id devices id) (λ ticket stage at. (leaving id ticket stage at).0)

pub nobody_gone : (devices : List Device) (done : ℕ) → ((id : ℕ) → has_left_until done (attachment_by_id devices id) ≡ false) → (owner : Owner) → is_gone done devices owner ≡ false
nobody_gone devices done stay System = refl
nobody_gone devices done stay (OneDevice id) = stay id

pub marks_same : (done : ℕ) (devices : List Device) (owners : List (Option Owner)) → ((owner : Owner) → is_gone done devices owner ≡ false) → map (owner_given_back done devices) owners ≡ owners
marks_same done devices [] stay = refl
marks_same done devices (None ∷ owners) stay = ap (λ (ms : List (Option Owner)). None ∷ ms) (marks_same done devices owners stay)
marks_same done devices (Some owner ∷ owners) stay = rw (stay owner) (ap (λ (ms : List (Option Owner)). Some owner ∷ ms) (marks_same done devices owners stay))

-- devices at places: none of them has left
pub devices_same : (done : ℕ) (devices : List Device) → ((k : ℕ) (device : Device) → slice_get devices k ≡ Some device → has_left_until done device.attachment ≡ false) → map (driven_once_confirmed done) devices ≡ devices
devices_same done [] stay = refl
devices_same done (device ∷ others) stay = rw (stay 0 device refl) (ap (λ ds. device ∷ ds) (devices_same done others (λ k d at. stay (suc k) d at)))
