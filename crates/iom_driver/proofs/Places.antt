-- Looking a device up by its id, and how it is attached once that is set.
use Rattle.std.proofs.Common.{suc, zero, ◌≡◌, ◌≢◌, ◌==◌, ◌<◌, ◌&&◌, not, ◌∙◌, ◌++◌, ℕ, Bool, true, false, List, [], ◌∷◌, length, Option, Some, None, slice_get, refl, sym, ap, inl, inr, arith, if◌then◌else◌}
use Rattle.std.specs.Option.{option_map_or}
use Rattle.std.proofs.lemmas.Bool.Decides.{eqb_tells}
use Rattle.std.proofs.lemmas.Bool.{eq-eqb, false≢true}
use Rattle.iom_driver.specs.declared.device.Attachment.{Attachment}
use Rattle.iom_driver.specs.declared.device.Attachment.TheVariants.{Detached, Attached, Quarantined, Leaving}
use Rattle.iom_driver.specs.declared.device.Device.{Device}
use Rattle.iom_driver.specs.declared.device.Stages.{Stages}
use Rattle.iom_driver.specs.Devices.{device_by_id, has_device, has_trusted_cache, attachment_by_id, attached_stages, owned_stages, stages_of, detached, with_attachment}
use Rattle.iom_driver.specs.Places.{IsAttachmentPlace}
use Rattle.iom_driver.proofs.Lists.{differs}

-- an id that no device has
pub absent : (devices : List Device) (id : ℕ) → ((k : ℕ) (other : Device) → k < length devices → slice_get devices k ≡ Some other → other.id ≢ id) → device_by_id devices id ≡ None
absent [] id none = refl
absent (device ∷ others) id none =
    rw (differs device.id id (none 0 device (omega arith) refl)) (absent others id (λ k other lt at. none (suc k) other (omega arith) at))

-- the first device with its id
pub place_is : (devices : List Device) (id place : ℕ) (device : Device) → slice_get devices place ≡ Some device → device.id ≡ id
    → ((k : ℕ) (other : Device) → k < place → slice_get devices k ≡ Some other → other.id ≢ id) → IsAttachmentPlace devices id place
place_is [] id place device at own none = cc
place_is (first ∷ others) id zero device at own none =
    let same : first ≡ device = cc in
    let own_first : first.id ≡ id = ap (λ (d : Device). d.id) same ∙ own in
    (first, refl, rw (eq-eqb first.id id own_first) refl, (λ attachment. rw (eq-eqb first.id id own_first) refl))
place_is (first ∷ others) id (suc place) device at own none =
    let other = differs first.id id (none 0 first (omega arith) refl) in
    let rest = place_is others id place device at own (λ k d lt there. none (suc k) d (omega arith) there) in
    (rest.0, rest.1, rw other rest.2, (λ attachment. rw other (ap (λ ds. first ∷ ds) (rest.3 attachment))))

-- how a device is attached
pub attachment_is : (devices : List Device) (id : ℕ) (device : Device) → device_by_id devices id ≡ Some device → attachment_by_id devices id ≡ device.attachment
attachment_is devices id device at = ap (λ (o : Option Device). option_map_or (λ (d : Device). d.attachment) o Detached) at

-- and whether it may have ATS, as the device that is read at its place says
pub trusted : (devices : List Device) (id : ℕ) (ats : Bool) (device read : Device) → device_by_id devices id ≡ Some device → read ≡ device
    → (ats && not (has_trusted_cache devices id)) ≡ (ats && not read.trusted)
trusted devices id ats device read at same =
    ap (λ (o : Option Device). ats && not (option_map_or (λ (d : Device). d.trusted) o false)) at ∙ ap (λ (d : Device). ats && not d.trusted) (sym same)

pub attachment_absent : (devices : List Device) (id : ℕ) → device_by_id devices id ≡ None → attachment_by_id devices id ≡ Detached
attachment_absent devices id at = ap (λ (o : Option Device). option_map_or (λ (d : Device). d.attachment) o Detached) at

-- an attached device owns its stage; one that owns none is detached
pub attached_owns : (a : Attachment) (stage : Stages) → attached_stages a ≡ Some stage → owned_stages a ≡ Some stage
attached_owns Detached stage at = at
attached_owns (Attached own) stage at = at
attached_owns (Quarantined ticket own) stage at = cc
attached_owns (Leaving ticket own) stage at = cc

pub owns_nothing : (a : Attachment) → owned_stages a ≡ None → a ≡ Detached
owns_nothing Detached none = refl
owns_nothing (Attached stage) none = cc
owns_nothing (Quarantined ticket stage) none = cc
owns_nothing (Leaving ticket stage) none = cc

pub not_attached : (a : Attachment) → owned_stages a ≡ None → attached_stages a ≡ None
not_attached a none = ap attached_stages (owns_nothing a none)

pub attached_is : (a : Attachment) (stage : Stages) → attached_stages a ≡ Some stage → a ≡ Attached stage
attached_is Detached stage at = cc
attached_is (Attached own) stage at = let same : own ≡ stage = cc in ap Attached same
attached_is (Quarantined ticket own) stage at = cc
attached_is (Leaving ticket own) stage at = cc

-- an attached device is there
pub attached_there : (devices : List Device) (id : ℕ) (stage : Stages) → stages_of devices id ≡ Some stage → has_device devices id ≡ true
attached_there [] id stage at = cc
attached_there (device ∷ others) id stage at = elim (eqb_tells device.id id) [ inl e ↦ rw e.0 refl | inr ne ↦ rw ne.0 (attached_there others id stage (rw ne.0 at at)) ]

-- once it is set: that of the device, and as it was of each other
pub attachment_set : (devices : List Device) (id : ℕ) (a : Attachment) → has_device devices id ≡ true → attachment_by_id (with_attachment devices id a) id ≡ a
attachment_set [] id a there = absurd (false≢true there)
attachment_set (device ∷ others) id a there = elim (eqb_tells device.id id) [
  | inl e ↦ rw (e.0, e.0) refl
  | inr ne ↦ rw (ne.0, ne.0) (attachment_set others id a (rw ne.0 at there))
]

pub attachment_other : (devices : List Device) (id other : ℕ) (a : Attachment) → other ≢ id → attachment_by_id (with_attachment devices id a) other ≡ attachment_by_id devices other
attachment_other [] id other a ne = refl
attachment_other (device ∷ others) id other a ne = elim (eqb_tells device.id id) [
  | inl e ↦ let apart : device.id ≢ other = λ same. ne (sym same ∙ e.1) in rw (e.0, differs device.id other apart) refl
  | inr apart ↦ rw apart.0 (by (device.id == other) (attachment_other others id other a ne))
]
  where
    by : (b : Bool) → attachment_by_id (with_attachment others id a) other ≡ attachment_by_id others other
        → ◌≡◌ {A = Attachment} (option_map_or (λ (d : Device). d.attachment) (if b then Some device else device_by_id (with_attachment others id a) other) Detached)
        (option_map_or (λ (d : Device). d.attachment) (if b then Some device else device_by_id others other) Detached)
    by true rest = refl
    by false rest = rest

-- where there is no such device, nothing is set
pub with_absent : (devices : List Device) (id : ℕ) (a : Attachment) → device_by_id devices id ≡ None → with_attachment devices id a ≡ devices
with_absent [] id a none = refl
with_absent (device ∷ others) id a none = elim (eqb_tells device.id id) [
  | inl e ↦ absurd (some_none (rw e.0 at none))
  | inr ne ↦ rw ne.0 (ap (λ ds. device ∷ ds) (with_absent others id a (rw ne.0 at none)))
]
  where
    some_none : ◌≡◌ {A = Option Device} (Some device) None → ⊥
    some_none same = cc

-- a detached device more at the end changes nothing of how any is attached
pub attachment_plugged : (devices : List Device) (id : ℕ) (trusted : Bool) (other : ℕ) → attachment_by_id (devices ++ detached id trusted ∷ []) other ≡ attachment_by_id devices other
attachment_plugged [] id trusted other = by (id == other)
  where
    by : (b : Bool) → ◌≡◌ {A = Attachment} (option_map_or (λ (d : Device). d.attachment) (if b then Some (detached id trusted) else None) Detached) Detached
    by true = refl
    by false = refl
attachment_plugged (device ∷ others) id trusted other = by (device.id == other) (attachment_plugged others id trusted other)
  where
    by : (b : Bool) → attachment_by_id (others ++ detached id trusted ∷ []) other ≡ attachment_by_id others other
        → ◌≡◌ {A = Attachment} (option_map_or (λ (d : Device). d.attachment) (if b then Some device else device_by_id (others ++ detached id trusted ∷ []) other) Detached)
        (option_map_or (λ (d : Device). d.attachment) (if b then Some device else device_by_id others other) Detached)
    by true rest = refl
    by false rest = rest

pub length-with_attachment : (devices : List Device) (id : ℕ) (a : Attachment) → length (with_attachment devices id a) ≡ length devices
length-with_attachment [] id a = refl
length-with_attachment (device ∷ others) id a = elim (eqb_tells device.id id) [ inl e ↦ rw e.0 refl | inr ne ↦ rw ne.0 (ap suc (length-with_attachment others id a)) ]
