-- How the driver's devices are attached after its calls, as the ledger machine has it.
use Rattle.std.proofs.Common.{zero, suc, ◌≡◌, ◌≢◌, ◌+◌, ◌<◌, ◌==◌, ◌∙◌, inl, inr, nat_le, is_some, ℕ, Bool, true, false, List, [], ◌∷◌, map, Option, Some, None, refl, sym, ap, arith, if◌then◌else◌}
use Rattle.std.specs.Option.{option_map, option_map_or}
use Rattle.std.proofs.lemmas.Bool.{false≢true, le-leb, lt-leb}
use Rattle.std.proofs.lemmas.Bool.Decides.{eqb_tells, leb_tells}
use Rattle.iom_coherence.specs.DriverCalls.{attachment_once_confirmed}
use Rattle.iom_driver.specs.declared.device.Attachment.{Attachment}
use Rattle.iom_driver.specs.declared.device.Attachment.TheVariants.{Detached, Attached, Quarantined, Leaving}
use Rattle.iom_driver.specs.declared.device.Device.{Device}
use Rattle.iom_driver.specs.declared.device.Stages.{Stages}
use Rattle.iom_driver.specs.Confirmed.{has_left_until, driven_once_confirmed}
use Rattle.iom_driver.specs.Devices.{device_by_id, has_device, attachment_by_id, owned_stages, with_attachment, has_trusted_cache}
use Rattle.iom_driver.proofs.Lists.{differs}
use Rattle.iom_machine.specs.declared.state.Attachment as machine
use Rattle.iom_machine.specs.declared.state.Attachment.TheVariants as shown
use Rattle.iom_world_effects.specs.Devices.{shown_attachment}
use Rattle.iom_world_effects.specs.Invariant.{known_ids}
use Rattle.iom_world_effects.proofs.ConfirmScenes.{left_after}

-- how an attachment is once the tickets up to a number are confirmed
abbrev pub after : ℕ → Attachment → Attachment
after done a = if has_left_until done a then Detached else a

device_confirmed : (done : ℕ) (devices : List Device) (id : ℕ) → device_by_id (map (driven_once_confirmed done) devices) id ≡ option_map (driven_once_confirmed done) (device_by_id devices id)
device_confirmed done [] id = refl
device_confirmed done (device ∷ others) id = by (device.id == id) (device_confirmed done others id)
  where
    by : (b : Bool) → device_by_id (map (driven_once_confirmed done) others) id ≡ option_map (driven_once_confirmed done) (device_by_id others id)
        → ◌≡◌ {A = Option Device} (if b then Some (driven_once_confirmed done device) else device_by_id (map (driven_once_confirmed done) others) id)
        (option_map (driven_once_confirmed done) (if b then Some device else device_by_id others id))
    by true rest = refl
    by false rest = rest

pub attachment_confirmed : (done : ℕ) (devices : List Device) (id : ℕ) → attachment_by_id (map (driven_once_confirmed done) devices) id ≡ after done (attachment_by_id devices id)
attachment_confirmed done devices id =
    ap (λ (o : Option Device). option_map_or (λ (d : Device). d.attachment) o Detached) (device_confirmed done devices id) ∙ by (device_by_id devices id)
  where
    by : (o : Option Device) → option_map_or (λ (d : Device). d.attachment) (option_map (driven_once_confirmed done) o) Detached ≡ after done (option_map_or (λ (d : Device). d.attachment) o Detached)
    by None = refl
    by (Some device) = refl

pub plugged_confirmed : (done : ℕ) (devices : List Device) (id : ℕ) → has_device (map (driven_once_confirmed done) devices) id ≡ has_device devices id
plugged_confirmed done devices id = ap (λ (o : Option Device). is_some o) (device_confirmed done devices id) ∙ by (device_by_id devices id)
  where
    by : (o : Option Device) → is_some (option_map (driven_once_confirmed done) o) ≡ is_some o
    by None = refl
    by (Some device) = refl

pub trusted_confirmed : (done : ℕ) (devices : List Device) (id : ℕ) → has_trusted_cache (map (driven_once_confirmed done) devices) id ≡ has_trusted_cache devices id
trusted_confirmed done devices id = ap (λ (o : Option Device). option_map_or (λ (d : Device). d.trusted) o false) (device_confirmed done devices id) ∙ by (device_by_id devices id)
  where
    by : (o : Option Device) → option_map_or (λ (d : Device). d.trusted) (option_map (driven_once_confirmed done) o) false ≡ option_map_or (λ (d : Device). d.trusted) o false
    by None = refl
    by (Some device) = refl

pub ids_confirmed : (done : ℕ) (devices : List Device) → known_ids (map (driven_once_confirmed done) devices) ≡ known_ids devices
ids_confirmed done [] = refl
ids_confirmed done (device ∷ others) = ap (λ ids. device.id ∷ ids) (ids_confirmed done others)

-- what isn't leaving stays so
left_still : (first n : ℕ) (f : ℕ → machine.Attachment) (d : ℕ) (a : machine.Attachment) → f d ≡ a → ((ticket : ℕ) → attachment_once_confirmed ticket a ≡ a) → left_after first n f d ≡ a
left_still first zero f d a is still = is
left_still first (suc n) f d a is still = ap (attachment_once_confirmed (first + n + 1)) (left_still first n f d a is still) ∙ still (first + n + 1)

left_leaving : (first n : ℕ) (f : ℕ → machine.Attachment) (d ticket : ℕ) (stage : Stages) → f d ≡ shown.Leaving ticket stage.mode stage.ats → first < ticket
    → left_after first n f d ≡ shown_attachment (after (first + n) (Leaving ticket stage))
left_leaving first zero f d ticket stage is above =
    let waits : nat_le ticket (first + 0) ≡ false = lt-leb ticket (first + 0) (omega (arith, above)) in
    is ∙ sym (ap (λ b. shown_attachment (if b then Detached else Leaving ticket stage)) waits)
left_leaving first (suc n) f d ticket stage is above =
    ap (attachment_once_confirmed (first + n + 1)) (left_leaving first n f d ticket stage is above)
    ∙ elim (leb_tells ticket (first + n)) [
      | inl low ↦
          let gone : nat_le ticket (first + suc n) ≡ true = le-leb ticket (first + suc n) (let l = low.1 in omega (arith, l)) in
          ap (λ b. attachment_once_confirmed (first + n + 1) (shown_attachment (if b then Detached else Leaving ticket stage))) low.0
          ∙ sym (ap (λ b. shown_attachment (if b then Detached else Leaving ticket stage)) gone)
      | inr high ↦
          ap (λ b. attachment_once_confirmed (first + n + 1) (shown_attachment (if b then Detached else Leaving ticket stage))) high.0
          ∙ elim (eqb_tells (first + n + 1) ticket) [
            | inl e ↦
                let gone : nat_le ticket (first + suc n) ≡ true = le-leb ticket (first + suc n) (let l = e.1 in omega (arith, l)) in
                ap (λ b. if b then shown.Detached else shown.Leaving ticket stage.mode stage.ats) e.0
                ∙ sym (ap (λ b. shown_attachment (if b then Detached else Leaving ticket stage)) gone)
            | inr ne ↦
                let over : first + suc n < ticket = (let far = over_next (first + n) ticket high.1 ne.1 in omega (arith, far)) in
                let waits : nat_le ticket (first + suc n) ≡ false = lt-leb ticket (first + suc n) over in
                ap (λ b. if b then shown.Detached else shown.Leaving ticket stage.mode stage.ats) ne.0
                ∙ sym (ap (λ b. shown_attachment (if b then Detached else Leaving ticket stage)) waits)
          ]
    ]
  where
    over_next : (k t : ℕ) → k < t → k + 1 ≢ t → suc k < t
    over_next k t lt ne = elim (leb_tells t (suc k)) [ inl low ↦ absurd (ne (let l = low.1 in omega (arith, l, lt))) | inr high ↦ high.1 ]

-- so many tickets after the first number are confirmed, one after another: an attachment is then as the driver has it
pub left_is : (first n : ℕ) (f : ℕ → machine.Attachment) (d : ℕ) (a : Attachment) → f d ≡ shown_attachment a
    → ((ticket : ℕ) (stage : Stages) → a ≡ Leaving ticket stage → first < ticket) → left_after first n f d ≡ shown_attachment (after (first + n) a)
left_is first n f d Detached is later = left_still first n f d shown.Detached is (λ ticket. refl)
left_is first n f d (Attached stage) is later = left_still first n f d (shown.Attached stage.mode stage.ats) is (λ ticket. refl)
left_is first n f d (Quarantined own stage) is later = left_still first n f d (shown.Quarantined own stage.mode stage.ats) is (λ ticket. refl)
left_is first n f d (Leaving ticket stage) is later = left_leaving first n f d ticket stage is (later ticket stage refl)

-- one device is attached so
device_set : (devices : List Device) (id : ℕ) (a : Attachment) (other : ℕ) → has_device (with_attachment devices id a) other ≡ has_device devices other
device_set [] id a other = refl
device_set (device ∷ others) id a other = elim (eqb_tells device.id id) [
  | inl e ↦ rw e.0 (first_alike (device.id == other))
  | inr ne ↦ rw ne.0 (later_alike (device.id == other) (device_set others id a other))
]
  where
    first_alike : (b : Bool) → is_some (if b then Some (record device { attachment = a }) else device_by_id others other) ≡ is_some (if b then Some device else device_by_id others other)
    first_alike true = refl
    first_alike false = refl

    later_alike : (b : Bool) → is_some (device_by_id (with_attachment others id a) other) ≡ is_some (device_by_id others other)
        → is_some (if b then Some device else device_by_id (with_attachment others id a) other) ≡ is_some (if b then Some device else device_by_id others other)
    later_alike true rest = refl
    later_alike false rest = rest

pub plugged_set : (devices : List Device) (id : ℕ) (a : Attachment) (other : ℕ) → has_device (with_attachment devices id a) other ≡ has_device devices other
plugged_set devices id a other = device_set devices id a other

pub trusted_set : (devices : List Device) (id : ℕ) (a : Attachment) (other : ℕ) → has_trusted_cache (with_attachment devices id a) other ≡ has_trusted_cache devices other
trusted_set [] id a other = refl
trusted_set (device ∷ others) id a other = by (device.id == id) (trusted_set others id a other)
  where
    by : (b : Bool) → has_trusted_cache (with_attachment others id a) other ≡ has_trusted_cache others other
        → has_trusted_cache (if b then (record device { attachment = a }) ∷ others else device ∷ with_attachment others id a) other ≡ has_trusted_cache (device ∷ others) other
    by true rest = first_alike (device.id == other)
      where
        first_alike : (d : Bool) → option_map_or (λ (e : Device). e.trusted) (if d then Some (record device { attachment = a }) else device_by_id others other) false
            ≡ option_map_or (λ (e : Device). e.trusted) (if d then Some device else device_by_id others other) false
        first_alike true = refl
        first_alike false = refl
    by false rest = later_alike (device.id == other)
      where
        later_alike : (d : Bool) → option_map_or (λ (e : Device). e.trusted) (if d then Some device else device_by_id (with_attachment others id a) other) false
            ≡ option_map_or (λ (e : Device). e.trusted) (if d then Some device else device_by_id others other) false
        later_alike true = refl
        later_alike false = rest

pub ids_set : (devices : List Device) (id : ℕ) (a : Attachment) → known_ids (with_attachment devices id a) ≡ known_ids devices
ids_set [] id a = refl
ids_set (device ∷ others) id a = by (device.id == id) (ids_set others id a)
  where
    by : (b : Bool) → known_ids (with_attachment others id a) ≡ known_ids others
        → known_ids (if b then (record device { attachment = a }) ∷ others else device ∷ with_attachment others id a) ≡ device.id ∷ known_ids others
    by true rest = refl
    by false rest = ap (λ ids. device.id ∷ ids) rest

pub attachment_set : (devices : List Device) (id : ℕ) (a : Attachment) → has_device devices id ≡ true → attachment_by_id (with_attachment devices id a) id ≡ a
attachment_set [] id a there = absurd (false≢true there)
attachment_set (device ∷ others) id a there = elim (eqb_tells device.id id) [
  | inl e ↦ rw (e.0, e.0) refl
  | inr ne ↦ rw (ne.0, ne.0) (attachment_set others id a (rw ne.0 at there))
]

pub attachment_other : (devices : List Device) (id other : ℕ) (a : Attachment) → other ≢ id → attachment_by_id (with_attachment devices id a) other ≡ attachment_by_id devices other
attachment_other [] id other a ne = refl
attachment_other (device ∷ others) id other a ne = elim (eqb_tells device.id id) [
  | inl e ↦ let apart : device.id ≢ other = λ same. ne (sym same ∙ e.1) in rw (e.0, differs device.id other apart) refl
  | inr apart ↦ rw apart.0 (by (device.id == other) (attachment_other others id other a ne))
]
  where
    by : (b : Bool) → attachment_by_id (with_attachment others id a) other ≡ attachment_by_id others other
        → ◌≡◌ {A = Attachment} (option_map_or (λ (d : Device). d.attachment) (if b then Some device else device_by_id (with_attachment others id a) other) Detached)
        (option_map_or (λ (d : Device). d.attachment) (if b then Some device else device_by_id others other) Detached)
    by true rest = refl
    by false rest = rest

-- how each is then, as the ledger machine has it
pub shown_set : (devices : List Device) (id : ℕ) (a : Attachment) → has_device devices id ≡ true → (d : ℕ)
    → shown_attachment (attachment_by_id (with_attachment devices id a) d) ≡ (if id == d then shown_attachment a else shown_attachment (attachment_by_id devices d))
shown_set devices id a there d = elim (eqb_tells id d) [
  | inl e ↦ rw e.0 (ap (λ k. shown_attachment (attachment_by_id (with_attachment devices id a) k)) (sym e.1) ∙ ap shown_attachment (attachment_set devices id a there))
  | inr ne ↦ rw ne.0 (ap shown_attachment (attachment_other devices id d a (λ same. ne.1 (sym same))))
]

pub owns_nothing : (a : Attachment) → owned_stages a ≡ None → a ≡ Detached
owns_nothing Detached none = refl
owns_nothing (Attached stage) none = cc
owns_nothing (Quarantined ticket stage) none = cc
owns_nothing (Leaving ticket stage) none = cc
