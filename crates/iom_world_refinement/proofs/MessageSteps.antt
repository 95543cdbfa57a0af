-- Messages are steps of the ledger machine that change nothing there; a refusal changes nothing, and the commands that wait stay.
use Rattle.std.proofs.Common.{◌≡◌, ◌⊎◌, ◌∙◌, inl, inr, ℕ, Bool, true, false, nat_lt, is_some, List, length, Option, None, Some, slice_get, remove, refl, sym, ap, subst, if◌then◌else◌}
use Rattle.iom_ats_cache.specs.Cache.{Cache}
use Rattle.iom_ats_cache.specs.declared.taken.Taken.{Taken}
use Rattle.iom_ats_cache.specs.declared.taken.Taken.TheVariants as taken
use Rattle.iom_fabric.specs.declared.fabric.OnLink.{OnLink}
use Rattle.iom_fabric.specs.declared.fabric.Repeat.{Repeat}
use Rattle.iom_fabric.specs.declared.fabric.Repeat.TheVariants as repeat
use Rattle.iom_fabric.specs.declared.message.Message.{Message}
use Rattle.iom_fabric.specs.declared.message.Message.TheVariants as sent
use Rattle.iom_fabric.specs.declared.message.Range.{Range}
use Rattle.iom_fabric.specs.declared.message.Translation.{Translation}
use Rattle.iom_fabric.specs.Messages.{repeated, repeat_answer}
use Rattle.iom_iommu.specs.Parts.{flights_of}
use Rattle.iom_base.specs.declared.refusal.Refusal.{Refusal}
use Rattle.iom_machine.specs.declared.outcome.Outcome.{Outcome}
use Rattle.iom_machine.specs.declared.outcome.Outcome.TheVariants as outcome
use Rattle.iom_base.specs.declared.device_kind.DeviceKind.{DeviceKind}
use Rattle.iom_machine.specs.declared.state.State.{State}
use Rattle.iom_base.specs.DeviceKinds.{asks_questions, forges}
use Rattle.iom_machine.specs.Machine.{Acts, Asks, Forges}
use Rattle.iom_machine.specs.Messages.{Sends, Delivers, Drops, Repeats}
use Rattle.iom_device.specs.declared.device.Device.{Device}
use Rattle.iom_device.specs.Caches.{IsAble, cache_of, epoch_in, with_cache}
use Rattle.iom_world_effects.specs.Deliveries.{TakesInto, TakesAnswered, ObeysRequest, HearsCompletion, outcome_of_taking, outcome_of_obeying, with_completion_sent}
use Rattle.iom_world_effects.specs.Devices.{shown_devices}
use Rattle.iom_world_effects.specs.Unchanged.{SameIfRefused}
use Rattle.iom_world_effects.specs.Messages.{outcome_of_sent, outcome_of_repeat, SendsOnLink, AsksQuestion, ForgesCompletion, DropsMessage, RepeatsMessage}
use Rattle.iom_world_effects.specs.Parts.{Parts}
use Rattle.iom_world_effects.specs.Shows.{PartsShow}
use Rattle.iom_world_effects.specs.Unable.{IsUnknown, IsUnable}
use Rattle.iom_world_effects.proofs.CacheSets.{shown_set}
use Rattle.iom_world_effects.proofs.PresentLemmas.{kind_present}
use Rattle.iom_world_effects.proofs.CallRefused.{same_parts}
use Rattle.iom_world_invariant.proofs.RequestStep.{acts_at, acts_absent, acts_unable, kind_found, shows_same}
use Rattle.iom_world_effects.proofs.RowPlaces.{present_found}

-- what the machine knows of a world is shown without its messages and the devices' caches
pub shows_rest : (old new : Parts) (state : State) → new.memory ≡ old.memory → new.driver ≡ old.driver → flights_of new.iommu ≡ flights_of old.iommu
    → shown_devices old.driver.devices (flights_of old.iommu).rows new.devices ≡ shown_devices old.driver.devices (flights_of old.iommu).rows old.devices → PartsShow old state → PartsShow new state
shows_rest old new state memory driver flights devices shows = record {
  ledger = rw driver shows.ledger;
  frames = rw (memory, driver) shows.frames;
  devices = rw (driver, flights) (shows.devices ∙ sym devices);
  given = rw driver shows.given;
  confirmed = rw driver shows.confirmed;
  all_earlier = rw driver shows.all_earlier;
  none_later = rw driver shows.none_later;
  levels = rw driver shows.levels;
  limits = shows.limits;
}

sends_state : (state : State) (fabric : List OnLink) (reply : Outcome) → reply ≡ outcome_of_sent fabric → Sends state reply state
sends_state state fabric reply is = subst (λ t. Sends state t state) (sym is) (by (nat_lt (length fabric) 64))
  where
    by : (b : Bool) → Sends state (if b then outcome.Sent else outcome.Lost) state
    by true = refl
    by false = refl

-- A MESSAGE OF A DEVICE, which it is asked to send, and may be unable to
abbrev SendsIfAble : (DeviceKind → Bool) → Parts → ℕ → Message → Outcome → Parts → Type 0
SendsIfAble can old id message reply new = IsUnknown old id reply new ⊎ IsUnable can old id reply new ⊎ (IsAble can old.devices id × SendsOnLink old id message reply new)

abbrev SendsState : State → Outcome → Type 0
SendsState state reply = Sends state reply state

sends_step : (can : DeviceKind → Bool) (old new : Parts) (id : ℕ) (message : Message) (reply : Outcome) → SendsIfAble can old id message reply new → (state : State) → PartsShow old state
    → Acts can (λ device. Sends state reply state) state id reply state × PartsShow new state
sends_step can old new id message reply asks state shows = elim asks [
  | inl unknown ↦ (
    acts_absent can (λ device. Sends state reply state) old state id reply shows.devices unknown.absent unknown.reply_is,
    shows_same old new state unknown.same shows,
  )
  | inr (inl unable) ↦
      let is = present_found old.driver.devices (flights_of old.iommu).rows old.devices id (kind_present old.devices id unable.kind unable.there) in (
        acts_unable can (λ device. Sends state reply state) old state id reply shows.devices is
            (ap can (kind_found old.driver.devices (flights_of old.iommu).rows old.devices id unable.kind is unable.there) ∙ unable.cannot) unable.reply_is,
        shows_same old new state unable.same shows,
      )
  | inr (inr (able, sends)) ↦
      let is = present_found old.driver.devices (flights_of old.iommu).rows old.devices id (kind_present old.devices id able.0 able.1) in (
        acts_at can (λ device. Sends state reply state) old state id reply state shows.devices is
            (ap can (kind_found old.driver.devices (flights_of old.iommu).rows old.devices id able.0 is able.1) ∙ able.2) (sends_state state old.fabric reply sends.reply_is),
        subst (λ parts. PartsShow parts state) (sym sends.sent) (record {
          ledger = shows.ledger;
          frames = shows.frames;
          devices = shows.devices;
          given = shows.given;
          confirmed = shows.confirmed;
          all_earlier = shows.all_earlier;
          none_later = shows.none_later;
          levels = shows.levels;
          limits = shows.limits;
        }),
      )
]

pub question_step : (old new : Parts) (id page : ℕ) (reply : Outcome) → AsksQuestion old id page reply new → (state : State) → PartsShow old state → Asks state id reply state × PartsShow new state
question_step old new id page reply asks state shows = sends_step asks_questions old new id (sent.Ask (epoch_in old.devices id) page) reply asks state shows

pub forged_step : (old new : Parts) (id serial : ℕ) (reply : Outcome) → ForgesCompletion old id serial reply new → (state : State) → PartsShow old state → Forges state id reply state × PartsShow new state
forged_step old new id serial reply asks state shows = sends_step forges old new id (sent.InvDone serial) reply asks state shows

-- the message alone changes
pub shows_fabric : (old new : Parts) (fabric : List OnLink) (state : State) → new ≡ record old { fabric = fabric } → PartsShow old state → PartsShow new state
shows_fabric old new fabric state is shows = subst (λ parts. PartsShow parts state) (sym is) (record {
  ledger = shows.ledger;
  frames = shows.frames;
  devices = shows.devices;
  given = shows.given;
  confirmed = shows.confirmed;
  all_earlier = shows.all_earlier;
  none_later = shows.none_later;
  levels = shows.levels;
  limits = shows.limits;
})

-- A MESSAGE IS LOST
pub dropped_step : (old new : Parts) (place : ℕ) (reply : Outcome) → DropsMessage old place reply new → (state : State) → PartsShow old state → Drops state reply state × PartsShow new state
dropped_step old new place reply drops state shows =
    (subst (λ t. Drops state t state) (sym drops.reply_is) (by (is_some (slice_get old.fabric place))), shows_fabric old new (remove old.fabric place) state drops.dropped shows)
  where
    by : (b : Bool) → Drops state (if b then outcome.Dropped else outcome.NoMessage) state
    by true = refl
    by false = refl

-- A MESSAGE IS REPEATED
pub repeated_step : (old new : Parts) (place : ℕ) (reply : Outcome) → RepeatsMessage old place reply new → (state : State) → PartsShow old state → Repeats state reply state × PartsShow new state
repeated_step old new place reply repeats state shows = (
  subst (λ t. Repeats state t state) (sym repeats.reply_is) (by (repeat_answer old.fabric (slice_get old.fabric place))),
  shows_fabric old new (repeated old.fabric (slice_get old.fabric place)) state repeats.repeated shows,
)
  where
    by : (answer : Repeat) → Repeats state (outcome_of_repeat answer) state
    by repeat.Repeated = refl
    by repeat.Lost = refl
    by repeat.Nothing = refl

-- AN ANSWER ARRIVES
delivers_taken : (state : State) (taking : Taken) → Delivers 0 0 state (outcome_of_taking taking) state
delivers_taken state taken.Kept = refl
delivers_taken state taken.Stale = refl
delivers_taken state taken.Refused = refl

delivers_into : (state : State) (cache after : Option Cache) (epoch page : ℕ) (answer : Translation) (reply : Outcome) → TakesInto cache epoch page answer reply after → Delivers 0 0 state reply state
delivers_into state None after epoch page answer reply takes = subst (λ t. Delivers 0 0 state t state) (sym takes.0) refl
delivers_into state (Some cache) after epoch page answer reply takes = subst (λ t. Delivers 0 0 state t state) (sym takes.3) (delivers_taken state takes.0)

shows_caches : (old new : Parts) (id : ℕ) (cache : Option Cache) (fabric : List OnLink) (state : State) → new ≡ record old { devices = with_cache old.devices id cache; fabric = fabric }
    → PartsShow old state → PartsShow new state
shows_caches old new id cache fabric state is shows =
    shows_rest old new state (ap (λ (p : Parts). p.memory) is) (ap (λ (p : Parts). p.driver) is) (ap (λ (p : Parts). flights_of p.iommu) is)
    (ap (λ (p : Parts). shown_devices old.driver.devices (flights_of old.iommu).rows p.devices) is ∙ shown_set old.driver.devices (flights_of old.iommu).rows old.devices id cache) shows

pub taken_step : (old new : Parts) (device epoch page : ℕ) (answer : Translation) (others : List OnLink) (reply : Outcome) → TakesAnswered old device epoch page answer others reply new
    → (state : State) → PartsShow old state → Delivers 0 0 state reply state × PartsShow new state
taken_step old new device epoch page answer others reply takes state shows =
    (delivers_into state (cache_of old.devices device) takes.after epoch page answer reply takes.cache, shows_caches old new device takes.after others state takes.rest shows)

-- A REQUEST TO INVALIDATE ARRIVES
delivers_obeyed : (state : State) (serial : ℕ) (done : Option Message) → Delivers 0 0 state (outcome_of_obeying serial done) state
delivers_obeyed state serial None = refl
delivers_obeyed state serial (Some done) = refl

pub obeyed_step : (old new : Parts) (device serial : ℕ) (range : Range) (others : List OnLink) (reply : Outcome) → ObeysRequest old device serial range others reply new
    → (state : State) → PartsShow old state → Delivers 0 0 state reply state × PartsShow new state
obeyed_step old new device serial range others reply obeys state shows =
    (subst (λ t. Delivers 0 0 state t state) (sym obeys.reply_is) (delivers_obeyed state serial obeys.done), shows_caches old new device obeys.after (with_completion_sent others device obeys.done) state obeys.rest shows)

-- THE WORD ARRIVES that a request is done
pub heard_step : (old new : Parts) (device serial : ℕ) (others : List OnLink) (reply : Outcome) → HearsCompletion old device serial others reply new
    → (state : State) → PartsShow old state → Delivers 0 0 state reply state × PartsShow new state
heard_step old new device serial others reply hears state shows = (
  subst (λ t. Delivers 0 0 state t state) (sym hears.reply_is) (by hears.closed),
  shows_rest old new state hears.memory hears.driver (ap flights_of hears.call.left)
      (ap (λ (ds : List Device). shown_devices old.driver.devices (flights_of old.iommu).rows ds) hears.devices) shows,
)
  where
    by : (b : Bool) → Delivers 0 0 state (if b then outcome.Closed serial else outcome.NotClosed serial) state
    by true = refl
    by false = refl

-- A REFUSAL changes nothing
never_sent : (fabric : List OnLink) (reply : Outcome) (why : Refusal) → reply ≡ outcome_of_sent fabric → reply ≡ outcome.Refused why → ⊥
never_sent fabric reply why is refused = by (nat_lt (length fabric) 64) (sym is ∙ refused)
  where
    by : (b : Bool) → (if b then outcome.Sent else outcome.Lost) ≡ outcome.Refused why → ⊥
    by true same = cc
    by false same = cc

pub sends_refused : (can : DeviceKind → Bool) (old new : Parts) (id : ℕ) (message : Message) (reply : Outcome)
    → IsUnknown old id reply new ⊎ IsUnable can old id reply new ⊎ (IsAble can old.devices id × SendsOnLink old id message reply new) → SameIfRefused reply old new
sends_refused can old new id message reply asks why refused = elim asks [
  | inl unknown ↦ same_parts old new unknown.same
  | inr (inl unable) ↦ same_parts old new unable.same
  | inr (inr (able, sends)) ↦ absurd (never_sent old.fabric reply why sends.reply_is refused)
]

pub dropped_refused : (old new : Parts) (place : ℕ) (reply : Outcome) → DropsMessage old place reply new → SameIfRefused reply old new
dropped_refused old new place reply drops why refused = absurd (by (is_some (slice_get old.fabric place)) (sym drops.reply_is ∙ refused))
  where
    by : (b : Bool) → (if b then outcome.Dropped else outcome.NoMessage) ≡ outcome.Refused why → ⊥
    by true same = cc
    by false same = cc

pub repeated_refused : (old new : Parts) (place : ℕ) (reply : Outcome) → RepeatsMessage old place reply new → SameIfRefused reply old new
repeated_refused old new place reply repeats why refused = absurd (by (repeat_answer old.fabric (slice_get old.fabric place)) (sym repeats.reply_is ∙ refused))
  where
    by : (answer : Repeat) → outcome_of_repeat answer ≡ outcome.Refused why → ⊥
    by repeat.Repeated same = cc
    by repeat.Lost same = cc
    by repeat.Nothing same = cc
