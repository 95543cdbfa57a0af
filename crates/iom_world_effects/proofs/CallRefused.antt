-- A refusal of a call of the driver changes nothing, and a fetch is never refused.
use Rattle.std.proofs.Common.{◌≡◌, ◌+◌, ◌-◌, ◌==◌, ◌∙◌, inl, inr, ℕ, Bool, true, false, List, Result, Ok, Err, refl, sym, ap, subst, if◌then◌else◌}
use Rattle.iom_base.specs.declared.grant_rights.GrantRights.{GrantRights}
use Rattle.iom_base.specs.declared.mode.Mode.{Mode}
use Rattle.iom_driver.specs.declared.answers.Polled.{Polled}
use Rattle.iom_driver.specs.declared.answers.Ticket as answers
use Rattle.iom_driver.specs.Attaching.{AnswersAttach}
use Rattle.iom_driver.specs.Calls.{AnswersPlug, AnswersGrant, AnswersRelease}
use Rattle.iom_driver.specs.Leaving.{DetachEffect}
use Rattle.iom_driver.specs.Polling.{AnswersPoll}
use Rattle.iom_driver.specs.State.{DriverState}
use Rattle.iom_iommu.specs.Parts.{registers_of, mmio}
use Rattle.iom_ledger.specs.Changes.{IsUnchanged}
use Rattle.iom_base.specs.declared.refusal.Refusal.{Refusal}
use Rattle.iom_machine.specs.declared.outcome.Fetched.{Fetched}
use Rattle.iom_machine.specs.declared.outcome.Outcome.{Outcome}
use Rattle.iom_machine.specs.declared.outcome.Outcome.TheVariants as outcome
use Rattle.iom_base.specs.declared.device_kind.NewDevice.{NewDevice}
use Rattle.iom_base.specs.DeviceKinds.{kind_of, has_cache}
use Rattle.iom_world_effects.specs.Answers.{outcome_of_done, outcome_of_ticket}
use Rattle.iom_world_effects.specs.BlockDevices.{devices_left}
use Rattle.iom_world_effects.specs.Effect.{PlugsDevice, AttachesDevice, GrantsPage, ReleasesPage, DetachesDevice, FetchesNext, PollsTickets, outcome_of_poll, devices_after, AddsRow}
use Rattle.iom_world_effects.specs.Unchanged.{AreSame, SameIfRefused}
use Rattle.iom_world_effects.specs.Parts.{Parts}

-- parts of which each is the same
pub same_of : (old new : Parts) → new.memory ≡ old.memory → new.iommu ≡ old.iommu → new.devices ≡ old.devices → new.fabric ≡ old.fabric → new.driver ≡ old.driver → AreSame old new
same_of old new memory iommu devices fabric driver = record {
  memory = memory;
  iommu = iommu;
  devices = devices;
  fabric = fabric;
  ledger = subst (λ (d : DriverState). IsUnchanged old.driver.ledger d.ledger) (sym driver) (record { held = λ d a. refl; lingering = λ d a. refl; pending = refl });
  driver = driver ∙ ap (λ l. record old.driver { ledger = l }) (sym (ap (λ (d : DriverState). d.ledger) driver));
}

-- parts that are the same
pub same_parts : (old new : Parts) → new ≡ old → AreSame old new
same_parts old new same = subst (λ parts. AreSame old parts) (sym same) (record {
  memory = refl;
  iommu = refl;
  devices = refl;
  fabric = refl;
  ledger = record { held = λ device page. refl; lingering = λ device page. refl; pending = refl };
  driver = refl;
})

-- what is done isn't refused
done_refused : (why : Refusal) → outcome.Done ≡ outcome.Refused why → ⊥
done_refused why same = cc

pub plug_refused : (disks : List ℕ) (old new : Parts) (id : ℕ) (what : NewDevice) (reply : Outcome) → PlugsDevice disks old id what reply new → SameIfRefused reply old new
plug_refused disks old new id what reply (inl lacks) why is = same_parts old new lacks.same
plug_refused disks old new id what reply (inr effect) why is = by effect.answer (sym effect.reply_is ∙ is) effect.call effect.row effect.devices
  where
    by : (answer : Result (Unit {0}) Refusal) → outcome_of_done answer ≡ outcome.Refused why → AnswersPlug old.driver id (has_cache (kind_of what)) answer new.driver → AddsRow answer old.iommu id new.iommu → new.devices ≡ devices_after answer old.devices id what → AreSame old new
    by (Ok done) refused call row devices = absurd (done_refused why refused)
    by (Err reason) refused call row devices = same_of old new effect.memory row devices effect.fabric call.1

pub attach_refused : (old new : Parts) (id : ℕ) (mode : Mode) (ats : Bool) (reply : Outcome) → AttachesDevice old id mode ats reply new → SameIfRefused reply old new
attach_refused old new id mode ats reply effect why is = by effect.answer (sym effect.reply_is ∙ is) effect.call
  where
    by : (answer : Result (Unit {0}) Refusal) → outcome_of_done answer ≡ outcome.Refused why → AnswersAttach old.driver old.memory id mode ats answer new.driver new.memory → AreSame old new
    by (Ok done) refused call = absurd (done_refused why refused)
    by (Err reason) refused call = same_of old new call.2 effect.iommu effect.devices effect.fabric call.1

pub grant_refused : (old new : Parts) (id page frame : ℕ) (rights : GrantRights) (reply : Outcome) → GrantsPage old id page frame rights reply new → SameIfRefused reply old new
grant_refused old new id page frame rights reply effect why is = by effect.answer (sym effect.reply_is ∙ is) effect.call
  where
    by : (answer : Result (Unit {0}) Refusal) → outcome_of_done answer ≡ outcome.Refused why → AnswersGrant old.driver old.memory id page frame rights answer new.driver new.memory → AreSame old new
    by (Ok done) refused call = absurd (done_refused why refused)
    by (Err reason) refused call = record { memory = call.2; iommu = effect.iommu; devices = effect.devices; fabric = effect.fabric; ledger = call.1.ledger; driver = call.1.rest }

pub release_refused : (old new : Parts) (id page : ℕ) (reply : Outcome) → ReleasesPage old id page reply new → SameIfRefused reply old new
release_refused old new id page reply effect why is = by effect.answer (sym effect.reply_is ∙ is) effect.call
  where
    by : (answer : Result answers.Ticket Refusal) → outcome_of_ticket answer ≡ outcome.Refused why → AnswersRelease mmio old.driver old.memory old.iommu id page answer new.driver new.memory new.iommu → AreSame old new
    by (Ok ticket) refused call = cc
    by (Err reason) refused call = same_of old new call.2 call.3 effect.devices effect.fabric call.1

pub detach_refused : (old new : Parts) (id : ℕ) (reply : Outcome) → DetachesDevice old id reply new → SameIfRefused reply old new
detach_refused old new id reply effect why is = by effect.answer (sym effect.reply_is ∙ is) effect.call.effect effect.devices
  where
    by : (answer : Result answers.Ticket Refusal) → outcome_of_ticket answer ≡ outcome.Refused why → DetachEffect mmio old.driver old.memory old.iommu id answer new.driver new.memory new.iommu
        → new.devices ≡ devices_left answer old.devices id → AreSame old new
    by (Ok ticket) refused call devices = cc
    by (Err reason) refused call devices = same_of old new call.1 call.2 devices effect.fabric call.0

pub fetch_refused : (old new : Parts) (reply : Outcome) → FetchesNext old reply new → SameIfRefused reply old new
fetch_refused old new reply effect why is = absurd (never (sym effect.reply_is ∙ is))
  where
    never : {fetched : Fetched} → outcome.Fetched fetched ≡ outcome.Refused why → ⊥
    never same = cc

pub poll_refused : (old new : Parts) (reply : Outcome) → PollsTickets old reply new → SameIfRefused reply old new
poll_refused old new reply effect why is = by effect.answer (sym effect.reply_is ∙ is) effect.call
  where
    never : (none : Bool) (first last : ℕ) (timed_out : Bool) → (if none then outcome.NoneConfirmed timed_out else outcome.Confirmed first last timed_out) ≡ outcome.Refused why → ⊥
    never true first last timed_out same = cc
    never false first last timed_out same = cc

    by : (answer : Result Polled Refusal) → outcome_of_poll answer ≡ outcome.Refused why → AnswersPoll (registers_of old.iommu) old.driver old.memory answer new.driver new.memory → AreSame old new
    by (Ok polled) refused call = absurd (never (polled.count == 0) polled.first (polled.first + polled.count - 1) polled.timed_out refused)
    by (Err reason) refused call = same_of old new call.2 effect.iommu effect.devices effect.fabric call.1
