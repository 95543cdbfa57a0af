-- A message is delivered: to the IOMMU, if a device sent it, and else to its device (PCI Express Base Specification, sections 10.2 and 10.3).
use Rattle.std.specs.Prelude.{◌≡◌, ℕ, Bool, List, remove, slice_get, Option, None, Some, if◌then◌else◌}
use Rattle.iom_ats_cache.specs.Cache.{Cache}
use Rattle.iom_ats_cache.specs.Calls.{TakesAnswer}
use Rattle.iom_ats_cache.specs.declared.taken.Taken.{Taken}
use Rattle.iom_ats_cache.specs.declared.taken.Taken.TheVariants as taken
use Rattle.iom_fabric.specs.declared.fabric.OnLink.{OnLink}
use Rattle.iom_fabric.specs.declared.message.Message.{Message}
use Rattle.iom_fabric.specs.declared.message.Message.TheVariants as sent
use Rattle.iom_fabric.specs.declared.message.Range.{Range}
use Rattle.iom_fabric.specs.declared.message.Translation.{Translation}
use Rattle.iom_iommu.specs.Invalidations.{CompletesRequest}
use Rattle.iom_iommu.specs.Questions.{AnswersQuestion}
use Rattle.iom_machine.specs.declared.outcome.Outcome.{Outcome}
use Rattle.iom_machine.specs.declared.outcome.Outcome.TheVariants as outcome
use Rattle.iom_device.specs.Calls.{Obeys}
use Rattle.iom_device.specs.Caches.{cache_of, with_cache}
use Rattle.iom_world_effects.specs.Messages.{with_sent}
use Rattle.iom_world_effects.specs.Parts.{Parts}

-- THE IOMMU ANSWERS a question of a device, in the question's epoch; the others are under way still
pub record AnswersAsked (old : Parts) (device epoch page : ℕ) (others : List OnLink) (reply : Outcome) (new : Parts) : Type 0 where
  pub answer : Translation
  pub reply_is : reply ≡ outcome.Answered answer
  pub call : AnswersQuestion old.memory old.iommu device page answer new.memory new.iommu
  pub fabric : new.fabric ≡ with_sent others device (sent.Answer epoch page answer)
  pub driver : new.driver ≡ old.driver
  pub devices : new.devices ≡ old.devices

-- what is told of an answer, by what the device does with it
abbrev pub outcome_of_taking : Taken → Outcome
outcome_of_taking taken.Kept = outcome.Kept
outcome_of_taking taken.Stale = outcome.Stale
outcome_of_taking taken.Refused = outcome.AnswerRefused

-- A DEVICE TAKES AN ANSWER into its cache, where it has one, and ignores it else: what is told, and its cache then
abbrev pub TakesInto : Option Cache → (epoch page : ℕ) → Translation → Outcome → Option Cache → Type 0
TakesInto None epoch page answer reply after = (reply ≡ outcome.Ignored) × (after ≡ None)
TakesInto (Some cache) epoch page answer reply after = (taking : Taken) × (kept : Cache)
    × TakesAnswer cache epoch page answer taking kept × (reply ≡ outcome_of_taking taking) × (after ≡ Some kept)

-- and all else stays, but that the answer isn't under way any more
pub record TakesAnswered (old : Parts) (device epoch page : ℕ) (answer : Translation) (others : List OnLink) (reply : Outcome) (new : Parts) : Type 0 where
  pub after : Option Cache
  pub cache : TakesInto (cache_of old.devices device) epoch page answer reply after
  pub rest : new ≡ record old { devices = with_cache old.devices device after; fabric = others }

-- what is told of it
abbrev pub outcome_of_obeying : ℕ → Option Message → Outcome
outcome_of_obeying serial None = outcome.Ignored
outcome_of_obeying serial (Some done) = outcome.Invalidated serial

-- what is under way then
abbrev pub with_completion_sent : List OnLink → ℕ → Option Message → List OnLink
with_completion_sent others device None = others
with_completion_sent others device (Some done) = with_sent others device done

-- and all else stays, but that the request isn't under way any more, and the word is
pub record ObeysRequest (old : Parts) (device serial : ℕ) (range : Range) (others : List OnLink) (reply : Outcome) (new : Parts) : Type 0 where
  pub done : Option Message
  pub after : Option Cache
  pub cache : Obeys (cache_of old.devices device) serial range done after
  pub reply_is : reply ≡ outcome_of_obeying serial done
  pub rest : new ≡ record old { devices = with_cache old.devices device after; fabric = with_completion_sent others device done }

-- THE IOMMU IS TOLD that a request is completed, by the device on whose link that comes
pub record HearsCompletion (old : Parts) (device serial : ℕ) (others : List OnLink) (reply : Outcome) (new : Parts) : Type 0 where
  pub closed : Bool
  pub reply_is : reply ≡ (if closed then outcome.Closed serial else outcome.NotClosed serial)
  pub call : CompletesRequest old.iommu device serial closed new.iommu
  pub fabric : new.fabric ≡ others
  pub memory : new.memory ≡ old.memory
  pub driver : new.driver ≡ old.driver
  pub devices : new.devices ≡ old.devices

-- a message on a device's link arrives
abbrev pub Arrives : Message → Parts → ℕ → List OnLink → Outcome → Parts → Type 0
Arrives (sent.Ask epoch page) old device others reply new = AnswersAsked old device epoch page others reply new
Arrives (sent.Answer epoch page answer) old device others reply new =
    TakesAnswered old device epoch page answer others reply new
Arrives (sent.InvReq serial range) old device others reply new = ObeysRequest old device serial range others reply new
Arrives (sent.InvDone serial) old device others reply new = HearsCompletion old device serial others reply new

-- it is none, or arrives
abbrev pub ArrivesIfAny : Option OnLink → Parts → List OnLink → Outcome → Parts → Type 0
ArrivesIfAny None old others reply new = (reply ≡ outcome.NoMessage) × (new ≡ old)
ArrivesIfAny (Some on) old others reply new = Arrives on.message old on.device others reply new

-- THE MESSAGE AT THE PLACE is delivered
abbrev pub DeliversMessage : Parts → ℕ → Outcome → Parts → Type 0
DeliversMessage old place reply new = ArrivesIfAny (slice_get old.fabric place) old (remove old.fabric place) reply new
