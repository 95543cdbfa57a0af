-- A message is delivered: to the IOMMU, if a device sent it, and else to its device (PCI Express Base Specification, sections 10.2 and 10.3).
use Rattle.std.specs.Prelude.{◌≡◌, ℕ, Bool, true, false, List, remove, slice_get, Option, None, Some}
use Rattle.iom_ats_cache.specs.Cache.{Cache}
use Rattle.iom_ats_cache.specs.Calls.{TakesAnswer}
use Rattle.iom_device.specs.Caches.{cache_of, with_cache}
use Rattle.iom_device.specs.Calls.{Obeys}
use Rattle.iom_fabric.specs.declared.fabric.OnLink.{OnLink}
use Rattle.iom_fabric.specs.declared.message.Message.{Message}
use Rattle.iom_fabric.specs.declared.message.Message.TheVariants as sent
use Rattle.iom_fabric.specs.declared.message.Range.{Range}
use Rattle.iom_fabric.specs.declared.message.Translation.{Translation}
use Rattle.iom_iommu.specs.Invalidations.{CompletesRequest}
use Rattle.iom_iommu.specs.Questions.{AnswersQuestion}
use Rattle.iom_board.specs.declared.answers.Delivered.{Delivered}
use Rattle.iom_board.specs.declared.answers.Delivered.TheVariants.{Answered, Taken, Ignored, Invalidated, Closed, NotClosed, NoMessage}
use Rattle.iom_board.specs.BoardParts.{BoardParts}
use Rattle.iom_board.specs.Messages.{with_message}

-- the parts, where the device with this id has this cache, and these messages are under way
abbrev pub with_delivery : BoardParts → ℕ → Option Cache → List OnLink → BoardParts
with_delivery parts device cache fabric = record parts { devices = with_cache parts.devices device cache; fabric = fabric }

-- THE IOMMU ANSWERS a question, in the question's epoch (Translation Completion)
pub record AnswersAsk (old : BoardParts) (device epoch page : ℕ) (others : List OnLink) (answer : Translation) (new : BoardParts) : Type 0 where
  pub call : AnswersQuestion old.memory old.iommu device page answer new.memory new.iommu
  pub fabric : new.fabric ≡ with_message others device (sent.Answer epoch page answer)
  pub devices : new.devices ≡ old.devices

-- A DEVICE TAKES AN ANSWER into its cache, where it has one, and ignores it else
abbrev pub TakesReply : Option Cache → (epoch page : ℕ) → Translation → Delivered → Option Cache → Type 0
TakesReply (Some cache) epoch page answer (Taken taking) after = (kept : Cache) × TakesAnswer cache epoch page answer taking kept × (after ≡ Some kept)
TakesReply None epoch page answer Ignored after = after ≡ None
TakesReply cache epoch page answer _ after = ⊥

-- and all else stays, but that the answer isn't under way any more
pub record TakesReplied (old : BoardParts) (device epoch page : ℕ) (answer : Translation) (others : List OnLink) (delivered : Delivered) (new : BoardParts) : Type 0 where
  pub after : Option Cache
  pub cache : TakesReply (cache_of old.devices device) epoch page answer delivered after
  pub rest : new ≡ with_delivery old device after others

-- A DEVICE OBEYS a request to invalidate, where it has a cache, and sends its word that it is done; it ignores it else
abbrev pub ObeysInvalidation : BoardParts → (device serial : ℕ) → Range → List OnLink → Delivered → BoardParts → Type 0
ObeysInvalidation old device serial range others (Invalidated named) new = (named ≡ serial) × ((done : Message) × (after : Option Cache)
    × Obeys (cache_of old.devices device) serial range (Some done) after × (new ≡ with_delivery old device after (with_message others device done)))
ObeysInvalidation old device serial range others Ignored new =
    (after : Option Cache) × Obeys (cache_of old.devices device) serial range None after × (new ≡ with_delivery old device after others)
ObeysInvalidation old device serial range others _ new = ⊥

-- THE IOMMU IS TOLD that a request is completed, by the device on whose link that comes
pub record TakesCompletion (old : BoardParts) (device serial : ℕ) (others : List OnLink) (closed : Bool) (new : BoardParts) : Type 0 where
  pub call : CompletesRequest old.iommu device serial closed new.iommu
  pub fabric : new.fabric ≡ others
  pub memory : new.memory ≡ old.memory
  pub devices : new.devices ≡ old.devices

-- a message on a device's link arrives, and this comes of it
abbrev pub MessageArrives : Message → BoardParts → ℕ → List OnLink → Delivered → BoardParts → Type 0
MessageArrives (sent.Ask epoch page) old device others (Answered answer) new = AnswersAsk old device epoch page others answer new
MessageArrives (sent.Answer epoch page answer) old device others delivered new = TakesReplied old device epoch page answer others delivered new
MessageArrives (sent.InvReq serial range) old device others delivered new = ObeysInvalidation old device serial range others delivered new
MessageArrives (sent.InvDone serial) old device others (Closed named) new = (named ≡ serial) × TakesCompletion old device serial others true new
MessageArrives (sent.InvDone serial) old device others (NotClosed named) new = (named ≡ serial) × TakesCompletion old device serial others false new
MessageArrives message old device others _ new = ⊥

-- it is none, or arrives
abbrev pub MessageArrivesIfAny : Option OnLink → BoardParts → List OnLink → Delivered → BoardParts → Type 0
MessageArrivesIfAny None old others delivered new = (delivered ≡ NoMessage) × (new ≡ old)
MessageArrivesIfAny (Some on) old others delivered new = MessageArrives on.message old on.device others delivered new

-- THE MESSAGE AT THE PLACE is delivered
abbrev pub DeliversAtPlace : BoardParts → ℕ → Delivered → BoardParts → Type 0
DeliversAtPlace old place delivered new = MessageArrivesIfAny (slice_get old.fabric place) old (remove old.fabric place) delivered new
