-- Messages of no epoch to come are questions and answers of none.
use Rattle.std.proofs.Common.{◌≡◌, ◌≤◌, ℕ, zero, suc, Bool, List, [], ◌∷◌, map, slice_get, Contains, Some, refl, subst, arith}
use Rattle.iom_device.specs.Caches.{epoch_in}
use Rattle.iom_fabric.specs.declared.fabric.OnLink.{OnLink}
use Rattle.iom_fabric.specs.declared.message.Message.{Message as Sent}
use Rattle.iom_fabric.specs.declared.message.Message.TheVariants as sent
use Rattle.iom_fabric.specs.declared.message.Translation.TheVariants as reply
use Rattle.iom_board.specs.BoardParts.{BoardParts}
use Rattle.iom_hardware_ways.specs.Scenes.{message_of, said_on, scene_of}
use Rattle.iom_reach.specs.Safe.{AreTimely}
use Rattle.iom_reach.specs.Scene.{Message, Question, Answer, Mapping}
use Rattle.iom_hardware_session.specs.Good.{scene_by}
use Rattle.iom_hardware_session.specs.Timely.{IsBy, IsTimelyMessage}
use Rattle.iom_hardware_session.specs.declared.beside.Beside.{Beside}
use Rattle.iom_hardware_session.specs.declared.beside.Beside.TheVariants.{Nothing, UnderWay, Pointers}

-- a message that is among those of a scene stands on a link
pub on_link : (fabric : List OnLink) (message : Message) → Contains (map message_of fabric) message → (k : ℕ) × (on : OnLink) × (slice_get fabric k ≡ Some on) × (message_of on ≡ message)
on_link [] message (k, less, is) = absurd (omega (arith, less))
on_link (first ∷ fabric) message (zero, less, is) = (0, first, refl, is)
on_link (first ∷ fabric) message (suc k, less, is) =
    let (j, on, there, same) = on_link fabric message (k, omega (arith, less), is) in (suc j, on, there, same)

pub asked_by : (now device : ℕ) (own : Sent) (d epoch page : ℕ) → said_on device own ≡ Question d epoch page → IsBy now own → (device ≡ d) × (epoch ≤ now)
asked_by now device (sent.Ask e p) d epoch page is by = (dev is, subst (λ n. n ≤ now) (ep is) by)
  where
    dev : Question device e p ≡ Question d epoch page → device ≡ d
    dev e = cc

    ep : Question device e p ≡ Question d epoch page → e ≡ epoch
    ep e = cc
asked_by now device (sent.Answer e p (reply.Page frame rights)) d epoch page is by = absurd (cc)
asked_by now device (sent.Answer e p (reply.Refused cause)) d epoch page is by = absurd (cc)
asked_by now device (sent.InvReq serial range) d epoch page is by = absurd (cc)
asked_by now device (sent.InvDone serial) d epoch page is by = absurd (cc)

pub answered_by : (now device : ℕ) (own : Sent) (d epoch page : ℕ) (mapping : Mapping) → said_on device own ≡ Answer d epoch page mapping → IsBy now own → (device ≡ d) × (epoch ≤ now)
answered_by now device (sent.Ask e p) d epoch page mapping is by = absurd (cc)
answered_by now device (sent.Answer e p (reply.Page frame rights)) d epoch page mapping is by = (dev is, subst (λ n. n ≤ now) (ep is) by)
  where
    dev : Answer device e p (record { frame = frame; rights = rights }) ≡ Answer d epoch page mapping → device ≡ d
    dev e = cc

    ep : Answer device e p (record { frame = frame; rights = rights }) ≡ Answer d epoch page mapping → e ≡ epoch
    ep e = cc
answered_by now device (sent.Answer e p (reply.Refused cause)) d epoch page mapping is by = absurd (cc)
answered_by now device (sent.InvReq serial range) d epoch page mapping is by = absurd (cc)
answered_by now device (sent.InvDone serial) d epoch page mapping is by = absurd (cc)

-- where all are of no epoch to come, the scene is timely
pub timely : (trusted : ℕ → Bool) (parts : BoardParts) → ((k : ℕ) (on : OnLink) → slice_get parts.fabric k ≡ Some on → IsTimelyMessage parts on) → AreTimely (scene_of trusted parts)
timely trusted parts each = record {
  asked = λ device epoch page caches inside.
      let (k, on, there, same) = on_link parts.fabric (Question device epoch page) inside in
      let (own, by) = asked_by (epoch_in parts.devices on.device) on.device on.message device epoch page same (each k on there) in
      subst (λ (d : ℕ). epoch ≤ epoch_in parts.devices d) own by;
  answered = λ device epoch page mapping caches inside.
      let (k, on, there, same) = on_link parts.fabric (Answer device epoch page mapping) inside in
      let (own, by) = answered_by (epoch_in parts.devices on.device) on.device on.message device epoch page mapping same (each k on there) in
      subst (λ (d : ℕ). epoch ≤ epoch_in parts.devices d) own by;
}

-- also by what hardware keeps beside, which has no part in messages
pub timely_beside : (trusted : ℕ → Bool) (parts : BoardParts) (beside : Beside) → ((k : ℕ) (on : OnLink) → slice_get parts.fabric k ≡ Some on → IsTimelyMessage parts on)
    → AreTimely (scene_by trusted parts beside)
timely_beside trusted parts Nothing each = timely trusted parts each
timely_beside trusted parts (Pointers features pointers) each = let alone = timely trusted parts each in record { asked = alone.asked; answered = alone.answered }
timely_beside trusted parts (UnderWay rows) each = let alone = timely trusted parts each in record { asked = alone.asked; answered = alone.answered }
