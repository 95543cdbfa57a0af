-- The calls of hardware, with what each answers, and one after another.
use Rattle.std.specs.Prelude.{◌≡◌, ℕ, ◌+◌, Bool, List, [], ◌∷◌, Option, None, Some, Result, Ok, Err, ⊤}
use Rattle.iom_base.specs.DeviceKinds.{is_block_device}
use Rattle.iom_base.specs.declared.access.Access.{Access}
use Rattle.iom_base.specs.declared.refusal.Refusal.{Refusal}
use Rattle.iom_device.specs.Caches.{IsAble, epoch_in}
use Rattle.iom_fabric.specs.declared.fabric.Repeat.{Repeat as Repeated}
use Rattle.iom_fabric.specs.declared.message.Message.TheVariants as sent
use Rattle.iom_board.specs.Commits.{CommitsOldestAccess, ResetsAnyDevice, TakesCommand, GivesUpFence}
use Rattle.iom_board.specs.Deliveries.{DeliversAtPlace}
use Rattle.iom_board.specs.BoardParts.{BoardParts}
use Rattle.iom_board.specs.Messages.{with_message, AsksTranslation, ClaimsCompletion, LosesMessage, CopiesMessage}
use Rattle.iom_board.specs.Requests.{RequestsAccess, RequestsTranslatedAccess}
use Rattle.iom_board.specs.Senders.{untranslated_by, cached_by}
use Rattle.iom_board.specs.Invariant.{BoardInvariant}
use Rattle.iom_board.specs.ThroughCache.{RequestsAccessThroughCache}
use Rattle.iom_board.specs.declared.answers.CacheReply.{CacheReply}
use Rattle.iom_board.specs.declared.answers.Delivered.{Delivered}
use Rattle.iom_board.specs.declared.sender.Sender.{Sender}
use Rattle.iom_inflight.specs.declared.made.MadeAt.{MadeAt}
use Rattle.iom_iommu.specs.declared.fetched.Fetched.{Fetched}
use Rattle.iom_iommu.specs.declared.reply.Reply.{Reply}
use Rattle.iom_reach.specs.Transitions.{IsHarmless}
use Rattle.iom_hardware_ways.specs.Scenes.{scene_of}

pub data HardwareCall : Type 0 where
  Request : (sender : Sender) (id : ℕ) (access : Access) (answer : Result Reply Refusal) → HardwareCall
  Translated : (id : ℕ) (access : Access) (answer : Result Reply Refusal) → HardwareCall
  ThroughCache : (sender : Sender) (id : ℕ) (access : Access) (answer : Result CacheReply Refusal) → HardwareCall
  Ask : (id page : ℕ) (answer : Result Bool Refusal) → HardwareCall
  AskAtStep : (id page : ℕ) → HardwareCall
  Forge : (id serial : ℕ) (answer : Result Bool Refusal) → HardwareCall
  Fetch : (fetched : Fetched) → HardwareCall
  Timeout : (has_effect : Bool) → HardwareCall
  Deliver : (place : ℕ) (delivered : Delivered) → HardwareCall
  Drop : (place : ℕ) (found : Bool) → HardwareCall
  Repeat : (place : ℕ) (repeated : Repeated) → HardwareCall
  Commit : (id : ℕ) (answer : Result (Option MadeAt) Refusal) → HardwareCall
  Reset : (id : ℕ) (answer : Result (Unit {0}) Refusal) → HardwareCall

-- a block device asks at a step for the translation of a page, in the epoch of its cache; the question is lost where 64 messages are under way
pub record AsksAtStep (old : BoardParts) (id page : ℕ) (new : BoardParts) : Type 0 where
  pub able : IsAble is_block_device old.devices id
  pub asked : new ≡ record old { fabric = with_message old.fabric id (sent.Ask (epoch_in old.devices id) page) }

-- what each does is said of hardware itself
abbrev pub CallEffect : HardwareCall → BoardParts → BoardParts → Type 0
CallEffect (Request sender id access answer) old new = RequestsAccess (untranslated_by sender) old id access answer new
CallEffect (Translated id access answer) old new = RequestsTranslatedAccess old id access answer new
CallEffect (ThroughCache sender id access answer) old new = RequestsAccessThroughCache (cached_by sender) old id access answer new
CallEffect (Ask id page answer) old new = AsksTranslation old id page answer new
CallEffect (AskAtStep id page) old new = AsksAtStep old id page new
CallEffect (Forge id serial answer) old new = ClaimsCompletion old id serial answer new
CallEffect (Fetch fetched) old new = TakesCommand old fetched new
CallEffect (Timeout has_effect) old new = GivesUpFence old has_effect new
CallEffect (Deliver place delivered) old new = DeliversAtPlace old place delivered new
CallEffect (Drop place found) old new = LosesMessage old place found new
CallEffect (Repeat place repeated) old new = CopiesMessage old place repeated new
CallEffect (Commit id answer) old new = CommitsOldestAccess old id answer new
CallEffect (Reset id answer) old new = ResetsAnyDevice old id answer new

-- a device that software trusts writes nothing of what hardware reads
abbrev pub IsMadeHarmlessly : (ℕ → Bool) → BoardParts → ℕ → Result (Option MadeAt) Refusal → Type 0
IsMadeHarmlessly trusted old id (Ok (Some made)) = IsHarmless (scene_of trusted old) id (record { frame = made.frame; kind = made.kind })
IsMadeHarmlessly trusted old id (Ok None) = ⊤
IsMadeHarmlessly trusted old id (Err why) = ⊤

abbrev pub HarmlessEffect : (ℕ → Bool) → HardwareCall → BoardParts → Type 0
HarmlessEffect trusted (Commit id answer) old = IsMadeHarmlessly trusted old id answer
HarmlessEffect trusted _ old = ⊤

-- These calls one after another, after so many events. Hardware keeps its invariant before each, as each call asks for it and leaves it
abbrev pub DoInTurn : (ℕ → Bool) → ℕ → BoardParts → List HardwareCall → BoardParts → Type 0
DoInTurn trusted events old [] new = new ≡ old
DoInTurn trusted events old (first ∷ others) new =
    BoardInvariant old events × HarmlessEffect trusted first old
    × ((between : BoardParts) × CallEffect first old between × DoInTurn trusted (events + 1) between others new)
