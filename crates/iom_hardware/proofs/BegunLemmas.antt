-- An access that a block device's step begins, by what its calls say.
use Rattle.std.proofs.Common.{◌≡◌, ◌∙◌, ◌<◌, ◌^◌, inl, inr, ℕ, is_some, Result, Ok, Err, refl, sym, ap}
use Rattle.iom_base.specs.declared.access.Access.{Access}
use Rattle.iom_base.specs.Accesses.{page_of}
use Rattle.iom_base.specs.DeviceKinds.{is_block_device}
use Rattle.iom_base.specs.declared.refusal.Refusal.{Refusal}
use Rattle.iom_board.specs.BoardParts.{BoardParts}
use Rattle.iom_board.specs.declared.answers.CacheReply.{CacheReply}
use Rattle.iom_board.specs.declared.answers.CacheReply.TheVariants.{Miss, Replied}
use Rattle.iom_board.specs.Messages.{with_message}
use Rattle.iom_board.specs.Invariant.{BoardInvariant}
use Rattle.iom_board.specs.ThroughCache.{RequestsAccessThroughCache}
use Rattle.iom_board.proofs.Permitted.{there}
use Rattle.iom_board.proofs.Sent.{messages_sent}
use Rattle.iom_device.specs.Caches.{IsAble, device_with, epoch_in}
use Rattle.iom_fabric.specs.declared.message.Message.TheVariants.{Ask}
use Rattle.iom_iommu.specs.declared.reply.Reply.{Reply}
use Rattle.iom_hardware.specs.declared.steps.Stepped.TheVariants.{Asked, Began}
use Rattle.iom_hardware.specs.Steps.{AsksIfMissed}

-- it was refused
pub asks_refused : (first : Result CacheReply Refusal) (between : BoardParts) (id : ℕ) (access : Access) (why : Refusal) → first ≡ Err why → AsksIfMissed first between id access (Err why) between
asks_refused (Ok reply) between id access why is = cc
asks_refused (Err other) between id access why is = let same : other ≡ why = cc in (ap Err (sym same), refl)

-- it didn't miss
pub asks_replied : (first : Result CacheReply Refusal) (between : BoardParts) (id : ℕ) (access : Access) (given : Reply) → first ≡ Ok (Replied given)
    → AsksIfMissed first between id access (Ok (Began given)) between
asks_replied (Err why) between id access given is = cc
asks_replied (Ok Miss) between id access given is = cc
asks_replied (Ok (Replied other)) between id access given is =
    let same : other ≡ given = cc in (ap (λ (r : Reply). Ok (Began r)) (sym same), refl)

-- it missed
pub asks_missed : (first : Result CacheReply Refusal) (between new : BoardParts) (id : ℕ) (access : Access) → first ≡ Ok Miss
    → new ≡ record between { fabric = with_message between.fabric id (Ask (epoch_in between.devices id) (page_of access)) } → AsksIfMissed first between id access (Ok Asked) new
asks_missed (Err why) between new id access is asks = cc
asks_missed (Ok Miss) between new id access is asks = (refl, asks)
asks_missed (Ok (Replied given)) between new id access is asks = cc

-- a device that may have the access is there
tried : (old between : BoardParts) (id : ℕ) (access : Access) (first : Result CacheReply Refusal) (reply : CacheReply) → RequestsAccessThroughCache is_block_device old id access first between → first ≡ Ok reply
    → IsAble is_block_device old.devices id
tried old between id access first reply (inl none) is = let both = sym none.answered ∙ is in cc
tried old between id access first reply (inr (inl wrong)) is = let both = sym wrong.answered ∙ is in cc
tried old between id access first reply (inr (inr effect)) is = effect.able

-- and its question leaves the board sound
pub asked_sound : (old between : BoardParts) (events id epoch page : ℕ) (access : Access) (first : Result CacheReply Refusal) (reply : CacheReply) → BoardInvariant between events
    → RequestsAccessThroughCache is_block_device old id access first between → first ≡ Ok reply → between.devices ≡ old.devices → page < 2 ^ 52
    → BoardInvariant (record between { fabric = with_message between.fabric id (Ask epoch page) }) events
asked_sound old between events id epoch page access first reply invariants tries is devices fits =
    let able = tried old between id access first reply tries is in
    let here = ap (λ ds. is_some (device_with ds id)) devices ∙ there is_block_device old.devices id able in
    record {
      size = invariants.size;
      own_ids = invariants.own_ids;
      rows = invariants.rows;
      caches = invariants.caches;
      askers = messages_sent between.devices between.fabric id (Ask epoch page) invariants.askers (here, fits);
      accepted = invariants.accepted;
      serials = invariants.serials;
      epochs = invariants.epochs;
    }
