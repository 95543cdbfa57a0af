-- Calls that leave the devices as they are, beside requests that are under way.
use Rattle.std.proofs.Common.{◌≡◌, inl, inr, ℕ, Bool, List, Option, None, Some, Result, ap}
use Rattle.iom_base.specs.declared.access.Access.{Access}
use Rattle.iom_base.specs.declared.device_kind.DeviceKind.{DeviceKind}
use Rattle.iom_base.specs.declared.refusal.Refusal.{Refusal}
use Rattle.iom_board.specs.BoardParts.{BoardParts}
use Rattle.iom_board.specs.ByDevice.{ByDevice}
use Rattle.iom_board.specs.Messages.{AsksTranslation, ClaimsCompletion, CopiesMessage, LosesMessage}
use Rattle.iom_board.specs.ThroughCache.{frame_in_cache}
use Rattle.iom_board.specs.declared.answers.CacheReply.{CacheReply}
use Rattle.iom_board.specs.declared.answers.CacheReply.TheVariants.{Miss, Replied}
use Rattle.iom_fabric.specs.declared.fabric.Repeat.{Repeat}
use Rattle.iom_iommu.specs.declared.reply.Reply.{Reply}
use Rattle.iom_stepped_board.specs.Requests.{RequestsTranslatedBeside}
use Rattle.iom_stepped_board.specs.ThroughCache.{GoesByCacheBeside, GoesByFrameBeside, RequestsThroughCacheBeside}
use Rattle.iom_walks.specs.Walks.{WalkRow}

-- the devices stay
abbrev pub LeavesDevices : BoardParts → BoardParts → Type 0
LeavesDevices old new = new.devices ≡ old.devices

same_parts : (old new : BoardParts) → new ≡ old → LeavesDevices old new
same_parts old new same = ap (λ (parts : BoardParts). parts.devices) same

by_device : {A : Type 0} (can : DeviceKind → Bool) (Call : BoardParts → A → BoardParts → Type 0) (old new : BoardParts) (id : ℕ) (answer : Result A Refusal)
    → ((given : A) → Call old given new → LeavesDevices old new) → ByDevice can Call old id answer new → LeavesDevices old new
by_device can Call old new id answer leaves (inl none) = same_parts old new none.same
by_device can Call old new id answer leaves (inr (inl wrong)) = same_parts old new wrong.same
by_device can Call old new id answer leaves (inr (inr effect)) = leaves effect.given effect.call

pub translated : (old new : BoardParts) (rows : List WalkRow) (id : ℕ) (access : Access) (answer : Result Reply Refusal) → RequestsTranslatedBeside old rows id access answer new → LeavesDevices old new
translated old new rows id access answer requests = by_device _ _ old new id answer (λ given replies. replies.devices) requests

found : (frame : Option ℕ) (rows : List WalkRow) (old new : BoardParts) (id : ℕ) (access : Access) (reply : CacheReply) → GoesByFrameBeside frame rows id access old reply new → LeavesDevices old new
found None rows old new id access Miss same = same_parts old new same
found None rows old new id access (Replied reply) never = absurd never
found (Some frame) rows old new id access Miss never = absurd never
found (Some frame) rows old new id access (Replied reply) replies = replies.devices

goes : (rows : List WalkRow) (old new : BoardParts) (id : ℕ) (access : Access) (reply : CacheReply) → GoesByCacheBeside rows id access old reply new → LeavesDevices old new
goes rows old new id access reply (inl (outside, is, same)) = same_parts old new same
goes rows old new id access reply (inr (inl (within, full, is, same))) = same_parts old new same
goes rows old new id access reply (inr (inr (within, room, finds))) = found (frame_in_cache old id access) rows old new id access reply finds

pub cached : (can : DeviceKind → Bool) (old new : BoardParts) (rows : List WalkRow) (id : ℕ) (access : Access) (answer : Result CacheReply Refusal)
    → RequestsThroughCacheBeside can old rows id access answer new → LeavesDevices old new
cached can old new rows id access answer requests = by_device _ _ old new id answer (λ given call. goes rows old new id access given call) requests

pub question : (old new : BoardParts) (id page : ℕ) (answer : Result Bool Refusal) → AsksTranslation old id page answer new → LeavesDevices old new
question old new id page answer asks = by_device _ _ old new id answer (λ given call. ap (λ (parts : BoardParts). parts.devices) call.sent) asks

pub forged : (old new : BoardParts) (id serial : ℕ) (answer : Result Bool Refusal) → ClaimsCompletion old id serial answer new → LeavesDevices old new
forged old new id serial answer claims = by_device _ _ old new id answer (λ given call. ap (λ (parts : BoardParts). parts.devices) call.sent) claims

pub lost : (old new : BoardParts) (place : ℕ) (was : Bool) → LosesMessage old place was new → LeavesDevices old new
lost old new place was loses = ap (λ (parts : BoardParts). parts.devices) loses.lost

pub copied : (old new : BoardParts) (place : ℕ) (became : Repeat) → CopiesMessage old place became new → LeavesDevices old new
copied old new place became copies = ap (λ (parts : BoardParts). parts.devices) copies.copied
