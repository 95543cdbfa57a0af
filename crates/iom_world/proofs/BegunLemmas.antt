-- An access that a block device's step begins, and that is accepted: it is in flight under the number that is told, and is the one that was wanted.
use Rattle.std.proofs.Common.{◌≡◌, ◌∙◌, ◌+◌, ◌*◌, ◌%◌, inl, inr, ℕ, Bool, true, false, List, Option, Some, None, Result, refl, sym, subst, arith}
use Rattle.iom_base.specs.declared.access.Access.{Access}
use Rattle.iom_base.specs.declared.access.AcceptedAccess.{AcceptedAccess}
use Rattle.iom_base.specs.Accesses.{at_frame}
use Rattle.iom_base.specs.DeviceKinds.{is_block_device}
use Rattle.iom_base.specs.declared.device_kind.DeviceKind.{DeviceKind}
use Rattle.iom_coherence.specs.Attachments.{caches_translations}
use Rattle.iom_device.specs.Caches.{kind_in}
use Rattle.iom_fault_queue.specs.declared.transaction.Transaction.{Transaction}
use Rattle.iom_inflight.specs.Flights.{row_of}
use Rattle.iom_iommu.specs.declared.reply.Reply.{Reply}
use Rattle.iom_iommu.specs.declared.reply.Reply.TheVariants as reply
use Rattle.iom_iommu.specs.OwnIommu.{Iommu}
use Rattle.iom_iommu.specs.Parts.{flights_of}
use Rattle.iom_iommu.specs.Requests.{Answers}
use Rattle.iom_machine.specs.declared.outcome.Outcome.{Outcome}
use Rattle.iom_machine.specs.declared.outcome.Outcome.TheVariants as outcome
use Rattle.iom_stage_walk.specs.declared.walked.WalkFault.{WalkFault}
use Rattle.iom_tlb.specs.Content.{Translations}
use Rattle.iom_tlb.specs.declared.trans_cache.Translation.{Translation}
use Rattle.iom_world_effects.specs.BlockDevices.{AsksIfMissed, BeginsAccess, GoesToMemory}
use Rattle.iom_world_effects.specs.Parts.{Parts}
use Rattle.iom_world_effects.specs.Requests.{AsksAccess, outcome_of_reply}
use Rattle.iom_world_effects.specs.ThroughCache.{DeviceAsksThroughCache, FindsFrame, TriesCache, cached_frame}
use Rattle.iom_world.specs.Waiting.{in_flight_as, IsAsWanted}
use Rattle.iom_world.proofs.NumberLemmas.{numbered_accepted}

-- what is in flight as this access of the device's
abbrev IsBegun : Iommu → ℕ → ℕ → Access → Type 0
IsBegun iommu id number access = (own : AcceptedAccess) × (in_flight_as (row_of (flights_of iommu).rows id) number ≡ Some own) × IsAsWanted access own

-- an answer that tells so accepts
answered : (Served : Result Translation WalkFault → Translations → Type 0) (transaction : Transaction) (memory memory' : List (List ℕ)) (old new : Iommu) (id number : ℕ) (access wanted : Access)
    (response : Outcome) (answer : Reply) → response ≡ outcome.Accepted number → response ≡ outcome_of_reply answer → ((frame : ℕ) → IsAsWanted wanted (record { access = access; frame = frame }))
    → Answers Served transaction memory old id access answer memory' new → IsBegun new id number wanted
answered Served transaction memory memory' old new id number access wanted response reply.BadSpan is reply_is as_wanted answers = let both = sym is ∙ reply_is in cc
answered Served transaction memory memory' old new id number access wanted response reply.Busy is reply_is as_wanted answers = let both = sym is ∙ reply_is in cc
answered Served transaction memory memory' old new id number access wanted response (reply.Fault cause) is reply_is as_wanted answers = let both = sym is ∙ reply_is in cc
answered Served transaction memory memory' old new id number access wanted response (reply.Accepted given) is reply_is as_wanted (accepts, same) =
    let own : AcceptedAccess = record { access = access; frame = accepts.frame } in
    let both : outcome.Accepted given ≡ outcome.Accepted number = sym reply_is ∙ is in
    let numbers : given ≡ number = cc in
    (own, subst (λ (n : ℕ). in_flight_as (row_of (flights_of new).rows id) n ≡ Some own) numbers (numbered_accepted (flights_of old) (flights_of new) id own given accepts.accepted), as_wanted accepts.frame)

-- as it was wanted, or at its physical address
as_it_is : (access : Access) (frame : ℕ) → IsAsWanted access (record { access = access; frame = frame })
as_it_is access frame = record { kind = refl; len = refl; bytes = refl; offset = refl }

in_its_frame : (access : Access) (cached frame : ℕ) → IsAsWanted access (record { access = at_frame cached access; frame = frame })
in_its_frame access cached frame = record { kind = refl; len = refl; bytes = refl; offset = same access.address }
  where
    same : (address : ℕ) → (cached * 4096 + address % 4096) % 4096 ≡ address % 4096
    same address = omega arith

asked : (can : DeviceKind → Bool) (old new : Parts) (id number : ℕ) (access : Access) (response : Outcome) → response ≡ outcome.Accepted number → AsksAccess can old id access response new → IsBegun new.iommu id number access
asked can old new id number access response is (inl unknown) = let both = sym is ∙ unknown.reply_is in cc
asked can old new id number access response is (inr (inl unable)) = let both = sym is ∙ unable.reply_is in cc
asked can old new id number access response is (inr (inr (able, replied))) =
    answered _ _ old.memory new.memory old.iommu new.iommu id number access access response replied.reply is replied.reply_is (as_it_is access) replied.call

found : (frame : Option ℕ) (old new : Parts) (id number : ℕ) (access : Access) (response : Outcome) → response ≡ outcome.Accepted number → FindsFrame frame old id access response new → IsBegun new.iommu id number access
found None old new id number access response is finds = let both = sym is ∙ finds.0 in cc
found (Some frame) old new id number access response is replied =
    answered _ _ old.memory new.memory old.iommu new.iommu id number (at_frame frame access) access response replied.reply is replied.reply_is (in_its_frame access frame) replied.call

tried : (old new : Parts) (id number : ℕ) (access : Access) (response : Outcome) → response ≡ outcome.Accepted number → TriesCache old id access response new → IsBegun new.iommu id number access
tried old new id number access response is (inl bad) = let both = sym is ∙ bad.1 in cc
tried old new id number access response is (inr (inl full)) = let both = sym is ∙ full.2 in cc
tried old new id number access response is (inr (inr finds)) = found (cached_frame old id access) old new id number access response is finds.2

through_cache : (can : DeviceKind → Bool) (old new : Parts) (id number : ℕ) (access : Access) (response : Outcome) → response ≡ outcome.Accepted number → DeviceAsksThroughCache can old id access response new
    → IsBegun new.iommu id number access
through_cache can old new id number access response is (inl unknown) = let both = sym is ∙ unknown.reply_is in cc
through_cache can old new id number access response is (inr (inl unable)) = let both = sym is ∙ unable.reply_is in cc
through_cache can old new id number access response is (inr (inr (able, tries))) = tried old new id number access response is tries

missed : (first : Outcome) (old mid new : Parts) (id number : ℕ) (access : Access) (response : Outcome) → response ≡ outcome.Accepted number
    → (first ≡ outcome.Accepted number → IsBegun mid.iommu id number access) → AsksIfMissed first mid id access response new → IsBegun new.iommu id number access
missed outcome.Miss old mid new id number access response is begun asks = let both = sym is ∙ asks.0 in cc
missed first old mid new id number access response is begun asks =
    subst (λ (p : Parts). IsBegun p.iommu id number access) (sym asks.1) (begun (sym asks.0 ∙ is))

to_memory : (has_cache : Bool) (old new : Parts) (id : ℕ) (access : Access) (response : Outcome) (number : ℕ) → response ≡ outcome.Accepted number → GoesToMemory has_cache old id access response new
    → IsBegun new.iommu id number access
to_memory false old new id access response number is asks = asked is_block_device old new id number access response is asks
to_memory true old new id access response number is goes =
    missed goes.first old goes.between new id number access response is
    (λ first. through_cache is_block_device old goes.between id number access goes.first first goes.tries) goes.asks

pub accepted_as_wanted : (old new : Parts) (id : ℕ) (access : Access) (response : Outcome) (number : ℕ) → response ≡ outcome.Accepted number → BeginsAccess old id access response new
    → IsBegun new.iommu id number access
accepted_as_wanted old new id access response number is begins = to_memory (caches_translations (kind_in old.devices id)) old new id access response number is begins
