-- A request that makes one load an event, beside an IOMMU: its frames lie in memory, and what becomes of it at its end is said of the IOMMU as it was before the load.
use Rattle.std.proofs.Common.{◌≡◌, ◌∙◌, ◌<◌, ℕ, Bool, false, nat_le, List, Option, None, Some, Result, is_some, inl, inr, refl, sym, ap, subst}
use Rattle.std.proofs.lemmas.Bool.Decides.{leb_tells}
use Rattle.iom_base.specs.Sizes.{in_flight_limit}
use Rattle.iom_base.specs.declared.access.Access.{Access}
use Rattle.iom_device_dir.specs.declared.cache.DirCache.{DirCache}
use Rattle.iom_inflight.specs.Invariant.{AreRowsIn}
use Rattle.iom_iommu.proofs.CachedLemmas.{keep_inside, look_inside}
use Rattle.iom_iommu.specs.Cached.{AreTranslationsIn}
use Rattle.iom_iommu.specs.Stepped.{Replies}
use Rattle.iom_iommu.specs.declared.iommu.Iommu.{Iommu}
use Rattle.iom_iommu.specs.declared.reply.Reply.{Reply}
use Rattle.iom_iommu.specs.declared.reply.Reply.TheVariants.{Accepted, Busy, Fault, BadSpan}
use Rattle.iom_stage_walk.specs.declared.walked.WalkFault.{WalkFault}
use Rattle.iom_stepped_requests.specs.declared.request.Kept.{Kept}
use Rattle.iom_stepped_requests.specs.declared.request.Kept.TheVariants as kept_as
use Rattle.iom_tlb.specs.Content.{Translations}
use Rattle.iom_tlb.specs.declared.trans_cache.TransCache.{Ghosts as Cache}
use Rattle.iom_tlb.specs.declared.trans_cache.Translation.{Translation}
use Rattle.iom_walks.proofs.Rows.{row_is_own, row_of_own}
use Rattle.iom_walks.specs.Caches.{OffersTranslation}
use Rattle.iom_walks.specs.Calls.{LoadEnds}
use Rattle.iom_walks.specs.Frames.{IsKeptIn}
use Rattle.iom_walks.specs.Walks.{UnderWay, WalkRow, bytes_in, idle_row, row_of, with_row}
use Rattle.iom_walks.specs.declared.outcome.Answered.{Answered}

-- WHAT THE TESTS SAY before a request begins
pub none_under_way : (under_way : Option UnderWay) (is_walking : Bool) → is_walking ≡ false → is_walking ≡ is_some under_way → under_way ≡ None
none_under_way None is_walking not_walking is = refl
none_under_way (Some one) is_walking not_walking is = cc

pub has_place : (taken : ℕ) (is_full : Bool) → is_full ≡ false → is_full ≡ nat_le in_flight_limit taken → taken < in_flight_limit
has_place taken is_full not_full is = elim (leb_tells in_flight_limit taken) [ inl full ↦ absurd (cc) | inr free ↦ free.1 ]

-- WHAT A LOAD FINDS is kept, and those that are cached lie in memory still
pub offered_inside : (frames : ℕ) (sure : Bool) (found : Kept) (old new : Translations) → AreTranslationsIn frames old → IsKeptIn frames found → OffersTranslation sure found old new
    → AreTranslationsIn frames new
offered_inside frames sure kept_as.Nothing old new inside is offers = look_inside frames old new inside offers
offered_inside frames sure (kept_as.Context device context) old new inside is offers = look_inside frames old new inside offers
offered_inside frames sure (kept_as.Translation space page translation) old new inside is offers =
    keep_inside frames old new inside sure (space, page) translation is offers

-- THE BYTES of a request that a load ended are those of its device's row
pub ended_bytes : (memory : List (List ℕ)) (cached : Translations) (rows : List WalkRow) (device : ℕ) (ended : Answered) (new : List WalkRow)
    → (loads : LoadEnds memory cached rows device ended new) → bytes_in (row_of new device) ≡ loads.row.bytes
ended_bytes memory cached rows device ended new loads =
    let own : loads.row.device ≡ device = row_is_own rows device loads.row loads.was_there in
    let at : row_of rows loads.row.device ≡ Some loads.row = subst (λ d. row_of rows d ≡ Some loads.row) (sym own) loads.was_there in
    let now : row_of (with_row rows (idle_row loads.row)) loads.row.device ≡ Some (idle_row loads.row) = row_of_own rows (idle_row loads.row) (rw at refl) in
    ap bytes_in (ap (λ rs. row_of rs device) loads.after ∙ subst (λ d. row_of (with_row rows (idle_row loads.row)) d ≡ Some (idle_row loads.row)) own now)

-- WHAT BECOMES OF IT, whatever the caches have by then
module _ {C : Type 0} {c : Cache C} (old : Iommu C c) (contexts : DirCache) (translations : C) (inside : AreRowsIn old.frames old.in_flight.rows)
    (cached : AreTranslationsIn old.frames (c.content translations)) where
  abbrev with_caches : Iommu C c
  with_caches = record {
    registers = old.registers;
    contexts = contexts;
    translations = translations;
    in_flight = old.in_flight;
    fence_snapshot = old.fence_snapshot;
    fence_waits = old.fence_waits;
    slots = old.slots;
    frames = old.frames;
    inside = inside;
    cached = cached;
  }

  pub replies_before : (memory : List (List ℕ)) (id : ℕ) (access : Access) (translated : Result Translation WalkFault) (reply : Reply) (new_memory : List (List ℕ)) (new : Iommu C c)
      → Replies memory with_caches id access translated reply new_memory new → Replies memory old id access translated reply new_memory new
  replies_before memory id access translated (Accepted number) new_memory new is = record {
    translation = is.translation;
    is = is.is;
    inside = is.inside;
    accepted = is.accepted;
    memory_stays = is.memory_stays;
    rest = is.rest;
  }
  replies_before memory id access translated (Fault cause) new_memory new is = record {
    fault = is.fault;
    is = is.is;
    reply = is.reply;
    answer = is.answer;
    recorded = is.recorded;
    rest = is.rest;
  }
  replies_before memory id access translated Busy new_memory new is = is
  replies_before memory id access translated BadSpan new_memory new is = is
