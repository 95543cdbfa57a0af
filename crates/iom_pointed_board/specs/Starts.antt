-- Where the walk of a request begins in hardware that caches pointers to tables, and what is kept of it (RISC-V IOMMU Architecture Specification 1.0, section 2.3,
-- "Process to translate an IOVA", and section 2.8, "Caching in-memory data structures").
use Rattle.std.specs.Prelude.{◌≡◌, ℕ, Bool, true, false, List, Option, None, Some}
use Rattle.iom_base.specs.declared.access.AccessKind.{AccessKind}
use Rattle.iom_board.specs.BoardParts.{BoardParts}
use Rattle.iom_device_dir.specs.declared.context.Context.{Context}
use Rattle.iom_iommu.specs.Parts.{translations_of}
use Rattle.iom_iommu.specs.Service.{cached_for}
use Rattle.iom_iommu.specs.Stages.{space_through}
use Rattle.iom_pointed_board.specs.Roots.{context_found, root_in}
use Rattle.iom_pointed_board.specs.declared.start.Start.{Start}
use Rattle.iom_pointer_ways.specs.Calls.{KeepsTranslation}
use Rattle.iom_pointers.specs.Pointers.{IsDeepest, HasNoneFor, Follows, hand_at}
use Rattle.iom_pointers.specs.Walks.{LeadsNowhere, LeadsTo}
use Rattle.iom_pointers.specs.declared.features.Features.{Features}
use Rattle.iom_pointers.specs.declared.pointer.Pointer.{Pointer}
use Rattle.iom_stepped_requests.specs.declared.request.Request.{Request}
use Rattle.iom_stepped_walk.specs.declared.hand.TableInHand.{TableInHand}
use Rattle.iom_tlb.specs.declared.space.Space.{Space}
use Rattle.iom_tlb.specs.declared.trans_cache.Translation.{Translation}

-- A REQUEST WALKS, by the tables of this context: from the root's table, and what it finds is kept in this address space; no translation is cached for its page
-- that allows it
pub record Walks (parts : BoardParts) (request : Request) (own : Space) (root : TableInHand) : Type 0 where
  pub context : Context
  pub found : context_found parts request.device ≡ Some context
  pub space : space_through context.first_stage context.second_stage context ≡ Some own
  pub root_is : root_in context request.asked.address ≡ Some root
  pub misses : cached_for (translations_of parts.iommu (own, root.page)) request.asked.kind ≡ None

-- WHAT IS FOUND FROM THE ROOT ahead of hardware's own walk: where it knows leaves of 64 KiB the translation to which the walk leads, if it leads to one; else nothing
abbrev pub IsFoundAtRoot : Bool → List (List ℕ) → TableInHand → AccessKind → Option Translation → Type 0
IsFoundAtRoot false memory root kind found = found ≡ None
IsFoundAtRoot true memory root kind None = LeadsNowhere true memory root kind
IsFoundAtRoot true memory root kind (Some translation) = LeadsTo true memory root kind translation

-- WHAT A REQUEST FINDS whose walk begins at the root, where walks know leaves of 64 KiB: the translation to which that leads, if it walks, and leads to one
abbrev pub IsFoundFromRoot : BoardParts → Request → Option Translation → Type 0
IsFoundFromRoot parts request None = (own : Space) (root : TableInHand) → Walks parts request own root → LeadsNowhere true parts.memory root request.asked.kind
IsFoundFromRoot parts request (Some translation) =
    (own : Space) × (root : TableInHand) × Walks parts request own root × LeadsTo true parts.memory root request.asked.kind translation

abbrev pub at_pointer : Space → TableInHand → Translation → Start
at_pointer own hand translation = record { space = own; hand = hand; is_root = false; found = Some translation }

abbrev pub at_root : Space → TableInHand → Option Translation → Start
at_root own root found = record { space = own; hand = root; is_root = true; found = found }

-- WHERE ITS WALK BEGINS: at the deepest pointer for its page, where that leads to a page; else at the root. A pointer that leads nowhere is passed over, as by
-- hardware that forgot it
pub data BeginsAt (napot : Bool) (memory : List (List ℕ)) (pointers : List Pointer) (own : Space) (root : TableInHand) (kind : AccessKind) (start : Start) : Type 0 where
  AtPointer : (pointer : Pointer) (translation : Translation) → IsDeepest pointers own root.page pointer → LeadsTo napot memory (hand_at pointer root.page) kind translation
      → start ≡ at_pointer own (hand_at pointer root.page) translation → BeginsAt napot memory pointers own root kind start
  PastPointer : (pointer : Pointer) (found : Option Translation) → IsDeepest pointers own root.page pointer → LeadsNowhere napot memory (hand_at pointer root.page) kind
      → IsFoundAtRoot napot memory root kind found → start ≡ at_root own root found → BeginsAt napot memory pointers own root kind start
  AtRoot : (found : Option Translation) → HasNoneFor pointers own root.page → IsFoundAtRoot napot memory root kind found → start ≡ at_root own root found
      → BeginsAt napot memory pointers own root kind start

abbrev pub IsStart : Bool → BoardParts → List Pointer → Request → Option Start → Type 0
IsStart napot parts pointers request None = (own : Space) (root : TableInHand) → ¬ Walks parts request own root
IsStart napot parts pointers request (Some start) =
    (own : Space) × (root : TableInHand) × Walks parts request own root × BeginsAt napot parts.memory pointers own root request.asked.kind start

-- WHAT IS KEPT AHEAD of the request: the translation that is found, and, where hardware caches such, the pointers by which the walk passes
abbrev pub KeepsFound : Option Translation → Space → ℕ → BoardParts → BoardParts → Type 0
KeepsFound None own page old new = new ≡ old
KeepsFound (Some translation) own page old new = KeepsTranslation old.iommu own page translation new.iommu × (new ≡ record old { iommu = new.iommu })

abbrev pub FollowsWhere : Bool → List (List ℕ) → Space → TableInHand → List Pointer → List Pointer → Type 0
FollowsWhere true memory space hand pointers new_pointers = Follows memory space hand pointers new_pointers
FollowsWhere false memory space hand pointers new_pointers = new_pointers ≡ pointers

abbrev pub KeepsBy : Features → Option Start → BoardParts → List Pointer → BoardParts → List Pointer → Type 0
KeepsBy features None old pointers new new_pointers = (new ≡ old) × (new_pointers ≡ pointers)
KeepsBy features (Some start) old pointers new new_pointers =
    KeepsFound start.found start.space start.hand.page old new × FollowsWhere features.nonleaf old.memory start.space start.hand pointers new_pointers

-- A REQUEST IS WALKED AHEAD
abbrev pub WalksAhead : Features → BoardParts → List Pointer → Request → BoardParts → List Pointer → Type 0
WalksAhead features old pointers request new new_pointers =
    (start : Option Start) × IsStart features.napot old pointers request start × KeepsBy features start old pointers new new_pointers
