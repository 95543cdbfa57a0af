-- What a request finds by a walk.
use Rattle.std.proofs.Common.{◌≡◌, ◌↔◌, ℕ, Bool, true, List, Option, Result, Ok, Err, refl, sym, subst}
use Rattle.iom_base.specs.declared.access.AccessKind.{AccessKind}
use Rattle.iom_base.specs.declared.access.AccessKind.TheVariants.{Read, Write}
use Rattle.iom_hardware_session.specs.Ready.{address_of, EndsSo, FindsBy, LedFinds, RequestFinds, WalkFinds, found_by_walk}
use Rattle.iom_hardware_session.specs.declared.answer.Found.{Found}
use Rattle.iom_board.specs.BoardParts.{BoardParts}
use Rattle.iom_hardware_session.specs.EventsPointed.{request_for}
use Rattle.iom_pointed_board.specs.Starts.{IsFoundFromRoot}
use Rattle.iom_stepped_requests.specs.declared.request.Request.{Request}
use Rattle.iom_tlb.specs.declared.trans_cache.Translation.{Translation}
use Rattle.iom_stage_walk.specs.Second.{ReachesSecond, StopsSecond}
use Rattle.iom_stage_walk.specs.declared.walked.Walked.{Walked}
use Rattle.iom_stage_walk.specs.declared.walked.WalkFault.{WalkFault}

-- how a walk ended, by its two clauses
pub ends_so : (Reaches : Walked → Type 0) (Stops : WalkFault → Type 0) (ended : Result Walked WalkFault) → ((walked : Walked) → (ended ≡ Ok walked) ↔ Reaches walked)
    → ((fault : WalkFault) → (ended ≡ Err fault) ↔ Stops fault) → EndsSo Reaches Stops ended
ends_so Reaches Stops (Ok walked) reached stopped = (reached walked).0 refl
ends_so Reaches Stops (Err fault) reached stopped = (stopped fault).0 refl

-- A WALK of the second stage finds what it ends with, at the root and the address that it is told
pub second_finds : (memory : List (List ℕ)) (levels root number address at : ℕ) (kind : AccessKind) (ended : Result Walked WalkFault) (found : Found) → number ≡ root → at ≡ address
    → ((walked : Walked) → (ended ≡ Ok walked) ↔ ReachesSecond levels memory number at kind walked)
    → ((fault : WalkFault) → (ended ≡ Err fault) ↔ StopsSecond levels memory number at kind fault) → found ≡ found_by_walk ended
    → WalkFinds (ReachesSecond levels memory root address kind) (StopsSecond levels memory root address kind) found
second_finds memory levels root number address at kind ended found rooted placed reached stopped is = (
  ended,
  subst (λ (a : ℕ). EndsSo (ReachesSecond levels memory root a kind) (StopsSecond levels memory root a kind) ended) placed
      (subst (λ (n : ℕ). EndsSo (ReachesSecond levels memory n at kind) (StopsSecond levels memory n at kind) ended) rooted
      (ends_so (ReachesSecond levels memory number at kind) (StopsSecond levels memory number at kind) ended reached stopped)),
  is,
)

-- WHAT A REQUEST FINDS where walks know leaves of 64 KiB: by what its walk from the root leads to
pub finds_led : (napot : Bool) (parts : BoardParts) (id page : ℕ) (kind : AccessKind) (request : Request) (led seen : Option Translation) (found : Found) → napot ≡ true
    → request ≡ request_for id (address_of page) kind → led ≡ seen → IsFoundFromRoot parts request led → LedFinds seen (RequestFinds parts id page kind) found
    → FindsBy napot parts id page kind found
finds_led napot parts id page kind request led seen found knows asks same from finds =
    subst (λ n. FindsBy n parts id page kind found) (sym knows)
    (seen, subst (λ (l : Option Translation). IsFoundFromRoot parts (request_for id (address_of page) kind) l) same (subst (λ r. IsFoundFromRoot parts r led) asks from), finds)

-- what is so of reads and of writes
pub of_both_kinds : (Is : AccessKind → Type 0) → Is Read → Is Write → (kind : AccessKind) → Is kind
of_both_kinds Is reads writes Read = reads
of_both_kinds Is reads writes Write = writes
