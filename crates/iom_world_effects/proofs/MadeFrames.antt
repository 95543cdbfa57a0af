-- An access that is made is on a frame that isn't reserved; and what a commit tells.
use Rattle.std.proofs.Common.{◌≡◌, inl, inr, ◌∙◌, ℕ, Bool, false, List, [], Contains, Option, None, Some, IfSome, is_some, sym, ap, subst}
use Rattle.std.specs.Option.{option_map, option_map_or, option_to_list}
use mathlib.Core.Logic.{∥∥₁_elim}
use Rattle.std.proofs.Props.{props}
use Rattle.iom_walk_coherence.specs.Walks.{Walk}
use Rattle.iom_base.specs.declared.access.AccessKind.{AccessKind}
use Rattle.iom_base.specs.declared.access.AccessKind.TheVariants.{Read}
use Rattle.iom_base.specs.declared.owner.Owner.{Owner}
use Rattle.iom_coherence.specs.Scene.{AccessInFlight}
use Rattle.iom_coherence.proofs.ListLemmas.{cons_cases, contains_head, contains_map, in_none}
use Rattle.iom_coherence.proofs.SourceLemmas.{accesses_may}
use Rattle.iom_driver.specs.Invariant.{IsGrant}
use Rattle.iom_inflight.specs.declared.made.MadeAt.{MadeAt}
use Rattle.iom_inflight.specs.Calls.{IsMade, MakesOldestInFlight, Performs}
use Rattle.iom_inflight.specs.Flights.{Flights}
use Rattle.iom_iommu.specs.Parts.{flights_of}
use Rattle.iom_ledger.specs.declared.ledger.Ledger.{Ledger}
use Rattle.iom_ledger.specs.History.{History, Pair, Lingers, May}
use Rattle.iom_ledger.specs.Shown.{Agrees, lingering_in, released_in}
use Rattle.iom_machine.specs.declared.outcome.Outcome.{Outcome}
use Rattle.iom_table_frames.specs.Owners.{has_owner}
use Rattle.iom_world_effects.specs.Commits.{TellsRead, TellsKind}
use Rattle.iom_world_effects.specs.Parts.{Parts}
use Rattle.iom_world_effects.specs.Read.{access_in_flight, accesses_of}
use Rattle.iom_world_effects.specs.Invariant.{InvariantWith}
use Rattle.iom_world_effects.proofs.DriverLemmas.{DriverInvariant}
use Rattle.iom_world_effects.proofs.RowLemmas.{row_accesses}

-- what the history says to linger the ledger has as lingering
pub lingers_in : (ledger : Ledger) (h : History) (device page : ℕ) (pair : Pair) → Agrees ledger h → Lingers h device page pair → lingering_in ledger device page ≡ Some pair
lingers_in ledger h device page pair agrees (ticket, there) =
    by (released_in ledger device page) (subst (λ l. Contains l (ticket, pair)) ((agrees.pages device page).lingers) there)
  where
    by : (released : Option (ℕ × Pair)) → Contains (option_to_list released) (ticket, pair) → option_map (λ (r : ℕ × Pair). r.1) released ≡ Some pair
    by None there = absurd (in_none (ticket, pair) there)
    by (Some r) there = elim (cons_cases r [] (ticket, pair) there) [
      | inl same ↦ ap (λ (s : ℕ × Pair). Some s.1) same
      | inr more ↦ absurd (in_none (ticket, pair) more)
    ]

-- a frame that may be reached isn't reserved
may_unreserved : (parts : Parts) (h : History) (device frame : ℕ) (kind : AccessKind) → DriverInvariant parts.driver → Agrees parts.driver.ledger h → May h device frame kind
    → has_owner parts.driver.owners frame ≡ false
may_unreserved parts h device frame kind own agrees (page, rights, holds, allowed) = elim holds [
  | inl held ↦ unmarked (own.grants.held device page frame rights (sym (agrees.pages device page).holds ∙ held))
  | inr lingers ↦ unmarked (own.grants.lingering device page frame rights (lingers_in parts.driver.ledger h device page (frame, rights) agrees lingers))
]
  where
    unmarked : IsGrant parts.driver.owners page frame → has_owner parts.driver.owners frame ≡ false
    unmarked grant = ap (λ o. option_map_or (λ (mark : Option Owner). is_some mark) o false) grant.unreserved

-- nor is that of an access in flight
access_unreserved : {walks : List Walk} (parts : Parts) (events : ℕ) (access : AccessInFlight) → InvariantWith walks parts events → DriverInvariant parts.driver → Contains (accesses_of (flights_of parts.iommu).rows) access
    → has_owner parts.driver.owners access.frame ≡ false
access_unreserved parts events access invariants own there =
    ∥∥₁_elim invariants.copies (a_fact (has_owner parts.driver.owners access.frame))
    (λ (scene, shows, facts). may_unreserved parts scene.history access.device access.frame access.kind own shows.ledger
    (accesses_may scene facts.copies access (subst (λ l. Contains l access) (sym shows.in_flight) there)))
  where
    a_fact : (b : Bool) → IsProp (b ≡ false)
    a_fact b = hlevel props

pub made_unreserved : {walks : List Walk} (parts : Parts) (events id : ℕ) (made : Option MadeAt) (memory : List (List ℕ)) (now : Flights) → InvariantWith walks parts events → DriverInvariant parts.driver
    → MakesOldestInFlight parts.memory (flights_of parts.iommu) id made memory now → IfSome made (λ it. has_owner parts.driver.owners it.frame ≡ false)
made_unreserved parts events id None memory now invariants own makes = tt
made_unreserved parts events id (Some made) memory now invariants own makes =
    let row = makes.row in
    let there : Contains row.waiting makes.oldest = subst (λ l. Contains l makes.oldest) (sym makes.waiting) (contains_head makes.oldest makes.later) in
    let among = row_accesses (flights_of parts.iommu).rows id row makes.stands (access_in_flight row.device makes.oldest) (contains_map (access_in_flight row.device) row.waiting makes.oldest there) in
    ap (λ (m : MadeAt). has_owner parts.driver.owners m.frame) makes.reply ∙ access_unreserved parts events (access_in_flight row.device makes.oldest) invariants own among

-- a read leaves memory, so what it tells stood there before
pub read_told : (old memory : List (List ℕ)) (flights : Flights) (id : ℕ) (made : MadeAt) (now : Flights) (reply : Outcome) → IsMade old flights id made memory now → made.kind ≡ Read
    → TellsRead memory made reply → TellsKind old made made.kind reply
read_told old memory flights id made now reply makes reads tells =
    let kind : makes.oldest.accepted.access.kind ≡ Read = ap (λ (m : MadeAt). m.kind) (sym makes.reply) ∙ reads in
    let unchanged : memory ≡ old = subst (λ k. Performs k old makes.oldest.accepted memory) kind makes.performed in
    subst (λ k. TellsKind old made k reply) (sym reads) (subst (λ m. TellsRead m made reply) unchanged tells)
