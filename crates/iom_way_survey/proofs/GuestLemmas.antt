-- The load of a guest's entry that a walk makes next, among the accesses that a scene lets through.
use Rattle.std.proofs.Common.{◌≡◌, ◌==◌, inl, inr, ℕ, Bool, List, [], ◌∷◌, map, Contains, Option, None, Some, option_map, if◌then◌else◌, subst, sym, ap}
use Rattle.std.proofs.lemmas.Bool.Decides.{eqb_tells}
use Rattle.iom_base.specs.declared.access.AccessKind.{AccessKind}
use Rattle.iom_base.specs.declared.access.AccessKind.TheVariants.{Read}
use Rattle.iom_hardware_ways.proofs.ListLemmas.{in_none, cons_cases}
use Rattle.iom_reach.proofs.TransitionLemmas.{contains_head}
use Rattle.iom_reach.specs.Scene.{PendingAccess}
use Rattle.iom_stepped_requests.specs.declared.request.Request.{Request}
use Rattle.iom_stepped_requests.specs.declared.walk.Serving.{Serving}
use Rattle.iom_stepped_walk.specs.declared.tables.TableWalk.{TableWalk}
use Rattle.iom_stepped_walk.specs.declared.tables.TableWalk.TheVariants.{InFirstStage, InSecondStage, ToGuestEntry, InGuestTable, ToGuestPage}
use Rattle.iom_stepped_ways.proofs.EntryLemmas.{are_read}
use Rattle.iom_stepped_ways.specs.Scenes.{access_on, entries_of}
use Rattle.iom_table_survey.specs.Reaches.{AddsReach}
use Rattle.iom_table_survey.specs.declared.reach.Reach.{Reach}
use Rattle.iom_walks.specs.Walks.{UnderWay}
use Rattle.iom_way_survey.specs.Walking.{IsLetThrough, LetsNext, LetsOn}

-- the loads of the owner's walk that are let through, of those of a device
abbrev pub entries_let : (owner device : ℕ) → TableWalk → List PendingAccess
entries_let owner device walk = if owner == device then map (λ frame. access_on frame Read) (entries_of walk) else []

-- an entry in hand is that of the walk
one_entry : (walk : TableWalk) (frame : ℕ) (kind : AccessKind) → Contains (map (λ f. access_on f Read) (entries_of walk)) (access_on frame kind) → LetsNext walk kind frame
one_entry (InFirstStage asked place) frame kind none = absurd (in_none (access_on frame kind) none)
one_entry (InSecondStage asked place) frame kind none = absurd (in_none (access_on frame kind) none)
one_entry (ToGuestEntry both entry place) frame kind none = absurd (in_none (access_on frame kind) none)
one_entry (InGuestTable both entry own) frame kind there = elim (cons_cases (access_on own Read) [] (access_on frame kind) there) [
  | inl same ↦ (ap (λ (a : PendingAccess). a.frame) (sym same), ap (λ (a : PendingAccess). a.kind) (sym same))
  | inr none ↦ absurd (in_none (access_on frame kind) none)
]
one_entry (ToGuestPage both page place) frame kind none = absurd (in_none (access_on frame kind) none)

pub entry_let : (owner id frame : ℕ) (kind : AccessKind) (walk : TableWalk) → Contains (entries_let owner id walk) (access_on frame kind) → (id ≡ owner) × LetsNext walk kind frame
entry_let owner id frame kind walk there = elim (eqb_tells owner id) [
  | inl e ↦ (sym e.1, one_entry walk frame kind (subst (λ (b : Bool). Contains (if b then map (λ f. access_on f Read) (entries_of walk) else []) (access_on frame kind)) e.0 there))
  | inr ne ↦ absurd (in_none (access_on frame kind) (subst (λ (b : Bool). Contains (if b then map (λ f. access_on f Read) (entries_of walk) else []) (access_on frame kind)) ne.0 there))
]

entry_back : (walk : TableWalk) (frame : ℕ) (kind : AccessKind) → LetsNext walk kind frame → Contains (entries_of walk) frame × (kind ≡ Read)
entry_back (InFirstStage asked place) frame kind never = absurd never
entry_back (InSecondStage asked place) frame kind never = absurd never
entry_back (ToGuestEntry both entry place) frame kind never = absurd never
entry_back (InGuestTable both entry own) frame kind (here, read) = (subst (λ (f : ℕ). Contains (own ∷ []) f) (sym here) (contains_head own []), read)
entry_back (ToGuestPage both page place) frame kind never = absurd never

pub let_added : (owner frame : ℕ) (kind : AccessKind) (walk : TableWalk) → LetsNext walk kind frame → Contains (entries_let owner owner walk) (access_on frame kind)
let_added owner frame kind walk lets =
    let (there, read) = entry_back walk frame kind lets in
    subst (λ (k : AccessKind). Contains (entries_let owner owner walk) (access_on frame k)) (sym read) (are_read owner (entries_of walk) frame there)

-- WHAT IS LET THROUGH AT THE NEXT LOAD of a request, of what is under way of its device
pub next_let : (found : Option UnderWay) (request : Request) (serving : Serving) (old new : Reach) → option_map (λ (own : UnderWay). own.request) found ≡ Some request
    → option_map (λ (own : UnderWay). own.serving) found ≡ Some serving → AddsReach old new (LetsOn request serving) → AddsReach old new (IsLetThrough found)
next_let None request serving old new asks stands adds = let no : ⊥ = cc in absurd no
next_let (Some own) request serving old new asks stands adds =
    let e : own.request ≡ request = cc in
    let f : own.serving ≡ serving = cc in
    subst (λ (r : Request). AddsReach old new (LetsOn r own.serving)) (sym e) (subst (λ (s : Serving). AddsReach old new (LetsOn request s)) (sym f) adds)
