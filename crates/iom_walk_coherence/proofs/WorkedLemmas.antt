-- The worked lists, one transition after another.
use Rattle.std.proofs.Common.{◌≡◌, ℕ, ◌+◌, ◌==◌, inl, inr, Bool, true, false, [], ◌∷◌, Contains, Option, None, Some, if◌then◌else◌, refl, sym, arith}
use Rattle.std.proofs.lemmas.Bool.{false≢true}
use Rattle.iom_base.specs.declared.device_kind.DeviceKind.TheVariants.{Raw}
use Rattle.iom_base.specs.declared.mode.Mode.TheVariants.{Both}
use Rattle.iom_base.specs.declared.rights.Rights.{Rights}
use Rattle.iom_base.specs.declared.size.Size.TheVariants.{Sv48}
use Rattle.iom_ledger.specs.declared.entry.HistoryEntry.TheVariants.{Confirmed, Granted, Released}
use Rattle.iom_ledger.specs.History.{Holds, Pair}
use Rattle.iom_coherence.proofs.ListLemmas.{cons_cases, contains_head, in_none}
use Rattle.iom_coherence.specs.DriverCalls.{attachment_once_confirmed, attachments_with, leave_commands, queued_by_release, released_extent, with_kind, with_ticket}
use Rattle.iom_coherence.specs.Holdings.{HoldsOrLingers}
use Rattle.iom_coherence.specs.Laws.{scene_at_power_on}
use Rattle.iom_coherence.specs.Queue.{DropTranslations, Fence, WholeSpace}
use Rattle.iom_coherence.specs.Scene.{Scene}
use Rattle.iom_coherence.specs.ToCome.{InOrder, is_fence}
use Rattle.iom_coherence.specs.Worked.{both_rights}
use Rattle.iom_machine.specs.declared.state.Attachment.TheVariants.{Attached, Leaving}
use Rattle.iom_walk_coherence.specs.Faithful.{AreFaithfulWalks, GuestTableStays, WalksBeginAnew, begins_anew}
use Rattle.iom_walk_coherence.specs.Transitions.{SteppedInTurn}
use Rattle.iom_walk_coherence.specs.Walks.{InDirectory, InGuestTable, InTables, SteppedScene, Walk, walk_at, without_walks}
use Rattle.iom_walk_coherence.specs.Worked.{StaleWalksOccur, WalksMustBeginAnew, fetch_of_release, its_end, stale_walk, walk_of_leaving}

-- the only element of a list
only : {X : Type 0} (x y : X) → Contains (x ∷ []) y → y ≡ x
only x y c = elim (cons_cases x [] y c) [ inl same ↦ sym same | inr none ↦ absurd (in_none y none) ]

-- the scene, with one walk of the device under way
abbrev pub Stepped : Scene → Walk → SteppedScene
Stepped scene walk = record { scene = scene; walks = walk ∷ [] }

abbrev plugged : Scene
plugged = record scene_at_power_on { kind_of = with_kind scene_at_power_on.kind_of 2 Raw }

abbrev attached : Scene
attached = record plugged { attachment_of = attachments_with plugged.attachment_of 2 (Attached (Both Sv48) false) }

abbrev granted_page : Scene
granted_page = record attached { history = Granted 2 0 5 both_rights ∷ attached.history }

abbrev with_context : Scene
with_context = record granted_page { contexts = 2 ∷ [] }

abbrev released_page : Scene
released_page = record (with_ticket with_context (queued_by_release 2 (released_extent (Both Sv48) 0) false)) { history = Released 2 0 (with_context.given + 1) ∷ with_context.history }

abbrev in_directory : Walk
in_directory = walk_at 2 InDirectory

abbrev in_tables : Walk
in_tables = walk_at 2 InTables

abbrev in_guest_table : Walk
in_guest_table = walk_at 2 (InGuestTable 5)

stale_walk_occurs : SteppedInTurn (without_walks scene_at_power_on) stale_walk (Stepped released_page in_guest_table)
stale_walk_occurs = (
  without_walks plugged,
  ((refl, refl), refl),
  (
    without_walks attached,
    ((refl, (λ never. absurd (false≢true never)), refl), refl),
    (
      without_walks granted_page,
      ((refl, refl, (λ pair there. in_none pair there), refl), refl),
      (
        Stepped granted_page in_directory,
        (tt, (λ walk there. inl (only in_directory walk there)), refl),
        (
          Stepped with_context in_directory,
          ((2 ∷ [], refl, (λ d there. inl (only 2 d there)), refl), refl),
          (
            Stepped with_context in_tables,
            (contains_head in_directory [], refl, (λ walk there. inl (only in_tables walk there)), refl),
            (
              Stepped with_context in_guest_table,
              (contains_head in_tables [], (0, both_rights, refl, refl), (λ walk there. inl (only in_guest_table walk there)), refl),
              (Stepped released_page in_guest_table, ((Both Sv48, false, refl, refl), refl), refl),
            ),
          ),
        ),
      ),
    ),
  ),
)

abbrev fetched : Scene
fetched = record released_page { waiting = Fence 1 ∷ [] }

abbrev snapshot_taken : Scene
snapshot_taken = record fetched { fence_snapshot = Some (record { fence = 1; accepted = fetched.accepted }) }

abbrev done : Scene
done = record snapshot_taken { waiting = []; completed = 1; fence_snapshot = None }

abbrev confirmed_ticket : Scene
confirmed_ticket = record done {
  history = Confirmed 1 ∷ done.history;
  pending = [];
  confirmed = 1;
  attachment_of = λ d. attachment_once_confirmed 1 (done.attachment_of d);
}

fetch_begins_anew : SteppedInTurn (Stepped released_page in_guest_table) fetch_of_release (Stepped fetched in_directory)
fetch_begins_anew = (
  Stepped fetched in_directory,
  ((Fence 1 ∷ [], [], refl, (λ copy there. absurd (in_none copy there)), refl), λ walk there. there),
  refl,
)

its_end_occurs : SteppedInTurn (Stepped fetched in_directory) its_end (without_walks confirmed_ticket)
its_end_occurs = (
  Stepped snapshot_taken in_directory,
  (([], refl, (λ slot there. in_none slot there), refl, refl), refl),
  (
    Stepped done in_directory,
    (([], 0, refl, refl, (λ access there. absurd (in_none access there)), refl), refl),
    (
      Stepped confirmed_ticket in_directory,
      ((1, [], refl, omega arith, refl), refl),
      (
        Stepped confirmed_ticket in_tables,
        (contains_head in_directory [], refl, (λ walk there. inl (only in_tables walk there)), refl),
        (without_walks confirmed_ticket, ((λ walk there. absurd (in_none walk there)), refl), refl),
      ),
    ),
  ),
)

pub stale_walks_occur : StaleWalksOccur
stale_walks_occur = (
  Stepped released_page in_guest_table,
  Stepped fetched in_directory,
  without_walks confirmed_ticket,
  stale_walk_occurs,
  (refl, contains_head in_guest_table []),
  fetch_begins_anew,
  (refl, refl),
  its_end_occurs,
  refl,
  refl,
)

-- What fails where walks don't begin anew.

-- nothing but the fence is to come
nothing_anew : (fence : ℕ) → InOrder (begins_anew ∷ is_fence fence ∷ []) (Fence 1 ∷ []) → ⊥
nothing_anew fence (inl (does, rest)) = false≢true does
nothing_anew fence (inr none) = none

abbrev leaving : Scene
leaving = record (with_ticket attached (leave_commands 2)) { attachment_of = attachments_with attached.attachment_of 2 (Leaving (attached.given + 1) (Both Sv48) false) }

walk_of_leaving_occurs : SteppedInTurn (without_walks scene_at_power_on) walk_of_leaving (Stepped leaving in_tables)
walk_of_leaving_occurs = (
  without_walks plugged,
  ((refl, refl), refl),
  (
    without_walks attached,
    ((refl, (λ never. absurd (false≢true never)), refl), refl),
    (
      Stepped attached in_directory,
      (tt, (λ walk there. inl (only in_directory walk there)), refl),
      (
        Stepped attached in_tables,
        (contains_head in_directory [], refl, (λ walk there. inl (only in_tables walk there)), refl),
        (
          Stepped leaving in_tables,
          ((Both Sv48, false, refl, (λ page. refl), (λ page ticket pair there. in_none (ticket, pair) there), refl), refl),
          refl,
        ),
      ),
    ),
  ),
)

abbrev left_alone : Scene
left_alone = record leaving { waiting = Fence 1 ∷ [] }

leaving_fails : AreFaithfulWalks left_alone (in_tables ∷ []) → ⊥
leaving_fails fit = by (fit in_tables (contains_head in_tables []))
  where
    by : WalksBeginAnew left_alone 1 → ⊥
    by (fence, there, order) = nothing_anew fence order

released_fails : AreFaithfulWalks fetched (in_guest_table ∷ []) → ⊥
released_fails fit = by (fit in_guest_table (contains_head in_guest_table [])).1
  where
    not_held : (page : ℕ) (rights : Rights) → Holds fetched.history 2 page (5, rights) → ⊥
    not_held page rights holds = at (0 == page) holds
      where
        at : (b : Bool) → ◌≡◌ {A = Option Pair} (if b then None else if b then Some (5, both_rights) else None) (Some (5, rights)) → ⊥
        at true never = let both : ◌≡◌ {A = Option Pair} None (Some (5, rights)) = never in cc
        at false never = let both : ◌≡◌ {A = Option Pair} None (Some (5, rights)) = never in cc

    lingers_or_held : (page : ℕ) (rights : Rights) → HoldsOrLingers fetched.history (WalksBeginAnew fetched) 2 page (5, rights) → ⊥
    lingers_or_held page rights (inl holds) = not_held page rights holds
    lingers_or_held page rights (inr (ticket, lingers, (fence, there, order))) = nothing_anew fence order

    by : GuestTableStays fetched 2 5 → ⊥
    by (page, rights, was, allowed) = lingers_or_held page rights was

pub walks_must_begin_anew : WalksMustBeginAnew
walks_must_begin_anew = (
  (
    Stepped leaving in_tables,
    left_alone,
    walk_of_leaving_occurs,
    (
      record leaving { waiting = DropTranslations 2 WholeSpace ∷ Fence 1 ∷ [] },
      (DropTranslations 2 WholeSpace ∷ Fence 1 ∷ [], [], refl, (λ d there. absurd (in_none d there)), refl),
      (left_alone, (Fence 1 ∷ [], [], refl, (λ copy there. absurd (in_none copy there)), refl), refl),
    ),
    leaving_fails,
  ),
  (
    Stepped released_page in_guest_table,
    fetched,
    stale_walk_occurs,
    (fetched, (Fence 1 ∷ [], [], refl, (λ copy there. absurd (in_none copy there)), refl), refl),
    released_fails,
  ),
)
