-- What follows from the facts on walks.
use Rattle.std.proofs.Common.{◌≡◌, ℕ, ◌⊎◌, inl, inr, Bool, true, false, Contains, refl, sym, ◌∙◌, subst, arith}
use Rattle.iom_base.specs.declared.access.AccessKind.TheVariants.{Read}
use Rattle.iom_ledger.specs.History.{History, Pair, Holds, Lingers, May, confirms}
use Rattle.iom_coherence.proofs.ToComeLemmas.{ticket_within}
use Rattle.iom_coherence.specs.Faithful.{IsFaithful}
use Rattle.iom_coherence.specs.Holdings.{HoldsOrLingers, SayTheSame}
use Rattle.iom_coherence.specs.Laws.{IsNotOver, IsUnconfirmed}
use Rattle.iom_coherence.specs.Scene.{Scene}
use Rattle.iom_machine.specs.declared.state.Attachment.{Attachment}
use Rattle.iom_machine.specs.declared.state.Attachment.TheVariants.{Attached, Detached, Leaving, Quarantined}
use Rattle.iom_walk_coherence.proofs.StandingLemmas.{stay-as, still-stand}
use Rattle.iom_walk_coherence.specs.Faithful.{GuestTableStays, TablesStay, WalksBeginAnew}
use Rattle.iom_walk_coherence.specs.Laws.{FreeFramesHaveNoWalks, GuestTablesMayBeRead, StandsIn, WalksAreNotOver, WalksAreOfAllHistories, WalksOfDetachedAreInDirectory}
use Rattle.iom_walk_coherence.specs.Walks.{InDirectory, InGuestTable, InTables, Standing, walk_at}

-- a ticket before which walks begin anew isn't confirmed
not_confirmed : (s : Scene) (ticket : ℕ) → IsFaithful s → WalksBeginAnew s ticket → IsUnconfirmed s ticket
not_confirmed s ticket faithful (fence, waits, order) = by (confirms s.history ticket) refl
  where
    by : (b : Bool) → confirms s.history ticket ≡ b → IsUnconfirmed s ticket
    by false e = (e, (ticket_within s.confirmed s.pending s.given ticket fence faithful.order.tickets waits).0)
    by true e =
        let low = faithful.order.confirmed ticket e in
        let above = (ticket_within s.confirmed s.pending s.given ticket fence faithful.order.tickets waits).0 in absurd (omega (arith, low, above))

not_over : (s : Scene) (attachment : Attachment) → IsFaithful s → TablesStay s attachment → IsNotOver s attachment
not_over s Detached faithful stays = stays
not_over s (Attached mode ats) faithful stays = tt
not_over s (Quarantined t mode ats) faithful stays = not_confirmed s t faithful stays
not_over s (Leaving t mode ats) faithful stays = not_confirmed s t faithful stays

may_read : (s : Scene) (device frame : ℕ) → GuestTableStays s device frame → May s.history device frame Read
may_read s device frame (page, rights, was, allowed) = (page, rights, by was, allowed)
  where
    by : HoldsOrLingers s.history (WalksBeginAnew s) device page (frame, rights) → Holds s.history device page (frame, rights) ⊎ Lingers s.history device page (frame, rights)
    by (inl holds) = inl holds
    by (inr (t, lingers, goes)) = inr (t, lingers)

pub walks_are_not_over : WalksAreNotOver
walks_are_not_over stepped device (faithful, fit) there = not_over stepped.scene (stepped.scene.attachment_of device) faithful (fit (walk_at device InTables) there)

pub guest_tables_may_be_read : GuestTablesMayBeRead
guest_tables_may_be_read stepped device frame (faithful, fit) there =
    let stands = fit (walk_at device (InGuestTable frame)) there in
    (not_over stepped.scene (stepped.scene.attachment_of device) faithful stands.0, may_read stepped.scene device frame stands.1)

pub walks_of_detached_are_in_directory : WalksOfDetachedAreInDirectory
walks_of_detached_are_in_directory stepped device standing facts detached there = by standing there
  where
    by : (standing : Standing) → StandsIn stepped device standing → standing ≡ InDirectory
    by InDirectory here = refl
    by InTables here = absurd (subst (IsNotOver stepped.scene) detached (walks_are_not_over stepped device facts here))
    by (InGuestTable frame) here = absurd (subst (IsNotOver stepped.scene) detached (guest_tables_may_be_read stepped device frame facts here).0)

pub free_frames_have_no_walks : FreeFramesHaveNoWalks
free_frames_have_no_walks stepped device frame facts none there = none device Read (guest_tables_may_be_read stepped device frame facts there).1

-- what is held or lingers by the one history is or does so by the other
said_too : (h g : History) → SayTheSame h g → (S : ℕ → Type 0) (d page : ℕ) (pair : Pair) → HoldsOrLingers h S d page pair → HoldsOrLingers g S d page pair
said_too h g same S d page pair (inl holds) = inl ((same d page).0 ∙ holds)
said_too h g same S d page pair (inr (t, lingers, goes)) = inr (t, subst (λ l. Contains l (t, pair)) (sym (same d page).1) lingers, goes)

pub walks_are_of_all_histories : WalksAreOfAllHistories
walks_are_of_all_histories stepped other fit same = still-stand stepped.scene New stepped.walks
    (λ d stays. stay-as stepped.scene New (stepped.scene.attachment_of d) (λ t go. go) stays)
    (λ d stays page pair was. said_too stepped.scene.history other same (WalksBeginAnew stepped.scene) d page pair was)
    fit
  where
    New : Scene
    New = record stepped.scene { history = other }
