-- A device that is quarantined: while its context is cached its ticket isn't confirmed, and it holds nothing, so that what it may still reach lingers.
use Rattle.std.proofs.Common.{◌≡◌, ◌<◌, ◌/◌, ◌⊎◌, ◌∙◌, inl, inr, ℕ, Bool, true, false, suc, nat_lt, is_some, Option, None, Some, refl, sym, ap, subst, arith, List}
use Rattle.std.specs.List.{list_any}
use Rattle.std.proofs.Math.Logic.{∥∥₁_map}
use Rattle.std.proofs.lemmas.Bool.{false≢true, leb-true, leb-false}
use Rattle.std.proofs.lemmas.Grind.{not_there}
use Rattle.iom_walk_coherence.specs.Walks.{Walk}
use Rattle.iom_base.specs.declared.access.Access.{Access}
use Rattle.iom_base.specs.declared.access.AccessKind.{AccessKind}
use Rattle.iom_base.specs.declared.access.AccessKind.TheVariants.{Read}
use Rattle.iom_base.specs.declared.mode.Mode.{Mode}
use Rattle.iom_base.specs.declared.mode.Mode.TheVariants.{First, Second, Both}
use Rattle.iom_base.specs.declared.rights.Rights.{Rights}
use Rattle.iom_base.specs.Rights.{allows}
use Rattle.iom_base.specs.Modes.{is_both}
use Rattle.iom_coherence.specs.Faithful.{IsFaithful}
use Rattle.iom_coherence.specs.Laws.{IsNotOver, IsReachable}
use Rattle.iom_coherence.specs.Scene.{Scene}
use Rattle.iom_coherence.proofs.LawLemmas.{contexts_are_not_over}
use Rattle.iom_driver.specs.declared.device.Attachment.TheVariants as driver
use Rattle.iom_driver.specs.declared.device.Stages.{Stages}
use Rattle.iom_driver.specs.Devices.{attachment_by_id, attached_stages}
use Rattle.iom_driver.specs.State.{DriverState}
use Rattle.iom_iommu.specs.Parts.{contexts_of}
use Rattle.iom_ledger.specs.History.{History, Pair, Holds, Lingers, May, held_at, released_at}
use Rattle.iom_ledger.specs.Shown.{Agrees}
use Rattle.iom_machine.specs.Judging.{lingers_among, still_is}
use Rattle.iom_machine.specs.Questions.{MayShowFormerly}
use Rattle.iom_machine.specs.Requests.{LingersSomewhere, MayAcceptFormerly}
use Rattle.iom_machine.proofs.JudgeLemmas.{Lingers-from, Lingers-test, among_if_somewhere, somewhere_if_among}
use Rattle.iom_world_effects.specs.Devices.{shown_attachment}
use Rattle.iom_world_effects.specs.Parts.{Parts}
use Rattle.iom_world_effects.specs.Read.{values_of}
use Rattle.iom_world_effects.specs.Scenes.{copy_of, IsSceneOf}
use Rattle.iom_world_effects.specs.Invariant.{InvariantWith}
use Rattle.iom_world_effects.proofs.DriverLemmas.{DriverInvariant}

-- a device that is quarantined is so under a ticket that isn't confirmed
abbrev pub IsPending : DriverState → ℕ → Type 0
IsPending d id = (ticket : ℕ) (stage : Stages) → attachment_by_id d.devices id ≡ driver.Quarantined ticket stage → d.confirmed < ticket

-- that is so while its context is cached
pub pending_cached : {walks : List Walk} (parts : Parts) (events : ℕ) → InvariantWith walks parts events → (id : ℕ) → is_some (contexts_of parts.iommu id) ≡ true → IsPending parts.driver id
pending_cached parts events invariants id there ticket stage is = by (nat_lt parts.driver.confirmed ticket) refl
  where
    above : (scene : Scene) → IsSceneOf (values_of parts) scene → IsFaithful scene → parts.driver.confirmed < ticket
    above scene shown facts =
        let over : IsNotOver scene (scene.attachment_of id) = contexts_are_not_over scene id facts (shown.contexts id there) in
        let unconfirmed = subst (IsNotOver scene) (shown.attachments id ∙ ap shown_attachment is) over in
        subst (λ n. n < ticket) shown.confirmed unconfirmed.1

    by : (b : Bool) → nat_lt parts.driver.confirmed ticket ≡ b → parts.driver.confirmed < ticket
    by true low = leb-true (suc parts.driver.confirmed) ticket low
    by false high = absurd (not_there invariants.copies (λ (scene, shown, facts).
        let low = above scene shown facts.copies in let most = leb-false (suc parts.driver.confirmed) ticket high in omega (arith, low, most)))

-- it holds nothing
pub quarantined_holds : (d : DriverState) → DriverInvariant d → (history : History) → Agrees d.ledger history → (id ticket : ℕ) (stage : Stages)
    → attachment_by_id d.devices id ≡ driver.Quarantined ticket stage → (page : ℕ) → held_at history id page ≡ None
quarantined_holds d own history agrees id ticket stage is page = (agrees.pages id page).holds ∙ own.holders id page (ap attached_stages is)

none_some : (pair : Pair) → ◌≡◌ {A = Option Pair} None (Some pair) → ⊥
none_some pair same = cc

-- what merely is held or lingers at a page, where nothing is held, lingers there
lingers_one : (history : History) (id page : ℕ) (pair : Pair) → held_at history id page ≡ None
    → ∥ Holds history id page pair ⊎ Lingers history id page pair ∥₁ → Lingers history id page pair
lingers_one history id page pair none merely = by (list_any (still_is history pair) (released_at history id page)) refl
  where
    by : (b : Bool) → list_any (still_is history pair) (released_at history id page) ≡ b → Lingers history id page pair
    by true is = Lingers-from history id page pair is
    by false is = absurd (not_there merely (λ either. elim either [
      | inl holds ↦ none_some pair (sym none ∙ holds)
      | inr lingers ↦ false≢true (sym is ∙ Lingers-test history id page pair lingers)
    ]))

-- and so does what merely may be reached at any page
lingers_any : (history : History) (id frame : ℕ) (kind : AccessKind) → ((page : ℕ) → held_at history id page ≡ None)
    → ∥ May history id frame kind ∥₁ → LingersSomewhere history id frame kind
lingers_any history id frame kind none merely = by (lingers_among history history id frame kind) refl
  where
    by : (b : Bool) → lingers_among history history id frame kind ≡ b → LingersSomewhere history id frame kind
    by true is = somewhere_if_among history history id frame kind is
    by false is = absurd (not_there merely (λ may. elim may.2 [
      | inl holds ↦ none_some (frame, may.1) (sym (none may.0) ∙ holds)
      | inr lingers ↦ false≢true (sym is ∙ among_if_somewhere history id frame kind (may.0, may.1, lingers, may.3))
    ]))

module _ (history : History) (id page frame : ℕ) (rights : Rights) (none : (page : ℕ) → held_at history id page ≡ None) where
  abbrev Reach : Bool → Type 0
  Reach both = IsReachable both history (copy_of id page (record { frame = frame; rights = rights; order = 0 }))

  -- so a copy serves it as in its former mode, and is told it
  pub accept_formerly : (mode : Mode) (access : Access) → access.address / 4096 ≡ page → allows rights access.kind ≡ true
      → ∥ IsReachable (is_both mode) history (copy_of id page (record { frame = frame; rights = rights; order = 0 })) ∥₁ → MayAcceptFormerly mode history id access frame
  accept_formerly (First size) access at allowed merely =
      (rights, subst (λ p. Lingers history id p (frame, rights)) (sym at) (lingers_one history id page (frame, rights) (none page) merely), allowed)
  accept_formerly (Second size) access at allowed merely =
      (rights, subst (λ p. Lingers history id p (frame, rights)) (sym at) (lingers_one history id page (frame, rights) (none page) merely), allowed)
  accept_formerly (Both size) access at allowed merely = lingers_any history id frame access.kind none (∥∥₁_map merely (λ reach. reach access.kind allowed))

  pub show_formerly : (mode : Mode) → allows rights Read ≡ true → ∥ IsReachable (is_both mode) history (copy_of id page (record { frame = frame; rights = rights; order = 0 })) ∥₁
      → MayShowFormerly mode history id page frame rights
  show_formerly (First size) allowed merely = lingers_one history id page (frame, rights) (none page) merely
  show_formerly (Second size) allowed merely = lingers_one history id page (frame, rights) (none page) merely
  show_formerly (Both size) allowed merely = (allowed, (λ kind allowing. lingers_any history id frame kind none (∥∥₁_map merely (λ reach. reach kind allowing))))
