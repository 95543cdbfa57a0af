-- A guest's own tables are read from frames that the device may read.
use Rattle.std.proofs.Common.{◌≡◌, ◌*◌, ◌/◌, ◌%◌, ◌^◌, ◌<◌, ◌⊎◌, ◌∙◌, ℕ, Bool, get_or, Option, Some, None, Ok, option_map, refl, sym, ap, subst, arith, inl, inr, List}
use Rattle.iom_walk_coherence.specs.Walks.{Walk}
use Rattle.iom_base.specs.declared.access.Access.{Access}
use Rattle.iom_base.specs.declared.access.AccessKind.TheVariants.{Read}
use Rattle.iom_base.specs.declared.mode.Mode.{Mode}
use Rattle.iom_base.specs.declared.mode.Mode.TheVariants.{First, Second, Both}
use Rattle.iom_base.specs.declared.ppn.Ppn.{Ppn}
use Rattle.iom_base.specs.declared.size.Size.{Size}
use Rattle.iom_base.specs.Modes.{size_in}
use Rattle.iom_base.specs.Sizes.{levels_of}
use Rattle.iom_device_dir.specs.declared.context.Context.{Context}
use Rattle.iom_device_dir.specs.declared.stages.FirstStage.{FirstStage}
use Rattle.iom_device_dir.specs.declared.stages.FirstStage.TheVariants as first
use Rattle.iom_device_dir.specs.declared.stages.SecondStage.{SecondStage}
use Rattle.iom_device_dir.specs.declared.stages.SecondStage.TheVariants as second
use Rattle.iom_device_dir.specs.declared.values.GuestRoot.{GuestRoot}
use Rattle.iom_driver.specs.declared.device.Attachment.{Attachment}
use Rattle.iom_driver.specs.declared.device.Attachment.TheVariants.{Detached, Attached, Quarantined, Leaving}
use Rattle.iom_driver.specs.declared.device.Stages.{Stages}
use Rattle.iom_driver.specs.Devices.{attachment_by_id, attached_stages, owned_stages}
use Rattle.iom_driver.specs.Directory.{context_in, context_for}
use Rattle.iom_driver.specs.Tables.{AreTablesOf}
use Rattle.iom_iommu.specs.Parts.{contexts_of}
use Rattle.iom_iommu.specs.Service.{found_context}
use Rattle.iom_machine.specs.declared.state.State.{State}
use Rattle.iom_stage_walk.specs.Laws.{IsLed}
use Rattle.iom_world_effects.specs.Parts.{Parts}
use Rattle.iom_world_effects.specs.Requests.{MayReadFrom, ReadsGuestTables}
use Rattle.iom_world_effects.specs.Shows.{PartsShow}
use Rattle.iom_world_effects.specs.Invariant.{InvariantWith}
use Rattle.iom_world_effects.proofs.DriverLemmas.{DriverInvariant}
use Rattle.iom_world_effects.proofs.ServedLemmas.{ServiceLaws, found_as, located_as, held_inside, root_low, root_aligned}
use Rattle.iom_world_effects.proofs.WalkLemmas.{leads_held}

-- the page that a first stage's root is, and that of a second
abbrev first_number : FirstStage → ℕ
first_number first.Bare = 0
first_number (first.Tables size root) = root.number

abbrev second_number : SecondStage → ℕ
second_number second.Bare = 0
second_number (second.Tables size root) = root.number

-- a context with both stages is that of a device in both, and has its size and its roots
in_both : (mode : Mode) (root number : ℕ) (ats : Bool) (first_size : Size) (guest : Ppn) (size : Size) (host : GuestRoot) → root < 2 ^ 44 → (mode ≡ First (size_in mode)) ⊎ (root % 4 ≡ 0)
    → (context_in mode root number ats).first_stage ≡ first.Tables first_size guest → (context_in mode root number ats).second_stage ≡ second.Tables size host
    → (mode ≡ Both size) × (guest.number ≡ 0) × (host.number ≡ root)
in_both (First own) root number ats first_size guest size host low aligned one other = cc
in_both (Second own) root number ats first_size guest size host low aligned one other = cc
in_both (Both own) root number ats first_size guest size host low (inl first) one other = cc
in_both (Both own) root number ats first_size guest size host low (inr aligned) one other =
    let at : 4 * (root / 4 % 2 ^ 42) ≡ root = omega (arith, low, aligned) in
    let same : own ≡ size = cc in
    (ap Both same, sym (ap first_number one), sym (ap second_number other) ∙ at)

-- whose context it is
owner_of : (levels id : ℕ) (a : Attachment) (cached : Option Context) (context : Context) → ((c : Context) → cached ≡ Some c → option_map context_for (owned_stages a) ≡ Some c)
    → found_context cached (located_as levels id (attached_stages a)) ≡ Ok context → (stage : Stages) × (owned_stages a ≡ Some stage) × (context ≡ context_for stage)
owner_of levels id Detached None context are found = cc
owner_of levels id (Leaving ticket stage) None context are found = cc
owner_of levels id (Quarantined ticket stage) None context are found = cc
owner_of levels id (Attached stage) None context are found = let same : context_for stage ≡ context = cc in (stage, refl, sym same)
owner_of levels id a (Some c) context are found = by (owned_stages a) (are c refl)
  where
    by : (o : Option Stages) → option_map context_for o ≡ Some c → (stage : Stages) × (o ≡ Some stage) × (context ≡ context_for stage)
    by None is = cc
    by (Some stage) is =
        let own : context_for stage ≡ c = cc in
        let same : c ≡ context = cc in (stage, refl, sym (own ∙ same))

module _ {walks : List Walk} (laws : ServiceLaws) (parts : Parts) (events : ℕ) (invariants : InvariantWith walks parts events) (own : DriverInvariant parts.driver) (state : State) (shows : PartsShow parts state)
    (id : ℕ) (access : Access) where
  -- what the second stage of a device in both leads a read to, the device may read
  led_may : (root : ℕ) (size : Size) → AreTablesOf parts.memory parts.driver.owners parts.driver.ledger id (Both size) root
      → (frame : Option ℕ) → IsLed (levels_of size) parts.memory root frame → MayReadFrom state.history id frame
  led_may root size tables None led = tt
  led_may root size tables (Some frame) (guest, rights, leads) =
      let held = leads_held laws.walks size parts.memory parts.driver.ledger id root tables.tree.0 tables.leaves tables.low
      (held_inside laws parts events invariants own id) guest Read frame rights leads in
      (guest / 4096, rights, inl ((shows.ledger.pages id (guest / 4096)).holds ∙ held.0), held.1)

  pub reads_guest_tables : ReadsGuestTables parts state.history id access
  reads_guest_tables first_size size at_first at_second walked is reaches =
      let owner = owner_of parts.driver.levels id (attachment_by_id parts.driver.devices id) (contexts_of parts.iommu id) is.context (λ c at. invariants.contexts id c at)
      (sym (found_as laws parts events invariants own id) ∙ is.found) in
      let stage = owner.0 in
      let tables = invariants.ready.stand.tables id stage owner.1 in
      let below = root_low parts.memory parts.driver.owners parts.driver.ledger id stage.mode stage.root tables in
      let many = own.sizes.size.1 in
      let low : stage.root < 2 ^ 44 = omega (arith, below, many) in
      let roots = in_both stage.mode stage.root stage.number stage.ats first_size is.guest size is.host low (root_aligned parts.memory parts.driver.owners parts.driver.ledger id stage.mode stage.root tables)
      (sym (ap (λ (c : Context). c.first_stage) owner.2) ∙ is.first_stage) (sym (ap (λ (c : Context). c.second_stage) owner.2) ∙ is.second_stage) in
      let at_root : at_second ≡ stage.root = sym is.host_is ∙ roots.2 in
      let both : AreTablesOf parts.memory parts.driver.owners parts.driver.ledger id (Both size) stage.root =
      subst (λ m. AreTablesOf parts.memory parts.driver.owners parts.driver.ledger id m stage.root) roots.0 tables in
      let led = (laws.walks.led (levels_of first_size) (levels_of size) parts.memory at_first at_second access.address access.kind walked reaches).0 in
      λ k d lt. led_may stage.root size both (get_or walked.guest_frames k d) (subst (λ n. IsLed (levels_of size) parts.memory n (get_or walked.guest_frames k d)) at_root (led k d lt))
