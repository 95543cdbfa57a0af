-- What an entry of a device's own cache tells: the device is attached with ATS, and the frame is one of memory that it may reach.
use Rattle.std.proofs.Common.{suc, ◌≡◌, ◌/◌, ◌<◌, ◌⊎◌, ◌∙◌, inl, inr, ℕ, Bool, true, false, is_some, List, [], ◌∷◌, length, nat_lt, Option, None, Some, Result, Ok, Err, Contains, refl, sym, ap, subst, arith, if◌then◌else◌}
use Rattle.std.specs.Option.{option_and_then}
use Rattle.std.proofs.Math.Logic.{∥∥₁_map}
use Rattle.std.proofs.lemmas.Bool.{false≢true, leb-true, leb-false, le-leb}
use Rattle.std.proofs.lemmas.Bool.Decides.{eqb_tells}
use Rattle.std.proofs.lemmas.Grind.{not_there}
use Rattle.std.proofs.lemmas.List.Elements.{All-contains_itself, Contains-append_left, Contains-append_right}
use Rattle.iom_walk_coherence.specs.Walks.{Walk}
use Rattle.iom_ats_cache.specs.declared.entry.Entry.{Entry}
use Rattle.iom_ats_cache.specs.Cache.{Cache, frame_for}
use Rattle.iom_ats_cache.proofs.FindLemmas.{found_is}
use Rattle.iom_base.specs.declared.access.Access.{Access}
use Rattle.iom_base.specs.declared.access.AccessKind.{AccessKind}
use Rattle.iom_base.specs.declared.cause.Cause.{Cause}
use Rattle.iom_base.specs.declared.cause.Cause.TheVariants.{TransactionTypeDisallowed}
use Rattle.iom_base.specs.declared.mode.Mode.{Mode}
use Rattle.iom_base.specs.declared.mode.Mode.TheVariants.{First, Second, Both}
use Rattle.iom_base.specs.declared.rights.Rights.{Rights}
use Rattle.iom_base.specs.Accesses.{page_of, at_frame}
use Rattle.iom_base.specs.Tables.{access_fault_of}
use Rattle.iom_base.specs.Rights as of_rights
use Rattle.iom_base.specs.Rights.{allows}
use Rattle.iom_base.specs.Modes.{is_both}
use Rattle.iom_coherence.specs.Attachments.{has_ats, in_both_stages}
use Rattle.iom_coherence.specs.Copies.{IsInUse}
use Rattle.iom_coherence.specs.Faithful.{IsFaithful, GrantsFit}
use Rattle.iom_coherence.specs.Laws.{IsReachable}
use Rattle.iom_coherence.specs.Scene.{Copy, Scene}
use Rattle.iom_coherence.proofs.LawLemmas.{entries_reachable}
use Rattle.iom_coherence.proofs.ListLemmas.{contains_map}
use Rattle.iom_device_dir.specs.declared.context.Context.{Context}
use Rattle.iom_driver.specs.declared.device.Attachment.{Attachment}
use Rattle.iom_driver.specs.declared.device.Attachment.TheVariants as driver
use Rattle.iom_driver.specs.declared.device.Stages.{Stages}
use Rattle.iom_driver.specs.Devices.{attachment_by_id, attached_stages, owned_stages}
use Rattle.iom_driver.specs.Directory.{context_for}
use Rattle.iom_driver.specs.Invariant.{IsGrant}
use Rattle.iom_driver.proofs.Lists.{get_within}
use Rattle.iom_iommu.specs.Parts.{registers_of, contexts_of}
use Rattle.iom_iommu.specs.Service.{own_page, ats_context_for}
use Rattle.iom_iommu.specs.Translated.{physical_page}
use Rattle.iom_ledger.specs.History.{History, Pair}
use Rattle.iom_machine.specs.declared.state.Attachment.TheVariants.{Attached, Leaving}
use Rattle.iom_machine.specs.declared.state.State.{State}
use Rattle.iom_machine.specs.Judging.{holds_for, lingers_for}
use Rattle.iom_machine.specs.Refusals.{is_quarantined}
use Rattle.iom_machine.specs.ThroughCache.{MayHaveCached, MayGoThrough}
use Rattle.iom_machine.proofs.JudgeLemmas.{HoldsFor-from, HoldsFor-test, LingersFor-from, LingersFor-test}
use Rattle.iom_stage_walk.specs.Both.{plain}
use Rattle.iom_device.specs.declared.device.Device.{Device}
use Rattle.iom_device.specs.Caches.{cache_of}
use Rattle.iom_world_effects.specs.Devices.{shown_attachment}
use Rattle.iom_world_effects.specs.Parts.{Parts}
use Rattle.iom_world_effects.specs.Read.{values_of}
use Rattle.iom_world_effects.specs.Scenes.{copy_of, IsSceneOf}
use Rattle.iom_world_effects.specs.Shows.{PartsShow}
use Rattle.iom_world_effects.specs.Invariant.{InvariantWith}
use Rattle.iom_world_effects.specs.Traffic.{Traffic, entry_copy, entries_by, entries_in}
use Rattle.iom_world_effects.proofs.AtsContexts.{FindsAts, ats_context, finds_ats, finds_cached}
use Rattle.iom_world_effects.proofs.QuarantinedLemmas.{pending_cached, accept_formerly, quarantined_holds}
use Rattle.iom_world_effects.proofs.DriverLemmas.{DriverInvariant}
use Rattle.iom_world_effects.proofs.HistoryMay.{may_merely, facts_of_history}
use Rattle.iom_world_effects.proofs.MadeFrames.{lingers_in}
use Rattle.iom_world_effects.proofs.ServedLemmas.{ServiceLaws}

-- what is in a device's cache is among what is in all of them
entries_there : (devices : List Device) (id : ℕ) (cache : Cache) → cache_of devices id ≡ Some cache → (entry : Entry) → Contains cache.entries entry → Contains (entries_in devices) (entry_copy id entry)
entries_there [] id cache is entry one = absurd (none_some is)
  where
    none_some : ◌≡◌ {A = Option Cache} None (Some cache) → ⊥
    none_some same = cc
entries_there (device ∷ others) id cache is entry one = elim (eqb_tells device.id id) [
  | inl e ↦
      let own : device.cache ≡ Some cache = rw e.0 at is in
      Contains-append_left (entries_by device.id device.cache) (entries_in others) (entry_copy id entry)
      (subst (λ d. Contains (entries_by d device.cache) (entry_copy id entry)) (sym e.1)
      (subst (λ c. Contains (entries_by id c) (entry_copy id entry)) (sym own) (contains_map (entry_copy id) cache.entries entry one)))
  | inr ne ↦ Contains-append_right (entries_by device.id device.cache) (entries_in others) (entry_copy id entry) (entries_there others id cache (rw ne.0 at is) entry one)
]

-- a device's cache has an entry of the page, on the frame, with a right that allows the kind
pub record HasEntry (devices : List Device) (id page : ℕ) (kind : AccessKind) (frame : ℕ) : Type 0 where
  pub rights : Rights
  pub allowed : allows rights kind ≡ true
  pub there : Contains (entries_in devices) (copy_of id page (record { frame = frame; rights = rights; order = 0 }))

-- that is so where a frame is found
pub found_entry : (devices : List Device) (id page : ℕ) (kind : AccessKind) (frame : ℕ)
    → option_and_then (λ (cache : Cache). frame_for cache page kind) (cache_of devices id) ≡ Some frame → HasEntry devices id page kind frame
found_entry devices id page kind frame found = by (cache_of devices id) refl found
  where
    none_some : ◌≡◌ {A = Option ℕ} None (Some frame) → ⊥
    none_some same = cc

    by : (own : Option Cache) → cache_of devices id ≡ own → option_and_then (λ (cache : Cache). frame_for cache page kind) own ≡ Some frame → HasEntry devices id page kind frame
    by None is none = absurd (none_some none)
    by (Some cache) is some =
        let one = found_is (Contains cache.entries) page kind frame cache.entries (All-contains_itself cache.entries) some in
        record {
          rights = one.0.rights;
          allowed = one.3;
          there = subst (λ p. Contains (entries_in devices) (copy_of id p (record { frame = frame; rights = one.0.rights; order = 0 }))) one.1
              (subst (λ f. Contains (entries_in devices) (copy_of id one.0.page (record { frame = f; rights = one.0.rights; order = 0 }))) one.2 (entries_there devices id cache is one.0 one.4));
        }

-- what the device's cache has may be used: the device isn't quarantined, or its context is cached
abbrev pub IsUsable : Parts → ℕ → Type 0
IsUsable parts id = (ticket : ℕ) (stage : Stages) → attachment_by_id parts.driver.devices id ≡ driver.Quarantined ticket stage
    → (context : Context) × (contexts_of parts.iommu id ≡ Some context)

-- or else the device is quarantined, and no context of it is cached
abbrev pub IsForgotten : Parts → ℕ → Type 0
IsForgotten parts id = (ticket : ℕ) × (stage : Stages) × (attachment_by_id parts.driver.devices id ≡ driver.Quarantined ticket stage) × (contexts_of parts.iommu id ≡ None)

pub usable_or : (parts : Parts) (id : ℕ) → IsUsable parts id ⊎ IsForgotten parts id
usable_or parts id = by (attachment_by_id parts.driver.devices id) refl (contexts_of parts.iommu id) refl
  where
    none : (a : Attachment) → attachment_by_id parts.driver.devices id ≡ a → is_quarantined (shown_attachment a) ≡ false → IsUsable parts id
    none a is never ticket stage at = absurd (false≢true (sym never ∙ ap (λ b. is_quarantined (shown_attachment b)) (sym is ∙ at)))

    by : (a : Attachment) → attachment_by_id parts.driver.devices id ≡ a → (cached : Option Context) → contexts_of parts.iommu id ≡ cached → IsUsable parts id ⊎ IsForgotten parts id
    by driver.Detached is cached at = inl (none driver.Detached is refl)
    by (driver.Attached stage) is cached at = inl (none (driver.Attached stage) is refl)
    by (driver.Quarantined ticket stage) is None at = inr (ticket, stage, is, at)
    by (driver.Quarantined ticket stage) is (Some context) at = inl (λ t s same. (context, at))
    by (driver.Leaving ticket stage) is cached at = inl (none (driver.Leaving ticket stage) is refl)

pub used_by : (parts : Parts) (id : ℕ) → IsUsable parts id → (scene : Scene) → scene.attachment_of id ≡ shown_attachment (attachment_by_id parts.driver.devices id)
    → (is_some (contexts_of parts.iommu id) ≡ true → Contains scene.contexts id) → IsInUse scene id
used_by parts id usable scene attached cached quarantined = by (attachment_by_id parts.driver.devices id) refl
  where
    never : (a : Attachment) → attachment_by_id parts.driver.devices id ≡ a → is_quarantined (shown_attachment a) ≡ false → Contains scene.contexts id
    never a is none = absurd (false≢true (sym none ∙ ap is_quarantined (sym (attached ∙ ap shown_attachment is)) ∙ quarantined))

    by : (a : Attachment) → attachment_by_id parts.driver.devices id ≡ a → Contains scene.contexts id
    by driver.Detached is = never driver.Detached is refl
    by (driver.Attached stage) is = never (driver.Attached stage) is refl
    by (driver.Quarantined ticket stage) is = cached (ap is_some (usable ticket stage is).1)
    by (driver.Leaving ticket stage) is = never (driver.Leaving ticket stage) is refl

-- which of held and lingering it is, is decided by the history: what merely is so, is
have_merely : (history : History) (id frame : ℕ) (access : Access) → ∥ MayHaveCached history id access frame ∥₁ → MayHaveCached history id access frame
have_merely history id frame access merely = by (holds_for history id (page_of access) access.kind frame) refl
  where
    lingers : (b : Bool) → lingers_for history history id (page_of access) access.kind frame ≡ b → holds_for history id (page_of access) access.kind frame ≡ false → MayHaveCached history id access frame
    lingers true is none = inr (LingersFor-from history id (page_of access) access.kind frame is)
    lingers false is none = absurd (not_there merely (λ may. elim may [
      | inl own ↦ false≢true (sym none ∙ HoldsFor-test history id (page_of access) access.kind frame own)
      | inr released ↦ false≢true (sym is ∙ LingersFor-test history id (page_of access) access.kind frame released)
    ]))

    by : (b : Bool) → holds_for history id (page_of access) access.kind frame ≡ b → MayHaveCached history id access frame
    by true is = inl (HoldsFor-from history id (page_of access) access.kind frame is)
    by false is = lingers (lingers_for history history id (page_of access) access.kind frame) refl is

-- the frame of an address in memory
own_found : (memory : List (List ℕ)) (address frame : ℕ) (kind : AccessKind) → address / 4096 ≡ frame → frame < length memory
    → own_page memory address kind ≡ Ok (record { frame = frame; rights = of_rights.rw; order = 0 })
own_found memory address frame kind same inside =
    ap (λ (n : ℕ). if nat_lt n (length memory) then Ok (record { frame = n; rights = of_rights.rw; order = 0 }) else Err (plain (access_fault_of kind))) same
    ∙ ap (λ (b : Bool). if b then Ok (record { frame = frame; rights = of_rights.rw; order = 0 }) else Err (plain (access_fault_of kind))) (le-leb (suc frame) (length memory) inside)

module _ {walks : List Walk} (parts : Parts) (events id : ℕ) (access : Access) (frame : ℕ) (invariants : InvariantWith walks parts events) (own : DriverInvariant parts.driver)
    (entry : HasEntry parts.devices id (page_of access) access.kind frame) (usable : IsUsable parts id) where
  abbrev copy : Copy
  copy = copy_of id (page_of access) (record { frame = frame; rights = entry.rights; order = 0 })

  -- the scene has it as one of the device's, which it may use
  entry_in : (scene : Scene) → IsSceneOf (values_of parts) scene → Contains scene.entries (copy_of id (page_of access) (record { frame = frame; rights = entry.rights; order = 0 }))
  entry_in scene shown = subst (λ l. Contains l copy) (sym (ap (λ (t : Traffic). t.entries) shown.traffic)) entry.there

  used_in : (scene : Scene) → IsSceneOf (values_of parts) scene → IsInUse scene id
  used_in scene shown = used_by parts id usable scene (shown.attachments id) (shown.contexts id)

  faithful_in : (scene : Scene) → IsSceneOf (values_of parts) scene → (facts : IsFaithful scene) → has_ats (scene.attachment_of id) ≡ true
  faithful_in scene shown facts = (facts.entries copy (entry_in scene shown) (used_in scene shown)).0

  -- who leaves holds nothing, and nothing lingers for it
  never_leaving : (ticket : ℕ) (stage : Stages) → attachment_by_id parts.driver.devices id ≡ driver.Leaving ticket stage → ⊥
  never_leaving ticket stage is = not_there invariants.copies (λ (scene, shown, facts).
      let fits : GrantsFit scene.history id (Leaving ticket stage.mode stage.ats) = subst (GrantsFit scene.history id) (shown.attachments id ∙ ap shown_attachment is) (facts.copies.order.grants id) in
      let backed = (facts.copies.entries copy (entry_in scene shown) (used_in scene shown)).1 in
      elim backed.3 [
        | inl holds ↦ let none = fits.0 backed.0 in none_some backed.1 (sym none ∙ holds)
        | inr (under, released, still) ↦ fits.1 backed.0 under (frame, backed.1) released
      ])
    where
      none_some : (rights : Rights) → ◌≡◌ {A = Option Pair} None (Some (frame, rights)) → ⊥
      none_some rights same = cc

  -- the device is, or was, attached with ATS
  with_ats : (a : Attachment) → attachment_by_id parts.driver.devices id ≡ a → has_ats (shown_attachment a) ≡ true
  with_ats a is = by (has_ats (shown_attachment a)) refl
    where
      by : (b : Bool) → has_ats (shown_attachment a) ≡ b → has_ats (shown_attachment a) ≡ true
      by true same = same
      by false none = absurd (not_there invariants.copies (λ (scene, shown, facts).
          false≢true (sym (ap has_ats (shown.attachments id ∙ ap shown_attachment is) ∙ none) ∙ faithful_in scene shown facts.copies)))

  -- so its context lets it through
  pub entry_context : ServiceLaws → (stage : Stages) × (ats_context_for parts.memory (registers_of parts.iommu) (contexts_of parts.iommu) id ≡ Ok (context_for stage))
  entry_context laws = by (attachment_by_id parts.driver.devices id) refl (finds_ats laws parts events invariants own id)
    where
      let_through : (stage : Stages) → stage.ats ≡ true → ats_context stage ≡ Ok (context_for stage)
      let_through stage ats = ap (λ (b : Bool). if b then Ok (context_for stage) else Err TransactionTypeDisallowed) ats

      by : (a : Attachment) → attachment_by_id parts.driver.devices id ≡ a
          → FindsAts (attachment_by_id parts.driver.devices id) parts.driver id (ats_context_for parts.memory (registers_of parts.iommu) (contexts_of parts.iommu) id)
          → (stage : Stages) × (ats_context_for parts.memory (registers_of parts.iommu) (contexts_of parts.iommu) id ≡ Ok (context_for stage))
      by driver.Detached is finds = absurd (false≢true (with_ats driver.Detached is))
      by (driver.Attached stage) is finds = (
        stage,
        subst (λ a. FindsAts a parts.driver id (ats_context_for parts.memory (registers_of parts.iommu) (contexts_of parts.iommu) id)) is finds
            ∙ let_through stage (with_ats (driver.Attached stage) is),
      )
      by (driver.Quarantined ticket stage) is finds =
          let cached = usable ticket stage is in
          (stage, finds_cached laws parts events invariants own id (ap attached_stages is) stage (ap owned_stages is) cached.0 cached.1 ∙ let_through stage (with_ats (driver.Quarantined ticket stage) is))
      by (driver.Leaving ticket stage) is finds = absurd (never_leaving ticket stage is)

  -- the frame is one of memory
  pub entry_inside : frame < length parts.memory
  entry_inside = by (nat_lt frame (length parts.memory)) refl
    where
      of_grant : (page : ℕ) → IsGrant parts.driver.owners page frame → frame < length parts.memory
      of_grant page grant = subst (λ n. frame < n) (sym invariants.ready.stand.size) (get_within parts.driver.owners frame None grant.unreserved)

      in_scene : (scene : Scene) → IsSceneOf (values_of parts) scene → IsFaithful scene → frame < length parts.memory
      in_scene scene shown facts =
          let backed = (facts.entries copy (entry_in scene shown) (used_in scene shown)).1 in
          elim backed.3 [
            | inl holds ↦ of_grant backed.0 (own.grants.held id backed.0 frame backed.1 (sym (shown.ledger.pages id backed.0).holds ∙ holds))
            | inr (under, released, still) ↦ of_grant backed.0
                (own.grants.lingering id backed.0 frame backed.1 (lingers_in parts.driver.ledger scene.history id backed.0 (frame, backed.1) shown.ledger (under, released)))
          ]

      by : (b : Bool) → nat_lt frame (length parts.memory) ≡ b → frame < length parts.memory
      by true is = leb-true (suc frame) (length parts.memory) is
      by false is =
          let high : length parts.memory < suc frame = leb-false (suc frame) (length parts.memory) is in
          absurd (not_there invariants.copies (λ (scene, shown, facts). let low = in_scene scene shown facts.copies in absurd (omega (arith, high, low))))

  -- so the translated request that the device makes of it is let through, on that frame
  pub entry_page : ServiceLaws → physical_page (ats_context_for parts.memory (registers_of parts.iommu) (contexts_of parts.iommu) id) parts.memory (at_frame frame access).address access.kind
      ≡ Ok (record { frame = frame; rights = of_rights.rw; order = 0 })
  entry_page laws =
      ap (λ (f : Result Context Cause). physical_page f parts.memory (at_frame frame access).address access.kind) (entry_context laws).1
      ∙ own_found parts.memory (at_frame frame access).address frame access.kind (omega arith) entry_inside

  module _ (state : State) (shows : PartsShow parts state) where
    -- what the facts on copies say of it, in a history with which the ledger agrees
    reachable_in : (both_stages : Bool) → in_both_stages (shown_attachment (attachment_by_id parts.driver.devices id)) ≡ both_stages → (scene : Scene) → IsSceneOf (values_of parts) scene
        → IsFaithful scene → IsReachable both_stages state.history (copy_of id (page_of access) (record { frame = frame; rights = entry.rights; order = 0 }))
    reachable_in both_stages is scene shown facts =
        let kept = facts_of_history parts.driver.ledger scene state.history shown.ledger shows.ledger (λ ticket later. shows.none_later ticket (subst (λ n. n < ticket) shown.confirmed later)) facts in
        subst (λ b. IsReachable b state.history copy) (ap in_both_stages (shown.attachments id) ∙ is)
        (entries_reachable (record scene { history = state.history }) copy kept (entry_in scene shown) (used_in scene shown))

    have_in : in_both_stages (shown_attachment (attachment_by_id parts.driver.devices id)) ≡ false → (scene : Scene) → IsSceneOf (values_of parts) scene → IsFaithful scene
        → MayHaveCached state.history id access frame
    have_in one scene shown facts = elim (reachable_in false one scene shown facts) [
      | inl held ↦ inl (entry.rights, held, entry.allowed)
      | inr lingers ↦ inr (entry.rights, lingers, entry.allowed)
    ]

    by_mode : (mode : Mode) (ats : Bool) → in_both_stages (shown_attachment (attachment_by_id parts.driver.devices id)) ≡ is_both mode → MayGoThrough (Attached mode ats) state id access frame
    by_mode (First size) ats is = have_merely state.history id frame access (∥∥₁_map invariants.copies (λ (scene, shown, facts). have_in is scene shown facts.copies))
    by_mode (Second size) ats is = have_merely state.history id frame access (∥∥₁_map invariants.copies (λ (scene, shown, facts). have_in is scene shown facts.copies))
    by_mode (Both size) ats is = may_merely state.history id frame access.kind (∥∥₁_map invariants.copies (λ (scene, shown, facts). reachable_in true is scene shown facts.copies access.kind entry.allowed))

    -- of a device that is quarantined it is what lingers
    quarantined : (ticket : ℕ) (stage : Stages) → attachment_by_id parts.driver.devices id ≡ driver.Quarantined ticket stage → MayGoThrough (shown_attachment (driver.Quarantined ticket stage)) state id access frame
    quarantined ticket stage is = (
      shows.none_later ticket (pending_cached parts events invariants id (ap is_some (usable ticket stage is).1) ticket stage is),
      accept_formerly state.history id (page_of access) frame entry.rights (quarantined_holds parts.driver own state.history shows.ledger id ticket stage is) stage.mode access refl entry.allowed
          (∥∥₁_map invariants.copies (λ (scene, shown, facts). reachable_in (is_both stage.mode) (ap (λ a. in_both_stages (shown_attachment a)) is) scene shown facts.copies)),
    )

    -- and the machine lets the access go through
    pub entry_may : MayGoThrough (shown_attachment (attachment_by_id parts.driver.devices id)) state id access frame
    entry_may = by (attachment_by_id parts.driver.devices id) refl
      where
        by : (a : Attachment) → attachment_by_id parts.driver.devices id ≡ a → MayGoThrough (shown_attachment a) state id access frame
        by driver.Detached is = absurd (false≢true (with_ats driver.Detached is))
        by (driver.Attached stage) is = by_mode stage.mode stage.ats (ap (λ a. in_both_stages (shown_attachment a)) is)
        by (driver.Quarantined ticket stage) is = quarantined ticket stage is
        by (driver.Leaving ticket stage) is = absurd (never_leaving ticket stage is)
