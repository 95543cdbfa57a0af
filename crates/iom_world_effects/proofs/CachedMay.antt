-- What a cached translation lets the machine accept: it is of what its device holds at the page, or of what lingers there.
use Rattle.std.proofs.Common.{◌≡◌, ◌/◌, ◌<◌, ◌∙◌, inl, inr, ℕ, Bool, true, false, Option, None, Some, option_map, Contains, refl, sym, ap, subst, List}
use Rattle.std.proofs.Math.Logic.{∥∥₁_map}
use Rattle.std.proofs.lemmas.Bool.{false≢true}
use Rattle.std.proofs.lemmas.Grind.{not_there}
use Rattle.iom_walk_coherence.specs.Walks.{Walk}
use Rattle.iom_base.specs.declared.access.Access.{Access}
use Rattle.iom_base.specs.Rights.{allows}
use Rattle.iom_base.specs.Modes.{is_both}
use Rattle.iom_coherence.specs.Attachments.{in_both_stages}
use Rattle.iom_coherence.specs.Faithful.{IsFaithful}
use Rattle.iom_coherence.specs.Laws.{IsReachable}
use Rattle.iom_coherence.proofs.LawLemmas.{translations_reachable}
use Rattle.iom_coherence.specs.Scene.{Copy, Scene}
use Rattle.iom_driver.specs.declared.device.Attachment.{Attachment}
use Rattle.iom_driver.specs.declared.device.Attachment.TheVariants as driver
use Rattle.iom_driver.specs.declared.device.Stages.{Stages}
use Rattle.iom_driver.specs.Devices.{attachment_by_id, owned_stages, owned_stages_of}
use Rattle.iom_iommu.specs.Parts.{translations_of}
use Rattle.iom_driver.specs.State.{DriverState}
use Rattle.iom_ledger.specs.History.{History, May}
use Rattle.iom_machine.specs.Judging.{holds_for, lingers_for}
use Rattle.iom_machine.specs.Requests.{HoldsNoneFor, MayAccept, MayAcceptInOneStage}
use Rattle.iom_machine.specs.declared.state.State.{State}
use Rattle.iom_machine.specs.declared.state.Attachment.TheVariants.{Attached, Leaving}
use Rattle.iom_base.specs.declared.mode.Mode.{Mode}
use Rattle.iom_base.specs.declared.mode.Mode.TheVariants.{First, Second, Both}
use Rattle.iom_machine.proofs.JudgeLemmas.{HoldsFor-from, HoldsFor-test, LingersFor-from, LingersFor-test}
use Rattle.iom_tlb.specs.declared.space.Space.{Space}
use Rattle.iom_tlb.specs.declared.trans_cache.Translation.{Translation}
use Rattle.iom_world_effects.specs.Devices.{shown_attachment}
use Rattle.iom_world_effects.specs.Parts.{Parts}
use Rattle.iom_world_effects.specs.Read.{space_in, space_at, values_of}
use Rattle.iom_world_effects.specs.Scenes.{copy_of, IsSceneOf}
use Rattle.iom_world_effects.specs.Shows.{PartsShow}
use Rattle.iom_world_effects.specs.Invariant.{InvariantWith}
use Rattle.iom_world_effects.proofs.QuarantinedLemmas.{IsPending, accept_formerly, quarantined_holds}
use Rattle.iom_world_effects.proofs.DriverLemmas.{DriverInvariant}
use Rattle.iom_world_effects.proofs.HistoryMay.{may_merely, facts_of_history}
use Rattle.iom_world_effects.proofs.SceneCalls.{none_cached}

-- which of them it is, is decided by the history: what merely is so, is
accept_merely : (history : History) (id frame : ℕ) (access : Access) → ∥ MayAcceptInOneStage history id access frame ∥₁ → MayAcceptInOneStage history id access frame
accept_merely history id frame access merely = by (holds_for history id (access.address / 4096) access.kind frame) refl
  where
    lingers : (b : Bool) → lingers_for history history id (access.address / 4096) access.kind frame ≡ b → holds_for history id (access.address / 4096) access.kind frame ≡ false
        → MayAcceptInOneStage history id access frame
    lingers true is none = inr (none_held, LingersFor-from history id (access.address / 4096) access.kind frame is)
      where
        none_held : HoldsNoneFor history id access
        none_held other holds = not_there merely (λ may. elim may [
          | inl own ↦ false≢true (sym none ∙ HoldsFor-test history id (access.address / 4096) access.kind frame own)
          | inr (nothing, released) ↦ nothing other holds
        ])
    lingers false is none = absurd (not_there merely (λ may. elim may [
      | inl own ↦ false≢true (sym none ∙ HoldsFor-test history id (access.address / 4096) access.kind frame own)
      | inr (nothing, released) ↦ false≢true (sym is ∙ LingersFor-test history id (access.address / 4096) access.kind frame released)
    ]))

    by : (b : Bool) → holds_for history id (access.address / 4096) access.kind frame ≡ b → MayAcceptInOneStage history id access frame
    by true is = inl (HoldsFor-from history id (access.address / 4096) access.kind frame is)
    by false is = lingers (lingers_for history history id (access.address / 4096) access.kind frame) refl is

-- the number of an address space, and its mode
same_number : (mode own : Mode) (n m : ℕ) → ◌≡◌ {A = Space} (space_in mode n) (space_in own m) → n ≡ m
same_number (First size) (First other) n m same = cc
same_number (Second size) (Second other) n m same = cc
same_number (Both size) (Both other) n m same = cc
same_number (First size) (Second other) n m same = cc
same_number (First size) (Both other) n m same = cc
same_number (Second size) (First other) n m same = cc
same_number (Second size) (Both other) n m same = cc
same_number (Both size) (First other) n m same = cc
same_number (Both size) (Second other) n m same = cc

-- whose address space it is: no two devices have the same
pub one_space : (d : DriverState) → DriverInvariant d → (id other : ℕ) (stage : Stages) → owned_stages_of d.devices id ≡ Some stage
    → space_at d.devices other ≡ Some (space_in stage.mode stage.number) → other ≡ id
one_space d own id other stage owned at = by (owned_stages_of d.devices other) refl at
  where
    some_same : (x y : Space) → Some x ≡ Some y → x ≡ y
    some_same x y same = cc

    by : (o : Option Stages) → owned_stages_of d.devices other ≡ o → option_map (λ (s : Stages). space_in s.mode s.number) o ≡ Some (space_in stage.mode stage.number) → other ≡ id
    by None is named = cc
    by (Some s) is named =
        own.numbers.own other id s stage is owned (same_number s.mode stage.mode s.number stage.number (some_same (space_in s.mode s.number) (space_in stage.mode stage.number) named))

-- a translation that is cached of a page of the device
module _ {walks : List Walk} (parts : Parts) (events : ℕ) (state : State) (id page : ℕ) (stage : Stages) (translation : Translation) (invariants : InvariantWith walks parts events) (own : DriverInvariant parts.driver)
    (shows : PartsShow parts state) (owned : owned_stages_of parts.driver.devices id ≡ Some stage)
    (cached : translations_of parts.iommu (space_in stage.mode stage.number, page) ≡ Some translation) where
  -- the scene has the translation as one of the device's
  there_in : (scene : Scene) → IsSceneOf (values_of parts) scene → Contains scene.translations (copy_of id page translation)
  there_in scene is =
      let was = is.translations (space_in stage.mode stage.number, page) translation cached in
      subst (λ d. Contains scene.translations (copy_of d page translation)) (one_space parts.driver own id was.device stage owned was.own) was.there

  -- of a history with which the ledger agrees
  pub in_history : (scene : Scene) → IsSceneOf (values_of parts) scene → IsFaithful scene → IsFaithful (record scene { history = state.history })
  in_history scene is facts =
      facts_of_history parts.driver.ledger scene state.history is.ledger shows.ledger (λ ticket later. shows.none_later ticket (subst (λ n. n < ticket) is.confirmed later)) facts

  -- what the facts on copies say of it
  pub reachable_in : (both_stages : Bool) → in_both_stages (shown_attachment (attachment_by_id parts.driver.devices id)) ≡ both_stages → (scene : Scene) → IsSceneOf (values_of parts) scene
      → IsFaithful scene → IsReachable both_stages state.history (copy_of id page translation)
  reachable_in both_stages is scene shown facts =
      let copy : Copy = copy_of id page translation in
      let kept = in_history scene shown facts in
      subst (λ b. IsReachable b state.history copy) (ap in_both_stages (shown.attachments id) ∙ is) (translations_reachable (record scene { history = state.history }) copy kept (there_in scene shown))

  -- none is cached of a device that leaves
  pub leaves_none : (ticket : ℕ) (s : Stages) → attachment_by_id parts.driver.devices id ≡ driver.Leaving ticket s → ⊥
  leaves_none ticket s is =
      not_there invariants.copies (λ (scene, shown, facts).
      none_cached scene (copy_of id page translation) (Leaving ticket s.mode s.ats) parts.driver.confirmed parts.driver.given facts.copies (shown.attachments id ∙ ap shown_attachment is)
      (own.leaving id ticket s is) (there_in scene shown))

  -- nor of one that is detached
  pub detached_none : attachment_by_id parts.driver.devices id ≡ driver.Detached → ⊥
  detached_none is = none_some (sym (ap owned_stages is) ∙ owned)
    where
      none_some : ◌≡◌ {A = Option Stages} None (Some stage) → ⊥
      none_some same = cc

module _ {walks : List Walk} (parts : Parts) (events : ℕ) (state : State) (id : ℕ) (access : Access) (stage : Stages) (translation : Translation) (invariants : InvariantWith walks parts events)
    (own : DriverInvariant parts.driver) (shows : PartsShow parts state) (owned : owned_stages_of parts.driver.devices id ≡ Some stage)
    (cached : translations_of parts.iommu (space_in stage.mode stage.number, access.address / 4096) ≡ Some translation) (allowed : allows translation.rights access.kind ≡ true)
    (pending : IsPending parts.driver id) where
  reach_in : (both_stages : Bool) → in_both_stages (shown_attachment (attachment_by_id parts.driver.devices id)) ≡ both_stages → (scene : Scene) → IsSceneOf (values_of parts) scene
      → IsFaithful scene → IsReachable both_stages state.history (copy_of id (access.address / 4096) translation)
  reach_in both_stages is scene shown facts = reachable_in parts events state id (access.address / 4096) stage translation invariants own shows owned cached both_stages is scene shown facts

  -- in one stage it is what is held at the page, or what lingers there
  accept_in : in_both_stages (shown_attachment (attachment_by_id parts.driver.devices id)) ≡ false → (scene : Scene) → IsSceneOf (values_of parts) scene → IsFaithful scene
      → MayAcceptInOneStage state.history id access translation.frame
  accept_in one scene shown facts =
      elim (reach_in false one scene shown facts) [
        | inl held ↦ inl (translation.rights, held, allowed)
        | inr lingers ↦ inr (
          (λ other holds. (in_history parts events state id (access.address / 4096) stage translation invariants own shows owned cached scene shown facts).order.apart id (access.address / 4096) lingers.0
              (other, holds.0) (translation.frame, translation.rights) holds.1 lingers.1),
          (translation.rights, lingers, allowed),
        )
      ]

  -- in both its frame may be reached
  may_in : in_both_stages (shown_attachment (attachment_by_id parts.driver.devices id)) ≡ true → (scene : Scene) → IsSceneOf (values_of parts) scene → IsFaithful scene
      → May state.history id translation.frame access.kind
  may_in both scene shown facts = reach_in true both scene shown facts access.kind allowed

  by_mode : (mode : Mode) (ats : Bool) → in_both_stages (shown_attachment (attachment_by_id parts.driver.devices id)) ≡ is_both mode → MayAccept (Attached mode ats) state id access translation.frame
  by_mode (First size) ats is = accept_merely state.history id translation.frame access (∥∥₁_map invariants.copies (λ (scene, shown, facts). accept_in is scene shown facts.copies))
  by_mode (Second size) ats is = accept_merely state.history id translation.frame access (∥∥₁_map invariants.copies (λ (scene, shown, facts). accept_in is scene shown facts.copies))
  by_mode (Both size) ats is = may_merely state.history id translation.frame access.kind (∥∥₁_map invariants.copies (λ (scene, shown, facts). may_in is scene shown facts.copies))

  -- of a device that is quarantined it is what lingers
  quarantined : (ticket : ℕ) (s : Stages) → attachment_by_id parts.driver.devices id ≡ driver.Quarantined ticket s → MayAccept (shown_attachment (driver.Quarantined ticket s)) state id access translation.frame
  quarantined ticket s is = (
    shows.none_later ticket (pending ticket s is),
    accept_formerly state.history id (access.address / 4096) translation.frame translation.rights (quarantined_holds parts.driver own state.history shows.ledger id ticket s is) s.mode access refl allowed
        (∥∥₁_map invariants.copies (λ (scene, shown, facts). reach_in (is_both s.mode) (ap (λ a. in_both_stages (shown_attachment a)) is) scene shown facts.copies)),
  )

  by_attachment : (a : Attachment) → attachment_by_id parts.driver.devices id ≡ a → MayAccept (shown_attachment a) state id access translation.frame
  by_attachment driver.Detached is = absurd (detached_none parts events state id (access.address / 4096) stage translation invariants own shows owned cached is)
  by_attachment (driver.Attached s) is = by_mode s.mode s.ats (ap (λ a. in_both_stages (shown_attachment a)) is)
  by_attachment (driver.Quarantined ticket s) is = quarantined ticket s is
  by_attachment (driver.Leaving ticket s) is = absurd (leaves_none parts events state id (access.address / 4096) stage translation invariants own shows owned cached ticket s is)

pub cached_accept : {walks : List Walk} (parts : Parts) (events : ℕ) (state : State) (id : ℕ) (access : Access) (stage : Stages) (translation : Translation) → InvariantWith walks parts events → DriverInvariant parts.driver
    → PartsShow parts state → owned_stages_of parts.driver.devices id ≡ Some stage → translations_of parts.iommu (space_in stage.mode stage.number, access.address / 4096) ≡ Some translation
    → allows translation.rights access.kind ≡ true → IsPending parts.driver id → MayAccept (shown_attachment (attachment_by_id parts.driver.devices id)) state id access translation.frame
cached_accept parts events state id access stage translation invariants own shows owned cached allowed pending =
    by_attachment parts events state id access stage translation invariants own shows owned cached allowed pending (attachment_by_id parts.driver.devices id) refl
