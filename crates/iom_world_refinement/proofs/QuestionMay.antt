-- What the machine lets a device be told of a page: what a walk or the translation cache gives, and each refusal.
use Rattle.std.proofs.Common.{◌≡◌, ◌/◌, ◌==◌, ◌||◌, ◌∙◌, inl, inr, ℕ, Bool, true, false, [], ◌∷◌, Contains, Option, None, Some, Ok, refl, sym, ap, subst, List}
use Rattle.std.specs.Option.{option_to_list}
use Rattle.std.proofs.Math.Logic.{∥∥₁_map}
use Rattle.std.proofs.lemmas.Bool.{eqb-true, false≢true}
use Rattle.std.proofs.lemmas.Bool.Decides.{eqb_tells}
use Rattle.std.proofs.lemmas.Grind.{not_there}
use Rattle.iom_walk_coherence.specs.Walks.{Walk}
use Rattle.iom_base.specs.declared.access.AccessKind.TheVariants.{Read}
use Rattle.iom_base.specs.declared.cause.Cause.{Cause}
use Rattle.iom_base.specs.declared.mode.Mode.{Mode}
use Rattle.iom_base.specs.declared.mode.Mode.TheVariants.{First, Second, Both}
use Rattle.iom_base.specs.declared.rights.Rights.{Rights}
use Rattle.iom_base.specs.Rights.{allows}
use Rattle.iom_base.specs.Modes.{is_both}
use Rattle.iom_coherence.specs.Attachments.{has_ats, in_both_stages}
use Rattle.iom_coherence.specs.Faithful.{IsFaithful}
use Rattle.iom_coherence.specs.Scene.{Scene}
use Rattle.iom_coherence.proofs.ListLemmas.{contains_head, in_none}
use Rattle.iom_driver.specs.declared.device.Attachment.{Attachment}
use Rattle.iom_driver.specs.declared.device.Attachment.TheVariants as driver
use Rattle.iom_driver.specs.declared.device.Stages.{Stages}
use Rattle.iom_driver.specs.Devices.{attachment_by_id, owned_stages_of}
use Rattle.iom_fabric.specs.declared.message.Translation.TheVariants.{Page, Refused}
use Rattle.iom_iommu.specs.Parts.{translations_of}
use Rattle.iom_ledger.specs.declared.ledger.Ledger.{Ledger}
use Rattle.iom_ledger.specs.declared.page_row.PageRow.{PageRow}
use Rattle.iom_ledger.specs.History.{History, Pair, Lingers, held_at, lingering_at}
use Rattle.iom_ledger.specs.Rows.{is_granted, has_granted_right, held_of, unless_released, row_at}
use Rattle.iom_ledger.specs.Shown.{Agrees, held_in, released_in}
use Rattle.iom_machine.specs.declared.state.Attachment.TheVariants as shown
use Rattle.iom_machine.specs.declared.state.State.{State}
use Rattle.iom_machine.specs.Questions.{MayShow, MayTellFormerly, MayTell}
use Rattle.iom_tlb.specs.declared.trans_cache.Translation.{Translation}
use Rattle.iom_tlb.specs.Content.{Translations}
use Rattle.iom_world_effects.specs.Devices.{shown_attachment}
use Rattle.iom_world_effects.specs.Parts.{Parts}
use Rattle.iom_world_effects.specs.Read.{space_in, values_of}
use Rattle.iom_world_effects.specs.Scenes.{IsSceneOf}
use Rattle.iom_world_effects.specs.Shows.{PartsShow}
use Rattle.iom_world_effects.specs.Invariant.{InvariantWith}
use Rattle.iom_world_effects.proofs.CachedMay.{in_history, reachable_in, leaves_none, detached_none}
use Rattle.iom_world_effects.proofs.QuarantinedLemmas.{IsPending, show_formerly, quarantined_holds}
use Rattle.iom_world_effects.proofs.DriverLemmas.{DriverInvariant}
use Rattle.iom_world_effects.proofs.HistoryMay.{may_merely}
use Rattle.iom_world_effects.proofs.MessageLemmas.{the_one}
use Rattle.iom_world_effects.proofs.QuestionAnswers.{RefusedAs, RefusedFormerly}
use Rattle.iom_world_effects.proofs.SceneSteps.{HoldsWalked}
use Rattle.iom_world_effects.proofs.ServedLemmas.{IsAnswered, cause_at}
use Rattle.iom_world_effects.proofs.WalkLemmas.{NoneIsHeldFor, FaultsBy}

-- a right that is granted allows to read
granted_reads : (rights : Rights) → is_granted rights ≡ true → allows rights Read ≡ true
granted_reads rights granted = by (rights.0 == 1) (rights.0 == 3) refl refl granted
  where
    by : (b c : Bool) → (rights.0 == 1) ≡ b → (rights.0 == 3) ≡ c → (b || c) ≡ true → allows rights Read ≡ true
    by true c e f either = let is : rights.0 ≡ 1 = eqb-true rights.0 1 e in rw is refl
    by false true e f either = let is : rights.0 ≡ 3 = eqb-true rights.0 3 f in rw is refl
    by false false e f either = absurd (false≢true either)

-- so what isn't held for a read isn't held
row_reads : (row : Option PageRow) (pair : Pair) → has_granted_right row ≡ true → held_of row ≡ Some pair → allows pair.1 Read ≡ true
row_reads None pair granted held = cc
row_reads (Some row) pair granted held = by row.ticket held
  where
    by : (ticket : Option ℕ) → unless_released ticket (row.frame, row.rights) ≡ Some pair → allows pair.1 Read ≡ true
    by None held = let same : ◌≡◌ {A = Pair} (row.frame, row.rights) pair = cc in subst (λ (p : Pair). allows p.1 Read ≡ true) same (granted_reads row.rights granted)
    by (Some ticket) held = cc

held_reads : (ledger : Ledger) (id page : ℕ) (pair : Pair) → held_in ledger id page ≡ Some pair → allows pair.1 Read ≡ true
unfolding held_in
held_reads ledger id page pair held = row_reads (row_at ledger.devices id page) pair (ledger.granted id page) held

none_held : (ledger : Ledger) (id page : ℕ) → NoneIsHeldFor ledger id page Read → held_in ledger id page ≡ None
none_held ledger id page none = by (held_in ledger id page) refl
  where
    by : (held : Option Pair) → held_in ledger id page ≡ held → held ≡ None
    by None is = refl
    by (Some pair) is = absurd (none pair.0 (pair.1, is, held_reads ledger id page pair is))

-- two pairs that merely are the same are
same_pair : (one other : Pair) → ∥ one ≡ other ∥₁ → one ≡ other
same_pair one other merely = pair_of (same_number one.0 other.0 (∥∥₁_map merely (λ same. ap (λ (p : Pair). p.0) same))) (same_number one.1.0 other.1.0 (∥∥₁_map merely (λ same. ap (λ (p : Pair). p.1.0) same)))
  where
    same_number : (n m : ℕ) → ∥ n ≡ m ∥₁ → n ≡ m
    same_number n m merely = elim (eqb_tells n m) [
      | inl e ↦ e.1
      | inr ne ↦ absurd (not_there merely (λ same. ne.1 same))
    ]

    pair_of : one.0 ≡ other.0 → one.1.0 ≡ other.1.0 → one ≡ other
    pair_of frame bits = ◌∙◌ {A = Pair} {b = (other.0, one.1)} (ap (λ (n : ℕ). (n, one.1)) frame) (ap (λ (n : ℕ). (other.0, record { 0 = n })) bits)

-- what merely is held at the page, or lingers there and nothing is held, is so: the ledger has both
shows_merely : (ledger : Ledger) (history : History) (id page : ℕ) (pair : Pair) → Agrees ledger history → ∥ MayShow history id page pair ∥₁ → MayShow history id page pair
shows_merely ledger history id page pair agrees merely = by (held_at history id page) refl
  where
    some_same : (x y : Pair) → Some x ≡ Some y → x ≡ y
    some_same x y same = cc

    none_some : (p : Pair) → ◌≡◌ {A = Option Pair} None (Some p) → ⊥
    none_some p same = cc

    one_there : (x y : ℕ × Pair) → Contains (x ∷ []) y → y.1 ≡ x.1
    one_there x y there = ap (λ (r : ℕ × Pair). r.1) (the_one x y there)

    by_released : (released : Option (ℕ × Pair)) → lingering_at history id page ≡ option_to_list released → held_at history id page ≡ None → Lingers history id page pair
    by_released None is none = absurd (not_there merely (λ may. elim may [
      | inl holds ↦ none_some pair (sym none ∙ holds)
      | inr (nothing, (ticket, there)) ↦ in_none (ticket, pair) (subst (λ l. Contains l (ticket, pair)) is there)
    ]))
    by_released (Some released) is none =
        let same : released.1 ≡ pair = same_pair released.1 pair (∥∥₁_map merely (λ may. elim may [
          | inl holds ↦ absurd (none_some pair (sym none ∙ holds))
          | inr (nothing, (ticket, there)) ↦ sym (one_there released (ticket, pair) (subst (λ l. Contains l (ticket, pair)) is there))
        ])) in
        (released.0, subst (λ p. Contains (lingering_at history id page) (released.0, p)) same (subst (λ l. Contains l released) (sym is) (contains_head released [])))

    by : (held : Option Pair) → held_at history id page ≡ held → MayShow history id page pair
    by None none = inr (none, by_released (released_in ledger id page) (agrees.pages id page).lingers none)
    by (Some own) is = inl (is ∙ ap Some (same_pair own pair (∥∥₁_map merely (λ may. elim may [
      | inl holds ↦ some_same own pair (sym is ∙ holds)
      | inr (nothing, lingers) ↦ absurd (none_some own (sym nothing ∙ is))
    ]))))

-- A CACHED TRANSLATION, that allows to read
module _ {walks : List Walk} (parts : Parts) (events : ℕ) (state : State) (id page : ℕ) (stage : Stages) (translation : Translation) (invariants : InvariantWith walks parts events) (own : DriverInvariant parts.driver)
    (shows : PartsShow parts state) (owned : owned_stages_of parts.driver.devices id ≡ Some stage)
    (cached : translations_of parts.iommu (space_in stage.mode stage.number, page) ≡ Some translation) (allowed : allows translation.rights Read ≡ true)
    (pending : IsPending parts.driver id) where
  -- in one stage it is what is held at the page, or what lingers there
  show_in : in_both_stages (shown_attachment (attachment_by_id parts.driver.devices id)) ≡ false → (scene : Scene) → IsSceneOf (values_of parts) scene → IsFaithful scene
      → MayShow state.history id page (translation.frame, translation.rights)
  show_in one scene is facts =
      elim (reachable_in parts events state id page stage translation invariants own shows owned cached false one scene is facts) [
        | inl held ↦ inl held
        | inr lingers ↦ inr (nothing lingers (held_at state.history id page) refl, lingers)
      ]
    where
      nothing : Lingers state.history id page (translation.frame, translation.rights) → (held : Option Pair) → held_at state.history id page ≡ held → held ≡ None
      nothing lingers None at = refl
      nothing lingers (Some pair) at =
          absurd ((in_history parts events state id page stage translation invariants own shows owned cached scene is facts).order.apart id page lingers.0 pair (translation.frame, translation.rights) at lingers.1)

  shown_cached : (mode : Mode) → in_both_stages (shown_attachment (attachment_by_id parts.driver.devices id)) ≡ is_both mode
      → MayTell (shown.Attached mode true) state id page (Page translation.frame translation.rights)
  shown_cached (First size) is =
      shows_merely parts.driver.ledger state.history id page (translation.frame, translation.rights) shows.ledger (∥∥₁_map invariants.copies (λ (scene, at, facts). show_in is scene at facts.copies))
  shown_cached (Second size) is =
      shows_merely parts.driver.ledger state.history id page (translation.frame, translation.rights) shows.ledger (∥∥₁_map invariants.copies (λ (scene, at, facts). show_in is scene at facts.copies))
  shown_cached (Both size) is = (
    allowed,
    (λ kind allowing. may_merely state.history id translation.frame kind (∥∥₁_map invariants.copies
        (λ (scene, at, facts). reachable_in parts events state id page stage translation invariants own shows owned cached true is scene at facts.copies kind allowing))),
  )

  -- of a device that is quarantined it is what lingers
  quarantined : (ticket : ℕ) (s : Stages) → attachment_by_id parts.driver.devices id ≡ driver.Quarantined ticket s → s.ats ≡ true
      → MayTell (shown.Quarantined ticket s.mode s.ats) state id page (Page translation.frame translation.rights)
  quarantined ticket s is ats = inr (
    shows.none_later ticket (pending ticket s is),
    subst (λ b. MayTellFormerly s.mode b state.history id page (Page translation.frame translation.rights)) (sym ats)
        (show_formerly state.history id page translation.frame translation.rights (quarantined_holds parts.driver own state.history shows.ledger id ticket s is) s.mode allowed
        (∥∥₁_map invariants.copies (λ (scene, at, facts).
        reachable_in parts events state id page stage translation invariants own shows owned cached (is_both s.mode) (ap (λ a. in_both_stages (shown_attachment a)) is) scene at facts.copies))),
  )

  pub cached_tell : (a : Attachment) → attachment_by_id parts.driver.devices id ≡ a → has_ats (shown_attachment a) ≡ true
      → MayTell (shown_attachment a) state id page (Page translation.frame translation.rights)
  cached_tell driver.Detached is ats = absurd (detached_none parts events state id page stage translation invariants own shows owned cached is)
  cached_tell (driver.Attached s) is ats =
      subst (λ b. MayTell (shown.Attached s.mode b) state id page (Page translation.frame translation.rights)) (sym ats)
      (shown_cached s.mode (ap (λ a. in_both_stages (shown_attachment a)) is))
  cached_tell (driver.Quarantined ticket s) is ats = quarantined ticket s is ats
  cached_tell (driver.Leaving ticket s) is ats = absurd (leaves_none parts events state id page stage translation invariants own shows owned cached ticket s is)

-- WHAT A WALK GIVES
walked_tell : (state : State) (ledger : Ledger) (mode : Mode) (id page : ℕ) (translation : Translation) → Agrees ledger state.history → HoldsWalked ledger mode id page translation
    → allows translation.rights Read ≡ true → MayTell (shown.Attached mode true) state id page (Page translation.frame translation.rights)
walked_tell state ledger (First size) id page translation agrees (granted, rights, (at, same), held) allowed =
    inl ((agrees.pages id page).holds ∙ ap (held_in ledger id) (sym at) ∙ held ∙ ap (λ (r : Rights). Some (translation.frame, r)) same)
walked_tell state ledger (Second size) id page translation agrees (granted, rights, (at, same), held) allowed =
    inl ((agrees.pages id page).holds ∙ ap (held_in ledger id) (sym at) ∙ held ∙ ap (λ (r : Rights). Some (translation.frame, r)) same)
walked_tell state ledger (Both size) id page translation agrees (granted, rights, no_less, held) allowed =
    (allowed, (λ kind allowing. (granted, rights, inl ((agrees.pages id granted).holds ∙ held), no_less kind allowing)))

-- what the machine lets be told of a page
pub may_tell : {walks : List Walk} (parts : Parts) (events : ℕ) (state : State) (id address : ℕ) (answer : Translation) (sure : Bool) (new : Translations) → InvariantWith walks parts events → DriverInvariant parts.driver
    → PartsShow parts state → has_ats (shown_attachment (attachment_by_id parts.driver.devices id)) ≡ true
    → IsAnswered sure parts.driver id address Read (translations_of parts.iommu) (Ok answer) new
    → MayTell (shown_attachment (attachment_by_id parts.driver.devices id)) state id (address / 4096) (Page answer.frame answer.rights)
may_tell parts events state id address answer sure new invariants own shows ats (inl reaches) =
    let stage = reaches.stage in
    let with_ats : stage.ats ≡ true = sym (ap (λ a. has_ats (shown_attachment a)) reaches.attached) ∙ ats in
    subst (λ (t : Translation). MayTell (shown_attachment (attachment_by_id parts.driver.devices id)) state id (address / 4096) (Page t.frame t.rights)) (sym reaches.answer_is)
    (subst (λ a. MayTell (shown_attachment a) state id (address / 4096) (Page reaches.translation.frame reaches.translation.rights)) (sym reaches.attached)
    (subst (λ b. MayTell (shown.Attached stage.mode b) state id (address / 4096) (Page reaches.translation.frame reaches.translation.rights)) (sym with_ats)
    (walked_tell state parts.driver.ledger stage.mode id (address / 4096) reaches.translation shows.ledger reaches.held reaches.allowed)))
may_tell parts events state id address answer sure new invariants own shows ats (inr finds) =
    subst (λ (t : Translation). MayTell (shown_attachment (attachment_by_id parts.driver.devices id)) state id (address / 4096) (Page t.frame t.rights)) (sym finds.answer_is)
    (cached_tell parts events state id (address / 4096) finds.stage finds.translation invariants own shows finds.owned finds.cached finds.allowed finds.pending (attachment_by_id parts.driver.devices id) refl ats)

-- EACH REFUSAL
attached_refuse : (mode : Mode) (state : State) (ledger : Ledger) (id page : ℕ) (cause : Cause) → Agrees ledger state.history → FaultsBy mode ledger id page Read cause
    → MayTell (shown.Attached mode true) state id page (Refused cause)
attached_refuse (First size) state ledger id page cause agrees faults = ((agrees.pages id page).holds ∙ none_held ledger id page faults.1, faults.0)
attached_refuse (Second size) state ledger id page cause agrees faults = ((agrees.pages id page).holds ∙ none_held ledger id page faults.1, faults.0)
attached_refuse (Both size) state ledger id page cause agrees faults = faults

refuse_formerly : (stage : Stages) (state : State) (id address : ℕ) (cause : Cause) → RefusedFormerly stage cause
    → MayTellFormerly stage.mode stage.ats state.history id (address / 4096) (Refused cause)
refuse_formerly stage state id address cause (inl (ats, page)) = subst (λ b. MayTellFormerly stage.mode b state.history id (address / 4096) (Refused cause)) (sym ats) page
refuse_formerly stage state id address cause (inr (none, disallowed)) =
    subst (λ b. MayTellFormerly stage.mode b state.history id (address / 4096) (Refused cause)) (sym none) (ap Refused disallowed)

pub may_refuse : (a : Attachment) (parts : Parts) (state : State) (id address : ℕ) (cause : Cause) → DriverInvariant parts.driver → PartsShow parts state
    → attachment_by_id parts.driver.devices id ≡ a → RefusedAs a parts.driver id address cause → MayTell (shown_attachment a) state id (address / 4096) (Refused cause)
may_refuse driver.Detached parts state id address cause own shows is refused = ap Refused (refused ∙ ap (λ l. cause_at l id) (sym shows.levels))
may_refuse (driver.Attached stage) parts state id address cause own shows is (inl (ats, faults)) =
    subst (λ b. MayTell (shown.Attached stage.mode b) state id (address / 4096) (Refused cause)) (sym ats) (attached_refuse stage.mode state parts.driver.ledger id (address / 4096) cause shows.ledger faults)
may_refuse (driver.Attached stage) parts state id address cause own shows is (inr (none, disallowed)) =
    subst (λ b. MayTell (shown.Attached stage.mode b) state id (address / 4096) (Refused cause)) (sym none) (ap Refused disallowed)
may_refuse (driver.Quarantined ticket stage) parts state id address cause own shows is (inl without) = inl (ap Refused (without ∙ ap (λ l. cause_at l id) (sym shows.levels)))
may_refuse (driver.Quarantined ticket stage) parts state id address cause own shows is (inr (pending, formerly)) =
    inr (shows.none_later ticket pending, refuse_formerly stage state id address cause formerly)
may_refuse (driver.Leaving ticket stage) parts state id address cause own shows is (inl without) = inl (ap Refused (without ∙ ap (λ l. cause_at l id) (sym shows.levels)))
may_refuse (driver.Leaving ticket stage) parts state id address cause own shows is (inr formerly) =
    inr (shows.none_later ticket (own.leaving id ticket stage is).0, refuse_formerly stage state id address cause formerly)
