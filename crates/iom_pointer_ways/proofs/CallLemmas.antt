-- Each call of hardware that caches pointers is a list of transitions.
use Rattle.std.proofs.Common.{◌≡◌, ◌⊎◌, inl, inr, ℕ, ◌/◌, Bool, true, ◌&&◌, ◌==◌, List, [], ◌∷◌, map, Contains, None, Option, Result, slice_get, refl, sym, ap, ◌∙◌, subst}
use Rattle.iom_base.specs.declared.refusal.Refusal.{Refusal}
use Rattle.iom_board.specs.BoardParts.{BoardParts}
use Rattle.iom_board.specs.Commits.{CommitsOldestAccess}
use Rattle.iom_board.specs.Invariant.{BoardInvariant}
use Rattle.iom_inflight.specs.declared.made.MadeAt.{MadeAt}
use Rattle.iom_device_dir.specs.Cached.{cached_contexts}
use Rattle.iom_iommu.specs.Parts.{contexts_of, flights_of, registers_of, translations_of}
use Rattle.iom_pointers.specs.Pointers.{is_for, pages_of}
use Rattle.iom_pointers.specs.declared.pointer.Pointer.{Pointer}
use Rattle.iom_registers.specs.Queues.{directory_mode}
use Rattle.iom_tlb.proofs.KeyLemmas.{both, one_key}
use Rattle.iom_tlb.specs.Content.{Keeps, Translations}
use Rattle.iom_tlb.specs.contracts.space.SpacePartialEq.TheImpl as spaces
use Rattle.iom_tlb.specs.declared.space.Space.{Space}
use Rattle.iom_tlb.specs.declared.trans_cache.Translation.{Translation}
use Rattle.iom_reach.proofs.WiderLemmas.{transitions_stay, turns_stay}
use Rattle.iom_reach.specs.Scene.{HardwareScene, reading}
use Rattle.iom_reach.specs.Transitions.{Transition, GoOn, IsContinued, Make, ComeInTurn}
use Rattle.iom_reach.specs.Ways.{PartWay, WalkBegins}
use Rattle.iom_hardware_ways.proofs.CallLemmas.{IsQuietCall, quiet_calls}
use Rattle.iom_hardware_ways.proofs.Changes.{TranslationsChange, all_change}
use Rattle.iom_hardware_ways.proofs.FlightLemmas.{commits}
use Rattle.iom_hardware_ways.proofs.ListLemmas.{contains_map, in_none, map_cases}
use Rattle.iom_hardware_ways.proofs.NapotLemmas.{reads_more}
use Rattle.iom_hardware_ways.proofs.SceneParts.{scene_is}
use Rattle.iom_hardware_ways.proofs.TranslationLemmas.{sets_shown, stays_shown}
use Rattle.iom_hardware_ways.proofs.Turns.{Comes, ends_as}
use Rattle.iom_hardware_ways.specs.Calls.{HardwareCall, Request, Translated, ThroughCache, Ask, AskAtStep, Forge, Fetch, Timeout, Deliver, Drop, Repeat, Commit, Reset, CallEffect}
use Rattle.iom_hardware_ways.specs.Formats.{format_of, steps_along}
use Rattle.iom_hardware_ways.specs.Scenes.{cached_space, contexts_in, mapping_of, mappings_in, scene_of}
use Rattle.iom_stepped_ways.proofs.CacheLemmas.{space_named}
use Rattle.iom_stepped_ways.proofs.CallLemmas.{makes_beside}
use Rattle.iom_stepped_ways.proofs.FrameLemmas.{comes_beside}
use Rattle.iom_stepped_ways.specs.Calls.{IsNoTrustedWrite, WritesUntrusted}
use Rattle.iom_stepped_ways.specs.Scenes.{access_on, address_space, with_added}
use Rattle.iom_pointer_ways.specs.Calls.{Plain, Fill, Point, ArePassed, Fills, IsLedTo}
use Rattle.iom_pointer_ways.specs.Laws.{PointedCallsAreTransitions}
use Rattle.iom_pointer_ways.specs.Scenes.{pointed_scene, walk_from, walks_from, widths_below}

-- the scene of the one comes of that of the other by a list of transitions
abbrev pub Reached : Bool → (ℕ → Bool) → BoardParts → List Pointer → BoardParts → List Pointer → Type 0
Reached napot trusted old pointers new new_pointers =
    (transitions : List Transition) × ComeInTurn (pointed_scene napot trusted old pointers) transitions (pointed_scene napot trusted new new_pointers)

quietly : (napot : Bool) (trusted : ℕ → Bool) (old new : BoardParts) (pointers new_pointers : List Pointer)
    → Comes (pointed_scene napot trusted old pointers) (pointed_scene napot trusted new new_pointers) → Reached napot trusted old pointers new new_pointers
quietly napot trusted old new pointers new_pointers (transitions, quiet, turns) = (transitions, turns)

-- the scene by the format of entries that the calls of the board know
abbrev plain_scene : (ℕ → Bool) → BoardParts → List Pointer → HardwareScene
plain_scene trusted parts pointers = with_added (scene_of trusted parts) (walks_from pointers)

-- what comes about there does so too where walks know leaves of 64 KiB
known : (napot : Bool) (trusted : ℕ → Bool) (old new : BoardParts) (pointers : List Pointer) → Comes (plain_scene trusted old pointers) (plain_scene trusted new pointers)
    → Reached napot trusted old pointers new pointers
known napot trusted old new pointers (transitions, quiet, turns) =
    (transitions, turns_stay (format_of napot) transitions (plain_scene trusted old pointers) (plain_scene trusted new pointers) (reads_more napot) turns)

-- A CALL OF THE BOARD makes an access, or none
commit_or_quiet : (call : HardwareCall) → ((id : ℕ) × (answer : Result (Option MadeAt) Refusal) × (call ≡ Commit id answer)) ⊎ IsQuietCall call
commit_or_quiet (Request sender id access answer) = inr tt
commit_or_quiet (Translated id access answer) = inr tt
commit_or_quiet (ThroughCache sender id access answer) = inr tt
commit_or_quiet (Ask id page answer) = inr tt
commit_or_quiet (AskAtStep id page) = inr tt
commit_or_quiet (Forge id serial answer) = inr tt
commit_or_quiet (Fetch fetched) = inr tt
commit_or_quiet (Timeout has_effect) = inr tt
commit_or_quiet (Deliver place delivered) = inr tt
commit_or_quiet (Drop place found) = inr tt
commit_or_quiet (Repeat place answer) = inr tt
commit_or_quiet (Reset id answer) = inr tt
commit_or_quiet (Commit id answer) = inl (id, answer, refl)

committed : (napot : Bool) (trusted : ℕ → Bool) (id : ℕ) (answer : Result (Option MadeAt) Refusal) (old new : BoardParts) (pointers : List Pointer)
    → CommitsOldestAccess old id answer new → IsNoTrustedWrite trusted id answer → Reached napot trusted old pointers new pointers
committed napot trusted id answer old new pointers effect untrusted = elim (commits trusted old id answer new effect) [
  | inl same ↦ ([], ap (λ s. reading (format_of napot) (with_added s (walks_from pointers))) same)
  | inr (made, reply, makes) ↦ (
    Make id (access_on made.frame made.kind) ∷ [],
    (
      pointed_scene napot trusted new pointers,
      transitions_stay (format_of napot) (Make id (access_on made.frame made.kind)) (plain_scene trusted old pointers) (plain_scene trusted new pointers) (reads_more napot)
          (makes_beside trusted old new (walks_from pointers) id made makes (subst (IsNoTrustedWrite trusted id) reply untrusted)),
      refl,
    ),
  )
]

called : (napot : Bool) (trusted : ℕ → Bool) (call : HardwareCall) (events : ℕ) (old new : BoardParts) (pointers : List Pointer) → BoardInvariant old events
    → CallEffect call old new → WritesUntrusted trusted call → Reached napot trusted old pointers new pointers
called napot trusted call events old new pointers invariants effect untrusted = elim (commit_or_quiet call) [
  | inl (id, answer, is) ↦ committed napot trusted id answer old new pointers (subst (λ c. CallEffect c old new) is effect) (subst (WritesUntrusted trusted) is untrusted)
  | inr quiet ↦ known napot trusted old new pointers
      (comes_beside (scene_of trusted old) (scene_of trusted new) (walks_from pointers) (quiet_calls trusted call events old new quiet invariants effect))
]

-- A TRANSLATION IS CACHED

-- two that are the same to the hardware are one
one_space : (s t : Space) → spaces.ghosts.eq s t ≡ true → s ≡ t
one_space s t same = ap (λ (k : Space × ℕ). k.0) (one_key (s, 0) (t, 0) (ap (λ b. b && true) same))

-- the pointer begins walks of the space
pub begins_there : (napot : Bool) (trusted : ℕ → Bool) (parts : BoardParts) (pointers : List Pointer) (space : Space) (page : ℕ) (pointer : Pointer) → Contains pointers pointer
    → is_for space page pointer ≡ true
    → WalkBegins (pointed_scene napot trusted parts pointers) (address_space space) pointer.table.number (steps_along (widths_below pointer.level))
begins_there napot trusted parts pointers space page pointer there own =
    let two = both (spaces.ghosts.eq pointer.space space) (page / pages_of pointer.level == pointer.prefix) own in
    subst (λ s. WalkBegins (pointed_scene napot trusted parts pointers) (address_space s) pointer.table.number (steps_along (widths_below pointer.level)))
    (one_space pointer.space space two.0)
    (PartWay None (contains_map walk_from pointers pointer there))

-- what the cache has then it had, or it is what a walk gives that may begin in the space
offered : (napot : Bool) (trusted : ℕ → Bool) (parts : BoardParts) (pointers : List Pointer) (sure : Bool) (space : Space) (page : ℕ) (translation : Translation)
    (new : Translations) → IsLedTo napot trusted parts pointers space page translation → Keeps sure (translations_of parts.iommu) (space, page) translation new
    → TranslationsChange (pointed_scene napot trusted parts pointers) (mappings_in new)
offered napot trusted parts pointers sure space page translation new (table, steps_to, begins, ends) keeps =
    by (subst (λ (k : Space). Keeps sure (translations_of parts.iommu) (k, page) translation new) (sym (space_named trusted parts (walks_from pointers) space)) keeps)
  where
    by : Keeps sure (translations_of parts.iommu) (cached_space (address_space space), page) translation new
        → TranslationsChange (pointed_scene napot trusted parts pointers) (mappings_in new)
    by (inl sets) = inr (
      address_space space,
      table,
      steps_to,
      page,
      mapping_of translation,
      begins,
      (mapping_of translation, (page, ends), refl, (λ k allowed. allowed)),
      sets_shown (translations_of parts.iommu) (record { space = address_space space; page = page }) translation new sets,
    )
    by (inr (unsure, none, unchanged)) = inl (stays_shown (translations_of parts.iommu) new unchanged)

filled : (napot : Bool) (trusted : ℕ → Bool) (space : Space) (page : ℕ) (translation : Translation) (old new : BoardParts) (pointers : List Pointer)
    → Fills napot trusted old pointers space page translation new → Reached napot trusted old pointers new pointers
filled napot trusted space page translation old new pointers fills =
    let s = pointed_scene napot trusted old pointers in
    let mode = directory_mode (registers_of old.iommu) in
    let shown = contexts_in mode (contexts_of new.iommu) in
    let contexts : contexts_of new.iommu ≡ contexts_of old.iommu = ap cached_contexts (ap (λ parts. parts.contexts) fills.kept.1) in
    let last = record s { translations = mappings_in (translations_of new.iommu); contexts = shown; memory = slice_get old.memory } in
    quietly napot trusted old new pointers pointers
    (ends_as s last (pointed_scene napot trusted new pointers)
    (ap (λ x. reading (format_of napot) (with_added x (walks_from pointers)))
    (scene_is trusted new old.memory (registers_of old.iommu) (contexts_of new.iommu) (translations_of new.iommu) (flights_of old.iommu).rows old.devices old.fabric
    (ap (λ (p : BoardParts). p.memory) fills.rest) (ap (λ parts. parts.registers) fills.kept.1) refl refl (ap (λ f. f.rows) (ap (λ parts. parts.flights) fills.kept.1))
    (ap (λ (p : BoardParts). p.devices) fills.rest) (ap (λ (p : BoardParts). p.fabric) fills.rest)))
    (all_change s 0 (mappings_in (translations_of new.iommu)) shown (slice_get old.memory)
    (offered napot trusted old pointers _ space page translation (translations_of new.iommu) fills.led fills.kept.0)
    (inl (λ device context is. ap (λ c. contexts_in mode c device) (sym contexts) ∙ is)) (inl refl)))

-- POINTERS ARE CACHED AND FORGOTTEN
pointed : (napot : Bool) (trusted : ℕ → Bool) (parts : BoardParts) (pointers new_pointers : List Pointer) → ArePassed napot trusted parts pointers new_pointers
    → Reached napot trusted parts pointers parts new_pointers
pointed napot trusted parts pointers new_pointers passed = (
  GoOn ∷ [],
  (
    pointed_scene napot trusted parts new_pointers,
    (
      map walk_from new_pointers,
      [],
      (pointed_scene napot trusted parts pointers).in_flight,
      (λ walk there.
          let (pointer, among, is) = map_cases walk_from new_pointers walk there in
          elim (passed pointer among) [
            | inl old ↦ inr (subst (Contains (map walk_from pointers)) is (contains_map walk_from pointers pointer old))
            | inr continued ↦ inl (subst (IsContinued (pointed_scene napot trusted parts pointers)) is continued)
          ]),
      (λ walk never. absurd (in_none walk never)),
      (λ device access flies. flies),
      refl,
    ),
    refl,
  ),
)

-- EACH CALL
pub pointed_calls_are_transitions : PointedCallsAreTransitions
pointed_calls_are_transitions napot trusted (Plain call) events old new pointers new_pointers invariants (effect, same) by_hardware =
    subst (Reached napot trusted old pointers new) (sym same) (called napot trusted call events old new pointers invariants effect by_hardware)
pointed_calls_are_transitions napot trusted (Fill space page translation) events old new pointers new_pointers invariants (fills, same) by_hardware =
    subst (Reached napot trusted old pointers new) (sym same) (filled napot trusted space page translation old new pointers fills)
pointed_calls_are_transitions napot trusted Point events old new pointers new_pointers invariants (same, passed) by_hardware =
    subst (λ p. Reached napot trusted old pointers p new_pointers) (sym same) (pointed napot trusted old pointers new_pointers passed)
