-- What is kept ahead of a request is kept by calls of hardware that caches pointers, and leaves the board sound.
use Rattle.std.proofs.Common.{◌≡◌, ◌∙◌, ℕ, ◌<◌, ◌∷◌, [], Bool, true, false, List, map, replicate, slice_get, Option, None, Some, inl, refl, sym, ap, subst, arith}
use Rattle.iom_base.specs.Tables.{table_entries}
use Rattle.iom_base.specs.declared.access.AccessKind.{AccessKind}
use Rattle.iom_base.specs.declared.device_kind.DeviceKind.{DeviceKind}
use Rattle.iom_board.proofs.SoundThen.{sound_more}
use Rattle.iom_board.specs.BoardParts.{BoardParts}
use Rattle.iom_board.specs.Invariant.{BoardInvariant, flight_ids}
use Rattle.iom_device.specs.Caches.{kind_in}
use Rattle.iom_hardware_ways.specs.Formats.{format_of, step_at, steps_along}
use Rattle.iom_hardware_ways.specs.Scenes.{mapping_of}
use Rattle.iom_pointer_ways.proofs.CallLemmas.{begins_there}
use Rattle.iom_pointer_ways.proofs.FollowLemmas.{followed_are_passed}
use Rattle.iom_pointer_ways.specs.Calls.{ArePassed, DoPointedInTurn, Fill, IsLedTo, Point, PointedCall}
use Rattle.iom_pointer_ways.specs.Scenes.{pointed_scene, widths_below}
use Rattle.iom_pointers.specs.Pointers.{IsDeepest, hand_at}
use Rattle.iom_pointers.specs.Walks.{LeadsTo, steps_in}
use Rattle.iom_pointers.specs.declared.features.Features.{Features}
use Rattle.iom_pointers.specs.declared.pointer.Pointer.{Pointer}
use Rattle.iom_reach.specs.Memory.{Ends}
use Rattle.iom_reach.specs.Ways.{WalkBegins}
use Rattle.iom_stepped_requests.specs.declared.request.Request.{Request}
use Rattle.iom_stepped_walk.proofs.IndexLemmas.{indices_from_next}
use Rattle.iom_stepped_walk.specs.Indices.{width_of}
use Rattle.iom_stepped_walk.specs.declared.hand.TableInHand.{TableInHand}
use Rattle.iom_stepped_ways.specs.Scenes.{address_space}
use Rattle.iom_tlb.specs.declared.space.Space.{Space}
use Rattle.iom_tlb.specs.declared.trans_cache.Translation.{Translation}
use Rattle.iom_pointed_board.proofs.BeginLemmas.{root_begins, root_is_low, root_steps}
use Rattle.iom_pointed_board.specs.Laws.{AheadAreCalls, AheadIsSound}
use Rattle.iom_pointed_board.specs.Starts.{AtPointer, AtRoot, BeginsAt, FollowsWhere, IsFoundAtRoot, KeepsFound, PastPointer, Walks, at_pointer, at_root}
use Rattle.iom_pointed_board.specs.declared.start.Start.{Start}

-- THE BOARD STAYS SOUND when a translation is cached
found_sound : (found : Option Translation) (space : Space) (page events : ℕ) (old new : BoardParts) → KeepsFound found space page old new → BoardInvariant old events
    → BoardInvariant new events
found_sound None space page events old new same invariants = subst (λ p. BoardInvariant p events) (sym same) invariants
found_sound (Some translation) space page events old new (kept, rest) invariants = subst (λ p. BoardInvariant p events) (sym rest) (record {
  size = ap (λ parts. parts.frames) kept.1 ∙ invariants.size;
  own_ids = invariants.own_ids;
  rows = ap (λ parts. flight_ids parts.flights.rows) kept.1 ∙ invariants.rows;
  caches = invariants.caches;
  askers = invariants.askers;
  accepted = let same = ap (λ parts. parts.flights.so_far) kept.1 in let most = invariants.accepted in omega (arith, same, most);
  serials = let same = ap (λ parts. parts.slots.last) kept.1 in let most = invariants.serials in omega (arith, same, most);
  epochs = invariants.epochs;
})

pub ahead_is_sound : AheadIsSound
ahead_is_sound features events old new pointers new_pointers request invariants (None, is, (same, same_pointers)) = subst (λ p. BoardInvariant p events) (sym same) invariants
ahead_is_sound features events old new pointers new_pointers request invariants (Some start, is, (keeps, follows)) =
    found_sound start.found start.space start.hand.page events old new keeps invariants

-- THE CALLS

-- what is followed is passed, where pointers are kept
passed_where : (nonleaf napot : Bool) (trusted : ℕ → Bool) (parts : BoardParts) (pointers new_pointers : List Pointer) (own : Space) (hand : TableInHand) → hand.level < 4
    → WalkBegins (pointed_scene napot trusted parts pointers) (address_space own) hand.table.number (steps_along (width_of hand.is_wide ∷ replicate hand.level table_entries))
    → FollowsWhere nonleaf parts.memory own hand pointers new_pointers → ArePassed napot trusted parts pointers new_pointers
passed_where true napot trusted parts pointers new_pointers own hand low begins follows = followed_are_passed napot trusted parts pointers new_pointers own hand low begins follows
passed_where false napot trusted parts pointers new_pointers own hand low begins same = subst (ArePassed napot trusted parts pointers) (sym same) (λ pointer there. inl there)

module _ (features : Features) (trusted : ℕ → Bool) (events : ℕ) (old new : BoardParts) (pointers new_pointers : List Pointer) (invariants : BoardInvariant old events) where
  abbrev AreCalls : Type 0
  AreCalls = (calls : List PointedCall) × DoPointedInTurn features.napot trusted events old pointers calls new new_pointers

  abbrev KeepsAt : Start → Type 0
  KeepsAt start =
      KeepsFound start.found start.space start.hand.page old new × FollowsWhere features.nonleaf old.memory start.space start.hand pointers new_pointers

  abbrev Passed : BoardParts → Type 0
  Passed parts = ArePassed features.napot trusted parts pointers new_pointers

  -- FROM A POINTER what is found is cached, and then pointers are kept
  from_pointer : (own : Space) (page : ℕ) (kind : AccessKind) (pointer : Pointer) (translation : Translation) → IsDeepest pointers own page pointer
      → LeadsTo features.napot old.memory (hand_at pointer page) kind translation → KeepsAt (at_pointer own (hand_at pointer page) translation) → AreCalls
  from_pointer own page kind pointer translation deepest leads (keeps, follows) =
      let low = pointer.in_range in
      let steps : steps_in (hand_at pointer page) ≡ steps_along (widths_below pointer.level) page = ap (map step_at) (sym (indices_from_next pointer.level page)) in
      let passed : Passed new =
      passed_where features.nonleaf features.napot trusted new pointers new_pointers own (hand_at pointer page) (omega (arith, low))
      (begins_there features.napot trusted new pointers own page pointer deepest.among deepest.own)
      (subst (λ (p : BoardParts). FollowsWhere features.nonleaf p.memory own (hand_at pointer page) pointers new_pointers) (sym keeps.1) follows) in
      let led : IsLedTo features.napot trusted old pointers own page translation = (
        pointer.table.number,
        steps_along (widths_below pointer.level),
        begins_there features.napot trusted old pointers own page pointer deepest.among deepest.own,
        subst (λ s. Ends (format_of features.napot) (slice_get old.memory) pointer.table.number s (mapping_of translation)) steps leads.ends,
      ) in
      let sound = found_sound (Some translation) own page events old new keeps invariants in (
        Fill own page translation ∷ Point ∷ [],
        (
          invariants,
          tt,
          (
            new,
            pointers,
            (record { led = led; kept = keeps.0; rest = keeps.1 }, refl),
            (sound_more new events sound, tt, (new, new_pointers, (refl, passed), (refl, refl))),
          ),
        ),
      )

  -- FROM THE ROOT pointers are kept, and then what is found is cached, where walks know leaves of 64 KiB
  module _ (request : Request) (own : Space) (root : TableInHand) (kind : DeviceKind) (plugged : kind_in old.devices request.device ≡ Some kind) (walks : Walks old request own root) where
    root_passed : FollowsWhere features.nonleaf old.memory own root pointers new_pointers → Passed old
    root_passed follows =
        passed_where features.nonleaf features.napot trusted old pointers new_pointers own root (root_is_low old request own root walks)
        (root_begins features.napot trusted old pointers request own root kind plugged walks) follows

    nothing_found : KeepsAt (at_root own root None) → AreCalls
    nothing_found (same, follows) = (Point ∷ [], (invariants, tt, (new, new_pointers, (same, root_passed follows), (refl, refl))))

    found_there : (asked : AccessKind) (translation : Translation) → LeadsTo features.napot old.memory root asked translation
        → KeepsAt (at_root own root (Some translation)) → AreCalls
    found_there asked translation leads (keeps, follows) =
        let steps_to = steps_along (width_of root.is_wide ∷ replicate root.level table_entries) in
        let led : IsLedTo features.napot trusted old new_pointers own root.page translation = (
          root.table.number,
          steps_to,
          root_begins features.napot trusted old new_pointers request own root kind plugged walks,
          subst (λ s. Ends (format_of features.napot) (slice_get old.memory) root.table.number s (mapping_of translation)) (root_steps root) leads.ends,
        ) in (
          Point ∷ Fill own root.page translation ∷ [],
          (
            invariants,
            tt,
            (
              old,
              new_pointers,
              (refl, root_passed follows),
              (sound_more old events invariants, tt, (new, new_pointers, (record { led = led; kept = keeps.0; rest = keeps.1 }, refl), (refl, refl))),
            ),
          ),
        )

    from_root : (asked : AccessKind) (found : Option Translation) → IsFoundAtRoot features.napot old.memory root asked found → KeepsAt (at_root own root found) → AreCalls
    from_root asked found = by features.napot refl found
      where
        by : (b : Bool) → features.napot ≡ b → (found : Option Translation) → IsFoundAtRoot b old.memory root asked found → KeepsAt (at_root own root found) → AreCalls
        by false is found none keeps = nothing_found (subst (λ (f : Option Translation). KeepsAt (at_root own root f)) none keeps)
        by true is None nowhere keeps = nothing_found keeps
        by true is (Some translation) leads keeps =
            found_there asked translation (subst (λ b. LeadsTo b old.memory root asked translation) (sym is) leads) keeps

    from_start : (start : Start) → BeginsAt features.napot old.memory pointers own root request.asked.kind start → KeepsAt start → AreCalls
    from_start start (AtPointer pointer translation deepest leads is) keeps =
        from_pointer own root.page request.asked.kind pointer translation deepest leads (subst KeepsAt is keeps)
    from_start start (PastPointer pointer found deepest nowhere at is) keeps = from_root request.asked.kind found at (subst KeepsAt is keeps)
    from_start start (AtRoot found none at is) keeps = from_root request.asked.kind found at (subst KeepsAt is keeps)

pub ahead_are_calls : AheadAreCalls
ahead_are_calls features trusted events old new pointers new_pointers request kind plugged invariants (None, is, (same, same_pointers)) = ([], (same, same_pointers))
ahead_are_calls features trusted events old new pointers new_pointers request kind plugged invariants (Some start, (own, root, walks, begins), keeps) =
    from_start features trusted events old new pointers new_pointers invariants request own root kind plugged walks start begins keeps
