-- What a walk from a cached pointer finds is one: of each key one pointer is cached, and a walk ends at one leaf.
use Rattle.std.proofs.Common.{◌≡◌, ◌∙◌, ◌⊎◌, inl, inr, ℕ, ◌/◌, ◌==◌, ◌≤◌, ◌≢◌, Bool, true, false, List, [], ◌∷◌, ◌+◌, length, slice_get, Option, None, Some, option_map, IfNone, if◌then◌else◌, refl, sym, ap, subst, arith}
use Rattle.std.proofs.lemmas.Bool.{eqb-true, false≢true}
use Rattle.iom_base.specs.Rights.{allows}
use Rattle.iom_base.specs.declared.access.AccessKind.{AccessKind}
use Rattle.iom_board.specs.BoardParts.{BoardParts}
use Rattle.iom_hardware_session.proofs.SameLemmas.{both, one_space}
use Rattle.iom_hardware_session.specs.EventsPointed.{request_for}
use Rattle.iom_hardware_session.specs.Found.{frame_found}
use Rattle.iom_hardware_session.specs.Ready.{address_of}
use Rattle.iom_hardware_session.specs.ReadyPointed.{FindsAhead, LeadsToFrame, found_from}
use Rattle.iom_hardware_session.specs.declared.answer.Found.{Found}
use Rattle.iom_hardware_session.specs.declared.answer.Found.TheVariants.{Pointed, Walk}
use Rattle.iom_hardware_ways.proofs.ListLemmas.{in_none}
use Rattle.iom_hardware_ways.specs.Formats.{format_of}
use Rattle.iom_hardware_ways.specs.Scenes.{mapping_of}
use Rattle.iom_pointed_board.proofs.WalkedLemmas.{one_walked}
use Rattle.iom_pointed_board.specs.Starts.{AtPointer, AtRoot, BeginsAt, IsFoundAtRoot, IsStart, PastPointer, Walks}
use Rattle.iom_pointed_board.specs.declared.start.Start.{Start}
use Rattle.iom_pointers.specs.Pointers.{HasNoneFor, HasOneOfEachKey, IsDeepest, hand_at, pages_of}
use Rattle.iom_pointers.specs.Walks.{LeadsNowhere, LeadsTo, steps_in}
use Rattle.iom_pointers.specs.declared.pointer.Pointer.{Pointer}
use Rattle.iom_reach.specs.Memory.{Ends, Format, Found as Entry, Goes, Leaf, Memory, Nothing, Pointer as Next, WalkStep}
use Rattle.iom_reach.specs.Scene.{Mapping}
use Rattle.iom_stepped_requests.specs.declared.request.Request.{Request}
use Rattle.iom_stepped_walk.specs.declared.hand.TableInHand.{TableInHand}
use Rattle.iom_tlb.specs.contracts.space.SpacePartialEq.TheImpl as spaces
use Rattle.iom_tlb.specs.declared.space.Space.{Space}
use Rattle.iom_tlb.specs.declared.trans_cache.Translation.{Translation}

-- where nothing is found
pub if_none : {A P : Type 0} (found : Option A) → P → IfNone found P
if_none None p = p
if_none (Some own) p = tt

some_is : {X : Type 0} (x y : X) → Some x ≡ Some y → x ≡ y
some_is x y e = cc

none_some : {X : Type 0} (x : X) → None ≡ Some x → ⊥
none_some x e = cc

-- A WALK ENDS AT ONE LEAF
goes_alike : {X : Type 0} (found : Entry X) (On Other : ℕ → Type 0) (one other : X) → ((next : ℕ) → On next → Other next → one ≡ other)
    → Goes found On (λ said. said ≡ one) → Goes found Other (λ said. said ≡ other) → one ≡ other
goes_alike Nothing On Other one other below a b = absurd a
goes_alike (Next next) On Other one other below a b = below next a b
goes_alike (Leaf said) On Other one other below a b = sym a ∙ b

one_end : {X : Type 0} (format : Format X) (memory : Memory) (table : ℕ) (steps : List WalkStep) (one other : X) → Ends format memory table steps one
    → Ends format memory table steps other → one ≡ other
one_end format memory table [] one other a b = absurd a
one_end format memory table (step ∷ steps) one other a b =
    goes_alike (format (memory (table + step.frame)) step.place steps) (λ next. Ends format memory next steps one) (λ next. Ends format memory next steps other) one other
    (λ next. one_end format memory next steps one other) a b

module _ (napot : Bool) (memory : List (List ℕ)) (hand : TableInHand) (kind : AccessKind) where
  pub one_frame : (one other : Translation) → LeadsTo napot memory hand kind one → LeadsTo napot memory hand kind other → one.frame ≡ other.frame
  one_frame one other a b =
      ap (λ (m : Mapping). m.frame) (one_end (format_of napot) (slice_get memory) hand.table.number (steps_in hand) (mapping_of one) (mapping_of other) a.ends b.ends)

  pub not_nowhere : (one : Translation) → LeadsTo napot memory hand kind one → LeadsNowhere napot memory hand kind → ⊥
  not_nowhere one leads nowhere = by (nowhere (mapping_of one) leads.ends)
    where
      by : (allows one.rights kind ≡ false) ⊎ (length memory ≤ one.frame) → ⊥
      by (inl never) = false≢true (sym never ∙ leads.allowed)
      by (inr outside) = let inside = leads.inside in omega (arith, inside, outside)

-- IT BEGINS AT ONE POINTER, or at the root
abbrev pub led_frame : Start → Option ℕ
led_frame start = option_map (λ (t : Translation). t.frame) start.found

module _ (pointers : List Pointer) (each : HasOneOfEachKey pointers) (own : Space) (page : ℕ) where
  one_deepest : (one other : Pointer) → IsDeepest pointers own page one → IsDeepest pointers own page other → one ≡ other
  one_deepest one other a b =
      let parts = both (spaces.ghosts.eq one.space own) (page / pages_of one.level == one.prefix) a.own in
      let others = both (spaces.ghosts.eq other.space own) (page / pages_of other.level == other.prefix) b.own in
      let low = a.lowest other b.among b.own in
      let high = b.lowest one a.among a.own in
      let level : one.level ≡ other.level = omega (arith, low, high) in
      each one other a.among b.among (one_space one.space own parts.0 ∙ sym (one_space other.space own others.0)) level
      (sym (eqb-true (page / pages_of one.level) one.prefix parts.1) ∙ ap (λ l. page / pages_of l) level ∙ eqb-true (page / pages_of other.level) other.prefix others.1)

  not_none : (one : Pointer) → IsDeepest pointers own page one → HasNoneFor pointers own page → ⊥
  not_none one is none = false≢true (sym (none one is.among) ∙ is.own)

module _ (napot : Bool) (memory : List (List ℕ)) (pointers : List Pointer) (each : HasOneOfEachKey pointers) (own : Space) (root : TableInHand) (kind : AccessKind) where
  abbrev led_to : Option Translation → Option ℕ
  led_to = option_map (λ (t : Translation). t.frame)

  -- from the root one is found, or none
  one_from_root : (own_napot : Bool) (one other : Option Translation) → IsFoundAtRoot own_napot memory root kind one → IsFoundAtRoot own_napot memory root kind other
      → led_to one ≡ led_to other
  one_from_root false one other a b = ap led_to (a ∙ sym b)
  one_from_root true None None a b = refl
  one_from_root true None (Some other) a b = absurd (not_nowhere true memory root kind other b a)
  one_from_root true (Some one) None a b = absurd (not_nowhere true memory root kind one a b)
  one_from_root true (Some one) (Some other) a b = ap (λ (f : ℕ). Some f) (one_frame true memory root kind one other a b)

  led_there : (pointer pointer' : Pointer) (one other : Translation) → pointer ≡ pointer' → LeadsTo napot memory (hand_at pointer root.page) kind one
      → LeadsTo napot memory (hand_at pointer' root.page) kind other → one.frame ≡ other.frame
  led_there pointer pointer' one other same a b =
      one_frame napot memory (hand_at pointer root.page) kind one other a (subst (λ p. LeadsTo napot memory (hand_at p root.page) kind other) (sym same) b)

  led_or_not : (pointer pointer' : Pointer) (one : Translation) → pointer ≡ pointer' → LeadsTo napot memory (hand_at pointer root.page) kind one
      → LeadsNowhere napot memory (hand_at pointer' root.page) kind → ⊥
  led_or_not pointer pointer' one same a b =
      not_nowhere napot memory (hand_at pointer root.page) kind one a (subst (λ p. LeadsNowhere napot memory (hand_at p root.page) kind) (sym same) b)

  one_beginning : (one other : Start) → BeginsAt napot memory pointers own root kind one → BeginsAt napot memory pointers own root kind other
      → led_frame one ≡ led_frame other
  one_beginning one other (AtPointer p t deepest leads is) (AtPointer q u lowest goes at) =
      ap led_frame is ∙ ap (λ (f : ℕ). Some f) (led_there p q t u (one_deepest pointers each own root.page p q deepest lowest) leads goes) ∙ sym (ap led_frame at)
  one_beginning one other (AtPointer p t deepest leads is) (PastPointer q found lowest nowhere from at) =
      absurd (led_or_not p q t (one_deepest pointers each own root.page p q deepest lowest) leads nowhere)
  one_beginning one other (AtPointer p t deepest leads is) (AtRoot found none from at) = absurd (not_none pointers each own root.page p deepest none)
  one_beginning one other (PastPointer p found deepest nowhere from is) (AtPointer q u lowest goes at) =
      absurd (led_or_not q p u (one_deepest pointers each own root.page q p lowest deepest) goes nowhere)
  one_beginning one other (PastPointer p found deepest nowhere from is) (PastPointer q led lowest never out at) =
      ap led_frame is ∙ one_from_root napot found led from out ∙ sym (ap led_frame at)
  one_beginning one other (PastPointer p found deepest nowhere from is) (AtRoot led none out at) =
      ap led_frame is ∙ one_from_root napot found led from out ∙ sym (ap led_frame at)
  one_beginning one other (AtRoot found none from is) (AtPointer q u lowest goes at) = absurd (not_none pointers each own root.page q lowest none)
  one_beginning one other (AtRoot found none from is) (PastPointer q led lowest never out at) =
      ap led_frame is ∙ one_from_root napot found led from out ∙ sym (ap led_frame at)
  one_beginning one other (AtRoot found none from is) (AtRoot led nor out at) = ap led_frame is ∙ one_from_root napot found led from out ∙ sym (ap led_frame at)

pub one_start : (napot : Bool) (parts : BoardParts) (pointers : List Pointer) (request : Request) → HasOneOfEachKey pointers → (one other : Start)
    → IsStart napot parts pointers request (Some one) → IsStart napot parts pointers request (Some other) → led_frame one ≡ led_frame other
one_start napot parts pointers request each one other (own, root, walks, begins) (its, first, goes, at) =
    let (same_space, same_root) = one_walked parts request own its root first walks goes in
    one_beginning napot parts.memory pointers each own root request.asked.kind one other begins
    (subst (λ (r : TableInHand). BeginsAt napot parts.memory pointers own r request.asked.kind other) (sym same_root)
    (subst (λ (s : Space). BeginsAt napot parts.memory pointers s first request.asked.kind other) (sym same_space) at))

-- where it finds nothing ahead, its walk from the root leads nowhere, if that knows leaves of 64 KiB
pub nothing_led : (memory : List (List ℕ)) (pointers : List Pointer) (own : Space) (root : TableInHand) (kind : AccessKind) (start : Start)
    → BeginsAt true memory pointers own root kind start → start.found ≡ None → (translation : Translation) → LeadsTo true memory root kind translation → ⊥
nothing_led memory pointers own root kind start (AtPointer p t deepest leads is) none translation led =
    none_some t (sym none ∙ ap (λ (s : Start). s.found) is)
nothing_led memory pointers own root kind start (PastPointer p found deepest nowhere from is) none translation led =
    not_nowhere true memory root kind translation led (subst (IsFoundAtRoot true memory root kind) (sym (ap (λ (s : Start). s.found) is) ∙ none) from)
nothing_led memory pointers own root kind start (AtRoot found nor from is) none translation led =
    not_nowhere true memory root kind translation led (subst (IsFoundAtRoot true memory root kind) (sym (ap (λ (s : Start). s.found) is) ∙ none) from)

-- what a walk finds that led to a translation is its frame
pub frame_from : (its : Start) (translation : Translation) (other : Found) (root : Bool) → its.is_root ≡ root → other ≡ found_from its translation
    → frame_found other ≡ Some translation.frame
frame_from its translation other true at is = ap frame_found (is ∙ ap (λ b. if b then Walk translation.frame else Pointed its.space translation.frame) at)
frame_from its translation other false at is = ap frame_found (is ∙ ap (λ b. if b then Walk translation.frame else Pointed its.space translation.frame) at)

-- what it finds ahead where no pointer is cached, the walk from the root leads to
pub leads_at_root : (memory : List (List ℕ)) (own : Space) (root : TableInHand) (kind : AccessKind) (start : Start) → BeginsAt true memory [] own root kind start
    → (translation : Translation) → start.found ≡ Some translation → LeadsTo true memory root kind translation
leads_at_root memory own root kind start (AtPointer p t deepest leads is) translation found = absurd (in_none p deepest.among)
leads_at_root memory own root kind start (PastPointer p led deepest nowhere from is) translation found = absurd (in_none p deepest.among)
leads_at_root memory own root kind start (AtRoot led none from is) translation found =
    subst (IsFoundAtRoot true memory root kind) (sym (ap (λ (s : Start). s.found) is) ∙ found) from

-- WHAT THE WALK FINDS, of a request at the page
module _ (napot : Bool) (parts : BoardParts) (pointers : List Pointer) (each : HasOneOfEachKey pointers) (id page : ℕ) (kind : AccessKind) where
  -- where it walks no tables
  pub led_nowhere : (start : Option Start) → IsStart napot parts pointers (request_for id (address_of page) kind) start → start ≡ None → (frame : ℕ)
      → LeadsToFrame napot parts pointers id page frame kind
  led_nowhere start is none frame found (other, translation, (its, first, goes, at), leads, found_is) =
      absurd (subst (IsStart napot parts pointers (request_for id (address_of page) kind)) none is its first goes)

  module _ (found : Option Start) (is : IsStart napot parts pointers (request_for id (address_of page) kind) found) (start : Start) (walks : found ≡ Some start) where
    begun : IsStart napot parts pointers (request_for id (address_of page) kind) (Some start)
    begun = subst (IsStart napot parts pointers (request_for id (address_of page) kind)) walks is

    led : (other : Found) → FindsAhead napot parts pointers id page kind other → frame_found other ≡ led_frame start
    led other (its, translation, begins, leads, found_is) =
        frame_from its translation other its.is_root refl found_is ∙ ap (option_map (λ (t : Translation). t.frame)) (sym leads)
        ∙ one_start napot parts pointers (request_for id (address_of page) kind) each its start begins begun

    -- where it finds nothing so
    pub led_by_root : start.found ≡ None → (frame : ℕ) → LeadsToFrame napot parts pointers id page frame kind
    led_by_root none frame other finds = absurd (none_some finds.1.frame
        (ap (option_map (λ (t : Translation). t.frame)) (sym none) ∙ sym (led other finds) ∙ frame_from finds.0 finds.1 other finds.0.is_root refl finds.4))

    -- where it leads to the frame
    pub led_to_frame : (translation : Translation) → start.found ≡ Some translation → (frame : ℕ) → translation.frame ≡ frame → LeadsToFrame napot parts pointers id page frame kind
    led_to_frame translation leads frame same other finds =
        led other finds ∙ ap (option_map (λ (t : Translation). t.frame)) leads ∙ ap (λ (f : ℕ). Some f) same

    -- it finds the translation's frame
    pub finds_ahead : (translation : Translation) → start.found ≡ Some translation → (other : Found) → other ≡ found_from start translation
        → FindsAhead napot parts pointers id page kind other
    finds_ahead translation leads other is = (start, translation, begun, leads, is)

    pub not_the_frame : (translation : Translation) (frame : ℕ) (other : Found) → other ≡ found_from start translation → (translation.frame ≡ frame → ⊥)
        → frame_found other ≢ Some frame
    not_the_frame translation frame other is elsewhere same =
        elsewhere (some_is translation.frame frame (sym (frame_from start translation other start.is_root refl is) ∙ same))
