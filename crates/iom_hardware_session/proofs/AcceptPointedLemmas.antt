-- What is found ready by cached pointers is what the IOMMU answers to a request that is walked ahead.
use Rattle.std.proofs.Common.{◌≡◌, ◌≢◌, ◌∙◌, ◌/◌, ◌^◌, ◌<◌, ◌+◌, ◌*◌, ◌-◌, ◌⊎◌, inl, inr, ℕ, suc, Bool, true, false, List, [], Option, None, Some, option_map, Result, Ok, Err, if◌then◌else◌, ◌&&◌, nat_lt, refl, sym, ap, subst, arith}
use Rattle.std.proofs.lemmas.Bool.{leb-true, leb-false}
use Rattle.std.proofs.lemmas.Option.{cond_some, none-some, same_Some}
use Rattle.iom_base.specs.Rights.{allows}
use Rattle.iom_base.specs.Sizes.{levels_of}
use Rattle.iom_base.specs.declared.access.Access.{Access}
use Rattle.iom_base.specs.declared.access.AccessKind.{AccessKind}
use Rattle.iom_base.specs.declared.cause.Cause.{Cause}
use Rattle.iom_base.specs.declared.cause.Cause.TheVariants.{TransactionTypeDisallowed}
use Rattle.iom_base.specs.declared.size.Size.{Size}
use Rattle.iom_board.specs.BoardParts.{BoardParts, board_parts}
use Rattle.iom_device_dir.proofs.Ends.{located-too_wide}
use Rattle.iom_device_dir.specs.Cached.{cached_contexts}
use Rattle.iom_device_dir.specs.Contents.{Content}
use Rattle.iom_device_dir.specs.Located.{located_by_mode}
use Rattle.iom_device_dir.specs.Paths.{fits_directory}
use Rattle.iom_device_dir.specs.declared.context.Context.{Context}
use Rattle.iom_hardware_session.proofs.AcceptLemmas.{canonical as canonical_at, guest_physical, answered_by_frame, not_answered_by_frame}
use Rattle.iom_hardware_session.proofs.ReadyPointedLemmas.{frame_from, leads_at_root, led_frame, not_nowhere, nothing_led, one_frame, one_start}
use Rattle.iom_hardware_session.specs.Accepted.{frame_answered}
use Rattle.iom_hardware_session.specs.AcceptedPointed.{AstrayIsNotAccepted, PointedReadyIsAccepted, UnreadyAheadIsNotAccepted}
use Rattle.iom_hardware_session.specs.EventsPointed.{request_for}
use Rattle.iom_hardware_session.specs.Found.{frame_found}
use Rattle.iom_hardware_session.specs.Ready.{address_of, FindsFrame, LedFinds, RequestFinds}
use Rattle.iom_hardware_session.specs.ReadyPointed.{FindsAhead, LeadsToFrame, PointersLead, PointersLeadAstray, found_from}
use Rattle.iom_hardware_session.specs.declared.answer.Found.{Found}
use Rattle.iom_hardware_session.specs.declared.answer.Wrong.TheVariants.{NotReady}
use Rattle.iom_iommu.specs.Parts.{contexts_of, registers_of, translations_of}
use Rattle.iom_iommu.specs.Requests.{ServesRequest}
use Rattle.iom_iommu.specs.Service.{cached_for, found_context, LooksOrWalks, Serves, ServesBy, ServesIn, Translates, TranslatesIn}
use Rattle.iom_iommu.specs.Stages.{space_through, ReachesThrough, StopsThrough}
use Rattle.iom_pointed_board.proofs.WalkedLemmas.{one_walked}
use Rattle.iom_pointed_board.specs.Roots.{cached_or, hand_in, root_by, root_of}
use Rattle.iom_pointed_board.specs.Starts.{AtPointer, AtRoot, BeginsAt, IsFoundAtRoot, IsFoundFromRoot, IsStart, KeepsFound, PastPointer, Walks, WalksAhead, at_root}
use Rattle.iom_pointed_board.specs.declared.start.Start.{Start}
use Rattle.iom_pointers.specs.Pointers.{HasOneOfEachKey}
use Rattle.iom_pointers.specs.Walks.{LeadsTo}
use Rattle.iom_pointers.specs.declared.features.Features.{Features}
use Rattle.iom_pointers.specs.declared.pointer.Pointer.{Pointer}
use Rattle.iom_registers.specs.Queues.{directory_root}
use Rattle.iom_registers.specs.declared.directory.DirectoryMode.{DirectoryMode}
use Rattle.iom_registers.specs.declared.directory.DirectoryMode.TheVariants.{Off, Bare, OneLevel, TwoLevels, ThreeLevels}
use Rattle.iom_registers.specs.declared.registers.Registers.{Registers}
use Rattle.iom_stepped_requests.specs.declared.request.Request.{Request}
use Rattle.iom_stage_walk.specs.declared.walked.WalkFault.{WalkFault}
use Rattle.iom_stepped_walk.specs.declared.hand.TableInHand.{TableInHand}
use Rattle.iom_tlb.specs.Content.{Keeps, Translations}
use Rattle.iom_tlb.specs.declared.space.Space.{Space}
use Rattle.iom_tlb.specs.declared.trans_cache.Translation.{Translation}
use Rattle.iom_walk_loads.proofs.TableLemmas.{canonical, not_canonical}
use Rattle.iom_walk_loads.specs.Tables.{is_canonical}
use Rattle.iom_walk_stops.specs.Stages.{stages_of}
use Rattle.iom_walk_stops.specs.declared.stages.Stages.{Stages}
use Rattle.iom_walk_stops.specs.declared.stages.Stages.TheVariants.{First, Second, Both}
use Rattle.iom_way_survey.specs.Found.{has_directory}
use Rattle.iom_way_survey.specs.Walking.{found_of}

-- A WALK BEGINS ALIKE at each address of a page
alike : (one other : Bool) → (one ≡ true → other ≡ true) → (other ≡ true → one ≡ true) → one ≡ other
alike true other there back = sym (there refl)
alike false true there back = back refl
alike false false there back = refl

canonical_too : (size : Size) (address other : ℕ) → address / 4096 ≡ other / 4096 → is_canonical (levels_of size) address ≡ true
    → is_canonical (levels_of size) other ≡ true
canonical_too size address other same is = by (is_canonical (levels_of size) other) refl
  where
    by : (b : Bool) → is_canonical (levels_of size) other ≡ b → is_canonical (levels_of size) other ≡ true
    by true h = h
    by false h = absurd (not_canonical (levels_of size) other h (canonical_at address other same size (canonical (levels_of size) address is)))

translated_too : (size : Size) (address other : ℕ) → address / 4096 ≡ other / 4096 → nat_lt address (2 ^ (9 * levels_of size + 14)) ≡ true
    → nat_lt other (2 ^ (9 * levels_of size + 14)) ≡ true
translated_too size address other same is = by (nat_lt other (2 ^ (9 * levels_of size + 14))) refl
  where
    by : (b : Bool) → nat_lt other (2 ^ (9 * levels_of size + 14)) ≡ b → nat_lt other (2 ^ (9 * levels_of size + 14)) ≡ true
    by true h = h
    by false h =
        let small = guest_physical address other same size (leb-true (suc address) (2 ^ (9 * levels_of size + 14)) is) in
        let past = leb-false (suc other) (2 ^ (9 * levels_of size + 14)) h in absurd (omega (arith, small, past))

module _ (address other : ℕ) (same : address / 4096 ≡ other / 4096) where
  root_alike : (stages : Stages) → root_of stages address ≡ root_of stages other
  root_alike (First size root) =
      ap (λ b. if b then Some (hand_in root (levels_of size) false address) else None)
      (alike (is_canonical (levels_of size) address) (is_canonical (levels_of size) other) (canonical_too size address other same) (canonical_too size other address (sym same)))
      ∙ ap (λ p. if is_canonical (levels_of size) other then Some (record { table = root; level = levels_of size - 1; is_wide = false; page = p }) else None) same
  root_alike (Second size root) =
      ap (λ b. if b then Some (hand_in root (levels_of size) true address) else None)
      (alike (nat_lt address (2 ^ (9 * levels_of size + 14))) (nat_lt other (2 ^ (9 * levels_of size + 14))) (translated_too size address other same)
      (translated_too size other address (sym same)))
      ∙ ap (λ p. if nat_lt other (2 ^ (9 * levels_of size + 14)) then Some (record { table = root; level = levels_of size - 1; is_wide = true; page = p }) else None) same
  root_alike (Both first_size first second_size second) = refl

  root_by_alike : (stages : Option Stages) → root_by stages address ≡ root_by stages other
  root_by_alike None = refl
  root_by_alike (Some stages) = root_alike stages

  walks_alike : (parts : BoardParts) (id : ℕ) (kind : AccessKind) (own : Space) (root : TableInHand) → Walks parts (request_for id address kind) own root
      → Walks parts (request_for id other kind) own root
  walks_alike parts id kind own root walks =
      record {
        context = walks.context;
        found = walks.found;
        space = walks.space;
        root_is = sym (root_by_alike (stages_of walks.context.first_stage walks.context.second_stage)) ∙ walks.root_is;
        misses = walks.misses;
      }

-- the page that is looked for is the address's
page_in_hand : (stages : Option Stages) (address : ℕ) (root : TableInHand) → root_by stages address ≡ Some root → root.page ≡ address / 4096
page_in_hand None address root is = absurd (none-some root is)
page_in_hand (Some (First size table)) address root is =
    sym (ap (λ (r : TableInHand). r.page) (cond_some (is_canonical (levels_of size) address) (hand_in table (levels_of size) false address) root is).1)
page_in_hand (Some (Second size table)) address root is =
    sym (ap (λ (r : TableInHand). r.page) (cond_some (nat_lt address (2 ^ (9 * levels_of size + 14))) (hand_in table (levels_of size) true address) root is).1)
page_in_hand (Some (Both first_size first second_size second)) address root is = absurd (none-some root is)

-- WHAT IS CACHED IS THE ANSWER, in the address space of the context that is found
module _ (memory : List (List ℕ)) (id address : ℕ) (kind : AccessKind) (old : Translations) (answer : Result Translation WalkFault) (new : Translations)
    (context : Context) (own : Space) (spaced : space_through context.first_stage context.second_stage context ≡ Some own) (translation : Translation)
    (cached : cached_for (old (own, address / 4096)) kind ≡ Some translation) where
  by_context : (other : Context) → other ≡ context → Translates true other.first_stage other.second_stage other memory address kind old answer new
      → answer ≡ Ok translation
  by_context other same serves =
      let Reaches = ReachesThrough context.first_stage context.second_stage memory address kind in
      let Stops = StopsThrough context.first_stage context.second_stage memory address kind in
      let there = subst (λ (c : Context). Translates true c.first_stage c.second_stage c memory address kind old answer new) same serves in
      let looks = subst (λ s. TranslatesIn s true Reaches Stops memory address kind old answer new) spaced there in
      (subst (λ c. LooksOrWalks true c Reaches Stops (own, address / 4096) old answer new) cached looks).0

  by_width : (fits : Bool) (kept : Option Context) (located : Result Context Cause) → (fits ≡ false → located ≡ Err TransactionTypeDisallowed)
      → cached_or (if fits then kept else None) (found_of located) ≡ Some context
      → ServesBy true (if fits then found_context kept located else Err TransactionTypeDisallowed) memory address kind old answer new → answer ≡ Ok translation
  by_width true (Some other) located wide found serves = by_context other (same_Some other context found) serves
  by_width true None (Ok other) wide found serves = by_context other (same_Some other context found) serves
  by_width true None (Err cause) wide found serves = absurd (none-some context found)
  by_width false kept (Ok other) wide found serves = let never : Ok other ≡ Err TransactionTypeDisallowed = wide refl in let no : ⊥ = cc in absurd no
  by_width false kept (Err cause) wide found serves = absurd (none-some context found)

  by_mode : (mode : DirectoryMode) (kept : Option Context) (root : ℕ)
      → cached_or (if has_directory mode && fits_directory mode id then kept else None) (found_of (located_by_mode mode memory root id)) ≡ Some context
      → ServesIn true mode (if fits_directory mode id then found_context kept (located_by_mode mode memory root id) else Err TransactionTypeDisallowed) memory address kind
      old answer new → answer ≡ Ok translation
  unfolding located_by_mode
  by_mode Off kept root found serves = absurd (none-some context found)
  by_mode Bare kept root found serves = absurd (none-some context found)
  by_mode OneLevel kept root found serves =
      by_width (fits_directory OneLevel id) kept (located_by_mode OneLevel memory root id) (located-too_wide OneLevel memory root id) found serves
  by_mode TwoLevels kept root found serves =
      by_width (fits_directory TwoLevels id) kept (located_by_mode TwoLevels memory root id) (located-too_wide TwoLevels memory root id) found serves
  by_mode ThreeLevels kept root found serves =
      by_width (fits_directory ThreeLevels id) kept (located_by_mode ThreeLevels memory root id) (located-too_wide ThreeLevels memory root id) found serves

-- A REQUEST THAT WALKS TABLES, and is walked ahead
module _ (parts between : BoardParts) (id address : ℕ) (kind : AccessKind) (own : Space) (root : TableInHand) (walks : Walks parts (request_for id address kind) own root)
    (answer : Result Translation WalkFault) (new : Translations)
    (serves : Serves true between.memory (registers_of between.iommu) (contexts_of between.iommu) id address kind (translations_of between.iommu) answer new) where
  -- it is answered by what is found from a pointer; where nothing is, the board is as it was
  abbrev GoesBy : Start → Type 0
  GoesBy start = ((start.found ≡ None) × (between ≡ parts)) ⊎ ((translation : Translation) × (start.found ≡ Some translation) × (answer ≡ Ok translation))

  abbrev KeepsFrom : Start → Type 0
  KeepsFrom start = KeepsFound start.found start.space start.hand.page parts between

  was_kept : (translation : Translation) (page : ℕ) → Keeps true (translations_of parts.iommu) (own, page) translation (translations_of between.iommu)
      → translations_of between.iommu (own, page) ≡ Some translation
  was_kept translation page (inl sets) = sets.kept
  was_kept translation page (inr (unsure, none, same)) = let no : ⊥ = cc in absurd no

  by_cache : (translation : Translation) → allows translation.rights kind ≡ true → KeepsFound (Some translation) own root.page parts between → answer ≡ Ok translation
  by_cache translation allowed (kept, rest) =
      let registers : registers_of between.iommu ≡ registers_of parts.iommu = ap (λ p. p.registers) kept.1 in
      let contexts : contexts_of between.iommu ≡ contexts_of parts.iommu = ap (λ p. cached_contexts p.contexts) kept.1 in
      let memory : between.memory ≡ parts.memory = ap (λ (p : BoardParts). p.memory) rest in
      let page = page_in_hand (stages_of walks.context.first_stage walks.context.second_stage) address root walks.root_is in
      let there = subst (λ (p : ℕ). translations_of between.iommu (own, p) ≡ Some translation) page (was_kept translation root.page kept.0) in
      let cached = ap (λ c. cached_for c kind) there ∙ ap (λ b. if b then Some translation else None) allowed in
      by_mode parts.memory id address kind (translations_of between.iommu) answer new walks.context own walks.space translation cached
      (registers_of parts.iommu).ddtp.mode (contexts_of parts.iommu id) (directory_root (registers_of parts.iommu)) walks.found
      (subst (λ (r : Registers). Serves true parts.memory r (contexts_of parts.iommu) id address kind (translations_of between.iommu) answer new) registers
      (subst (λ (c : Content ℕ Context). Serves true parts.memory (registers_of between.iommu) c id address kind (translations_of between.iommu) answer new) contexts
      (subst (λ (m : List (List ℕ)). Serves true m (registers_of between.iommu) (contexts_of between.iommu) id address kind (translations_of between.iommu) answer new) memory
      serves)))

  by_root : (napot : Bool) (found : Option Translation) (start : Start) → IsFoundAtRoot napot parts.memory root kind found → start ≡ at_root own root found → KeepsFrom start
      → GoesBy start
  by_root false found start from is keeps =
      let none = ap (λ (s : Start). s.found) is ∙ from in inl (none, subst (λ f. KeepsFound f start.space start.hand.page parts between) none keeps)
  by_root true None start nowhere is keeps = inl (ap (λ (s : Start). s.found) is, subst KeepsFrom is keeps)
  by_root true (Some translation) start leads is keeps =
      inr (translation, ap (λ (s : Start). s.found) is, by_cache translation leads.allowed (subst KeepsFrom is keeps))

  goes : (napot : Bool) (pointers : List Pointer) (start : Start) → BeginsAt napot parts.memory pointers own root kind start → KeepsFrom start → GoesBy start
  goes napot pointers start (AtPointer pointer translation deepest leads is) keeps =
      inr (translation, ap (λ (s : Start). s.found) is, by_cache translation leads.allowed (subst KeepsFrom is keeps))
  goes napot pointers start (PastPointer pointer found deepest nowhere from is) keeps = by_root napot found start from is keeps
  goes napot pointers start (AtRoot found none from is) keeps = by_root napot found start from is keeps

-- THE ANSWER to a request that is walked ahead, at an address of the page
module _ (features : Features) (parts between : BoardParts) (pointers between_pointers : List Pointer) (id page address : ℕ)
    (same : address / 4096 ≡ address_of page / 4096) (kind : AccessKind) (answer : Result Translation WalkFault) (new : Translations)
    (serves : Serves true between.memory (registers_of between.iommu) (contexts_of between.iommu) id address kind (translations_of between.iommu) answer new) where
  abbrev IsAhead : Type 0
  IsAhead = WalksAhead features parts pointers (request_for id address kind) between between_pointers

  abbrev at_page : Request
  at_page = request_for id (address_of page) kind

  abbrev led_to : Option Translation → Option ℕ
  led_to = option_map (λ (t : Translation). t.frame)

  of_page : (start : Start) → IsStart features.napot parts pointers (request_for id address kind) (Some start) → IsStart features.napot parts pointers at_page (Some start)
  of_page start (own, root, walks, begins) = (own, root, walks_alike address (address_of page) same parts id kind own root walks, begins)

  -- no walk from the root leads anywhere that knows leaves of 64 KiB
  abbrev IsLedNowhere : Type 0
  IsLedNowhere = features.napot ≡ true → (translation : Translation) → IsFoundFromRoot parts at_page (Some translation) → ⊥

  led_nowhere_of : (start : Start) (own : Space) (root : TableInHand) → Walks parts (request_for id address kind) own root
      → BeginsAt features.napot parts.memory pointers own root kind start → start.found ≡ None → IsLedNowhere
  led_nowhere_of start own root walks begins none knows translation (its, first, goes, leads) =
      let (same_space, same_root) = one_walked parts at_page own its root first (walks_alike address (address_of page) same parts id kind own root walks) goes in
      nothing_led parts.memory pointers own root kind start (subst (λ n. BeginsAt n parts.memory pointers own root kind start) knows begins) none translation
      (subst (λ r. LeadsTo true parts.memory r kind translation) (sym same_root) leads)

  -- by the frame, where each walk ahead that leads somewhere leads to it, and the board as it was answers by it where none does
  frame_ahead : (frame : ℕ) → LeadsToFrame features.napot parts pointers id page frame kind → (IsLedNowhere → between ≡ parts → frame_answered answer ≡ Some frame) → IsAhead
      → frame_answered answer ≡ Some frame
  frame_ahead frame leads stays (None, none, (same_parts, same_pointers)) =
      stays (λ knows translation led. none led.0 led.1 (walks_alike (address_of page) address (sym same) parts id kind led.0 led.1 led.2)) same_parts
  frame_ahead frame leads stays (Some start, (own, root, walks, begins), (keeps, follows)) =
      elim (goes parts between id address kind own root walks answer new serves features.napot pointers start begins keeps) [
        | inl (none, same_parts) ↦ stays (led_nowhere_of start own root walks begins none) same_parts
        | inr (translation, found, is) ↦ ap frame_answered is
            ∙ sym (frame_from start translation (found_from start translation) start.is_root refl refl)
            ∙ leads (found_from start translation) (start, translation, of_page start (own, root, walks, begins), found, refl)
      ]

  -- not by the frame, where a walk ahead leads elsewhere
  not_ahead : HasOneOfEachKey pointers → (frame : ℕ) (found : Found) → FindsAhead features.napot parts pointers id page kind found → frame_found found ≢ Some frame → IsAhead
      → frame_answered answer ≢ Some frame
  not_ahead each frame found (other, elsewhere, (own, root, walks, begins), leads, is) isnt (None, none, kept) accepted =
      none own root (walks_alike (address_of page) address (sym same) parts id kind own root walks)
  not_ahead each frame found (other, elsewhere, begun, leads, is) isnt (Some start, (own, root, walks, begins), (keeps, follows)) accepted =
      let that : led_frame start ≡ Some elsewhere.frame =
      one_start features.napot parts pointers at_page each start other (of_page start (own, root, walks, begins)) begun ∙ ap led_to leads in
      elim (goes parts between id address kind own root walks answer new serves features.napot pointers start begins keeps) [
        | inl (none, same_parts) ↦ none-some elsewhere.frame (sym (ap led_to none) ∙ that)
        | inr (translation, led, gives) ↦
            isnt (frame_from other elsewhere found other.is_root refl is ∙ sym that ∙ ap led_to led ∙ sym (ap frame_answered gives) ∙ accepted)
      ]

  -- not by the frame, where what is found from the root is something else, and no pointer is cached
  not_from_root : features.napot ≡ true → pointers ≡ [] → (frame : ℕ) (found : Found) (led : Option Translation) → IsFoundFromRoot parts at_page led
      → LedFinds led (RequestFinds parts id page kind) found → frame_found found ≢ Some frame
      → (RequestFinds parts id page kind found → between ≡ parts → frame_answered answer ≢ Some frame) → IsAhead → frame_answered answer ≢ Some frame
  not_from_root knows bare frame found led from own isnt stays (None, none, (same_parts, same_pointers)) accepted = unwalked led from own
    where
      unwalked : (seen : Option Translation) → IsFoundFromRoot parts at_page seen → LedFinds seen (RequestFinds parts id page kind) found → ⊥
      unwalked None nowhere own = stays own same_parts accepted
      unwalked (Some translation) (its, first, walked, leads) own = none its first (walks_alike (address_of page) address (sym same) parts id kind its first walked)
  not_from_root knows bare frame found led from own isnt stays (Some start, (space, root, walks, begins), (keeps, follows)) accepted =
      elim (goes parts between id address kind space root walks answer new serves features.napot pointers start begins keeps) [
        | inl (none, same_parts) ↦ by_none led from own none same_parts
        | inr (translation, leads, gives) ↦ by_some led from own translation leads gives
      ]
    where
      by_none : (seen : Option Translation) → IsFoundFromRoot parts at_page seen → LedFinds seen (RequestFinds parts id page kind) found → start.found ≡ None → between ≡ parts → ⊥
      by_none None nowhere own none same_parts = stays own same_parts accepted
      by_none (Some other) is own none same_parts = led_nowhere_of start space root walks begins none knows other is

      root_leads : (translation : Translation) → start.found ≡ Some translation → LeadsTo true parts.memory root kind translation
      root_leads translation leads = leads_at_root parts.memory space root kind start (subst (λ p. BeginsAt true parts.memory p space root kind start) bare
          (subst (λ n. BeginsAt n parts.memory pointers space root kind start) knows begins)) translation leads

      by_some : (seen : Option Translation) → IsFoundFromRoot parts at_page seen → LedFinds seen (RequestFinds parts id page kind) found → (translation : Translation)
          → start.found ≡ Some translation → answer ≡ Ok translation → ⊥
      by_some None nowhere own translation leads gives =
          not_nowhere true parts.memory root kind translation (root_leads translation leads)
          (nowhere space root (walks_alike address (address_of page) same parts id kind space root walks))
      by_some (Some other) (its, first, walked, leads_there) own translation leads gives =
          let (same_space, same_root) = one_walked parts at_page space its root first (walks_alike address (address_of page) same parts id kind space root walks) walked in
          let one = one_frame true parts.memory root kind translation other (root_leads translation leads)
          (subst (λ r. LeadsTo true parts.memory r kind other) (sym same_root) leads_there) in
          isnt (ap frame_found own ∙ ap (λ (f : ℕ). Some f) (sym one) ∙ sym (ap frame_answered gives) ∙ accepted)

same_page : (address page : ℕ) → address < 2 ^ 64 → address / 4096 ≡ page → address / 4096 ≡ address_of page / 4096
same_page address page low at = omega (arith, low, at)

-- for an access of the kind
of_kind : (between : BoardParts) (id : ℕ) (access : Access) (kind : AccessKind) (answer : Result Translation WalkFault) (new : Translations) → access.kind ≡ kind
    → ServesRequest between.memory between.iommu id access answer new
    → Serves true between.memory (registers_of between.iommu) (contexts_of between.iommu) id access.address kind (translations_of between.iommu) answer new
of_kind between id access kind answer new of serves =
    subst (λ (k : AccessKind). Serves true between.memory (registers_of between.iommu) (contexts_of between.iommu) id access.address k (translations_of between.iommu) answer new)
    of serves

-- what is found by hardware's own walk, where none leads anywhere that knows leaves of 64 KiB
by_own_walk : (napot : Bool) (parts : BoardParts) (id page frame : ℕ) (kind : AccessKind)
    → (napot ≡ true → (translation : Translation) → IsFoundFromRoot parts (request_for id (address_of page) kind) (Some translation) → ⊥) → FindsFrame napot parts id page frame kind
    → FindsFrame false parts id page frame kind
by_own_walk false parts id page frame kind nowhere finds = finds
by_own_walk true parts id page frame kind nowhere (found, (None, none, own), is) = (found, own, is)
by_own_walk true parts id page frame kind nowhere (found, (Some translation, led, own), is) = absurd (nowhere refl translation led)

pub pointed_ready_accepted : PointedReadyIsAccepted
pointed_ready_accepted hardware features pointers before id page beside (frame, rights, holds, finds) pointed alone = (
  frame,
  rights,
  holds,
  λ inside kind allowed access between between_pointers answer new of low at ahead serves.
      let parts = board_parts hardware.board in
      let leads = subst (λ b. PointersLead b parts id page frame kind) beside (pointed frame rights holds kind allowed) in
      frame_ahead features parts between pointers between_pointers id page access.address (same_page access.address page low at) kind answer new
      (of_kind between id access kind answer new of serves) frame leads
      (λ nowhere same. answered_by_frame parts id page frame kind (by_own_walk features.napot parts id page frame kind nowhere (finds kind allowed)) alone inside access answer new of low
      at (subst (λ (p : BoardParts). ServesRequest p.memory p.iommu id access answer new) same serves))
      ahead,
)

pub astray_not_accepted : AstrayIsNotAccepted
astray_not_accepted hardware features pointers before id page found beside each (frame, rights, holds, astray) =
    let parts = board_parts hardware.board in
    let (kind, allowed, (finds, isnt)) = subst (λ b. PointersLeadAstray b parts id page frame rights (NotReady found)) beside astray in (
      frame,
      rights,
      holds,
      (
        kind,
        allowed,
        λ access between between_pointers answer new of low at ahead serves.
            not_ahead features parts between pointers between_pointers id page access.address (same_page access.address page low at) kind answer new
            (of_kind between id access kind answer new of serves) each frame found finds isnt ahead,
      ),
    )

pub unready_ahead_not_accepted : UnreadyAheadIsNotAccepted
unready_ahead_not_accepted hardware features before id page found knows (frame, rights, holds, (kind, allowed, ((led, from, own), isnt))) alone = (
  frame,
  rights,
  holds,
  (
    kind,
    allowed,
    λ access between between_pointers answer new of low at ahead serves.
        let parts = board_parts hardware in
        not_from_root features parts between [] between_pointers id page access.address (same_page access.address page low at) kind answer new
        (of_kind between id access kind answer new of serves) knows refl frame found led from own isnt
        (λ finds same. not_answered_by_frame parts id page frame kind found (finds, isnt) alone access answer new of low at
        (subst (λ (p : BoardParts). ServesRequest p.memory p.iommu id access answer new) same serves))
        ahead,
  ),
)
