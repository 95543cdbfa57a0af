-- What is found ready is what the IOMMU answers.
use Rattle.std.proofs.Common.{◌≡◌, ◌≢◌, ◌∙◌, ◌/◌, ◌^◌, ◌<◌, ◌≤◌, ◌⊎◌, inl, inr, ℕ, Bool, true, false, List, length, Option, None, Some, Result, Ok, Err, IfSome, if◌then◌else◌, ◌&&◌, nat_lt, ltb-false, refl, sym, ap, subst, arith}
use Rattle.iom_base.specs.Rights.{rw}
use Rattle.iom_base.specs.Sizes.{levels_of}
use Rattle.iom_base.specs.Tables.{access_fault_of}
use Rattle.iom_base.specs.declared.access.AccessKind.{AccessKind}
use Rattle.iom_base.specs.declared.cause.Cause.{Cause}
use Rattle.iom_base.specs.declared.cause.Cause.TheVariants.{AllInboundDisallowed, TransactionTypeDisallowed}
use Rattle.iom_base.specs.declared.rights.Rights.{Rights}
use Rattle.iom_base.specs.declared.size.Size.{Size}
use Rattle.iom_base.specs.declared.size.Size.TheVariants.{Sv39, Sv48}
use Rattle.iom_board.specs.BoardParts.{BoardParts, board_parts}
use Rattle.iom_device_dir.proofs.Ends.{located-too_wide}
use Rattle.iom_device_dir.specs.Located.{located_by_mode}
use Rattle.iom_device_dir.specs.Paths.{fits_directory}
use Rattle.iom_device_dir.specs.declared.context.Context.{Context}
use Rattle.iom_device_dir.specs.declared.stages.FirstStage.{FirstStage}
use Rattle.iom_device_dir.specs.declared.stages.FirstStage.TheVariants as first
use Rattle.iom_device_dir.specs.declared.stages.SecondStage.{SecondStage}
use Rattle.iom_device_dir.specs.declared.stages.SecondStage.TheVariants as second
use Rattle.iom_hardware_session.specs.Accepted.{frame_answered, AnswersAre, HasOneStage, IsOneStage, ReadyIsAccepted, UnreadyIsNotAccepted}
use Rattle.iom_hardware_session.specs.Found.{frame_found}
use Rattle.iom_hardware_session.specs.Ready.{address_of, looked_space, ContextFinds, FindsFrame, FindsInstead, LookFinds, ModeFinds, RequestFinds, SpaceFinds, StagesFind, WalkFinds}
use Rattle.iom_hardware_session.specs.declared.answer.Found.{Found}
use Rattle.iom_hardware_session.specs.declared.answer.Found.TheVariants.{NoContext, Walk}
use Rattle.iom_iommu.specs.Parts.{contexts_of, registers_of, translations_of}
use Rattle.iom_iommu.specs.Service.{cached_for, found_context, own_page, LooksOrWalks, ServesBy, ServesIn, Translates, Walks}
use Rattle.iom_pointed_board.specs.Roots.{cached_or, context_found}
use Rattle.iom_registers.specs.Queues.{directory_root}
use Rattle.iom_registers.specs.declared.directory.DirectoryMode.{DirectoryMode}
use Rattle.iom_registers.specs.declared.directory.DirectoryMode.TheVariants.{Off, Bare, OneLevel, TwoLevels, ThreeLevels}
use Rattle.iom_stage_walk.proofs.Exact.{one_walked, reached_not_stopped}
use Rattle.iom_stage_walk.proofs.OneSecond.{leads_or_faults, one_walked_second}
use Rattle.iom_stage_walk.specs.Both.{plain}
use Rattle.iom_stage_walk.specs.Entries.{entries}
use Rattle.iom_stage_walk.specs.Paths.{first_widths, leaf_level, path_of, IsCanonical, IsInMemory, Reaches, ReachesFirst, StopsFirst}
use Rattle.iom_stage_walk.specs.Second.{second_widths, IsGuestPhysical, ReachesSecond, StopsSecond}
use Rattle.iom_stage_walk.specs.declared.walked.Walked.{Walked}
use Rattle.iom_stage_walk.specs.declared.walked.WalkFault.{WalkFault}
use Rattle.iom_tlb.specs.Content.{Key, Translations}
use Rattle.iom_tlb.specs.declared.space.Space.{Space}
use Rattle.iom_tlb.specs.declared.space.Space.TheVariants as space
use Rattle.iom_tlb.specs.declared.trans_cache.Translation.{Translation}
use Rattle.iom_way_survey.specs.Found.{has_directory, mode_in}
use Rattle.iom_way_survey.specs.Walking.{found_of}

some_is : {X : Type 0} (x y : X) → Some x ≡ Some y → x ≡ y
some_is x y e = cc

-- WALKS begin alike at each address of a page
module _ (address other : ℕ) (same : address / 4096 ≡ other / 4096) where
  pub canonical : (size : Size) → IsCanonical (levels_of size) address → IsCanonical (levels_of size) other
  canonical Sv39 (inl below) = inl (omega (arith, same, below))
  canonical Sv39 (inr above) = inr (omega (arith, same, above))
  canonical Sv48 (inl below) = inl (omega (arith, same, below))
  canonical Sv48 (inr above) = inr (omega (arith, same, above))

  pub guest_physical : (size : Size) → IsGuestPhysical (levels_of size) address → IsGuestPhysical (levels_of size) other
  guest_physical Sv39 below = omega (arith, same, below)
  guest_physical Sv48 below = omega (arith, same, below)

  first_there : (size : Size) (memory : List (List ℕ)) (root : ℕ) (kind : AccessKind) (walked : Walked)
      → ReachesFirst (levels_of size) memory root address kind walked → ReachesFirst (levels_of size) memory root other kind walked
  first_there size memory root kind walked reached =
      record {
        canonical = canonical size reached.canonical;
        path = subst (λ (page : ℕ). Reaches (entries memory) kind root (path_of (first_widths (levels_of size)) page) walked.frame walked.rights) same reached.path;
        inside = reached.inside;
        level = subst (λ (page : ℕ). walked.level ≡ leaf_level (entries memory) root (path_of (first_widths (levels_of size)) page)) same reached.level;
        no_guest = reached.no_guest;
      }

  second_there : (size : Size) (memory : List (List ℕ)) (root : ℕ) (kind : AccessKind) (walked : Walked)
      → ReachesSecond (levels_of size) memory root address kind walked → ReachesSecond (levels_of size) memory root other kind walked
  second_there size memory root kind walked reached =
      record {
        leads = record {
          guest_physical = guest_physical size reached.leads.guest_physical;
          path = subst (λ (page : ℕ). Reaches (entries memory) kind root (path_of (second_widths (levels_of size)) page) walked.frame walked.rights) same reached.leads.path;
          inside = reached.leads.inside;
        };
        level = subst (λ (page : ℕ). walked.level ≡ leaf_level (entries memory) root (path_of (second_widths (levels_of size)) page)) same reached.level;
        no_guest = reached.no_guest;
      }

-- A REQUEST of the device at the address, and what hardware finds of its page
module _ (sure : Bool) (parts : BoardParts) (id address : ℕ) (low : address < 2 ^ 64) (kind : AccessKind) (found : Found) (answer : Result Translation WalkFault) (new : Translations) where
  -- it is answered by what is found, but where the page is a frame itself and outside memory
  abbrev Agrees : Type 0
  Agrees = (frame_answered answer ≡ frame_found found)
      ⊎ ((length parts.memory ≤ address / 4096) × (frame_found found ≡ Some (address / 4096)) × (frame_answered answer ≡ None))

  -- where nothing translates, the address is its own
  own_there : found ≡ Walk (address / 4096) → answer ≡ own_page parts.memory address kind → Agrees
  own_there walk gives = by (nat_lt (address / 4096) (length parts.memory)) refl
    where
      by : (b : Bool) → nat_lt (address / 4096) (length parts.memory) ≡ b → Agrees
      by true h =
          inl (ap frame_answered gives
          ∙ ap (λ b. frame_answered (if b then Ok (record { frame = address / 4096; rights = rw; order = 0 }) else Err (plain (access_fault_of kind)))) h
          ∙ sym (ap frame_found walk))
      by false h =
          inr (
            ltb-false (address / 4096) (length parts.memory) h,
            ap frame_found walk,
            ap frame_answered gives
                ∙ ap (λ b. frame_answered (if b then Ok (record { frame = address / 4096; rights = rw; order = 0 }) else Err (plain (access_fault_of kind)))) h,
          )

  -- a walk from the page's own address ends as one from any address of it
  walked_there : (Found' There : Walked → Type 0) (FoundStop Stops : WalkFault → Type 0) (key : Key) (old : Translations)
      → ((walked other : Walked) → Found' walked → There other → walked ≡ other) → ((walked : Walked) (fault : WalkFault) → Found' walked → Stops fault → ⊥)
      → ((walked : Walked) (fault : WalkFault) → There walked → FoundStop fault → ⊥)
      → WalkFinds Found' FoundStop found → (a : Result Translation WalkFault) → answer ≡ a → Walks sure There Stops key old a new → Agrees
  walked_there Found' There FoundStop Stops key old one never nor (Ok walked, reached, by) (Ok translation) e (other, there, is, kept) =
      inl (ap frame_answered e ∙ ap (λ (t : Translation). Some t.frame) is ∙ sym (ap (λ (w : Walked). Some w.frame) (one walked other reached there)) ∙ sym (ap frame_found by))
  walked_there Found' There FoundStop Stops key old one never nor (Ok walked, reached, by) (Err fault) e (stops, kept) = absurd (never walked fault reached stops)
  walked_there Found' There FoundStop Stops key old one never nor (Err stop, stopped, by) (Ok translation) e (other, there, is, kept) = absurd (nor other stop there stopped)
  walked_there Found' There FoundStop Stops key old one never nor (Err stop, stopped, by) (Err fault) e walks = inl (ap frame_answered e ∙ sym (ap frame_found by))

  -- a translation that is cached is the answer
  looked_there : (own : Space) (cached : Option Translation) (Finds : Found → Type 0) (There : Walked → Type 0) (Stops : WalkFault → Type 0) (key : Key) (old : Translations)
      → (Finds found → (a : Result Translation WalkFault) → answer ≡ a → Walks sure There Stops key old a new → Agrees)
      → LookFinds own cached Finds found → LooksOrWalks sure cached There Stops key old answer new → Agrees
  looked_there own (Some cached) Finds There Stops key old walks finds (gives, same) = inl (ap frame_answered gives ∙ sym (ap frame_found finds))
  looked_there own None Finds There Stops key old walks finds looks = walks finds answer refl looks

  of_page : address_of (address / 4096) / 4096 ≡ address / 4096
  of_page = omega (arith, low)

  by_stages : (one : FirstStage) (two : SecondStage) (context : Context) → IsOneStage one two
      → SpaceFinds parts (looked_space one two context) (StagesFind parts.memory one two (address / 4096) kind) (address / 4096) kind found
      → Translates sure one two context parts.memory address kind (translations_of parts.iommu) answer new → Agrees
  by_stages first.Bare second.Bare context alone finds (gives, same) = own_there finds gives
  by_stages (first.Tables size root) second.Bare context alone finds looks =
      let levels = levels_of size in
      let own = address_of (address / 4096) in
      looked_there (space.First context.pscid.number) (cached_for (translations_of parts.iommu (space.First context.pscid.number, address / 4096)) kind) _ _ _ _ _
      (walked_there _ (ReachesFirst levels parts.memory root.number address kind) _ (StopsFirst levels parts.memory root.number address kind) _ _
      (λ walked other a b. one_walked levels parts.memory root.number address kind kind walked other (first_there own address of_page size parts.memory root.number kind walked a) b)
      (λ walked fault a b. reached_not_stopped levels parts.memory root.number address kind walked fault.cause (first_there own address of_page size parts.memory root.number kind walked a) b.cause)
      (λ walked fault a b. reached_not_stopped levels parts.memory root.number own kind walked fault.cause (first_there address own (sym of_page) size parts.memory root.number kind walked a) b.cause))
      finds looks
  by_stages first.Bare (second.Tables size root) context alone finds looks =
      let levels = levels_of size in
      let own = address_of (address / 4096) in
      let leads = second_there own address of_page size parts.memory root.number kind in
      let back = second_there address own (sym of_page) size parts.memory root.number kind in
      looked_there (space.Second context.gscid) (cached_for (translations_of parts.iommu (space.Second context.gscid, address / 4096)) kind) _ _ _ _ _
      (walked_there _ (ReachesSecond levels parts.memory root.number address kind) _ (StopsSecond levels parts.memory root.number address kind) _ _
      (λ walked other a b. one_walked_second levels parts.memory root.number address kind kind walked other (leads walked a) b)
      (λ walked fault a b. leads_or_faults levels parts.memory root.number address kind kind false walked.frame walked.rights fault (leads walked a).leads b)
      (λ walked fault a b. leads_or_faults levels parts.memory root.number own kind kind false walked.frame walked.rights fault (back walked a).leads b))
      finds looks
  by_stages (first.Tables first_size first_root) (second.Tables second_size second_root) context alone finds looks = absurd alone

  -- there is no context, and no frame
  none_there : (cause : Cause) → found ≡ NoContext → answer ≡ Err (plain cause) → Agrees
  none_there cause finds gives = inl (ap frame_answered gives ∙ sym (ap frame_found finds))

  by_width : (fits : Bool) (cached : Option Context) (located : Result Context Cause) → (fits ≡ false → located ≡ Err TransactionTypeDisallowed)
      → ContextFinds parts (cached_or (if fits then cached else None) (found_of located)) (address / 4096) kind found
      → IfSome (cached_or (if fits then cached else None) (found_of located)) HasOneStage
      → ServesBy sure (if fits then found_context cached located else Err TransactionTypeDisallowed) parts.memory address kind (translations_of parts.iommu) answer new → Agrees
  by_width true (Some context) located wide finds alone serves = by_stages context.first_stage context.second_stage context alone finds serves
  by_width true None (Ok context) wide finds alone serves = by_stages context.first_stage context.second_stage context alone finds serves
  by_width true None (Err cause) wide finds alone (gives, same) = none_there cause finds gives
  by_width false cached (Ok context) wide finds alone serves = let other : Ok context ≡ Err TransactionTypeDisallowed = wide refl in let no : ⊥ = cc in absurd no
  by_width false cached (Err cause) wide finds alone (gives, same) = none_there TransactionTypeDisallowed finds gives

  -- the context that a request finds, where ddtp has this mode
  abbrev found_in : DirectoryMode → Option Context
  found_in m = cached_or (if has_directory m && fits_directory m id then contexts_of parts.iommu id else None)
      (found_of (located_by_mode m parts.memory (directory_root (registers_of parts.iommu)) id))

  abbrev or_cause : DirectoryMode → Result Context Cause
  or_cause m = if fits_directory m id then found_context (contexts_of parts.iommu id) (located_by_mode m parts.memory (directory_root (registers_of parts.iommu)) id)
      else Err TransactionTypeDisallowed

  -- where ddtp names a directory
  through : (m : DirectoryMode) → has_directory m ≡ true → m ≡ mode_in parts → ContextFinds parts (found_in (mode_in parts)) (address / 4096) kind found
      → IfSome (found_in (mode_in parts)) HasOneStage
      → ServesBy sure (or_cause (mode_in parts)) parts.memory address kind (translations_of parts.iommu) answer new → Agrees
  through m has e finds alone serves =
      let width : (has_directory (mode_in parts) && fits_directory (mode_in parts) id) ≡ fits_directory (mode_in parts) id = and_true (ap has_directory (sym e) ∙ has) in
      let root = directory_root (registers_of parts.iommu) in
      by_width (fits_directory (mode_in parts) id) (contexts_of parts.iommu id) (located_by_mode (mode_in parts) parts.memory root id) (located-too_wide (mode_in parts) parts.memory root id)
      (subst (λ b. ContextFinds parts (cached_or (if b then contexts_of parts.iommu id else None) (found_of (located_by_mode (mode_in parts) parts.memory root id))) (address / 4096) kind found) width finds)
      (subst (λ b. IfSome (cached_or (if b then contexts_of parts.iommu id else None) (found_of (located_by_mode (mode_in parts) parts.memory root id))) HasOneStage) width alone)
      serves
    where
      and_true : {a b : Bool} → a ≡ true → (a && b) ≡ b
      and_true {a} {b} h = ap (λ c. c && b) h

  -- how a mode finds, where its context is given
  by_mode : (m : DirectoryMode) → m ≡ mode_in parts → ModeFinds m parts id (address / 4096) kind found → IfSome (found_in (mode_in parts)) HasOneStage
      → ServesIn sure m (or_cause (mode_in parts)) parts.memory address kind (translations_of parts.iommu) answer new → Agrees
  unfolding located_by_mode
  by_mode Off e finds alone serves =
      none_there AllInboundDisallowed (subst (λ (m : DirectoryMode). ContextFinds parts (found_in m) (address / 4096) kind found) (sym e) finds) serves.0
  by_mode Bare e finds alone (gives, same) = own_there finds gives
  by_mode OneLevel e finds alone serves = through OneLevel refl e finds alone serves
  by_mode TwoLevels e finds alone serves = through TwoLevels refl e finds alone serves
  by_mode ThreeLevels e finds alone serves = through ThreeLevels refl e finds alone serves

  pub agrees : ModeFinds (mode_in parts) parts id (address / 4096) kind found → IfSome (found_in (mode_in parts)) HasOneStage
      → ServesIn sure (mode_in parts) (or_cause (mode_in parts)) parts.memory address kind (translations_of parts.iommu) answer new → Agrees
  agrees = by_mode (mode_in parts) refl

-- where such an access finds the frame, each request is answered by it
pub answered_by_frame : (parts : BoardParts) (id page frame : ℕ) (kind : AccessKind) → FindsFrame false parts id page frame kind → IfSome (context_found parts id) HasOneStage
    → IsInMemory parts.memory frame → AnswersAre (λ answered. answered ≡ Some frame) parts id page kind
answered_by_frame parts id page frame kind finds alone inside access answer new of low at serves =
    let (found, by, is) = subst (λ (p : ℕ). FindsFrame false parts id p frame access.kind) (sym at) (subst (FindsFrame false parts id page frame) (sym of) finds) in
    elim (agrees _ parts id access.address low access.kind found answer new by alone serves) [
      | inl same ↦ same ∙ is
      | inr (outside, own, none) ↦ let same : access.address / 4096 ≡ frame = some_is (access.address / 4096) frame (sym own ∙ is) in absurd (omega (arith, outside, same, inside))
    ]

pub ready_accepted : ReadyIsAccepted
ready_accepted hardware before id page (frame, rights, holds, finds) alone =
    (frame, rights, holds, λ inside kind allowed. answered_by_frame (board_parts hardware) id page frame kind (finds kind allowed) alone inside)

-- where such an access finds something else, no request is answered by the frame
pub not_answered_by_frame : (parts : BoardParts) (id page frame : ℕ) (kind : AccessKind) (found : Found) → FindsInstead false parts id page frame kind found
    → IfSome (context_found parts id) HasOneStage → AnswersAre (λ answered. answered ≢ Some frame) parts id page kind
not_answered_by_frame parts id page frame kind found (by, isnt) alone access answer new of low at serves accepted =
    let finds = subst (λ (k : AccessKind). RequestFinds parts id (access.address / 4096) k found) (sym of) (subst (λ (p : ℕ). RequestFinds parts id p kind found) (sym at) by) in
    elim (agrees _ parts id access.address low access.kind found answer new finds alone serves) [
      | inl same ↦ isnt (sym same ∙ accepted)
      | inr (outside, own, none) ↦ (let gone : None ≡ Some frame = sym none ∙ accepted in let no : ⊥ = cc in no)
    ]

pub unready_not_accepted : UnreadyIsNotAccepted
unready_not_accepted hardware before id page found (frame, rights, holds, (kind, allowed, instead)) alone =
    (frame, rights, holds, (kind, allowed, not_answered_by_frame (board_parts hardware) id page frame kind found instead alone))
