-- An attach of the driver is one of the ledger machine.
use Rattle.std.proofs.Common.{◌≡◌, ◌+◌, ◌*◌, ◌-◌, ◌<◌, ◌≤◌, ◌⊎◌, ◌∙◌, ◌++◌, ◌&&◌, ℕ, zero, suc, Bool, true, false, not, List, [], ◌∷◌, length, All, nat_eq, Option, Some, None, Result, Ok, Err, get_or, is_some, nat_le, refl, sym, ap, subst, inl, inr, arith}
use Rattle.std.specs.List.{IsDistinct}
use Rattle.std.proofs.lemmas.Bool.{cases_lt}
use Rattle.std.proofs.lemmas.List.Elements.{All-nil, All-cons}
use Rattle.iom_walk_coherence.specs.Walks.{Walk}
use Rattle.iom_base.specs.declared.owner.Owner.TheVariants.{System, OneDevice}
use Rattle.iom_directory_build.specs.Pages.{root_level}
use Rattle.iom_driver.specs.declared.device.Attachment.TheVariants as attached
use Rattle.iom_driver.specs.Attaching.{AnswersAttach, TakesRoot, LacksRoot, AreDirectoryPages, lacking_pages, limit_below, root_frames}
use Rattle.iom_driver.specs.Choices.{AreHighestFree, owned_by, cleared}
use Rattle.iom_driver.specs.Devices.{has_device, has_trusted_cache, owned_stages_of, with_attachment}
use Rattle.iom_driver.specs.Directory.{context_for}
use Rattle.iom_driver.specs.Layout.{directory_frame}
use Rattle.iom_base.specs.DeviceIds.{id_limit}
use Rattle.iom_driver.specs.Reasons.{why_not_attach}
use Rattle.iom_driver.specs.State.{DriverState}
use Rattle.iom_driver.proofs.Chosen.{are_chosen}
use Rattle.iom_driver.proofs.Lists.{differs}
use Rattle.iom_driver.proofs.Owners.{Among, length-owned_by, length-cleared}
use Rattle.iom_driver.proofs.Places.{attachment_set, attachment_other}
use Rattle.iom_iommu.specs.OwnIommu.{Iommu}
use Rattle.iom_iommu.specs.Parts.{flights_of}
use Rattle.iom_base.specs.declared.refusal.Refusal.{Refusal}
use Rattle.iom_base.specs.declared.refusal.Refusal.TheVariants.{NoFrames, NotStarted, NoSuchDevice, AlreadyAttached, IdTooWide, NotTrusted}
use Rattle.iom_base.specs.Refusals.{first_that_applies}
use Rattle.iom_machine.specs.declared.outcome.Outcome.{Outcome}
use Rattle.iom_machine.specs.declared.outcome.Outcome.TheVariants.{Done}
use Rattle.iom_machine.specs.declared.state.Attachment.TheVariants.{Attached}
use Rattle.iom_machine.specs.declared.state.Device as declared
use Rattle.iom_base.specs.declared.mode.Mode.{Mode}
use Rattle.iom_base.specs.declared.mode.Mode.TheVariants.{First, Second, Both}
use Rattle.iom_base.specs.declared.size.Size.{Size}
use Rattle.iom_machine.specs.declared.state.State.{State}
use Rattle.iom_machine.specs.Devices.{device_of, with_device, replaced_device}
use Rattle.iom_machine.specs.Frames.{IsFree, IsFreeRun, reserved_for}
use Rattle.iom_machine.specs.Machine as machine
use Rattle.iom_machine.specs.Refusals as refusals
use Rattle.iom_machine.specs.Refusals.{MayRefuseAttach}
use Rattle.iom_machine.proofs.LeavingLemmas.{All-parts}
use Rattle.iom_table_frames.specs.Fours.{AreFourFree, NoFourAreFree}
use Rattle.iom_table_frames.specs.Owners.{IsFreeForTable, HasFree, NoneIsFree}
use Rattle.iom_world_effects.specs.Devices.{shown_devices}
use Rattle.iom_world_effects.specs.Answers.{outcome_of_done}
use Rattle.iom_world_effects.specs.Effect.{AttachesDevice}
use Rattle.iom_world_effects.specs.Parts.{Parts}
use Rattle.iom_world_effects.specs.Shows.{PartsShow}
use Rattle.iom_world_effects.specs.Invariant.{InvariantWith}
use Rattle.iom_world_refinement.proofs.ChoiceLemmas.{fewer_free}
use Rattle.iom_world_effects.proofs.DriverLemmas.{DriverInvariant}
use Rattle.iom_world_effects.proofs.FrameLemmas.{shows_marked, shows_kept}
use Rattle.iom_world_refinement.proofs.FreeLemmas.{free_in_machine, free_in_world}
use Rattle.iom_world_refinement.proofs.HungLemmas.{few_missing, length-hung}
use Rattle.iom_world_refinement.proofs.PlaceLemmas.{found_there, replaced_found}
use Rattle.iom_world_refinement.proofs.ReasonLemmas.{attach_first, there_shown, refused_as}
use Rattle.iom_world_refinement.proofs.RefusalLemmas.{some_and}
use Rattle.iom_world_effects.proofs.UnchangedLemmas.{shows_same}
use Rattle.iom_world_effects.proofs.TakenLemmas.{taken_all, taken_owners, free_before, free_untaken, free_among, few_runs}

-- where no reason applies the device is there
plugged_then : (started there : Bool) (later : List (Bool × Refusal)) → first_that_applies ((not started, NotStarted) ∷ (not there, NoSuchDevice) ∷ later) ≡ None → there ≡ true
plugged_then started true later none = refl
plugged_then false false later none = cc
plugged_then true false later none = cc

-- the first two frames of a run differ
two_apart : (run : ℕ) → IsDistinct nat_eq ((4 * run) ∷ (4 * run + 1) ∷ [])
unfolding IsDistinct
two_apart run = ((differs (4 * run) (4 * run + 1) (λ same. absurd (omega (arith, same))), tt), (tt, tt))

-- what is free below one number is free below a higher one
free_higher : (d : DriverState) (count low high : ℕ) → low ≤ high → HasFree d.owners d.ledger None count low → HasFree d.owners d.ledger None count high
free_higher d zero low high le has = tt
free_higher d (suc count) low high le has = let below : has.0 < low = has.1 in (has.0, omega (arith, below, le), has.2, has.3)

-- WHERE THE FRAMES AREN'T ENOUGH fewer than three are free, or fewer than three runs of four
module _ (parts : Parts) (state : State) (id : ℕ) (invariants : DriverInvariant parts.driver) (shows : PartsShow parts state) where
  abbrev d : DriverState
  d = parts.driver

  known : (n : ℕ) → IsFree state n → (n < length parts.memory) × IsFreeForTable parts.driver.owners parts.driver.ledger None n
  known n is_free = free_in_world parts.memory d.owners d.ledger state None n shows.ledger shows.frames (no_name n) is_free
    where
      no_name : (n : ℕ) → ◌≡◌ {A = Option ℕ} None (Some n) → ⊥
      no_name n same = cc

  few_lacking : lacking_pages parts.driver parts.memory id ≤ 2
  few_lacking =
      let missing = few_missing (root_level d.levels) parts.memory (directory_frame (length parts.memory)) id in
      let levels = invariants.sizes.in_range.1 in
      few (lacking_pages d parts.memory id) d.levels missing levels
    where
      few : (missing levels : ℕ) → missing ≤ levels - 1 → levels ≤ 3 → missing ≤ 2
      few missing levels most in_range = omega (arith, most, in_range)

  -- no page is there for one that the directory lacks
  lacks_pages : (numbers : List ℕ) → ¬ HasFree parts.driver.owners parts.driver.ledger None (lacking_pages parts.driver parts.memory id) (length parts.memory) → IsDistinct nat_eq numbers
      → All (IsFree state) numbers → length numbers < 2
  lacks_pages numbers lacks distinct free =
      let fewer = fewer_free d.owners d.ledger None (lacking_pages d parts.memory id) (length parts.memory) numbers lacks distinct (λ k n lt. known (get_or numbers k n) (free k n lt)) in
      let few = few_lacking in
      omega (arith, fewer, few)

  -- in the first stage
  lacks_first : (size : Size) (numbers : List ℕ) → LacksRoot parts.driver parts.memory id (First size) NoFrames → IsDistinct nat_eq numbers → All (IsFree state) numbers → length numbers < 3
  lacks_first size numbers (inl lacks) distinct free = let fewer = lacks_pages numbers lacks distinct free in omega (arith, fewer)
  lacks_first size numbers (inr (pages, chosen, none)) distinct free =
      let count = lacking_pages d parts.memory id in
      let lacks : ¬ HasFree d.owners d.ledger None (suc count) (length parts.memory) = λ has. below_none pages count (length parts.memory) chosen none has in
      let fewer = fewer_free d.owners d.ledger None (suc count) (length parts.memory) numbers lacks distinct (λ k n lt. known (get_or numbers k n) (free k n lt)) in
      let few = few_lacking in
      omega (arith, fewer, few)
    where
      below_none : (pages : List ℕ) (count limit : ℕ) → AreHighestFree parts.driver.owners parts.driver.ledger None limit count pages
          → NoneIsFree parts.driver.owners parts.driver.ledger None 0 (limit_below limit pages) → HasFree parts.driver.owners parts.driver.ledger None (suc count) limit → ⊥
      below_none [] zero limit chosen none has = none has.0 (omega arith) has.1 has.2
      below_none [] (suc count) limit chosen none has = chosen
      below_none (first ∷ frames) zero limit chosen none has = chosen
      below_none (first ∷ frames) (suc count) limit chosen none has = elim (cases_lt first has.0) [
        | inl above ↦ chosen.0.highest has.0 above has.1 has.2
        | inr le ↦ below_none frames count first chosen.1 none (free_higher d (suc count) has.0 first le has.3)
      ]

  -- in a second stage each free run ends in a page
  lacks_runs : (numbers : List ℕ) → (¬ HasFree parts.driver.owners parts.driver.ledger None (lacking_pages parts.driver parts.memory id) (length parts.memory))
      ⊎ ((pages : List ℕ) × AreDirectoryPages parts.driver parts.memory id pages × NoFourAreFree parts.driver.owners parts.driver.ledger 0 (limit_below (length parts.memory) pages))
      → IsDistinct nat_eq numbers → All (IsFreeRun state) numbers → length numbers < 3
  lacks_runs [] lacks distinct free = omega arith
  lacks_runs (run ∷ runs) (inl lacks) distinct free =
      let one = free 0 0 (omega arith) in
      let pair = lacks_pages ((4 * run) ∷ (4 * run + 1) ∷ []) lacks (two_apart run) (All-two (IsFree state) (4 * run) (4 * run + 1) one.0 one.1) in
      absurd (omega (arith, pair))
    where
      All-two : (P : ℕ → Type 0) (a b : ℕ) → P a → P b → All P (a ∷ b ∷ [])
      All-two P a b pa pb = All-cons P a (b ∷ []) pa (All-cons P b [] pb (All-nil P))
  lacks_runs (run ∷ runs) (inr (pages, chosen, none)) distinct free =
      few_runs pages many (run ∷ runs) distinct (λ k n lt. ends (get_or (run ∷ runs) k n) (free k n lt))
    where
      many : length pages ≤ 2
      many = let few = few_lacking in let same = (are_chosen d.owners d.ledger None (length parts.memory) (lacking_pages d parts.memory id) pages chosen).many in omega (arith, few, same)

      ends : (r : ℕ) → IsFreeRun state r → Among (4 * r + 3) pages
      ends r is =
          let last = known (4 * r + 3) is.3 in
          let four : AreFourFree d.owners d.ledger (4 * r) = record { one = (known (4 * r) is.0).1; two = (known (4 * r + 1) is.1).1; three = (known (4 * r + 2) is.2).1; four = last.1 } in
          free_among d.owners d.ledger None (length parts.memory) _ pages (4 * r + 3) chosen last.0 last.1
          (above (limit_below (length parts.memory) pages) r (λ le. none r (omega arith) le four))
        where
          above : (limit r : ℕ) → (4 * r + 4 ≤ limit → ⊥) → limit ≤ 4 * r + 3
          above limit r never = elim (cases_lt (4 * r + 3) limit) [ inl lt ↦ absurd (never (omega (arith, lt))) | inr le ↦ le ]

  pub may_lack_root : (mode : Mode) (why : Refusal) → LacksRoot parts.driver parts.memory id mode why → MayRefuseAttach state mode why
  may_lack_root (First size) NoFrames lacks = λ numbers distinct free. lacks_first size numbers lacks distinct free
  may_lack_root (Second size) NoFrames lacks = λ numbers distinct free. lacks_runs numbers lacks distinct free
  may_lack_root (Both size) NoFrames lacks = λ numbers distinct free. lacks_runs numbers lacks distinct free
  may_lack_root mode _ lacks = absurd lacks

-- THE STEP

-- the machine's state after it
abbrev attached_state : State → ℕ → declared.Device → Mode → Bool → (pages roots : List ℕ) → State
attached_state state id device mode ats pages roots =
    record (with_device state (record device { attachment = Attached mode ats })) { frames = reserved_for (OneDevice id) roots (reserved_for System pages state.frames) }

-- memory has as many frames then
size_attached : (d d' : DriverState) (memory memory' : List (List ℕ)) (id : ℕ) (mode : Mode) (ats : Bool) → TakesRoot d memory id mode ats d' memory' → length memory' ≡ length memory
size_attached d d' memory memory' id mode ats takes =
    ap (λ (m : List (List ℕ)). length m) takes.bytes
    ∙ length-hung (root_level d.levels) (cleared (takes.pages ++ root_frames mode takes.stage.root) memory) (directory_frame (length memory)) id takes.pages (context_for takes.stage)
    ∙ length-cleared (takes.pages ++ root_frames mode takes.stage.root) memory

shows_attached : {walks : List Walk} (old new : Parts) (events id : ℕ) (mode : Mode) (ats : Bool) (found : declared.Device) → InvariantWith walks old events → has_device old.driver.devices id ≡ true
    → (takes : TakesRoot old.driver old.memory id mode ats new.driver new.memory) → new.iommu ≡ old.iommu → new.devices ≡ old.devices
    → (state : State) → PartsShow old state → device_of state id ≡ Some found → PartsShow new (attached_state state id found mode ats takes.pages (root_frames mode takes.stage.root))
shows_attached old new events id mode ats found invariants there takes iommu devices state shows at =
    let d = old.driver in
    let roots = root_frames mode takes.stage.root in
    let pages = takes.pages in
    let rows = (flights_of old.iommu).rows in
    let known' = with_attachment d.devices id (attached.Attached takes.stage) in
    let long : length d.owners ≡ length old.memory = sym invariants.ready.stand.size in
    let taken = taken_all d old.memory id takes.stage.root mode pages takes.chosen takes.root in
    let inside = All-parts (λ f. f < length old.memory) pages roots (λ k n lt. (taken k n lt).0) in
    let marked = shows_marked System pages old.memory d.owners state.frames shows.frames long inside.0 in
    let rooted = shows_marked (OneDevice id) roots old.memory (owned_by System pages d.owners) (reserved_for System pages state.frames) marked (length-owned_by System pages d.owners ∙ long) inside.1 in
    let in_marks = subst (λ m. All (λ f. f < m) pages) (sym long) inside.0 in
    let roots_in = subst (λ m. All (λ f. f < m) roots) (sym long) inside.1 in
    let frames = shows_kept old.memory new.memory (taken_owners id pages roots d.owners) (reserved_for (OneDevice id) roots (reserved_for System pages state.frames)) rooted
    (λ k free. takes.others k (free_before id pages roots d.owners in_marks roots_in k free) (free_untaken id pages roots d.owners in_marks roots_in k free))
    (size_attached d new.driver old.memory new.memory id mode ats takes) in
    record {
      ledger = rw (ap (λ (x : DriverState). x.ledger) takes.driver) shows.ledger;
      frames = rw (ap (λ (x : DriverState). x.owners) takes.driver) frames;
      devices = rw (devices, ap (λ (i : Iommu). (flights_of i).rows) iommu, ap (λ (x : DriverState). x.devices) takes.driver)
          (subst (λ m. replaced_device state.devices found.id (record found { attachment = Attached m ats }) ≡ shown_devices known' rows old.devices) takes.in_mode
          (subst (λ a. replaced_device state.devices found.id (record found { attachment = Attached takes.stage.mode a }) ≡ shown_devices known' rows old.devices) takes.with_ats
          (replaced_found d.devices known' rows old.devices state.devices id (attached.Attached takes.stage) found
          (λ other differs. attachment_other d.devices id other (attached.Attached takes.stage) differs) (attachment_set d.devices id (attached.Attached takes.stage) there)
          invariants.known.own_ids shows.devices at)));
      given = shows.given ∙ sym (ap (λ (x : DriverState). x.given) takes.driver);
      confirmed = shows.confirmed ∙ sym (ap (λ (x : DriverState). x.confirmed) takes.driver);
      all_earlier = rw (ap (λ (x : DriverState). x.confirmed) takes.driver) shows.all_earlier;
      none_later = rw (ap (λ (x : DriverState). x.confirmed) takes.driver) shows.none_later;
      levels = shows.levels ∙ sym (ap (λ (x : DriverState). x.levels) takes.driver);
      limits = shows.limits;
    }

pub attach_step : {walks : List Walk} (old new : Parts) (events id : ℕ) (mode : Mode) (ats : Bool) (reply : Outcome) → InvariantWith walks old events → DriverInvariant old.driver → AttachesDevice old id mode ats reply new
    → (state : State) → PartsShow old state → (pages taken : List ℕ) × (next : State) × machine.Attaches pages taken state id mode ats reply next × PartsShow new next
attach_step old new events id mode ats reply invariants driver_invariant effect state shows = by effect.answer effect.reply_is effect.call
  where
    taken_root : (takes : TakesRoot old.driver old.memory id mode ats new.driver new.memory) → has_device old.driver.devices id ≡ true → first_that_applies (refusals.attach_reasons state id ats) ≡ None
        → (pages taken : List ℕ) × (next : State) × machine.Attaches pages taken state id mode ats Done next × PartsShow new next
    taken_root takes there none =
        let d = old.driver in
        let roots = root_frames mode takes.stage.root in
        let pages = takes.pages in
        let found = found_there (device_of state id) (there_shown old events state id invariants shows ∙ there) in
        let taken = taken_all d old.memory id takes.stage.root mode pages takes.chosen takes.root in
        let free : All (IsFree state) (pages ++ roots) = (λ k n lt. let one = taken k n lt in
        free_in_machine old.memory d.owners d.ledger state (get_or (pages ++ roots) k n) shows.ledger shows.frames one.0 one.1.unmarked one.1.ungranted) in (
          pages,
          roots,
          attached_state state id found.0 mode ats pages roots,
          (
            none,
            free,
            some_and (λ (d : declared.Device). attached_state state id found.0 mode ats pages roots ≡ attached_state state id d mode ats pages roots) (device_of state id) found.0 found.1 refl,
          ),
          shows_attached old new events id mode ats found.0 invariants there takes effect.iommu effect.devices state shows found.1,
        )

    by : (answer : Result (Unit {0}) Refusal) → reply ≡ outcome_of_done answer → AnswersAttach old.driver old.memory id mode ats answer new.driver new.memory
        → (pages taken : List ℕ) × (next : State) × machine.Attaches pages taken state id mode ats reply next × PartsShow new next
    by (Ok done) is call =
        let d = old.driver in
        subst (λ t. (pages taken : List ℕ) × (next : State) × machine.Attaches pages taken state id mode ats t next × PartsShow new next) (sym is)
        (taken_root call.1 (plugged_then d.started (has_device d.devices id) ((is_some (owned_stages_of d.devices id), AlreadyAttached) ∷ (nat_le (id_limit d.levels) id, IdTooWide) ∷ (ats && not (has_trusted_cache d.devices id), NotTrusted) ∷ []) call.0)
        (attach_first old events state id ats invariants shows ∙ call.0))
    by (Err why) is call = (
      [],
      [],
      state,
      subst (λ t. machine.Attaches [] [] state id mode ats t state) (sym is) (
        refused_as (why_not_attach old.driver id ats) (refusals.attach_reasons state id ats) (LacksRoot old.driver old.memory id mode) (MayRefuseAttach state mode) why
            (attach_first old events state id ats invariants shows) (λ none. may_lack_root old state id driver_invariant shows mode why) call.0,
        refl,
      ),
      shows_same old new state call.2 (ap (λ (i : Iommu). flights_of i) effect.iommu) effect.devices call.1 shows,
    )
