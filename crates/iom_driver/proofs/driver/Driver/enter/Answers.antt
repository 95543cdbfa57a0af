use Rattle.std.proofs.Common.{◌≡◌, ◌<◌, ◌≤◌, ◌++◌, ◌∙◌, ℕ, List, length, Option, None, Ok, slice_get, slice_set, get_or, refl, sym, ap, subst, arith}
use Rattle.iom_base.specs.declared.owner.Owner.{Owner}
use Rattle.iom_base.specs.declared.owner.Owner.TheVariants.{System, OneDevice}
use Rattle.iom_device_dir.specs.Paths.{ids_below}
use Rattle.iom_directory_build.specs.Pages.{root_level, missing_pages}
use Rattle.iom_directory_build.specs.Written.{hung}
use Rattle.iom_driver.specs.declared.device.Attachment.TheVariants.{Attached}
use Rattle.iom_driver.specs.declared.device.Device.{Device}
use Rattle.iom_driver.specs.declared.device.Stages.{Stages}
use Rattle.iom_driver.specs.declared.driver.Driver.{Driver}
use Rattle.iom_driver.specs.Attaching.{IsRootBelow, root_frames, limit_below}
use Rattle.iom_driver.specs.Choices.{AreHighestFree, owned_by, cleared}
use Rattle.iom_driver.specs.Devices.{attachment_by_id, with_attachment}
use Rattle.iom_driver.specs.Entering.{MayEnter}
use Rattle.iom_driver.specs.Layout.{directory_frame, fault_frame}
use Rattle.iom_driver.specs.Orders.{MapsNothing}
use Rattle.iom_driver.specs.Places.{IsAttachmentPlace}
use Rattle.iom_driver.specs.Ready.{TablesStand}
use Rattle.iom_driver.specs.StateOf.{state_of}
use Rattle.iom_driver.proofs.AttachDirectory.{IsPut, MayTake, may_take, stands_between, roots_zero, fresh, counted, empty, others_keep, reports_keep, pages_keep, devices_keep, roots_new, stands_after}
use Rattle.iom_driver.proofs.AttachRoots.{root_aligned}
use Rattle.iom_driver.proofs.AttachTables.{zeroed_maps_nothing, tables_attached}
use Rattle.iom_driver.proofs.Directories.{stands_in, room_for_ids}
use Rattle.iom_driver.proofs.Keeps.{sound_attached}
use Rattle.iom_driver.proofs.Lists.{read_is, get_within}
use Rattle.iom_driver.proofs.Owners.{Among, all_among, length-cleared, length-owned_by, cleared_append}
use Rattle.iom_driver.proofs.Modes.{root_among, frames_are}
use Rattle.iom_driver.proofs.Places.{not_attached, attachment_set, attachment_other}
use Rattle.iom_driver.proofs.StandingLemmas.{frames_keep, leaves_standing}
use Rattle.iom_driver.proofs.Unchanged.{ready_from}
use Rattle.iom_driver.proofs.Taken.{taken_owners, length-taken}
use Rattle.iom_driver.proofs.driver.Driver.enter.Goals as goal

-- how many pages the directory lacks
abbrev lacking : Driver → List (List ℕ) → ℕ → ℕ
lacking driver memory id = missing_pages memory (root_level driver.levels) (directory_frame driver.frames) id

found : (driver : Driver) (memory : List (List ℕ)) (id : ℕ) (stages : Stages) (pages : List ℕ) → TablesStand (state_of driver) memory
    → MayEnter (state_of driver) driver.frames memory id stages pages
    → MayTake (state_of driver) driver.frames memory (lacking driver memory id) pages (root_frames stages.mode stages.root)
found driver memory id stages pages stand may =
    may_take (state_of driver) driver.frames memory (lacking driver memory id) stages.mode stages.root pages driver.invariants stand may.admitted.started may.chosen may.root

-- the frames that are cleared, and owned: the pages, and then the root's
both_cleared : (memory before after : List (List ℕ)) (pages roots : List ℕ) → before ≡ cleared pages memory → after ≡ cleared roots before → after ≡ cleared (pages ++ roots) memory
both_cleared memory before after pages roots is zero_is = zero_is ∙ ap (λ m. cleared roots m) is ∙ sym (cleared_append pages roots memory)

both_marked : (id : ℕ) (owners before after : List (Option Owner)) (pages roots : List ℕ) → before ≡ owned_by System pages owners → after ≡ owned_by (OneDevice id) roots before
    → after ≡ taken_owners id pages roots owners
both_marked id owners before after pages roots is mark_is = mark_is ∙ ap (λ (ms : List (Option Owner)). owned_by (OneDevice id) roots ms) is

-- the devices, once the one at the place is attached
set_at : (devices : List Device) (id k : ℕ) (device : Device) (stages : Stages) → IsAttachmentPlace devices id k → device ≡ get_or devices k device
    → slice_set devices k (record { id = device.id; trusted = device.trusted; attachment = Attached stages }) ≡ with_attachment devices id (Attached stages)
set_at devices id k device stages place read =
    let same : device ≡ place.0 = read_is devices k place.0 device place.1 read in
    ap (λ (d : Device). slice_set devices k (record d { attachment = Attached stages })) same ∙ place.3 (Attached stages)

pub reserve_all-requires : goal.reserve_all-requires
reserve_all-requires c =
    let driver = c.args.self.now in
    let pages = c.args.pages.now in
    let may = found driver c.args.memory.now c.args.id c.args.stages pages c.requires.stand c.requires.may in
    record {
      owned = λ k d lt. subst (λ n. get_or pages k d < n) (sym driver.invariants.sizes.owned) (may.taken.chosen.inside k d lt);
      inside = λ k d lt. subst (λ n. get_or pages k d < n) (sym may.size) (may.taken.chosen.inside k d lt);
    }

pub reserve_root-requires : goal.reserve_root-requires
reserve_root-requires c =
    let driver = c.args.self.now in
    let memory = c.args.memory.now in
    let pages = c.args.pages.now in
    let stages = c.args.stages in
    let roots = root_frames stages.mode stages.root in
    let may = found driver memory c.args.id stages pages c.requires.stand c.requires.may in
    let marks_long = ap (λ (ms : List (Option Owner)). length ms) c.reserve_all.ensures.owners ∙ length-owned_by System pages driver.owners ∙ driver.invariants.sizes.owned in
    let memory_long = ap (λ (m : List (List ℕ)). length m) c.reserve_all.ensures.memory ∙ length-cleared pages memory ∙ may.size in
    let inside : stages.root < driver.frames = may.taken.inside stages.root (root_among stages.mode stages.root) in
    let most : driver.frames ≤ 4096 = driver.invariants.sizes.size.1 in
    record {
      owned = all_among (λ f. f < length c.reserve_all.new.owners) roots (λ f here. subst (λ n. f < n) (sym marks_long) (may.taken.inside f here));
      inside = all_among (λ f. f < length c.reserve_all.new.memory) roots (λ f here. subst (λ n. f < n) (sym memory_long) (may.taken.inside f here));
      fits = omega (arith, inside, most);
    }

pub context_for-context-requires-clause-root : goal.context_for-context-requires-clause-root
context_for-context-requires-clause-root c =
    let driver = c.args.self.now in
    root_aligned c.args.stages.mode (state_of driver) (limit_below driver.frames c.args.pages.now) c.args.stages.root c.requires.may.root

pub context_for-context-requires-clause-number : goal.context_for-context-requires-clause-number
context_for-context-requires-clause-number c = let small = c.requires.may.small in omega (arith, small)

pub context_for-context-requires-clause-nothing : goal.context_for-context-requires-clause-nothing
context_for-context-requires-clause-nothing c =
    let driver = c.args.self.now in
    let d = state_of driver in
    let memory = c.args.memory.now in
    let pages = c.args.pages.now in
    let stages = c.args.stages in
    let roots = root_frames stages.mode stages.root in
    let may = found driver memory c.args.id stages pages c.requires.stand c.requires.may in
    subst (λ m. MapsNothing stages.mode m stages.root)
    (sym (both_cleared memory c.reserve_all.new.memory c.reserve_root.new.memory pages roots c.reserve_all.ensures.memory c.reserve_root.ensures.memory))
    (zeroed_maps_nothing (cleared (pages ++ roots) memory) stages.mode stages.root
    (root_aligned stages.mode d (limit_below driver.frames pages) stages.root c.requires.may.root)
    (λ f here. roots_zero d driver.frames memory c.args.id (lacking driver memory c.args.id) pages roots may f (subst (λ fs. Among f fs) (sym (frames_are stages.mode stages.root)) here)))

pub put_context-requires : goal.put_context-requires
put_context-requires c =
    let driver = c.args.self.now in
    let d = state_of driver in
    let memory = c.args.memory.now in
    let id = c.args.id in
    let pages = c.args.pages.now in
    let stages = c.args.stages in
    let roots = root_frames stages.mode stages.root in
    let count = lacking driver memory id in
    let may = found driver memory id stages pages c.requires.stand c.requires.may in
    let low : id < ids_below (root_level driver.levels) = subst (λ n. id < n) (room_for_ids driver.levels driver.invariants.sizes.in_range) c.requires.may.admitted.narrow in
    let cleared_is = both_cleared memory c.reserve_all.new.memory c.reserve_root.new.memory pages roots c.reserve_all.ensures.memory c.reserve_root.ensures.memory in
    rw (c.directory_frame-directory.ensures, cleared_is) record {
      levels = driver.invariants.sizes.in_range;
      id = low;
      directory = (stands_between d driver.frames memory id count pages roots may).tree;
      empty = empty d driver.frames memory id count pages roots may low (not_attached (attachment_by_id d.devices id) c.requires.may.admitted.nothing);
      count = counted d driver.frames memory id count pages roots may low refl;
      fresh = fresh d driver.frames memory id count pages roots may;
    }

pub index_mut-requires : goal.index_mut-requires
index_mut-requires c =
    let driver = c.args.self.now in
    let place = c.requires.place in
    let within = get_within driver.devices.items c.args.place place.0 place.1 in omega (arith, within)

pub invariant_of-self : goal.invariant_of-self
invariant_of-self c =
    let driver = c.args.self.now in
    let d = state_of driver in
    let memory = c.args.memory.now in
    let id = c.args.id in
    let pages = c.args.pages.now in
    let stages = c.args.stages in
    let roots = root_frames stages.mode stages.root in
    let admitted = c.requires.may.admitted in
    let may = found driver memory id stages pages c.requires.stand c.requires.may in
    let marks_is = both_marked id driver.owners c.reserve_all.new.owners c.reserve_root.new.owners pages roots c.reserve_all.ensures.owners c.reserve_root.ensures.owners in
    let set = set_at d.devices id c.args.place c.index_mut.result.now stages c.requires.place c.index_mut.ensures.value in
    record {
      invariants =
          rw (marks_is, set)
          (sound_attached driver.ledger driver.owners d.devices driver.frames driver.levels driver.started driver.given driver.confirmed driver.restarts driver.restarted id (lacking driver memory id) stages pages roots driver.invariants
          admitted.started admitted.plugged admitted.narrow may.taken c.requires.may.lowest c.requires.may.small);
    }

pub returns : goal.returns
returns c =
    let driver = c.args.self.now in
    let d = state_of driver in
    let memory = c.args.memory.now in
    let after = c.put_context.new.memory in
    let id = c.args.id in
    let pages = c.args.pages.now in
    let stages = c.args.stages in
    let roots = root_frames stages.mode stages.root in
    let count = lacking driver memory id in
    let admitted = c.requires.may.admitted in
    let may = found driver memory id stages pages c.requires.stand c.requires.may in
    let at_root = c.directory_frame-directory.ensures in
    let cleared_is = both_cleared memory c.reserve_all.new.memory c.reserve_root.new.memory pages roots c.reserve_all.ensures.memory c.reserve_root.ensures.memory in
    let marks_is = both_marked id driver.owners c.reserve_all.new.owners c.reserve_root.new.owners pages roots c.reserve_all.ensures.owners c.reserve_root.ensures.owners in
    let set = set_at d.devices id c.args.place c.index_mut.result.now stages c.requires.place c.index_mut.ensures.value in
    let put : IsPut (cleared (pages ++ roots) memory) after driver.levels (directory_frame driver.frames) id stages pages =
    subst (λ r. IsPut (cleared (pages ++ roots) memory) after driver.levels r id stages pages) at_root
    (subst (λ m. IsPut m after driver.levels c.directory_frame-directory.result id stages pages) cleared_is record {
      tree = c.put_context.ensures.directory;
      has = λ f. (c.put_context.ensures.pages f).0;
      here = c.put_context.ensures.here ∙ ap Ok c.context_for-context.ensures;
      path = c.put_context.ensures.path;
      paths = c.put_context.ensures.paths;
      others = c.put_context.ensures.others;
      keeps = c.put_context.ensures.keeps;
      outside = c.put_context.ensures.outside;
    }) in
    let size : length after ≡ length memory = c.put_context.ensures.size ∙ ap (λ (m : List (List ℕ)). length m) cleared_is ∙ length-cleared (pages ++ roots) memory in
    let none = not_attached (attachment_by_id d.devices id) admitted.nothing in
    let unreported = subst (λ n. slice_get after (fault_frame n) ≡ slice_get memory (fault_frame n)) (sym may.size) (reports_keep d driver.frames memory id count pages roots may after stages put) in
    rw (marks_is, set) (
    let stand : TablesStand (record d { owners = taken_owners id pages roots driver.owners; devices = with_attachment d.devices id (Attached stages) }) after = record {
      size = size ∙ c.requires.stand.size ∙ sym (length-taken id pages roots driver.owners);
      tables = tables_attached memory after driver.owners (taken_owners id pages roots driver.owners) driver.ledger d.devices id stages c.requires.stand.tables admitted.plugged
          (root_aligned stages.mode d (limit_below driver.frames pages) stages.root c.requires.may.root)
          (roots_new d driver.frames memory id count pages roots may after stages put)
          (devices_keep d driver.frames memory id count pages roots may after stages put)
          (λ page. driver.invariants.holders id page none);
      directory = λ runs.
          stands_in driver.frames after (taken_owners id pages roots driver.owners) (with_attachment d.devices id (Attached stages)) driver.levels (size ∙ may.size)
          (stands_after d driver.frames memory id count pages roots may after stages put
          (with_attachment d.devices id (Attached stages)) (attachment_set d.devices id (Attached stages) admitted.plugged)
          (λ other apart. attachment_other d.devices id other (Attached stages) apart));
    } in
    record {
      effect = record {
        stage = stages;
        in_mode = refl;
        with_ats = refl;
        pages = pages;
        chosen = subst (λ n. AreHighestFree d.owners d.ledger None n (missing_pages memory (root_level d.levels) (directory_frame n) id) pages) (sym may.size) c.requires.may.chosen;
        root = subst (λ n. IsRootBelow stages.mode d (limit_below n pages) stages.root) (sym may.size) c.requires.may.root;
        lowest = c.requires.may.lowest;
        driver = refl;
        bytes =
            c.put_context.ensures.whole
            ∙ ap (λ m. hung m (root_level driver.levels) c.directory_frame-directory.result id pages c.context_for-context.result) cleared_is
            ∙ ap (λ r. hung (cleared (pages ++ roots) memory) (root_level driver.levels) r id pages c.context_for-context.result) (at_root ∙ ap directory_frame (sym may.size))
            ∙ ap (λ x. hung (cleared (pages ++ roots) memory) (root_level driver.levels) (directory_frame (length memory)) id pages x) c.context_for-context.ensures;
        others = others_keep d driver.frames memory id count pages roots may after stages put;
        standing = leaves_standing d _ driver.frames memory after may.size c.requires.stand.tables
            (λ other s was is. frames_keep memory after driver.owners driver.ledger other s.mode s.root (c.requires.stand.tables other s was)
            (λ n own. (devices_keep d driver.frames memory id count pages roots may after stages put n other own).0))
            (λ started. pages_keep d driver.frames memory id count pages roots may after stages put);
      };
      stand = stand;
      ready = λ r ready. ready_from d _ memory after r stand size unreported refl refl ready;
    })
