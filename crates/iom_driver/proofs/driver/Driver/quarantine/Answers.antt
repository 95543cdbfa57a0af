use Rattle.std.proofs.Common.{◌≡◌, ◌≢◌, ◌<◌, ◌≤◌, ◌+◌, ◌-◌, ◌++◌, ◌∙◌, inl, ℕ, List, map, None, Option, Some, length, slice_get, refl, sym, ap, subst, arith}
use Rattle.iom_base.specs.Modes.{size_in}
use Rattle.iom_base.specs.declared.owner.Owner.{Owner}
use Rattle.iom_base.specs.declared.owner.Owner.TheVariants.{System, OneDevice}
use Rattle.iom_command_queue.specs.declared.entry.QueueEntry.{QueueEntry}
use Rattle.iom_command_queue.specs.declared.entry.QueueEntry.TheVariants as stands
use Rattle.iom_directory_build.specs.Pages.{HasPage, root_level}
use Rattle.iom_directory_build.specs.Written.{without_context}
use Rattle.iom_ledger.specs.History.{pending_limit}
use Rattle.iom_ledger.specs.Shown.{pending_in, pending_room, pages_listed}
use Rattle.iom_ledger.proofs.RoomLemmas.{has_room}
use Rattle.iom_driver.specs.declared.device.Attachment.TheVariants.{Quarantined}
use Rattle.iom_driver.specs.declared.device.Device.{Device}
use Rattle.iom_driver.specs.Appends.{detach_commands, AppendsAll}
use Rattle.iom_driver.specs.Devices.{attachment_by_id, attached_stages, stages_of, with_attachment}
use Rattle.iom_driver.specs.Directory.{NamesDirectory}
use Rattle.iom_driver.specs.Layout.{command_frame, fault_frame, completion_address, directory_frame}
use Rattle.iom_driver.specs.Quarantines.{all_unmapped, held_pages}
use Rattle.iom_driver.specs.Ready.{IsRing}
use Rattle.iom_driver.specs.Invariant.{StateInvariant}
use Rattle.iom_driver.specs.StateOf.{state_of}
use Rattle.iom_driver.proofs.QuarantineLemmas.{IsCleared, not_of_device, tables_uncontexted, owned_quarantined, sound_quarantined}
use Rattle.iom_driver.proofs.Directories.{DirectoryIn, low_id, room_for_ids, in_stands, stands_in, directory_cleared, directory_stay}
use Rattle.iom_driver.proofs.FaultRings.{fault_ring_stays}
use Rattle.iom_driver.proofs.Limits.{held_low}
use Rattle.iom_driver.proofs.Modes.{rooted, table_in}
use Rattle.iom_driver.proofs.Orders.{maps_nothing, none_left, still_cleared}
use Rattle.iom_driver.proofs.Places.{attached_owns, attached_there, attachment_set, attachment_other}
use Rattle.iom_driver.proofs.Ring.{same_commands, all_last, stays_named}
use Rattle.iom_driver.proofs.StandingLemmas.{frames_keep, keeps_through, leaves_standing, one_changes, pages_stay, tree_keeps}
use Rattle.iom_driver.proofs.Unchanged.{all_stay, of_one}
use Rattle.iom_driver.proofs.Tickets.{few_rise}
use Rattle.iom_driver.proofs.Unmaps.{AreUnmapped, contained_held, frame_stays, tables_unmapped}
use Rattle.iom_driver.proofs.driver.Driver.quarantine.Goals as goal

pub returns-in-Err : goal.returns-in-Err
returns-in-Err g c = record {
  effect = (c.in-Err.ensures.refused, refl, refl, refl);
  ready = c.requires.ready;
}

pub clear_context-requires-clause-levels : goal.clear_context-requires-clause-levels
clear_context-requires-clause-levels g c = c.args.self.now.invariants.sizes.in_range

pub clear_context-requires-clause-id : goal.clear_context-requires-clause-id
clear_context-requires-clause-id g c =
    let driver = c.args.self.now in
    subst (λ n. c.args.id < n) (room_for_ids driver.levels driver.invariants.sizes.in_range)
    (driver.invariants.named c.args.id c.in-Ok.stage (attached_owns (attachment_by_id driver.devices.items c.args.id) c.in-Ok.stage c.in-Ok.ensures.may.attached))

pub clear_context-requires-clause-directory : goal.clear_context-requires-clause-directory
clear_context-requires-clause-directory g c =
    let driver = c.args.self.now in
    let stand = c.requires.ready.stand in
    rw c.directory_frame-directory.ensures
    (in_stands driver.frames c.args.memory.now driver.owners driver.devices.items driver.levels (stand.size ∙ driver.invariants.sizes.owned) (stand.directory c.in-Ok.ensures.may.started)).tree

pub clear_leaves-requires-clause-tree : goal.clear_leaves-requires-clause-tree
clear_leaves-requires-clause-tree g c =
    let driver = c.args.self.now in
    let memory = c.args.memory.now in
    let stand = c.requires.ready.stand in
    let may = c.in-Ok.ensures.may in
    let here : DirectoryIn driver.frames memory driver.owners driver.devices.items driver.levels =
    in_stands driver.frames memory driver.owners driver.devices.items driver.levels (stand.size ∙ driver.invariants.sizes.owned) (stand.directory may.started) in
    let cleared = subst (λ r. IsCleared memory c.clear_context.new.memory driver.levels r c.args.id) c.directory_frame-directory.ensures record {
      tree = c.clear_context.ensures.directory;
      pages = λ f. (c.clear_context.ensures.pages f).0;
      here = c.clear_context.ensures.here;
      paths = c.clear_context.ensures.paths;
      others = c.clear_context.ensures.others;
      keeps = c.clear_context.ensures.keeps;
      outside = c.clear_context.ensures.outside;
      size = c.clear_context.ensures.size;
    } in
    let tables = tables_uncontexted driver.frames memory c.clear_context.new.memory driver.owners driver.ledger driver.devices.items driver.levels c.args.id here cleared stand.tables c.args.id c.in-Ok.stage
    (attached_owns (attachment_by_id driver.devices.items c.args.id) c.in-Ok.stage may.attached) in
    rw c.size.ensures (rooted c.in-Ok.stage.mode c.clear_context.new.memory c.in-Ok.stage.root tables.tree).tree

pub clear_leaves-requires-clause-pages : goal.clear_leaves-requires-clause-pages
clear_leaves-requires-clause-pages g c = λ page present.
    let driver = c.args.self.now in
    let tables = c.requires.ready.stand.tables c.args.id c.in-Ok.stage (attached_owns (attachment_by_id driver.devices.items c.args.id) c.in-Ok.stage c.in-Ok.ensures.may.attached) in
    rw c.size.ensures (held_low c.args.memory.now driver.owners driver.ledger c.args.id c.in-Ok.stage.mode c.in-Ok.stage.root page tables present)

pub release_all-requires : goal.release_all-requires
release_all-requires g c =
    let driver = c.args.self.now in
    let few : driver.given - driver.confirmed < pending_limit = c.in-Ok.ensures.may.few in
    let many = few_rise driver.confirmed driver.given (pending_in driver.ledger) driver.invariants.tickets.pending driver.invariants.tickets.ordered in
    let room : pending_limit ≤ pending_room driver.ledger = has_room driver.ledger in
    omega (arith, many, few, room)

pub invariant_of-self : goal.invariant_of-self
invariant_of-self g c =
    let driver = c.args.self.now in
    let may = c.in-Ok.ensures.may in
    record {
      invariants =
          subst (λ (ds : List Device). StateInvariant c.release_all.new.self driver.owners ds driver.frames driver.levels driver.started (driver.given + 1) driver.confirmed driver.restarts driver.restarted) (sym {A = List Device} c.set_attachment.ensures)
          (sound_quarantined driver.ledger c.release_all.new.self driver.owners driver.devices.items driver.frames driver.levels driver.started driver.given driver.confirmed driver.restarts driver.restarted c.args.id c.in-Ok.stage
          driver.invariants c.release_all.ensures.released may.started may.attached may.number);
    }

pub append_detach-requires-clause-frames : goal.append_detach-requires-clause-frames
append_detach-requires-clause-frames g c = c.clear_leaves.ensures.size ∙ c.clear_context.ensures.size ∙ c.requires.ready.stand.size ∙ c.args.self.now.invariants.sizes.owned

pub append_detach-requires-clause-many : goal.append_detach-requires-clause-many
append_detach-requires-clause-many g c = c.args.self.now.invariants.sizes.size.0

pub append_detach-requires-clause-ring : goal.append_detach-requires-clause-ring
append_detach-requires-clause-ring g c =
    subst (λ n. IsRing n (g.M.Mmio.registers c.args.io.now)) (c.requires.ready.stand.size ∙ c.args.self.now.invariants.sizes.owned) (c.requires.ready.ring c.in-Ok.ensures.may.started)

pub append_detach-requires-clause-room : goal.append_detach-requires-clause-room
append_detach-requires-clause-room g c = c.in-Ok.ensures.may.room

pub append_detach-requires-clause-id : goal.append_detach-requires-clause-id
append_detach-requires-clause-id g c =
    let driver = c.args.self.now in
    low_id driver.levels c.args.id (driver.invariants.named c.args.id c.in-Ok.stage (attached_owns (attachment_by_id driver.devices.items c.args.id) c.in-Ok.stage c.in-Ok.ensures.may.attached))

pub append_detach-requires-clause-number : goal.append_detach-requires-clause-number
append_detach-requires-clause-number g c =
    let driver = c.args.self.now in
    let small = driver.invariants.numbers.small c.args.id c.in-Ok.stage (attached_owns (attachment_by_id driver.devices.items c.args.id) c.in-Ok.stage c.in-Ok.ensures.may.attached) in
    let le : c.in-Ok.stage.number ≤ 17 = small.1 in
    omega (arith, le)

pub append_detach-requires-clause-quarantined : goal.append_detach-requires-clause-quarantined
append_detach-requires-clause-quarantined g c =
    let driver = c.args.self.now in
    let memory = c.args.memory.now in
    let id = c.args.id in
    let stage = c.in-Ok.stage in
    let stand = c.requires.ready.stand in
    let may = c.in-Ok.ensures.may in
    let between = c.clear_context.new.memory in
    let bare = c.clear_leaves.new.memory in
    let ledger = c.release_all.new.self in
    let owns = attached_owns (attachment_by_id driver.devices.items id) stage may.attached in
    let here = in_stands driver.frames memory driver.owners driver.devices.items driver.levels (stand.size ∙ driver.invariants.sizes.owned) (stand.directory may.started) in
    let cleared = subst (λ r. IsCleared memory between driver.levels r id) c.directory_frame-directory.ensures record {
      tree = c.clear_context.ensures.directory;
      pages = λ f. (c.clear_context.ensures.pages f).0;
      here = c.clear_context.ensures.here;
      paths = c.clear_context.ensures.paths;
      others = c.clear_context.ensures.others;
      keeps = c.clear_context.ensures.keeps;
      outside = c.clear_context.ensures.outside;
      size = c.clear_context.ensures.size;
    } in
    let tables = tables_uncontexted driver.frames memory between driver.owners driver.ledger driver.devices.items driver.levels id here cleared stand.tables in
    let unmapped = subst (λ size. AreUnmapped size driver.ledger id stage.root between bare) c.size.ensures record {
      tree = c.clear_leaves.ensures.tree;
      tables = c.clear_leaves.ensures.tables;
      leaves = c.clear_leaves.ensures.leaves;
      outside = c.clear_leaves.ensures.outside;
      keeps = c.clear_leaves.ensures.keeps;
      long = c.clear_leaves.ensures.size;
    } in
    let mapped = tables_unmapped between bare driver.owners driver.ledger ledger driver.devices.items id (driver.given + 1) stage tables owns unmapped c.release_all.ensures.released in
    let low = subst (λ n. id < n) (room_for_ids driver.levels driver.invariants.sizes.in_range) (driver.invariants.named id stage owns) in
    record {
      context = still_cleared driver.frames memory between bare driver.owners driver.ledger driver.devices.items driver.levels id (size_in stage.mode) stage.root driver.invariants.sizes.in_range here cleared low
          (λ f at. (tables id stage owns).own f (table_in stage.mode between stage.root f (inl at))) unmapped;
      tables = maps_nothing bare driver.owners ledger id stage.mode stage.root (mapped id stage owns) (none_left driver.ledger ledger id (driver.given + 1) c.release_all.ensures.released);
    }

pub returns-clause-effect : goal.returns-clause-effect
returns-clause-effect g c =
    let driver = c.args.self.now in
    let memory = c.args.memory.now in
    let id = c.args.id in
    let stage = c.in-Ok.stage in
    let stand = c.requires.ready.stand in
    let may = c.in-Ok.ensures.may in
    let io = c.args.io.now in
    let between = c.clear_context.new.memory in
    let bare = c.clear_leaves.new.memory in
    let new = c.append_detach.new.memory in
    let owns = attached_owns (attachment_by_id driver.devices.items id) stage may.attached in
    let many : length memory ≡ driver.frames = stand.size ∙ driver.invariants.sizes.owned in
    let here : DirectoryIn driver.frames memory driver.owners driver.devices.items driver.levels = in_stands driver.frames memory driver.owners driver.devices.items driver.levels many (stand.directory may.started) in
    let cleared = subst (λ r. IsCleared memory between driver.levels r id) c.directory_frame-directory.ensures record {
      tree = c.clear_context.ensures.directory;
      pages = λ f. (c.clear_context.ensures.pages f).0;
      here = c.clear_context.ensures.here;
      paths = c.clear_context.ensures.paths;
      others = c.clear_context.ensures.others;
      keeps = c.clear_context.ensures.keeps;
      outside = c.clear_context.ensures.outside;
      size = c.clear_context.ensures.size;
    } in
    let own = tables_uncontexted driver.frames memory between driver.owners driver.ledger driver.devices.items driver.levels id here cleared stand.tables id stage owns in
    let unmapped = subst (λ size. AreUnmapped size driver.ledger id stage.root between bare) c.size.ensures record {
      tree = c.clear_leaves.ensures.tree;
      tables = c.clear_leaves.ensures.tables;
      leaves = c.clear_leaves.ensures.leaves;
      outside = c.clear_leaves.ensures.outside;
      keeps = c.clear_leaves.ensures.keeps;
      long = c.clear_leaves.ensures.size;
    } in
    let kept : (f : ℕ) → slice_get driver.owners f ≢ Some (Some (OneDevice id)) → (HasPage memory (root_level driver.levels) (directory_frame driver.frames) f → ⊥) → slice_get bare f ≡ slice_get memory f =
    λ f apart outside.
    frame_stays (size_in stage.mode) driver.ledger id stage.root between bare f unmapped (λ at. apart (own.own f (table_in stage.mode between stage.root f (inl at))))
    ∙ cleared.outside f (λ at. outside (cleared.pages f at)) in
    let commands = detach_commands id stage (completion_address driver.frames) (driver.given + driver.restarts + 1) in
    let appended = subst (λ n. AppendsAll g.M.Mmio bare io (detach_commands id stage (completion_address driver.frames) (n + 1)) new c.append_detach.new.io) c.last_fence-number.ensures c.append_detach.ensures.appended in
    let pages = held_pages driver.ledger id (pages_listed driver.ledger id) in
    let whole : bare ≡ all_unmapped (size_in stage.mode) (without_context memory (root_level driver.levels) (directory_frame (length memory)) id) stage.root pages =
    c.clear_leaves.ensures.whole
    ∙ ap (λ size. all_unmapped size between stage.root pages) c.size.ensures
    ∙ ap (λ m. all_unmapped (size_in stage.mode) m stage.root pages)
    (c.clear_context.ensures.whole ∙ ap (λ r. without_context memory (root_level driver.levels) r id) (c.directory_frame-directory.ensures ∙ ap directory_frame (sym many))) in (
      c.in-Ok.ensures.admitted,
      record {
        stage = stage;
        attached = may.attached;
        next = refl;
        pages = pages;
        all = λ page. (c.clear_leaves.ensures.all page, contained_held driver.ledger id page (pages_listed driver.ledger id));
        shown = c.release_all.ensures.released;
        agrees = c.release_all.ensures.agrees;
        driver = rw c.set_attachment.ensures refl;
        queued = rw (sym whole, many) appended;
        list =
            let r = g.M.Mmio.registers io in
            let ring = kept (command_frame (length memory)) (λ at. not_of_device driver.owners (command_frame (length memory)) id (rw many driver.invariants.fixed.command) at)
            (λ at. (here.own (command_frame (length memory)) at).no_command (ap command_frame many)) in
            rw many
            (all_last g.M.Mmio bare new io c.append_detach.new.io commands appended
            ∙ ap (λ (xs : List QueueEntry). xs ++ map stands.Command commands) (same_commands memory bare r (c.requires.ready.ring may.started) ring));
        others = λ f apart outside differs.
            c.append_detach.ensures.other_frames f (λ same. differs (same ∙ ap command_frame (sym many)))
            ∙ kept f apart (λ at. outside (subst (λ n. HasPage memory (root_level driver.levels) (directory_frame n) f) (sym many) at));
        standing = leaves_standing (state_of driver) _ driver.frames memory new many stand.tables
            (λ other s was is. one_changes memory new driver.owners driver.ledger driver.devices.items id stage stand.tables owns
            (keeps_through (size_in stage.mode) memory bare new stage.root
            (keeps_through (size_in stage.mode) memory between bare stage.root
            (frames_keep memory between driver.owners driver.ledger id stage.mode stage.root (stand.tables id stage owns)
            (λ n mark. cleared.outside n (λ at. not_of_device driver.owners n id (here.own n (cleared.pages n at)).system mark)))
            unmapped.keeps)
            (tree_keeps (size_in stage.mode) bare new stage.root unmapped.tree
            (λ f at. c.append_detach.ensures.other_frames f
            (of_one driver.owners (driver.frames - 1) f id driver.invariants.fixed.command (own.own f (table_in stage.mode between stage.root f (inl ((unmapped.tables f).0 at))))))))
            (λ n one apart mark.
            c.append_detach.ensures.other_frames n (of_one driver.owners (driver.frames - 1) n one driver.invariants.fixed.command mark)
            ∙ kept n (λ at. apart (one_owner driver.owners n one id mark at)) (λ at. not_of_device driver.owners n one (here.own n at).system mark))
            other s was)
            (λ started level one page low at.
            pages_stay driver.levels (directory_frame driver.frames) between new driver.invariants.sizes.in_range cleared.tree (c.append_detach.ensures.size ∙ c.clear_leaves.ensures.size)
            (λ f has.
            let frame = here.own f (cleared.pages f has) in
            c.append_detach.ensures.other_frames f frame.no_command
            ∙ frame_stays (size_in stage.mode) driver.ledger id stage.root between bare f unmapped
            (λ table. not_of_device driver.owners f id frame.system (own.own f (table_in stage.mode between stage.root f (inl table)))))
            level one page low (cleared.keeps level one page low at));
      },
    )
  where
    one_owner : (owners : List (Option Owner)) (n one other : ℕ) → slice_get owners n ≡ Some (Some (OneDevice one)) → slice_get owners n ≡ Some (Some (OneDevice other)) → one ≡ other
    one_owner owners n one other a b = cc

pub returns-clause-ready : goal.returns-clause-ready
returns-clause-ready g c =
    let driver = c.args.self.now in
    let memory = c.args.memory.now in
    let id = c.args.id in
    let stage = c.in-Ok.stage in
    let stand = c.requires.ready.stand in
    let may = c.in-Ok.ensures.may in
    let between = c.clear_context.new.memory in
    let bare = c.clear_leaves.new.memory in
    let new = c.append_detach.new.memory in
    let ledger = c.release_all.new.self in
    let ticket = driver.given + 1 in
    let devices = with_attachment driver.devices.items id (Quarantined ticket stage) in
    let owns = attached_owns (attachment_by_id driver.devices.items id) stage may.attached in
    let many : length memory ≡ driver.frames = stand.size ∙ driver.invariants.sizes.owned in
    let here : DirectoryIn driver.frames memory driver.owners driver.devices.items driver.levels = in_stands driver.frames memory driver.owners driver.devices.items driver.levels many (stand.directory may.started) in
    let cleared = subst (λ r. IsCleared memory between driver.levels r id) c.directory_frame-directory.ensures record {
      tree = c.clear_context.ensures.directory;
      pages = λ f. (c.clear_context.ensures.pages f).0;
      here = c.clear_context.ensures.here;
      paths = c.clear_context.ensures.paths;
      others = c.clear_context.ensures.others;
      keeps = c.clear_context.ensures.keeps;
      outside = c.clear_context.ensures.outside;
      size = c.clear_context.ensures.size;
    } in
    let tables = tables_uncontexted driver.frames memory between driver.owners driver.ledger driver.devices.items driver.levels id here cleared stand.tables in
    let own = tables id stage owns in
    let unmapped = subst (λ size. AreUnmapped size driver.ledger id stage.root between bare) c.size.ensures record {
      tree = c.clear_leaves.ensures.tree;
      tables = c.clear_leaves.ensures.tables;
      leaves = c.clear_leaves.ensures.leaves;
      outside = c.clear_leaves.ensures.outside;
      keeps = c.clear_leaves.ensures.keeps;
      long = c.clear_leaves.ensures.size;
    } in
    let rest : length new ≡ length between = c.append_detach.ensures.size ∙ c.clear_leaves.ensures.size in
    let size : length new ≡ length memory = rest ∙ c.clear_context.ensures.size in
    let system : (f : ℕ) → slice_get driver.owners f ≡ Some (Some System) → slice_get bare f ≡ slice_get between f =
    λ f mark. frame_stays (size_in stage.mode) driver.ledger id stage.root between bare f unmapped (λ at. not_of_device driver.owners f id mark (own.own f (table_in stage.mode between stage.root f (inl at)))) in
    let none : stages_of devices id ≡ None = ap attached_stages (attachment_set driver.devices.items id (Quarantined ticket stage) (attached_there driver.devices.items id stage may.attached)) in
    let same : (other : ℕ) → other ≢ id → stages_of devices other ≡ stages_of driver.devices.items other =
    λ other apart. ap attached_stages (attachment_other driver.devices.items id other (Quarantined ticket stage) apart) in
    let owned = owned_quarantined driver.devices.items id ticket stage may.attached in
    let after = directory_cleared driver.frames memory between driver.owners driver.devices.items devices driver.levels id here cleared.tree cleared.pages cleared.here cleared.others cleared.paths none same owned in
    let mapped = tables_unmapped between bare driver.owners driver.ledger ledger driver.devices.items id ticket stage tables owns unmapped c.release_all.ensures.released in
    let all = all_stay bare new driver.owners ledger ledger driver.devices.items mapped
    (λ n other mark. c.append_detach.ensures.other_frames n (of_one driver.owners (driver.frames - 1) n other driver.invariants.fixed.command mark)) (λ other page. refl) in
    rw c.set_attachment.ensures record {
      stand = record {
        size = size ∙ stand.size;
        tables = λ other s at. all other s (sym (owned other) ∙ at);
        directory = λ started.
            stands_in driver.frames new driver.owners devices driver.levels (size ∙ many)
            (directory_stay driver.frames between new driver.owners driver.owners devices devices driver.levels driver.invariants.sizes.in_range rest
            (λ n mark. (c.append_detach.ensures.other_frames n mark.no_command ∙ system n mark.system, refl)) (λ other. refl) (λ other s at. at) after);
      };
      faults = λ started.
          let fault = fault_frame (length memory) in
          fault_ring_stays memory new (g.M.Mmio.registers c.args.io.now) (g.M.Mmio.registers c.append_detach.new.io) size
          (c.append_detach.ensures.other_frames fault (λ same. absurd (omega (arith, many, driver.invariants.sizes.size.0, same)))
          ∙ system fault (ap (λ n. slice_get driver.owners (fault_frame n)) many ∙ driver.invariants.fixed.fault)
          ∙ cleared.outside fault (λ at. (here.own fault (cleared.pages fault at)).no_fault (ap fault_frame many)))
          c.append_detach.ensures.faults (c.requires.ready.faults started);
      ring = λ started. subst (λ n. IsRing n (g.M.Mmio.registers c.append_detach.new.io)) (sym (size ∙ many)) c.append_detach.ensures.ring;
      directory = λ started. subst (λ n. NamesDirectory n driver.levels (g.M.Mmio.registers c.append_detach.new.io)) (sym size)
          (stays_named (length memory) driver.levels (g.M.Mmio.registers c.args.io.now) (g.M.Mmio.registers c.append_detach.new.io) c.append_detach.ensures.named (c.requires.ready.directory started));
    }
