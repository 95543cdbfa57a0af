use Rattle.std.proofs.Common.{◌≡◌, ◌≤◌, ◌<◌, ◌+◌, ◌-◌, ◌++◌, ◌∙◌, inl, ℕ, List, map, slice_get, Option, Some, None, IsSome, length, refl, sym, ap, subst, arith}
use Rattle.std.proofs.lemmas.Bool.{eq-eqb}
use Rattle.iom_base.specs.Modes.{size_in}
use Rattle.iom_base.specs.Sizes.{levels_of, page_limit_of}
use Rattle.iom_base.specs.declared.size.Size.TheVariants.{Sv48}
use Rattle.iom_ledger.specs.History.{pending_limit}
use Rattle.iom_ledger.specs.Shown.{pending_in, pending_room}
use Rattle.iom_ledger.proofs.RoomLemmas.{has_room}
use Rattle.iom_base.specs.declared.owner.Owner.{Owner}
use Rattle.iom_base.specs.declared.owner.Owner.TheVariants.{System, OneDevice}
use Rattle.iom_command_queue.specs.declared.entry.QueueEntry.{QueueEntry}
use Rattle.iom_command_queue.specs.declared.entry.QueueEntry.TheVariants as stands
use Rattle.iom_page_table.specs.FirstTables.{unmapped}
use Rattle.iom_page_table.specs.Leaves.{leaf_of}
use Rattle.iom_driver.specs.Appends.{release_commands, AppendsAll}
use Rattle.iom_driver.specs.Devices.{attachment_by_id}
use Rattle.iom_driver.specs.Directory.{NamesDirectory}
use Rattle.iom_driver.specs.Layout.{command_frame, directory_frame, fault_frame, completion_address}
use Rattle.iom_driver.specs.Ready.{IsRing}
use Rattle.iom_driver.specs.StateOf.{state_of}
use Rattle.iom_driver.proofs.Directories.{directory_stay, low_id, in_stands, stands_in}
use Rattle.iom_driver.proofs.FaultRings.{fault_ring_stays}
use Rattle.iom_driver.proofs.Keeps.{sound_released}
use Rattle.iom_driver.proofs.Limits.{held_low}
use Rattle.iom_driver.proofs.Modes.{rooted, table_in}
use Rattle.iom_driver.proofs.Places.{attached_owns}
use Rattle.iom_driver.proofs.ReleaseTables.{IsUnmapped, other_frame, tables_released}
use Rattle.iom_driver.proofs.Ring.{same_commands, all_last, stays_named}
use Rattle.iom_driver.proofs.StandingLemmas.{keeps_through, leaves_standing, one_changes, pages_stay, tree_keeps}
use Rattle.iom_driver.proofs.Unchanged.{all_stay, of_one}
use Rattle.iom_driver.proofs.Tickets.{few_rise}
use Rattle.iom_driver.proofs.driver.Driver.release.Goals as goal

-- a value that is there
there : {A : Type 0} (o : Option A) → IsSome o → (x : A) × (o ≡ Some x)
there None present = cc
there (Some x) present = (x, refl)

-- a frame of the system's isn't a device's
not_of_device : (owners : List (Option Owner)) (n id : ℕ) → slice_get owners n ≡ Some (Some System) → slice_get owners n ≡ Some (Some (OneDevice id)) → ⊥
not_of_device owners n id system own = let both : ◌≡◌ {A = Option (Option Owner)} (Some (Some System)) (Some (Some (OneDevice id))) = sym system ∙ own in cc

pub returns-in-Err : goal.returns-in-Err
returns-in-Err g c = record {
  effect = (c.in-Err.ensures.refused, refl, refl, refl);
  ready = c.requires.ready;
}

pub release-requires-clause-held : goal.release-requires-clause-held
release-requires-clause-held g c = c.in-Ok.ensures.may.held

pub release-requires-clause-room : goal.release-requires-clause-room
release-requires-clause-room g c =
    let driver = c.args.self.now in
    let few : driver.given - driver.confirmed < pending_limit = c.in-Ok.ensures.may.few in
    let many = few_rise driver.confirmed driver.given (pending_in driver.ledger) driver.invariants.tickets.pending driver.invariants.tickets.ordered in
    let room : pending_limit ≤ pending_room driver.ledger = has_room driver.ledger in
    omega (arith, many, few, room)

pub invariant_of-self : goal.invariant_of-self
invariant_of-self g c =
    let driver = c.args.self.now in
    record {
      invariants = sound_released driver.ledger c.release.new.self driver.owners driver.devices.items driver.frames driver.levels driver.started driver.given driver.confirmed driver.restarts driver.restarted c.args.id c.args.page
          driver.invariants c.release.ensures.released c.in-Ok.ensures.may.number;
    }

pub unmap-requires-clause-tree : goal.unmap-requires-clause-tree
unmap-requires-clause-tree g c =
    let tables = c.requires.ready.stand.tables c.args.id c.in-Ok.stage (attached_owns (attachment_by_id c.args.self.now.devices.items c.args.id) c.in-Ok.stage c.in-Ok.ensures.may.attached) in
    rw c.size.ensures (rooted c.in-Ok.stage.mode c.args.memory.now c.in-Ok.stage.root tables.tree).tree

pub unmap-requires-clause-page : goal.unmap-requires-clause-page
unmap-requires-clause-page g c =
    let driver = c.args.self.now in
    let tables = c.requires.ready.stand.tables c.args.id c.in-Ok.stage (attached_owns (attachment_by_id driver.devices.items c.args.id) c.in-Ok.stage c.in-Ok.ensures.may.attached) in
    rw c.size.ensures (held_low c.args.memory.now driver.owners driver.ledger c.args.id c.in-Ok.stage.mode c.in-Ok.stage.root c.args.page tables c.in-Ok.ensures.may.held)

pub append_release-requires-clause-frames : goal.append_release-requires-clause-frames
append_release-requires-clause-frames g c = c.unmap.ensures.size ∙ c.requires.ready.stand.size ∙ c.args.self.now.invariants.sizes.owned

pub append_release-requires-clause-many : goal.append_release-requires-clause-many
append_release-requires-clause-many g c = c.args.self.now.invariants.sizes.size.0

pub append_release-requires-clause-ring : goal.append_release-requires-clause-ring
append_release-requires-clause-ring g c =
    subst (λ n. IsRing n (g.M.Mmio.registers c.args.io.now)) (c.requires.ready.stand.size ∙ c.args.self.now.invariants.sizes.owned) (c.requires.ready.ring c.in-Ok.ensures.may.started)

pub append_release-requires-clause-room : goal.append_release-requires-clause-room
append_release-requires-clause-room g c = c.in-Ok.ensures.may.room

pub append_release-requires-clause-id : goal.append_release-requires-clause-id
append_release-requires-clause-id g c =
    let driver = c.args.self.now in
    low_id driver.levels c.args.id (driver.invariants.named c.args.id c.in-Ok.stage (attached_owns (attachment_by_id driver.devices.items c.args.id) c.in-Ok.stage c.in-Ok.ensures.may.attached))

pub append_release-requires-clause-number : goal.append_release-requires-clause-number
append_release-requires-clause-number g c =
    let small = c.args.self.now.invariants.numbers.small c.args.id c.in-Ok.stage (attached_owns (attachment_by_id c.args.self.now.devices.items c.args.id) c.in-Ok.stage c.in-Ok.ensures.may.attached) in
    let le : c.in-Ok.stage.number ≤ 17 = small.1 in
    omega arith

pub append_release-requires-clause-page : goal.append_release-requires-clause-page
append_release-requires-clause-page g c =
    let held = there _ c.in-Ok.ensures.may.held in
    let low : c.args.page < page_limit_of Sv48 = (c.args.self.now.invariants.grants.held c.args.id c.args.page held.0.0 held.0.1 held.1).page_low in
    omega arith

pub append_release-requires-clause-unmapped : goal.append_release-requires-clause-unmapped
append_release-requires-clause-unmapped g c =
    let held = there _ c.in-Ok.ensures.may.held in
    let low : c.args.page < page_limit_of Sv48 = (c.args.self.now.invariants.grants.held c.args.id c.args.page held.0.0 held.0.1 held.1).page_low in
    subst (λ size. leaf_of (levels_of size) c.unmap.new.memory c.in-Ok.stage.root c.args.page ≡ None) c.size.ensures
    (c.unmap.ensures.leaf c.args.page (omega arith) ∙ rw (eq-eqb c.args.page c.args.page refl) refl)

pub returns-clause-effect : goal.returns-clause-effect
returns-clause-effect g c =
    let driver = c.args.self.now in
    let memory = c.args.memory.now in
    let stand = c.requires.ready.stand in
    let size = size_in c.in-Ok.stage.mode in
    let unmapped_so = subst (λ given. IsUnmapped given memory c.unmap.new.memory c.in-Ok.stage.root c.args.page) c.size.ensures record {
      tree = c.unmap.ensures.tree;
      tables = c.unmap.ensures.tables;
      leaf = c.unmap.ensures.leaf;
      outside = c.unmap.ensures.outside;
      keeps = c.unmap.ensures.keeps;
      long = c.unmap.ensures.size;
    } in
    let many : length memory ≡ driver.frames = stand.size ∙ driver.invariants.sizes.owned in
    let commands = release_commands c.args.id c.in-Ok.stage c.args.page (completion_address driver.frames) (driver.given + driver.restarts + 1) in
    let appended = subst (λ n. AppendsAll g.M.Mmio c.unmap.new.memory c.args.io.now (release_commands c.args.id c.in-Ok.stage c.args.page (completion_address driver.frames) (n + 1)) c.append_release.new.memory c.append_release.new.io)
    c.last_fence-number.ensures c.append_release.ensures.appended in
    let tables = stand.tables c.args.id c.in-Ok.stage (attached_owns (attachment_by_id driver.devices.items c.args.id) c.in-Ok.stage c.in-Ok.ensures.may.attached) in (
      c.in-Ok.ensures.admitted,
      record {
        stage = c.in-Ok.stage;
        attached = c.in-Ok.ensures.may.attached;
        next = refl;
        shown = c.release.ensures.released;
        agrees = c.release.ensures.agrees;
        driver = refl;
        queued = rw (many, sym (c.unmap.ensures.whole ∙ ap (λ given. unmapped given memory c.in-Ok.stage.root c.args.page) c.size.ensures)) appended;
        list =
            let io = c.args.io.now in
            let r = g.M.Mmio.registers io in
            let kept = other_frame size memory c.unmap.new.memory c.in-Ok.stage.root c.args.page (command_frame (length memory)) unmapped_so
            (λ at. not_of_device driver.owners (command_frame (length memory)) c.args.id (rw many driver.invariants.fixed.command)
            (tables.own (command_frame (length memory)) (table_in c.in-Ok.stage.mode memory c.in-Ok.stage.root (command_frame (length memory)) (inl at)))) in
            rw many
            (all_last g.M.Mmio c.unmap.new.memory c.append_release.new.memory io c.append_release.new.io commands appended
            ∙ ap (λ (xs : List QueueEntry). xs ++ map stands.Command commands) (same_commands memory c.unmap.new.memory r (c.requires.ready.ring c.in-Ok.ensures.may.started) kept));
        others = λ f differs apart.
            c.append_release.ensures.other_frames f (λ same. apart (same ∙ ap command_frame (sym many)))
            ∙ other_frame size memory c.unmap.new.memory c.in-Ok.stage.root c.args.page f unmapped_so (λ at. differs (tables.own f (table_in c.in-Ok.stage.mode memory c.in-Ok.stage.root f (inl at))));
        standing =
            let root = c.in-Ok.stage.root in
            let between = c.unmap.new.memory in
            let new = c.append_release.new.memory in
            let other : (f : ℕ) → (slice_get driver.owners f ≡ Some (Some (OneDevice c.args.id)) → ⊥) → slice_get between f ≡ slice_get memory f =
            λ f differs. other_frame size memory between root c.args.page f unmapped_so (λ at. differs (tables.own f (table_in c.in-Ok.stage.mode memory root f (inl at)))) in
            leaves_standing (state_of driver) _ driver.frames memory new many stand.tables
            (λ one s was is. one_changes memory new driver.owners driver.ledger driver.devices.items c.args.id c.in-Ok.stage stand.tables
            (attached_owns (attachment_by_id driver.devices.items c.args.id) c.in-Ok.stage c.in-Ok.ensures.may.attached)
            (keeps_through size memory between new root unmapped_so.keeps
            (tree_keeps size between new root unmapped_so.tree
            (λ f at. c.append_release.ensures.other_frames f
            (of_one driver.owners (driver.frames - 1) f c.args.id driver.invariants.fixed.command (tables.own f (table_in c.in-Ok.stage.mode memory root f (inl ((unmapped_so.tables f).0 at))))))))
            (λ n two apart own.
            c.append_release.ensures.other_frames n (of_one driver.owners (driver.frames - 1) n two driver.invariants.fixed.command own)
            ∙ other n (λ mark. apart (one_owner driver.owners n two c.args.id own mark)))
            one s was)
            (λ started.
            let here = in_stands driver.frames memory driver.owners driver.devices.items driver.levels many (stand.directory started) in
            pages_stay driver.levels (directory_frame driver.frames) memory new driver.invariants.sizes.in_range here.tree (c.append_release.ensures.size ∙ c.unmap.ensures.size)
            (λ f at. c.append_release.ensures.other_frames f (here.own f at).no_command ∙ other f (λ mark. not_of_device driver.owners f c.args.id (here.own f at).system mark)));
      },
    )
  where
    one_owner : (owners : List (Option Owner)) (n one other : ℕ) → slice_get owners n ≡ Some (Some (OneDevice one)) → slice_get owners n ≡ Some (Some (OneDevice other)) → one ≡ other
    one_owner owners n one other a b = cc

pub returns-clause-ready : goal.returns-clause-ready
returns-clause-ready g c =
    let driver = c.args.self.now in
    let stand = c.requires.ready.stand in
    let unmapped_so = subst (λ given. IsUnmapped given c.args.memory.now c.unmap.new.memory c.in-Ok.stage.root c.args.page) c.size.ensures record {
      tree = c.unmap.ensures.tree;
      tables = c.unmap.ensures.tables;
      leaf = c.unmap.ensures.leaf;
      outside = c.unmap.ensures.outside;
      keeps = c.unmap.ensures.keeps;
      long = c.unmap.ensures.size;
    } in
    let tables = tables_released c.args.memory.now c.unmap.new.memory driver.owners driver.ledger c.release.new.self driver.devices.items c.args.id c.args.page (driver.given + 1) c.in-Ok.stage
    stand.tables (attached_owns (attachment_by_id driver.devices.items c.args.id) c.in-Ok.stage c.in-Ok.ensures.may.attached) unmapped_so c.release.ensures.released in
    let before = stand.tables c.args.id c.in-Ok.stage (attached_owns (attachment_by_id driver.devices.items c.args.id) c.in-Ok.stage c.in-Ok.ensures.may.attached) in
    let many : length c.args.memory.now ≡ driver.frames = stand.size ∙ driver.invariants.sizes.owned in
    let size : length c.append_release.new.memory ≡ length c.args.memory.now = c.append_release.ensures.size ∙ c.unmap.ensures.size in
    record {
      stand = record {
        size = size ∙ stand.size;
        tables = all_stay c.unmap.new.memory c.append_release.new.memory driver.owners c.release.new.self c.release.new.self driver.devices.items tables
            (λ n id own. c.append_release.ensures.other_frames n (of_one driver.owners (driver.frames - 1) n id driver.invariants.fixed.command own)) (λ id page. refl);
        directory = λ started.
            stands_in driver.frames c.append_release.new.memory driver.owners driver.devices.items driver.levels (size ∙ many)
            (directory_stay driver.frames c.args.memory.now c.append_release.new.memory driver.owners driver.owners driver.devices.items driver.devices.items driver.levels driver.invariants.sizes.in_range size
            (λ n own. (
              c.append_release.ensures.other_frames n own.no_command
                  ∙ other_frame (size_in c.in-Ok.stage.mode) c.args.memory.now c.unmap.new.memory c.in-Ok.stage.root c.args.page n unmapped_so
                  (λ at. not_of_device driver.owners n c.args.id own.system (before.own n (table_in c.in-Ok.stage.mode c.args.memory.now c.in-Ok.stage.root n (inl at)))),
              refl,
            )) (λ id. refl) (λ id stage at. at) (in_stands driver.frames c.args.memory.now driver.owners driver.devices.items driver.levels many (stand.directory started)));
      };
      directory = λ started. subst (λ n. NamesDirectory n driver.levels (g.M.Mmio.registers c.append_release.new.io)) (sym size)
          (stays_named (length c.args.memory.now) driver.levels (g.M.Mmio.registers c.args.io.now) (g.M.Mmio.registers c.append_release.new.io) c.append_release.ensures.named (c.requires.ready.directory started));
      faults = λ started.
          let fault = fault_frame (length c.args.memory.now) in
          let system : slice_get driver.owners fault ≡ Some (Some System) = ap (λ n. slice_get driver.owners (fault_frame n)) many ∙ driver.invariants.fixed.fault in
          fault_ring_stays c.args.memory.now c.append_release.new.memory (g.M.Mmio.registers c.args.io.now) (g.M.Mmio.registers c.append_release.new.io) size
          (c.append_release.ensures.other_frames fault (λ same. absurd (omega (arith, many, driver.invariants.sizes.size.0, same)))
          ∙ other_frame (size_in c.in-Ok.stage.mode) c.args.memory.now c.unmap.new.memory c.in-Ok.stage.root c.args.page fault unmapped_so
          (λ at. not_of_device driver.owners fault c.args.id system (before.own fault (table_in c.in-Ok.stage.mode c.args.memory.now c.in-Ok.stage.root fault (inl at)))))
          c.append_release.ensures.faults (c.requires.ready.faults started);
      ring = λ started. subst (λ n. IsRing n (g.M.Mmio.registers c.append_release.new.io)) (sym (size ∙ stand.size ∙ driver.invariants.sizes.owned)) c.append_release.ensures.ring;
    }
