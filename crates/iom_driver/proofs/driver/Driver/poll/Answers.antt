use Rattle.std.proofs.Common.{◌≡◌, ◌≢◌, ◌-◌, ◌↔◌, ◌≤◌, ◌+◌, ◌*◌, ◌∙◌, ℕ, List, length, false, map, Option, Some, slice_get, refl, sym, ap, subst, arith}
use Rattle.std.proofs.lemmas.Bool.{false≢true}
use Rattle.std.proofs.lemmas.List.{length-map}
use Rattle.iom_base.specs.declared.owner.Owner.{Owner}
use Rattle.iom_base.specs.declared.owner.Owner.TheVariants.{System, OneDevice}
use Rattle.iom_phys_mem.specs.Words.{word_at}
use Rattle.iom_driver.specs.declared.device.Device.{Device}
use Rattle.iom_driver.specs.Confirmed.{driven_once_confirmed, owner_given_back, is_gone, has_left_until, ClearsGone}
use Rattle.iom_driver.specs.Devices.{owned_stages_of}
use Rattle.iom_driver.specs.Directory.{NamesDirectory}
use Rattle.iom_driver.specs.Fences.{fence_of, done_by}
use Rattle.iom_driver.specs.Layout.{completion_address, directory_frame, fault_frame}
use Rattle.iom_driver.specs.Ready.{IsRing}
use Rattle.iom_driver.specs.StateOf.{state_of}
use Rattle.iom_driver.specs.State.{DriverState}
use Rattle.iom_driver.proofs.Confirms.{confirms_none}
use Rattle.iom_driver.proofs.Directories.{in_stands, stands_in}
use Rattle.iom_driver.proofs.FaultRings.{fault_ring_stays, same_faults}
use Rattle.iom_driver.proofs.DoneTickets.{done_given, done_exactly}
use Rattle.iom_driver.proofs.Gone.{still_owned, none_left, nobody_gone, marks_same, devices_same}
use Rattle.iom_driver.proofs.Ids.{device_at}
use Rattle.iom_driver.proofs.Keeps.{sound_polled}
use Rattle.iom_driver.proofs.Lists.{differs}
use Rattle.iom_driver.proofs.Places.{attachment_is}
use Rattle.iom_driver.proofs.PollTables.{owned_stays, tables_polled, directory_polled}
use Rattle.iom_driver.proofs.StandingLemmas.{frames_keep, leaves_standing, pages_stay}
use Rattle.iom_driver.proofs.driver.Driver.poll.Goals as goal

-- a driver of which no device has left
unchanged_so : (d : DriverState) (n : ℕ) → n ≡ d.confirmed → map (owner_given_back d.confirmed d.devices) d.owners ≡ d.owners → map (driven_once_confirmed d.confirmed) d.devices ≡ d.devices
    → d ≡ record d { ledger = d.ledger; owners = map (owner_given_back n d.devices) d.owners; devices = map (driven_once_confirmed n) d.devices; confirmed = n }
unchanged_so d n same owners devices =
    sym (ap (λ m. record d { owners = map (owner_given_back m d.devices) d.owners; devices = map (driven_once_confirmed m) d.devices; confirmed = m }) same
    ∙ ap (λ (ms : List (Option Owner)). record d { owners = ms; devices = map (driven_once_confirmed d.confirmed) d.devices }) owners
    ∙ ap (λ (ds : List Device). record d { devices = ds }) devices)

none_cleared : (done : ℕ) (devices : List Device) (owners : List (Option Owner)) (memory : List (List ℕ)) → ((owner : Owner) → is_gone done devices owner ≡ false) → ClearsGone done devices owners memory memory
none_cleared done devices owners memory nobody = record {
  size = refl;
  own = λ f owner at gone. absurd (false≢true (sym (nobody owner) ∙ gone));
  others = λ f stay. refl;
}

pub returns-then-done-self-clause-effect : goal.returns-then-done-self-clause-effect
returns-then-done-self-clause-effect g c =
    let driver = c.args.self.now in
    let devices = driver.devices.items in
    let memory = c.args.memory.now in
    let many : length memory ≡ driver.frames = c.requires.ready.stand.size ∙ driver.invariants.sizes.owned in
    let stay = none_left devices driver.given driver.confirmed driver.invariants.leaving in
    let nobody = nobody_gone devices driver.confirmed stay in
    let at_place : (k : ℕ) (device : Device) → slice_get devices k ≡ Some device → has_left_until driver.confirmed device.attachment ≡ false =
    λ k device at. ap (has_left_until driver.confirmed) (sym (attachment_is devices device.id device (device_at devices k device driver.invariants.ids at))) ∙ stay device.id in
    let none : driver.confirmed + 0 ≡ driver.confirmed = omega arith in
    let word = c.first_word-word.result in
    let read : word_at 4 memory (completion_address driver.frames) ≡ Some word = ap (λ f. word_at 4 memory (4096 * f)) (sym c.completion_frame.ensures) ∙ c.first_word-word.ensures in (
      rw c.if-not-self.false refl,
      record {
        word = word;
        read = ap (λ n. word_at 4 memory (completion_address n)) many ∙ read;
        count = omega (arith, c.last_done-done.ensures, c.if-done-self.true);
        exact = λ ticket late given.
            subst (λ n. (ticket ≤ driver.confirmed + n) ↔ (fence_of (state_of driver) ticket ≤ word)) (omega (arith, c.last_done-done.ensures, c.if-done-self.true)) (done_exactly (state_of driver) word ticket late given);
        first = refl;
        timed_out = c.has_timed_out-timed_out.ensures;
        shown = confirms_none driver.ledger (driver.confirmed + 1) 0 refl;
        agrees = λ h agrees. agrees;
        driver = unchanged_so (state_of driver) (driver.confirmed + 0) none (marks_same driver.confirmed devices driver.owners nobody) (devices_same driver.confirmed devices at_place);
        cleared = subst (λ n. ClearsGone n devices driver.owners memory memory) (sym none) (none_cleared driver.confirmed devices driver.owners memory nobody);
        standing = leaves_standing (state_of driver) _ driver.frames memory memory many c.requires.ready.stand.tables (λ id stage was is prefix table inside at. at) (λ started level id page low at. at);
      },
    )

pub invariant_of-self : goal.invariant_of-self
invariant_of-self g c =
    let driver = c.args.self.now in
    let done = c.last_done-done.result in
    let ordered : driver.confirmed ≤ driver.given = driver.invariants.tickets.ordered in
    let low : driver.confirmed ≤ done = omega arith in
    let high : done ≤ driver.given = omega (arith, c.last_done-done.ensures, done_given (state_of driver) c.first_word-word.result, ordered) in
    record {
      invariants =
          rw (c.let_go.ensures.owners, c.let_go.ensures.devices)
          (sound_polled driver.ledger c.confirm_after.new.ledger driver.owners driver.devices.items driver.frames driver.levels driver.started driver.given driver.confirmed driver.restarts driver.restarted done
          driver.invariants c.confirm_after.ensures.shown low high);
    }

pub returns-clause-effect : goal.returns-clause-effect
returns-clause-effect g c =
    let driver = c.args.self.now in
    let memory = c.args.memory.now in
    let done = c.last_done-done.result in
    let word = c.first_word-word.result in
    let many : length memory ≡ driver.frames = c.requires.ready.stand.size ∙ driver.invariants.sizes.owned in
    let read : word_at 4 memory (completion_address driver.frames) ≡ Some word = ap (λ f. word_at 4 memory (4096 * f)) (sym c.completion_frame.ensures) ∙ c.first_word-word.ensures in
    let by : done ≡ driver.confirmed + (done_by (state_of driver) word - driver.confirmed) = c.last_done-done.ensures in
    let up : driver.confirmed + (done - driver.confirmed) ≡ done = omega (arith, by) in
    let count : done - driver.confirmed ≡ done_by (state_of driver) word - driver.confirmed = omega (arith, by) in
    let some : done - driver.confirmed ≢ 0 = omega (arith, by, c.if-done-self.false) in (
      rw c.if-not-self.false refl,
      record {
        word = word;
        read = ap (λ n. word_at 4 memory (completion_address n)) many ∙ read;
        count = count;
        exact = λ ticket late given.
            subst (λ n. (ticket ≤ driver.confirmed + n) ↔ (fence_of (state_of driver) ticket ≤ word)) (sym count) (done_exactly (state_of driver) word ticket late given);
        first = rw (differs (done - driver.confirmed) 0 some) refl;
        timed_out = c.has_timed_out-timed_out.ensures;
        shown = c.confirm_after.ensures.shown;
        agrees = c.confirm_after.ensures.agrees;
        driver = rw (c.let_go.ensures.owners, c.let_go.ensures.devices, up) refl;
        cleared = subst (λ n. ClearsGone n driver.devices.items driver.owners memory c.let_go.new.memory) (sym up) c.let_go.ensures.memory;
        standing = leaves_standing (state_of driver) _ driver.frames memory c.let_go.new.memory many c.requires.ready.stand.tables
            (λ id stage was is.
            let still = still_owned done driver.devices.items id stage (ap (λ (ds : List Device). owned_stages_of ds id) (sym {A = List Device} c.let_go.ensures.devices) ∙ is) in
            frames_keep memory c.let_go.new.memory driver.owners driver.ledger id stage.mode stage.root (c.requires.ready.stand.tables id stage was)
            (λ n own. (owned_stays done driver.devices.items driver.owners memory c.let_go.new.memory n (OneDevice id) c.let_go.ensures.memory own still.1).0))
            (λ started.
            let here = in_stands driver.frames memory driver.owners driver.devices.items driver.levels many (c.requires.ready.stand.directory started) in
            pages_stay driver.levels (directory_frame driver.frames) memory c.let_go.new.memory driver.invariants.sizes.in_range here.tree c.let_go.ensures.memory.size
            (λ f at. (owned_stays done driver.devices.items driver.owners memory c.let_go.new.memory f System c.let_go.ensures.memory (here.own f at).system refl).0));
      },
    )

pub returns-clause-ready : goal.returns-clause-ready
returns-clause-ready g c =
    let driver = c.args.self.now in
    let memory = c.args.memory.now in
    let done = c.last_done-done.result in
    let ready = c.requires.ready in
    let many : length memory ≡ driver.frames = ready.stand.size ∙ driver.invariants.sizes.owned in
    let size : length c.let_go.new.memory ≡ length memory = c.let_go.ensures.memory.size in
    rw (c.let_go.ensures.owners, c.let_go.ensures.devices) record {
      stand = record {
        size = size ∙ ready.stand.size ∙ sym (length-map driver.owners (owner_given_back done driver.devices.items));
        tables = tables_polled done memory c.let_go.new.memory driver.owners driver.ledger c.confirm_after.new.ledger driver.devices.items ready.stand.tables c.let_go.ensures.memory c.confirm_after.ensures.shown.held;
        directory = λ started.
            stands_in driver.frames c.let_go.new.memory (map (owner_given_back done driver.devices.items) driver.owners) (map (driven_once_confirmed done) driver.devices.items) driver.levels (size ∙ many)
            (directory_polled driver.frames done memory c.let_go.new.memory driver.owners driver.devices.items driver.levels driver.invariants.sizes.in_range c.let_go.ensures.memory
            (in_stands driver.frames memory driver.owners driver.devices.items driver.levels many (ready.stand.directory started)));
      };
      ring = λ started. subst (λ n. IsRing n (g.M.Mmio.registers c.args.io.now)) (sym size) (ready.ring started);
      faults = λ started.
          let system : slice_get driver.owners (fault_frame (length memory)) ≡ Some (Some System) = ap (λ n. slice_get driver.owners (fault_frame n)) many ∙ driver.invariants.fixed.fault in
          fault_ring_stays memory c.let_go.new.memory (g.M.Mmio.registers c.args.io.now) (g.M.Mmio.registers c.args.io.now) size
          (owned_stays done driver.devices.items driver.owners memory c.let_go.new.memory (fault_frame (length memory)) System c.let_go.ensures.memory system refl).0
          (same_faults (g.M.Mmio.registers c.args.io.now)) (ready.faults started);
      directory = λ started. subst (λ n. NamesDirectory n driver.levels (g.M.Mmio.registers c.args.io.now)) (sym size) (ready.directory started);
    }
