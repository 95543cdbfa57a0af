use Rattle.std.proofs.Common.{◌≡◌, ◌<◌, ◌∙◌, inl, inr, ℕ, List, [], Contains, Ok, length, slice_get, refl, sym, ap, subst, arith}
use Rattle.iom_directory_build.specs.Pages.{root_level}
use Rattle.iom_directory_build.specs.Written.{hung}
use Rattle.iom_directory_build.proofs.Hanging.{whole_path_there}
use Rattle.iom_driver.specs.declared.device.Attachment.TheVariants.{Attached}
use Rattle.iom_driver.specs.declared.device.Device.{Device}
use Rattle.iom_driver.specs.Devices.{attached_stages, owned_stages, with_attachment}
use Rattle.iom_driver.specs.Directory.{located_for}
use Rattle.iom_driver.specs.Layout.{directory_frame, fault_frame}
use Rattle.iom_driver.specs.StateOf.{state_of}
use Rattle.iom_driver.specs.Invariant.{StateInvariant}
use Rattle.iom_driver.proofs.QuarantineLemmas.{IsPutAgain, not_of_device, quarantined_there, owned_revived, sound_revived, tables_put_again}
use Rattle.iom_driver.proofs.Directories.{DirectoryIn, room_for_ids, in_stands, stands_in, directory_put}
use Rattle.iom_driver.proofs.Modes.{rooted}
use Rattle.iom_driver.proofs.Orders.{maps_nothing}
use Rattle.iom_driver.proofs.Places.{attachment_set, attachment_other}
use Rattle.iom_driver.proofs.StandingLemmas.{frames_keep, leaves_standing}
use Rattle.iom_driver.proofs.Unchanged.{ready_from}
use Rattle.iom_driver.proofs.driver.Driver.revive.Goals as goal

-- nothing is in an empty list
none_contained : (f : ℕ) → Contains [] f → ⊥
none_contained f here = absurd (omega (arith, here.1))

pub returns-in-Err : goal.returns-in-Err
returns-in-Err c = record {
  effect = (c.in-Err.ensures.refused, refl, refl);
  stand = c.requires.stand;
  ready = λ r ready. ready;
}

pub context_for-context-requires-clause-root : goal.context_for-context-requires-clause-root
context_for-context-requires-clause-root c =
    let may = c.in-Ok.ensures.may in
    let stage = c.in-Ok.stage in
    (rooted stage.mode c.args.memory.now stage.root (c.requires.stand.tables c.args.id stage (ap owned_stages may.quarantined)).tree).aligned

pub context_for-context-requires-clause-nothing : goal.context_for-context-requires-clause-nothing
context_for-context-requires-clause-nothing c =
    let driver = c.args.self.now in
    let may = c.in-Ok.ensures.may in
    let stage = c.in-Ok.stage in
    maps_nothing c.args.memory.now driver.owners driver.ledger c.args.id stage.mode stage.root (c.requires.stand.tables c.args.id stage (ap owned_stages may.quarantined))
    (λ page. driver.invariants.holders c.args.id page (ap attached_stages may.quarantined))

pub put_context-requires-clause-levels : goal.put_context-requires-clause-levels
put_context-requires-clause-levels c = c.args.self.now.invariants.sizes.in_range

pub put_context-requires-clause-directory : goal.put_context-requires-clause-directory
put_context-requires-clause-directory c =
    let driver = c.args.self.now in
    let stand = c.requires.stand in
    rw c.directory_frame-directory.ensures
    (in_stands driver.frames c.args.memory.now driver.owners driver.devices.items driver.levels (stand.size ∙ driver.invariants.sizes.owned) (stand.directory c.in-Ok.ensures.may.started)).tree

pub put_context-requires-clause-id : goal.put_context-requires-clause-id
put_context-requires-clause-id c =
    let driver = c.args.self.now in
    subst (λ n. c.args.id < n) (room_for_ids driver.levels driver.invariants.sizes.in_range)
    (driver.invariants.named c.args.id c.in-Ok.stage (ap owned_stages c.in-Ok.ensures.may.quarantined))

pub put_context-requires-clause-empty : goal.put_context-requires-clause-empty
put_context-requires-clause-empty c =
    let driver = c.args.self.now in
    let may = c.in-Ok.ensures.may in
    let stand = c.requires.stand in
    let here = in_stands driver.frames c.args.memory.now driver.owners driver.devices.items driver.levels (stand.size ∙ driver.invariants.sizes.owned) (stand.directory may.started) in
    let low = subst (λ n. c.args.id < n) (room_for_ids driver.levels driver.invariants.sizes.in_range) (driver.invariants.named c.args.id c.in-Ok.stage (ap owned_stages may.quarantined)) in
    rw c.directory_frame-directory.ensures (here.contexts c.args.id low ∙ ap located_for (ap attached_stages may.quarantined))

pub put_context-requires-clause-count : goal.put_context-requires-clause-count
put_context-requires-clause-count c =
    let driver = c.args.self.now in
    let may = c.in-Ok.ensures.may in
    let stand = c.requires.stand in
    let here = in_stands driver.frames c.args.memory.now driver.owners driver.devices.items driver.levels (stand.size ∙ driver.invariants.sizes.owned) (stand.directory may.started) in
    let low = subst (λ n. c.args.id < n) (room_for_ids driver.levels driver.invariants.sizes.in_range) (driver.invariants.named c.args.id c.in-Ok.stage (ap owned_stages may.quarantined)) in
    let path = here.places c.args.id c.in-Ok.stage (ap owned_stages may.quarantined) low in
    rw c.directory_frame-directory.ensures (sym (whole_path_there c.args.memory.now (root_level driver.levels) (directory_frame driver.frames) c.args.id path))

pub invariant_of-self : goal.invariant_of-self
invariant_of-self c =
    let driver = c.args.self.now in
    let may = c.in-Ok.ensures.may in
    record {
      invariants =
          subst (λ (ds : List Device). StateInvariant driver.ledger driver.owners ds driver.frames driver.levels driver.started driver.given driver.confirmed driver.restarts driver.restarted) (sym {A = List Device} c.set_attachment.ensures)
          (sound_revived driver.ledger driver.owners driver.devices.items driver.frames driver.levels driver.started driver.given driver.confirmed driver.restarts driver.restarted c.args.id may.ticket c.in-Ok.stage
          driver.invariants may.started may.quarantined);
    }

pub returns-clause-effect : goal.returns-clause-effect
returns-clause-effect c =
    let driver = c.args.self.now in
    let memory = c.args.memory.now in
    let may = c.in-Ok.ensures.may in
    let stand = c.requires.stand in
    let many : length memory ≡ driver.frames = stand.size ∙ driver.invariants.sizes.owned in
    let here : DirectoryIn driver.frames memory driver.owners driver.devices.items driver.levels = in_stands driver.frames memory driver.owners driver.devices.items driver.levels many (stand.directory may.started) in
    let at_root : c.directory_frame-directory.result ≡ directory_frame (length memory) = c.directory_frame-directory.ensures ∙ ap directory_frame (sym many) in
    let put = subst (λ r. IsPutAgain memory c.put_context.new.memory driver.levels r c.args.id c.in-Ok.stage) c.directory_frame-directory.ensures record {
      tree = c.put_context.ensures.directory;
      pages = λ f at. elim ((c.put_context.ensures.pages f).0 at) [ inl was ↦ was | inr new ↦ absurd (none_contained f new) ];
      here = c.put_context.ensures.here ∙ ap Ok c.context_for-context.ensures;
      path = c.put_context.ensures.path;
      paths = c.put_context.ensures.paths;
      others = c.put_context.ensures.others;
      keeps = c.put_context.ensures.keeps;
      outside = c.put_context.ensures.outside;
      size = c.put_context.ensures.size;
    } in (
      c.in-Ok.ensures.admitted,
      record {
        ticket = may.ticket;
        stage = c.in-Ok.stage;
        quarantined = may.quarantined;
        driver = rw c.set_attachment.ensures refl;
        bytes =
            c.put_context.ensures.whole
            ∙ ap (λ r. hung memory (root_level driver.levels) r c.args.id [] c.context_for-context.result) at_root
            ∙ ap (λ x. hung memory (root_level driver.levels) (directory_frame (length memory)) c.args.id [] x) c.context_for-context.ensures;
        others = λ f apart. put.outside f (λ at. apart (here.own f (put.pages f at)).system);
        standing = leaves_standing (state_of driver) _ driver.frames memory c.put_context.new.memory many stand.tables
            (λ other s was is. frames_keep memory c.put_context.new.memory driver.owners driver.ledger other s.mode s.root (stand.tables other s was)
            (λ n own. put.outside n (λ at. not_of_device driver.owners n other (here.own n (put.pages n at)).system own)))
            (λ started. put.keeps);
      },
    )

pub returns-clause-stand : goal.returns-clause-stand
returns-clause-stand c =
    let driver = c.args.self.now in
    let memory = c.args.memory.now in
    let id = c.args.id in
    let stage = c.in-Ok.stage in
    let may = c.in-Ok.ensures.may in
    let stand = c.requires.stand in
    let devices = with_attachment driver.devices.items id (Attached stage) in
    let many : length memory ≡ driver.frames = stand.size ∙ driver.invariants.sizes.owned in
    let here : DirectoryIn driver.frames memory driver.owners driver.devices.items driver.levels = in_stands driver.frames memory driver.owners driver.devices.items driver.levels many (stand.directory may.started) in
    let put = subst (λ r. IsPutAgain memory c.put_context.new.memory driver.levels r id stage) c.directory_frame-directory.ensures record {
      tree = c.put_context.ensures.directory;
      pages = λ f at. elim ((c.put_context.ensures.pages f).0 at) [ inl was ↦ was | inr new ↦ absurd (none_contained f new) ];
      here = c.put_context.ensures.here ∙ ap Ok c.context_for-context.ensures;
      path = c.put_context.ensures.path;
      paths = c.put_context.ensures.paths;
      others = c.put_context.ensures.others;
      keeps = c.put_context.ensures.keeps;
      outside = c.put_context.ensures.outside;
      size = c.put_context.ensures.size;
    } in
    let plugged = quarantined_there driver.devices.items id may.ticket stage may.quarantined in
    let owned = owned_revived driver.devices.items id may.ticket stage may.quarantined in
    let tables = tables_put_again driver.frames memory c.put_context.new.memory driver.owners driver.ledger driver.devices.items driver.levels id stage here put stand.tables in
    rw c.set_attachment.ensures record {
      size = put.size ∙ stand.size;
      tables = λ other s at. tables other s (sym (owned other) ∙ at);
      directory = λ started.
          stands_in driver.frames c.put_context.new.memory driver.owners devices driver.levels (put.size ∙ many)
          (directory_put driver.frames memory c.put_context.new.memory driver.owners driver.devices.items devices driver.levels id stage [] here put.tree (λ f at. inl (put.pages f at)) (λ f at. absurd (none_contained f at))
          put.here put.others put.path put.paths (attachment_set driver.devices.items id (Attached stage) plugged) (λ other apart. attachment_other driver.devices.items id other (Attached stage) apart));
    }

pub returns-clause-ready : goal.returns-clause-ready
returns-clause-ready c = λ r ready.
    let driver = c.args.self.now in
    let memory = c.args.memory.now in
    let may = c.in-Ok.ensures.may in
    let stand = c.requires.stand in
    let many : length memory ≡ driver.frames = stand.size ∙ driver.invariants.sizes.owned in
    let here : DirectoryIn driver.frames memory driver.owners driver.devices.items driver.levels = in_stands driver.frames memory driver.owners driver.devices.items driver.levels many (stand.directory may.started) in
    let put = subst (λ root. IsPutAgain memory c.put_context.new.memory driver.levels root c.args.id c.in-Ok.stage) c.directory_frame-directory.ensures record {
      tree = c.put_context.ensures.directory;
      pages = λ f at. elim ((c.put_context.ensures.pages f).0 at) [ inl was ↦ was | inr new ↦ absurd (none_contained f new) ];
      here = c.put_context.ensures.here ∙ ap Ok c.context_for-context.ensures;
      path = c.put_context.ensures.path;
      paths = c.put_context.ensures.paths;
      others = c.put_context.ensures.others;
      keeps = c.put_context.ensures.keeps;
      outside = c.put_context.ensures.outside;
      size = c.put_context.ensures.size;
    } in
    let unreported : slice_get c.put_context.new.memory (fault_frame (length memory)) ≡ slice_get memory (fault_frame (length memory)) =
    put.outside (fault_frame (length memory)) (λ at. (here.own (fault_frame (length memory)) (put.pages (fault_frame (length memory)) at)).no_fault (ap fault_frame many)) in
    ready_from (state_of driver) _ memory c.put_context.new.memory r (returns-clause-stand c) put.size unreported refl refl ready
