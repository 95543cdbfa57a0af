use Rattle.std.proofs.Common.{◌≡◌, ◌∙◌, ◌/◌, List, Ok, sym, ap, subst, arith}
use Rattle.std.specs.Option.{IfSome}
use Rattle.iom_board.specs.BoardParts.{board_parts}
use Rattle.iom_board.specs.declared.answers.CacheReply.{CacheReply}
use Rattle.iom_board.specs.declared.answers.CacheReply.TheVariants.{Miss}
use Rattle.iom_board.specs.Messages.{with_message}
use Rattle.iom_board.specs.Invariant.{BoardInvariant}
use Rattle.iom_board.proofs.Sent.{sent_as}
use Rattle.iom_base.specs.DeviceKinds.{is_block_device}
use Rattle.iom_device.specs.Caches.{epoch_in}
use Rattle.iom_fabric.specs.declared.fabric.OnLink.{OnLink}
use Rattle.iom_fabric.specs.declared.message.Message.TheVariants as sent
use Rattle.iom_iommu.specs.Requests.{access_of}
use Rattle.iom_hardware.proofs.BegunLemmas.{asked_sound, asks_missed, asks_refused, asks_replied}
use Rattle.iom_hardware.proofs.KeptBlocks.{cached_devices}
use Rattle.iom_hardware.proofs.steps.through_cache.Goals as goal
use Rattle.iom_hardware.proofs.steps.through_cache.Goals.{After-send}

pub returns-in-Err-clause-begins : goal.returns-in-Err-clause-begins
returns-in-Err-clause-begins c =
    let access = access_of c.args.address c.args.len c.args.kind c.args.bytes.now in
    let between = board_parts c.through_cache.new.self in
    record {
      first = c.through_cache.result;
      between = between;
      tries = c.through_cache.ensures.effect;
      asks = asks_refused c.through_cache.result between c.args.id access c.in-Err.why c.in-Err.is;
    }

pub returns-in-Ok-Replied-clause-begins : goal.returns-in-Ok-Replied-clause-begins
returns-in-Ok-Replied-clause-begins c =
    let access = access_of c.args.address c.args.len c.args.kind c.args.bytes.now in
    let between = board_parts c.through_cache.new.self in
    record {
      first = c.through_cache.result;
      between = between;
      tries = c.through_cache.ensures.effect;
      asks = asks_replied c.through_cache.result between c.args.id access c.in-Ok-Replied.reply
          (c.in-Ok-Replied.is ∙ ap (λ (r : CacheReply). Ok r) c.in-Ok-Replied.field-0-is);
    }

-- the question goes last, or is lost
sent_so : (c : After-send) → c.send.new.self ≡ with_message c.through_cache.new.self.fabric c.args.id (sent.Ask (epoch_in c.through_cache.new.self.devices.items c.args.id) (c.args.address / 4096))
sent_so c =
    let between = c.through_cache.new.self in
    let page = subst (λ o. IfSome o (λ p. p ≡ c.args.address / 4096)) c.unwrap-page.ensures c.new.ensures.value in
    sent_as between.fabric c.send.new.self c.args.id (sent.Ask c.epoch_of-epoch.result c.unwrap-page.result) c.send.result c.send.ensures.room c.send.ensures.sent c.send.ensures.lost
    ∙ ap (λ n. with_message between.fabric c.args.id (sent.Ask n c.unwrap-page.result)) c.epoch_of-epoch.ensures
    ∙ ap (λ p. with_message between.fabric c.args.id (sent.Ask (epoch_in between.devices.items c.args.id) p)) page

pub returns-clause-begins : goal.returns-clause-begins
returns-clause-begins c =
    let access = access_of c.args.address c.args.len c.args.kind c.args.bytes.now in
    let between = board_parts c.through_cache.new.self in
    let after = (goal.at.returns-clause-begins c).After-send in
    record {
      first = c.through_cache.result;
      between = between;
      tries = c.through_cache.ensures.effect;
      asks = asks_missed c.through_cache.result between (record between { fabric = c.send.new.self }) c.args.id access (c.in-Ok-Miss.is ∙ ap (λ (r : CacheReply). Ok r) c.in-Ok-Miss.field-0-is)
          (ap (λ (f : List OnLink). record between { fabric = f }) (sent_so after));
    }

pub returns-clause-invariants : goal.returns-clause-invariants
returns-clause-invariants c =
    let access = access_of c.args.address c.args.len c.args.kind c.args.bytes.now in
    let old = board_parts c.args.board.now in
    let between = board_parts c.through_cache.new.self in
    let after = (goal.at.returns-clause-invariants c).After-send in
    let fits = c.ranges.address.fits in
    subst (λ (f : List OnLink). BoardInvariant (record between { fabric = f }) c.through_cache.new.self.events) (sym (sent_so after))
    (asked_sound old between c.through_cache.new.self.events c.args.id (epoch_in between.devices c.args.id) (c.args.address / 4096) access c.through_cache.result Miss
    c.through_cache.ensures.invariants c.through_cache.ensures.effect (c.in-Ok-Miss.is ∙ ap (λ (r : CacheReply). Ok r) c.in-Ok-Miss.field-0-is)
    (cached_devices is_block_device old between c.args.id access c.through_cache.result c.through_cache.ensures.effect) (omega (arith, fits)))
