-- What happens, by the event: the call that it goes to says so.
use Rattle.std.proofs.Common.{List, ℕ, refl, subst}
use Rattle.iom_answers.specs.Answers.{outcome_of}
use Rattle.iom_machine.specs.declared.event.Event.TheVariants as events
use Rattle.iom_world_effects.specs.Effect.{Effect}
use Rattle.iom_world.specs.Shown.{parts_of, disks_of}
use Rattle.iom_world.proofs.HappensLemmas.{happens_at}
use Rattle.iom_world.proofs.world.World.take.Goals as goal

pub returns-in-Plug : goal.returns-in-Plug
returns-in-Plug g c =
    let it = c.plug.ensures in (
      (
        refl,
        (λ _. _),
        (
          happens_at g.D.Disk.shown c.laws_below.ensures c.args.self.now c.plug.new.self c.args.event.now (events.Plug c.in-Plug.device c.in-Plug.what) (outcome_of c.plug.result) c.in-Plug.is tt
              it.effect it.disks it.inside it.events,
          it.made,
        ),
      ),
      _,
    )

pub returns-in-Attach : goal.returns-in-Attach
returns-in-Attach g c =
    let it = c.attach.ensures in (
      (
        refl,
        (λ _. _),
        (
          happens_at g.D.Disk.shown c.laws_below.ensures c.args.self.now c.attach.new.self c.args.event.now (events.Attach c.in-Attach.device c.in-Attach.mode c.in-Attach.ats) (outcome_of c.attach.result) c.in-Attach.is tt
              it.effect it.disks it.inside it.events,
          it.made,
        ),
      ),
      _,
    )

pub returns-in-Detach : goal.returns-in-Detach
returns-in-Detach g c =
    let it = c.detach.ensures in (
      (
        refl,
        (λ _. _),
        (
          happens_at g.D.Disk.shown c.laws_below.ensures c.args.self.now c.detach.new.self c.args.event.now (events.Detach c.in-Detach.device) (outcome_of c.detach.result) c.in-Detach.is tt
              it.effect it.disks it.inside it.events,
          it.made,
        ),
      ),
      _,
    )

pub returns-in-Grant : goal.returns-in-Grant
returns-in-Grant g c =
    let it = c.grant.ensures in (
      (
        refl,
        (λ _. _),
        (
          happens_at g.D.Disk.shown c.laws_below.ensures c.args.self.now c.grant.new.self c.args.event.now (events.Grant c.in-Grant.device c.in-Grant.page c.in-Grant.frame c.in-Grant.rights) (outcome_of c.grant.result) c.in-Grant.is tt
              it.effect it.disks it.inside it.events,
          it.made,
        ),
      ),
      _,
    )

pub returns-in-Release : goal.returns-in-Release
returns-in-Release g c =
    let it = c.release.ensures in (
      (
        refl,
        (λ _. _),
        (
          happens_at g.D.Disk.shown c.laws_below.ensures c.args.self.now c.release.new.self c.args.event.now (events.Release c.in-Release.device c.in-Release.page) (outcome_of c.release.result) c.in-Release.is tt
              it.effect it.disks it.inside it.events,
          it.made,
        ),
      ),
      _,
    )

pub returns-in-Fetch : goal.returns-in-Fetch
returns-in-Fetch g c =
    let it = c.fetch.ensures in (
      (
        refl,
        (λ _. _),
        (
          happens_at g.D.Disk.shown c.laws_below.ensures c.args.self.now c.fetch.new.self c.args.event.now events.Fetch (outcome_of c.fetch.result) c.in-Fetch.is tt
              it.effect it.disks it.inside it.events,
          it.made,
        ),
      ),
      _,
    )

pub returns-in-Poll : goal.returns-in-Poll
returns-in-Poll g c =
    let it = c.poll.ensures in (
      (
        refl,
        (λ _. _),
        (
          happens_at g.D.Disk.shown c.laws_below.ensures c.args.self.now c.poll.new.self c.args.event.now events.Poll (outcome_of c.poll.result) c.in-Poll.is tt
              it.effect it.disks it.inside it.events,
          it.made,
        ),
      ),
      _,
    )

pub returns-in-Quarantine : goal.returns-in-Quarantine
returns-in-Quarantine g c =
    let it = c.quarantine.ensures in (
      (
        refl,
        (λ _. _),
        (
          happens_at g.D.Disk.shown c.laws_below.ensures c.args.self.now c.quarantine.new.self c.args.event.now (events.Quarantine c.in-Quarantine.device) (outcome_of c.quarantine.result) c.in-Quarantine.is tt
              it.effect it.disks it.inside it.events,
          it.made,
        ),
      ),
      _,
    )

pub returns-in-Revive : goal.returns-in-Revive
returns-in-Revive g c =
    let it = c.revive.ensures in (
      (
        refl,
        (λ _. _),
        (
          happens_at g.D.Disk.shown c.laws_below.ensures c.args.self.now c.revive.new.self c.args.event.now (events.Revive c.in-Revive.device) (outcome_of c.revive.result) c.in-Revive.is tt
              it.effect it.disks it.inside it.events,
          it.made,
        ),
      ),
      _,
    )

pub returns-in-Restart : goal.returns-in-Restart
returns-in-Restart g c =
    let it = c.restart.ensures in (
      (
        refl,
        (λ _. _),
        (
          happens_at g.D.Disk.shown c.laws_below.ensures c.args.self.now c.restart.new.self c.args.event.now events.Restart (outcome_of c.restart.result) c.in-Restart.is tt
              it.effect it.disks it.inside it.events,
          it.made,
        ),
      ),
      _,
    )

pub returns-in-Timeout : goal.returns-in-Timeout
returns-in-Timeout g c =
    let it = c.timeout.ensures in (
      (
        refl,
        (λ _. _),
        (
          happens_at g.D.Disk.shown c.laws_below.ensures c.args.self.now c.timeout.new.self c.args.event.now events.Timeout (outcome_of c.timeout.result) c.in-Timeout.is tt
              it.effect it.disks it.inside it.events,
          it.made,
        ),
      ),
      _,
    )

pub returns-in-Reset : goal.returns-in-Reset
returns-in-Reset g c =
    let it = c.reset.ensures in (
      (
        refl,
        (λ _. _),
        (
          happens_at g.D.Disk.shown c.laws_below.ensures c.args.self.now c.reset.new.self c.args.event.now (events.Reset c.in-Reset.device) (outcome_of c.reset.result) c.in-Reset.is tt
              it.effect it.disks it.inside it.events,
          it.made,
        ),
      ),
      _,
    )

pub returns-in-Read : goal.returns-in-Read
returns-in-Read g c =
    let it = c.read.ensures in (
      (
        refl,
        (λ _. _),
        (
          happens_at g.D.Disk.shown c.laws_below.ensures c.args.self.now c.read.new.self c.args.event.now (events.Read c.in-Read.device c.in-Read.address c.in-Read.len) (outcome_of c.read.result) c.in-Read.is it.fits
              it.effect it.disks it.inside it.events,
          it.made,
        ),
      ),
      _,
    )

pub returns-in-Write : goal.returns-in-Write
returns-in-Write g c =
    let it = c.write.ensures in (
      (
        refl,
        (λ _. _),
        (
          happens_at g.D.Disk.shown c.laws_below.ensures c.args.self.now c.write.new.self c.args.event.now (events.Write c.in-Write.device c.in-Write.address c.in-Write.bytes) (outcome_of c.write.result) c.in-Write.is it.fits
              (subst (λ (bytes : List ℕ). Effect (disks_of c.args.self.now) (parts_of c.args.self.now) (events.Write c.in-Write.device c.in-Write.address bytes) (outcome_of c.write.result) (parts_of c.write.new.self)) c.as_slice.ensures it.effect) it.disks it.inside it.events,
          it.made,
        ),
      ),
      _,
    )

pub returns-in-ReadTranslated : goal.returns-in-ReadTranslated
returns-in-ReadTranslated g c =
    let it = c.read_translated.ensures in (
      (
        refl,
        (λ _. _),
        (
          happens_at g.D.Disk.shown c.laws_below.ensures c.args.self.now c.read_translated.new.self c.args.event.now (events.ReadTranslated c.in-ReadTranslated.device c.in-ReadTranslated.address c.in-ReadTranslated.len) (outcome_of c.read_translated.result) c.in-ReadTranslated.is tt
              it.effect it.disks it.inside it.events,
          it.made,
        ),
      ),
      _,
    )

pub returns-in-WriteTranslated : goal.returns-in-WriteTranslated
returns-in-WriteTranslated g c =
    let it = c.write_translated.ensures in (
      (
        refl,
        (λ _. _),
        (
          happens_at g.D.Disk.shown c.laws_below.ensures c.args.self.now c.write_translated.new.self c.args.event.now (events.WriteTranslated c.in-WriteTranslated.device c.in-WriteTranslated.address c.in-WriteTranslated.bytes) (outcome_of c.write_translated.result) c.in-WriteTranslated.is tt
              (subst (λ (bytes : List ℕ). Effect (disks_of c.args.self.now) (parts_of c.args.self.now) (events.WriteTranslated c.in-WriteTranslated.device c.in-WriteTranslated.address bytes) (outcome_of c.write_translated.result) (parts_of c.write_translated.new.self)) c.as_slice-in-WriteTranslated.ensures it.effect) it.disks it.inside it.events,
          it.made,
        ),
      ),
      _,
    )

pub returns-in-ReadThroughCache : goal.returns-in-ReadThroughCache
returns-in-ReadThroughCache g c =
    let it = c.read_through_cache.ensures in (
      (
        refl,
        (λ _. _),
        (
          happens_at g.D.Disk.shown c.laws_below.ensures c.args.self.now c.read_through_cache.new.self c.args.event.now (events.ReadThroughCache c.in-ReadThroughCache.device c.in-ReadThroughCache.address c.in-ReadThroughCache.len) (outcome_of c.read_through_cache.result) c.in-ReadThroughCache.is tt
              it.effect it.disks it.inside it.events,
          it.made,
        ),
      ),
      _,
    )

pub returns-in-WriteThroughCache : goal.returns-in-WriteThroughCache
returns-in-WriteThroughCache g c =
    let it = c.write_through_cache.ensures in (
      (
        refl,
        (λ _. _),
        (
          happens_at g.D.Disk.shown c.laws_below.ensures c.args.self.now c.write_through_cache.new.self c.args.event.now (events.WriteThroughCache c.in-WriteThroughCache.device c.in-WriteThroughCache.address c.in-WriteThroughCache.bytes) (outcome_of c.write_through_cache.result) c.in-WriteThroughCache.is tt
              (subst (λ (bytes : List ℕ). Effect (disks_of c.args.self.now) (parts_of c.args.self.now) (events.WriteThroughCache c.in-WriteThroughCache.device c.in-WriteThroughCache.address bytes) (outcome_of c.write_through_cache.result) (parts_of c.write_through_cache.new.self)) c.as_slice-in-WriteThroughCache.ensures it.effect) it.disks it.inside it.events,
          it.made,
        ),
      ),
      _,
    )

pub returns-in-Ask : goal.returns-in-Ask
returns-in-Ask g c =
    let it = c.ask.ensures in (
      (
        refl,
        (λ _. _),
        (
          happens_at g.D.Disk.shown c.laws_below.ensures c.args.self.now c.ask.new.self c.args.event.now (events.Ask c.in-Ask.device c.in-Ask.page) (outcome_of c.ask.result) c.in-Ask.is tt
              it.effect it.disks it.inside it.events,
          it.made,
        ),
      ),
      _,
    )

pub returns-in-Forge : goal.returns-in-Forge
returns-in-Forge g c =
    let it = c.forge.ensures in (
      (
        refl,
        (λ _. _),
        (
          happens_at g.D.Disk.shown c.laws_below.ensures c.args.self.now c.forge.new.self c.args.event.now (events.Forge c.in-Forge.device c.in-Forge.serial) (outcome_of c.forge.result) c.in-Forge.is tt
              it.effect it.disks it.inside it.events,
          it.made,
        ),
      ),
      _,
    )

pub returns-in-Deliver : goal.returns-in-Deliver
returns-in-Deliver g c =
    let it = c.deliver.ensures in (
      (
        refl,
        (λ _. _),
        (
          happens_at g.D.Disk.shown c.laws_below.ensures c.args.self.now c.deliver.new.self c.args.event.now (events.Deliver c.in-Deliver.place) (outcome_of c.deliver.result) c.in-Deliver.is tt
              it.effect it.disks it.inside it.events,
          it.made,
        ),
      ),
      _,
    )

pub returns-in-Drop : goal.returns-in-Drop
returns-in-Drop g c =
    let it = c.drop_message.ensures in (
      (
        refl,
        (λ _. _),
        (
          happens_at g.D.Disk.shown c.laws_below.ensures c.args.self.now c.drop_message.new.self c.args.event.now (events.Drop c.in-Drop.place) (outcome_of c.drop_message.result) c.in-Drop.is tt
              it.effect it.disks it.inside it.events,
          it.made,
        ),
      ),
      _,
    )

pub returns-in-Repeat : goal.returns-in-Repeat
returns-in-Repeat g c =
    let it = c.repeat.ensures in (
      (
        refl,
        (λ _. _),
        (
          happens_at g.D.Disk.shown c.laws_below.ensures c.args.self.now c.repeat.new.self c.args.event.now (events.Repeat c.in-Repeat.place) (outcome_of c.repeat.result) c.in-Repeat.is tt
              it.effect it.disks it.inside it.events,
          it.made,
        ),
      ),
      _,
    )

pub returns-in-Medium : goal.returns-in-Medium
returns-in-Medium g c =
    let it = c.medium.ensures in (
      (
        refl,
        (λ _. _),
        (
          happens_at g.D.Disk.shown c.laws_below.ensures c.args.self.now c.medium.new.self c.args.event.now (events.Medium c.in-Medium.device c.in-Medium.disk) (outcome_of c.medium.result) c.in-Medium.is tt
              it.effect it.disks it.inside it.events,
          it.made,
        ),
      ),
      _,
    )

pub returns-in-Queue : goal.returns-in-Queue
returns-in-Queue g c =
    let it = c.queue.ensures in (
      (
        refl,
        (λ _. _),
        (
          happens_at g.D.Disk.shown c.laws_below.ensures c.args.self.now c.queue.new.self c.args.event.now (events.Queue c.in-Queue.device c.in-Queue.size c.in-Queue.descriptors c.in-Queue.available c.in-Queue.used) (outcome_of c.queue.result) c.in-Queue.is tt
              it.effect it.disks it.inside it.events,
          it.made,
        ),
      ),
      _,
    )

pub returns-in-Step : goal.returns-in-Step
returns-in-Step g c =
    let it = c.step_block.ensures in (
      (
        refl,
        (λ _. _),
        (
          happens_at g.D.Disk.shown c.laws_below.ensures c.args.self.now c.step_block.new.self c.args.event.now (events.Step c.in-Step.device) (outcome_of c.step_block.result) c.in-Step.is tt
              it.effect it.disks it.inside it.events,
          it.made,
        ),
      ),
      _,
    )

pub returns-in-Status : goal.returns-in-Status
returns-in-Status g c =
    let it = c.block_status.ensures in (
      (
        refl,
        (λ _. _),
        (
          happens_at g.D.Disk.shown c.laws_below.ensures c.args.self.now c.block_status.new.self c.args.event.now (events.Status c.in-Status.device) (outcome_of c.block_status.result) c.in-Status.is tt
              it.effect it.disks it.inside it.events,
          it.made,
        ),
      ),
      _,
    )

pub returns-in-Poke : goal.returns-in-Poke
returns-in-Poke g c =
    let it = c.poke.ensures in (
      (
        refl,
        (λ _. _),
        (
          happens_at g.D.Disk.shown c.laws_below.ensures c.args.self.now c.poke.new.self c.args.event.now (events.Poke c.in-Poke.address c.in-Poke.bytes) (outcome_of c.poke.result) c.in-Poke.is tt
              (subst (λ (bytes : List ℕ). Effect (disks_of c.args.self.now) (parts_of c.args.self.now) (events.Poke c.in-Poke.address bytes) (outcome_of c.poke.result) (parts_of c.poke.new.self)) c.as_slice-in-Poke.ensures it.effect) it.disks it.inside it.events,
          it.made,
        ),
      ),
      _,
    )

pub returns-in-Free : goal.returns-in-Free
returns-in-Free g c =
    let it = c.free.ensures in (
      (
        refl,
        (λ _. _),
        (
          happens_at g.D.Disk.shown c.laws_below.ensures c.args.self.now c.free.new.self c.args.event.now (events.Free c.in-Free.frame) (outcome_of c.free.result) c.in-Free.is tt
              it.effect it.disks it.inside it.events,
          it.made,
        ),
      ),
      _,
    )

pub returns-in-Commit : goal.returns-in-Commit
returns-in-Commit g c =
    let it = c.commit.follows.holds-at-none in (
      (
        refl,
        (λ _. _),
        (
          happens_at g.D.Disk.shown c.laws_below.ensures c.args.self.now c.commit.follows.lender-at-none c.args.event.now (events.Commit c.in-Commit.device) (outcome_of c.commit.result) c.in-Commit.is tt
              it.0 it.1 it.2 it.3,
          it.4,
        ),
      ),
      _,
    )

pub returns-in-Peek : goal.returns-in-Peek
returns-in-Peek g c =
    let it = c.peek.follows.holds-at-none in (
      (
        refl,
        (λ _. _),
        (
          happens_at g.D.Disk.shown c.laws_below.ensures c.args.self.now c.peek.follows.lender-at-none c.args.event.now (events.Peek c.in-Peek.address c.in-Peek.len) (outcome_of c.peek.result) c.in-Peek.is tt
              it.0 it.1 it.2 it.3,
          it.4,
        ),
      ),
      _,
    )

pub returns-in-Faults : goal.returns-in-Faults
returns-in-Faults g c =
    let it = c.faults.follows.holds-at-none in (
      (
        refl,
        (λ _. _),
        (
          happens_at g.D.Disk.shown c.laws_below.ensures c.args.self.now c.faults.follows.lender-at-none c.args.event.now events.Faults (outcome_of c.faults.result) c.in-Faults.is tt
              it.0 it.1 it.2 it.3,
          it.4,
        ),
      ),
      _,
    )
