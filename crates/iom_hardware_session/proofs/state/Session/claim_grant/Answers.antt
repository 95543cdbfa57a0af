use Rattle.std.proofs.Common.{ℕ, subst}
use Rattle.iom_hardware_session.proofs.DoneLemmas.{vacant}
use Rattle.iom_hardware_session.specs.Admitted.{IsFrameOfMemory}
use Rattle.iom_ledger.specs.History.{held_at}
use Rattle.iom_hardware_session.specs.Good.{scene_in, IsUnused}
use Rattle.iom_hardware_session.specs.Wrong.{HardwareUses}
use Rattle.iom_hardware_session.proofs.state.Session.claim_grant.Goals as goal

pub returns-clause-good : goal.returns-clause-good
returns-clause-good c = λ claimed shows is.
    let scene = scene_in c.look.new.self in
    subst (λ (f : ℕ). IsUnused scene f) c.in-Ok.ensures.number.0 (c.is_used.ensures.unused scene (c.look.ensures.looked c.if-not-look.false).0 c.if-is_used.false)

pub returns-then-is_used-clause-wrong : goal.returns-then-is_used-clause-wrong
returns-then-is_used-clause-wrong c = λ claimed shows.
    let scene = scene_in c.look.new.self in
    subst (λ (f : ℕ). HardwareUses scene f) c.in-Ok.ensures.number.0 (c.is_used.ensures.used scene (c.look.ensures.looked c.if-not-look.false).1 c.if-is_used.true)

pub returns-then-is_used-clause-admitted : goal.returns-then-is_used-clause-admitted
returns-then-is_used-clause-admitted c = λ claimed shows. (
  tt,
  (
    c.in-Ok.ensures.admitted.0,
    subst (λ (f : ℕ). IsFrameOfMemory c.args.self.now.hardware.board f) c.in-Ok.ensures.number.0 c.in-Ok.ensures.number.1,
    c.in-Ok.ensures.admitted.1,
    vacant c.grant.result c.in_default.field-0 (held_at claimed.history c.args.device c.args.page) c.in_default.is (c.grant.ensures.busy claimed shows),
  ),
)
