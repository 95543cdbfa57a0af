use Rattle.std.proofs.Common.{ℕ, subst}
use Rattle.iom_hardware_session.specs.Good.{scene_in, IsNobodys, IsUnused}
use Rattle.iom_reach.specs.Laws.{IsOutOfReach}
use Rattle.iom_hardware_session.proofs.DoneLemmas.{hand_off_wrong, judgement_admitted}
use Rattle.iom_hardware_script.specs.declared.script.Claim.TheVariants as said
use Rattle.iom_hardware_session.specs.Admitted.{IsFrameOfMemory}
use Rattle.iom_hardware_session.specs.Shown.{shown_in}
use Rattle.iom_hardware_session.proofs.state.Session.claim_hand_off.Goals as goal

pub returns-clause-good : goal.returns-clause-good
returns-clause-good c = λ claimed shows is.
    let scene = scene_in c.look.new.self in
    let (certain, reach, unused) = c.judge_hand_off-found.ensures.good is in (
      certain,
      subst (λ (f : ℕ). IsNobodys claimed f) c.in-Ok.ensures.number.0 (c.user_of-user.ensures.nobodys claimed shows c.in_default-user.is),
      subst (λ (f : ℕ). IsOutOfReach scene f) c.in-Ok.ensures.number.0 reach,
      subst (λ (f : ℕ). IsUnused scene f) c.in-Ok.ensures.number.0 unused,
    )

pub returns-clause-wrong : goal.returns-clause-wrong
returns-clause-wrong c = λ claimed shows.
    hand_off_wrong (shown_in c.look.new.self) c.look.new.self.trusted.items claimed c.in-Ok.number c.args.frame c.judge_hand_off-found.result c.in-Ok.ensures.number.0 c.judge_hand_off-found.ensures.made (c.judge_hand_off-found.ensures.wrong claimed)

pub returns-clause-admitted : goal.returns-clause-admitted
returns-clause-admitted c = λ claimed shows.
    judgement_admitted (said.HandOff c.args.frame) c.judge_hand_off-found.result c.args.self.now.hardware.board claimed c.judge_hand_off-found.ensures.made tt
    (subst (λ (f : ℕ). IsFrameOfMemory c.args.self.now.hardware.board f) c.in-Ok.ensures.number.0 c.in-Ok.ensures.number.1)
