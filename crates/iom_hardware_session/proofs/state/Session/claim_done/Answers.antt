use Rattle.std.proofs.Common.{◌≡◌, ◌↔◌, ◌∙◌, ℕ, Some, vec_items, sym, ap, subst}
use Rattle.iom_claims.specs.Claimed.{Claimed, IsOpen, after_done}
use Rattle.iom_claims.specs.Rows.{Rows}
use Rattle.iom_claims.specs.Shown.{ShowsClaimed}
use Rattle.iom_hardware_session.specs.declared.watched.GoodClaim.TheVariants as good
use Rattle.iom_hardware_session.specs.Good.{scene_in}
use Rattle.iom_hardware_session.specs.Shown.{shown_in}
use Rattle.iom_hardware_session.specs.Watching.{with_if_good}
use Rattle.iom_hardware_session.proofs.WatchLemmas.{watches_done}
use Rattle.iom_hardware_session.proofs.DoneLemmas.{claimed_if_judged, done_good, done_wrong, went_well, judgement_admitted, not_given, not_found}
use Rattle.iom_claims.specs.declared.grant.Grant.{Grant}
use Rattle.iom_hardware_script.specs.declared.script.Claim.TheVariants as said
use Rattle.iom_hardware_session.proofs.state.Session.claim_done.Goals as goal

pub returns-clause-claimed : goal.returns-clause-claimed
returns-clause-claimed c = λ claimed shows.
    let same = c.in-Ok.ensures.short in
    let done = went_well c.done.result (sym c.is_err-2.ensures.value ∙ c.if-is_err-2.false) (c.done.ensures.done claimed shows) in
    let after : ShowsClaimed c.look.new.self.claims (after_done c.args.number claimed) =
    subst (λ (rows : Rows). ShowsClaimed rows (after_done c.args.number claimed)) (sym c.look.ensures.rest.1) (subst (λ (n : ℕ). ShowsClaimed c.done.new.self (after_done n claimed)) same done) in
    subst (λ (own : Claimed). ShowsClaimed c.look.new.self.claims own) (sym (claimed_if_judged (said.Done c.args.number) c.judge_done-found.result claimed c.judge_done-found.ensures.made)) after

pub returns-clause-good : goal.returns-clause-good
returns-clause-good c = λ claimed shows is.
    let same = c.in-Ok.ensures.short in
    let done = went_well c.done.result (sym c.is_err-2.ensures.value ∙ c.if-is_err-2.false) (c.done.ensures.done claimed shows) in
    let after : ShowsClaimed c.look.new.self.claims (after_done c.args.number claimed) =
    subst (λ (rows : Rows). ShowsClaimed rows (after_done c.args.number claimed)) (sym c.look.ensures.rest.1) (subst (λ (n : ℕ). ShowsClaimed c.done.new.self (after_done n claimed)) same done) in
    done_good (scene_in c.look.new.self) claimed c.args.number c.in-Some.grant c.judge_done-found.result
    (c.judge_done-found.ensures.good (after_done c.args.number claimed) after is)
    (λ grant opened. sym c.in-Some.is ∙ (c.open_claim.ensures claimed shows grant).1 (rw same opened)) is

pub returns-clause-wrong : goal.returns-clause-wrong
returns-clause-wrong c = λ claimed shows.
    let same = c.in-Ok.ensures.short in
    let done = went_well c.done.result (sym c.is_err-2.ensures.value ∙ c.if-is_err-2.false) (c.done.ensures.done claimed shows) in
    let after : ShowsClaimed c.look.new.self.claims (after_done c.args.number claimed) =
    subst (λ (rows : Rows). ShowsClaimed rows (after_done c.args.number claimed)) (sym c.look.ensures.rest.1) (subst (λ (n : ℕ). ShowsClaimed c.done.new.self (after_done n claimed)) same done) in
    let opened : IsOpen claimed.history (record { number = c.args.number; grant = c.in-Some.grant }) =
    subst (λ (n : ℕ). IsOpen claimed.history (record { number = n; grant = c.in-Some.grant })) same ((c.open_claim.ensures claimed shows c.in-Some.grant).0 c.in-Some.is) in
    done_wrong (shown_in c.look.new.self) c.look.new.self.trusted.items claimed c.args.number c.in-Some.grant c.judge_done-found.result c.judge_done-found.ensures.made opened (c.judge_done-found.ensures.wrong (after_done c.args.number claimed) after)

pub returns-clause-watched : goal.returns-clause-watched
returns-clause-watched c = λ claimed shows.
    let same = c.in-Ok.ensures.short in
    watches_done c.args.number c.in-Ok.short c.in-Some.grant c.judge_done-found.result claimed c.args.self.now.watched.items c.watch.new.watched.items same
    ((c.open_claim.ensures claimed shows c.in-Some.grant).0 c.in-Some.is)
    (c.watch.ensures ∙ ap (with_if_good c.judge_done-found.result (good.Done c.in-Ok.short c.in-Some.grant.device c.in-Some.grant.frame)) (ap vec_items c.look.ensures.rest.2 ∙ c.reserve.ensures.items))

pub returns-in_default-clause-admitted : goal.returns-in_default-clause-admitted
returns-in_default-clause-admitted c = λ claimed shows. not_given c.args.self.now.claims claimed c.args.number shows c.in_default.ensures.not_given

pub returns-in_default-open_claim-clause-admitted : goal.returns-in_default-open_claim-clause-admitted
returns-in_default-open_claim-clause-admitted c = λ claimed shows.
    not_found claimed c.args.number c.open_claim.result c.in_default-open_claim.is
    (subst (λ (n : ℕ). (grant : Grant) → (c.open_claim.result ≡ Some grant) ↔ IsOpen claimed.history (record { number = n; grant = grant })) c.in-Ok.ensures.short (c.open_claim.ensures claimed shows))

pub returns-clause-admitted : goal.returns-clause-admitted
returns-clause-admitted c = λ claimed shows.
    let same = c.in-Ok.ensures.short in
    let opened : IsOpen claimed.history (record { number = c.args.number; grant = c.in-Some.grant }) =
    subst (λ (n : ℕ). IsOpen claimed.history (record { number = n; grant = c.in-Some.grant })) same ((c.open_claim.ensures claimed shows c.in-Some.grant).0 c.in-Some.is) in
    judgement_admitted (said.Done c.args.number) c.judge_done-found.result c.args.self.now.hardware.board claimed c.judge_done-found.ensures.made tt (c.in-Some.grant, opened)
