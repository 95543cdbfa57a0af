use Rattle.std.proofs.Common.{◌≡◌, ◌∙◌, true, false, sym}
use Rattle.std.proofs.lemmas.Result.{err_from_is_err_and}
use Rattle.iom_driver.specs.Fences.{last_fence}
use Rattle.iom_driver.specs.Reasons.{quarantining_reasons, lacks_places}
use Rattle.iom_driver.specs.StateOf.{state_of}
use Rattle.iom_driver.proofs.FirstRefusals.{too_many, queue_full, used_up, may_queue, fits, more_numbers, no_more_numbers}
use Rattle.iom_driver.proofs.driver.Driver.admit_quarantine.Goals as goal

pub returns-in_err-stage-clause-refused : goal.returns-in_err-stage-clause-refused
returns-in_err-stage-clause-refused g c =
    let p = err_from_is_err_and c.from_residual.result c.from_residual.ensures.1 in
    rw (p.1, p.2) (c.in_err-stage.ensures.refused (quarantining_reasons (state_of c.args.self.now) (g.M.Mmio.registers c.args.io.now)))

pub returns-then-self-clause-refused : goal.returns-then-self-clause-refused
returns-then-self-clause-refused g c =
    let d = state_of c.args.self.now in
    let r = g.M.Mmio.registers c.args.io.now in
    c.in_ok-stage.ensures.goes_on (quarantining_reasons d r) ∙ too_many d r 3 c.if-self.true

pub returns-then-lacks_places-clause-refused : goal.returns-then-lacks_places-clause-refused
returns-then-lacks_places-clause-refused g c =
    let d = state_of c.args.self.now in
    let r = g.M.Mmio.registers c.args.io.now in
    let test : lacks_places 3 r ≡ true = sym c.lacks_places.ensures ∙ c.if-lacks_places.true in
    c.in_ok-stage.ensures.goes_on (quarantining_reasons d r) ∙ queue_full d r 3 c.if-self.false test

pub returns-then-last_fence-eq4294967295-clause-refused : goal.returns-then-last_fence-eq4294967295-clause-refused
returns-then-last_fence-eq4294967295-clause-refused g c =
    let d = state_of c.args.self.now in
    let r = g.M.Mmio.registers c.args.io.now in
    let test : lacks_places 3 r ≡ false = sym c.lacks_places.ensures ∙ c.if-lacks_places.false in
    c.in_ok-stage.ensures.goes_on (quarantining_reasons d r)
    ∙ used_up d r 3 c.if-self.false test (no_more_numbers (last_fence d) c.last_fence.result c.last_fence.ensures c.if-last_fence-eq4294967295.true)

pub returns : goal.returns
returns g c =
    let d = state_of c.args.self.now in
    let r = g.M.Mmio.registers c.args.io.now in
    let test : lacks_places 3 r ≡ false = sym c.lacks_places.ensures ∙ c.if-lacks_places.false in
    let more = more_numbers (last_fence d) c.last_fence.result c.args.self.now.invariants.fences.numbered c.last_fence.ensures c.if-last_fence-eq4294967295.false in
    record {
      admitted = c.in_ok-stage.ensures.goes_on (quarantining_reasons d r) ∙ may_queue d r 3 c.if-self.false test more;
      may = record {
        started = c.in_ok-stage.ensures.started;
        attached = c.in_ok-stage.ensures.attached;
        few = c.if-self.false;
        room = fits r 3 (c.requires c.in_ok-stage.ensures.started) test;
        number = more;
      };
      refused = tt;
    }
