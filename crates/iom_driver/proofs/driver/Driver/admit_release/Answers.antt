use Rattle.std.proofs.Common.{◌≡◌, ◌+◌, ◌<◌, ◌∙◌, Bool, true, false, Option, Some, None, IsSome, is_none, is_some, not, refl, sym, ap, subst}
use Rattle.std.proofs.lemmas.Bool.{false≢true}
use Rattle.std.proofs.lemmas.Result.{err_from_is_err_and}
use Rattle.iom_command_queue.specs.Waiting.{how_many}
use Rattle.iom_base.specs.declared.refusal.Refusal.TheVariants.{NotGranted}
use Rattle.iom_ledger.specs.Shown.{held_in}
use Rattle.iom_driver.specs.declared.device.Stages.{Stages}
use Rattle.iom_driver.specs.Devices.{stages_of}
use Rattle.iom_driver.specs.Fences.{last_fence}
use Rattle.iom_driver.specs.Reasons.{releasing_reasons, release_places, lacks_places}
use Rattle.iom_driver.specs.StateOf.{state_of}
use Rattle.iom_driver.proofs.FirstRefusals.{applies, passes, queueing, too_many, queue_full, used_up, may_queue, fits, more_numbers, no_more_numbers}
use Rattle.iom_driver.proofs.driver.Driver.admit_release.Goals as goal

-- whether there is nothing, as it is tested
tests_none : {A : Type 0} (o : Option A) (test answer : Bool) (shown : Option A) → o ≡ shown → is_some o ≡ not test → test ≡ answer → is_none shown ≡ answer
tests_none None true answer shown same tells answered = ap (λ p. is_none p) (sym same) ∙ answered
tests_none None false answer shown same tells answered = absurd (false≢true tells)
tests_none (Some x) false answer shown same tells answered = ap (λ p. is_none p) (sym same) ∙ answered
tests_none (Some x) true answer shown same tells answered = absurd (false≢true (sym tells))

some_there : {A : Type 0} (o : Option A) → is_none o ≡ false → IsSome o
some_there None none = absurd (false≢true (sym none))
some_there (Some x) none = refl

pub returns-in_err-stage-clause-refused : goal.returns-in_err-stage-clause-refused
returns-in_err-stage-clause-refused g c =
    let p = err_from_is_err_and c.from_residual.result c.from_residual.ensures.1 in
    rw (p.1, p.2) (c.in_err-stage.ensures.refused (releasing_reasons (state_of c.args.self.now) (g.M.Mmio.registers c.args.io.now)
    (release_places (stages_of c.args.self.now.devices.items c.args.id)) c.args.id c.args.page))

pub returns-then-is_none-clause-refused : goal.returns-then-is_none-clause-refused
returns-then-is_none-clause-refused g c =
    let d = state_of c.args.self.now in
    let r = g.M.Mmio.registers c.args.io.now in
    let places = release_places (stages_of d.devices c.args.id) in
    c.in_ok-stage.ensures.goes_on (releasing_reasons d r places c.args.id c.args.page)
    ∙ applies (is_none (held_in d.ledger c.args.id c.args.page)) NotGranted (queueing d r places) (tests_none c.holds.result c.is_none.result true (held_in d.ledger c.args.id c.args.page) c.holds.ensures.shown c.is_none.ensures c.if-is_none.true)

pub returns-then-self-clause-refused : goal.returns-then-self-clause-refused
returns-then-self-clause-refused g c =
    let d = state_of c.args.self.now in
    let r = g.M.Mmio.registers c.args.io.now in
    let places = release_places (stages_of d.devices c.args.id) in
    c.in_ok-stage.ensures.goes_on (releasing_reasons d r places c.args.id c.args.page)
    ∙ passes (is_none (held_in d.ledger c.args.id c.args.page)) NotGranted (queueing d r places) (tests_none c.holds.result c.is_none.result false (held_in d.ledger c.args.id c.args.page) c.holds.ensures.shown c.is_none.ensures c.if-is_none.false)
    ∙ too_many d r places c.if-self.true

pub returns-then-lacks_places-clause-refused : goal.returns-then-lacks_places-clause-refused
returns-then-lacks_places-clause-refused g c =
    let d = state_of c.args.self.now in
    let r = g.M.Mmio.registers c.args.io.now in
    let places = release_places (stages_of d.devices c.args.id) in
    let same : c.release_places.result ≡ places = c.release_places.ensures ∙ ap release_places (sym c.in_ok-stage.ensures.attached) in
    let test : lacks_places places r ≡ true = ap (λ n. lacks_places n r) (sym same) ∙ sym c.lacks_places.ensures ∙ c.if-lacks_places.true in
    c.in_ok-stage.ensures.goes_on (releasing_reasons d r places c.args.id c.args.page)
    ∙ passes (is_none (held_in d.ledger c.args.id c.args.page)) NotGranted (queueing d r places) (tests_none c.holds.result c.is_none.result false (held_in d.ledger c.args.id c.args.page) c.holds.ensures.shown c.is_none.ensures c.if-is_none.false)
    ∙ queue_full d r places c.if-self.false test

pub returns-then-last_fence-eq4294967295-clause-refused : goal.returns-then-last_fence-eq4294967295-clause-refused
returns-then-last_fence-eq4294967295-clause-refused g c =
    let d = state_of c.args.self.now in
    let r = g.M.Mmio.registers c.args.io.now in
    let places = release_places (stages_of d.devices c.args.id) in
    let same : c.release_places.result ≡ places = c.release_places.ensures ∙ ap release_places (sym c.in_ok-stage.ensures.attached) in
    let test : lacks_places places r ≡ false = ap (λ n. lacks_places n r) (sym same) ∙ sym c.lacks_places.ensures ∙ c.if-lacks_places.false in
    c.in_ok-stage.ensures.goes_on (releasing_reasons d r places c.args.id c.args.page)
    ∙ passes (is_none (held_in d.ledger c.args.id c.args.page)) NotGranted (queueing d r places) (tests_none c.holds.result c.is_none.result false (held_in d.ledger c.args.id c.args.page) c.holds.ensures.shown c.is_none.ensures c.if-is_none.false)
    ∙ used_up d r places c.if-self.false test (no_more_numbers (last_fence d) c.last_fence.result c.last_fence.ensures c.if-last_fence-eq4294967295.true)

pub returns : goal.returns
returns g c =
    let d = state_of c.args.self.now in
    let r = g.M.Mmio.registers c.args.io.now in
    let places = release_places (stages_of d.devices c.args.id) in
    let same : c.release_places.result ≡ places = c.release_places.ensures ∙ ap release_places (sym c.in_ok-stage.ensures.attached) in
    let test : lacks_places places r ≡ false = ap (λ n. lacks_places n r) (sym same) ∙ sym c.lacks_places.ensures ∙ c.if-lacks_places.false in
    let more = more_numbers (last_fence d) c.last_fence.result c.args.self.now.invariants.fences.numbered c.last_fence.ensures c.if-last_fence-eq4294967295.false in
    record {
      admitted =
          c.in_ok-stage.ensures.goes_on (releasing_reasons d r places c.args.id c.args.page)
          ∙ passes (is_none (held_in d.ledger c.args.id c.args.page)) NotGranted (queueing d r places) (tests_none c.holds.result c.is_none.result false (held_in d.ledger c.args.id c.args.page) c.holds.ensures.shown c.is_none.ensures c.if-is_none.false)
          ∙ may_queue d r places c.if-self.false test more;
      may = record {
        started = c.in_ok-stage.ensures.started;
        attached = c.in_ok-stage.ensures.attached;
        held = some_there (held_in d.ledger c.args.id c.args.page) (tests_none c.holds.result c.is_none.result false (held_in d.ledger c.args.id c.args.page) c.holds.ensures.shown c.is_none.ensures c.if-is_none.false);
        few = c.if-self.false;
        room = subst (λ (o : Option Stages). how_many r + release_places o < 256) c.in_ok-stage.ensures.attached (fits r places (c.requires c.in_ok-stage.ensures.started) test);
        number = more;
      };
      refused = tt;
    }
