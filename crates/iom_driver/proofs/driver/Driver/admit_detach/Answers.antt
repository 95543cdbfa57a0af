use Rattle.std.proofs.Common.{◌≡◌, ◌∙◌, ◌↔◌, inl, Bool, true, false, Option, Some, None, IsSome, IsTrue, refl, sym}
use Rattle.std.proofs.lemmas.Bool.{false≢true}
use Rattle.std.proofs.lemmas.Result.{err_from_is_err_and}
use Rattle.iom_base.specs.declared.refusal.Refusal.TheVariants.{StillGranted}
use Rattle.iom_ledger.specs.Shown.{held_in}
use Rattle.iom_driver.specs.Fences.{last_fence}
use Rattle.iom_driver.specs.Reasons.{detaching_reasons, lacks_places, HasGrants}
use Rattle.iom_driver.specs.StateOf.{state_of}
use Rattle.iom_driver.proofs.FirstRefusals.{applies, passes, queueing, too_many, queue_full, used_up, may_queue, fits, more_numbers, no_more_numbers}
use Rattle.iom_driver.proofs.driver.Driver.admit_detach.Goals as goal

-- what holds of nothing that is there is of nothing
none_there : {A : Type 0} (o : Option A) → (IsSome o → ⊥) → o ≡ None
none_there None without = refl
none_there (Some x) without = absurd (without refl)

not_true : (b : Bool) → b ≡ false → IsTrue b → ⊥
not_true false same true_so = false≢true true_so
not_true true same true_so = false≢true (sym same)

-- two tests that tell the same are the same
same_test : (granted test answer : Bool) (P : Type 0) → (IsTrue granted ↔ P) → (IsTrue test ↔ P) → test ≡ answer → granted ≡ answer
same_test true true answer P one other is = is
same_test false false answer P one other is = is
same_test true false answer P one other is = absurd (not_true false refl (other.1 (one.0 refl)))
same_test false true answer P one other is = absurd (not_true false refl (one.1 (other.0 refl)))

pub returns-in_err-stage-clause-refused : goal.returns-in_err-stage-clause-refused
returns-in_err-stage-clause-refused g c =
    let p = err_from_is_err_and c.from_residual.result c.from_residual.ensures.1 in
    rw (p.1, p.2) (λ granted tells. c.in_err-stage.ensures.refused (detaching_reasons (state_of c.args.self.now) (g.M.Mmio.registers c.args.io.now) granted))

pub returns-then-has_grants-clause-refused : goal.returns-then-has_grants-clause-refused
returns-then-has_grants-clause-refused g c =
    let d = state_of c.args.self.now in
    let r = g.M.Mmio.registers c.args.io.now in
    λ granted tells.
    c.in_ok-stage.ensures.goes_on (detaching_reasons d r granted)
    ∙ applies granted StillGranted (queueing d r 3) (same_test granted c.has_grants.result true (HasGrants d.ledger c.args.id) tells c.has_grants.ensures c.if-has_grants.true)

pub returns-then-self-clause-refused : goal.returns-then-self-clause-refused
returns-then-self-clause-refused g c =
    let d = state_of c.args.self.now in
    let r = g.M.Mmio.registers c.args.io.now in
    λ granted tells.
    c.in_ok-stage.ensures.goes_on (detaching_reasons d r granted)
    ∙ passes granted StillGranted (queueing d r 3) (same_test granted c.has_grants.result false (HasGrants d.ledger c.args.id) tells c.has_grants.ensures c.if-has_grants.false)
    ∙ too_many d r 3 c.if-self.true

pub returns-then-lacks_places-clause-refused : goal.returns-then-lacks_places-clause-refused
returns-then-lacks_places-clause-refused g c =
    let d = state_of c.args.self.now in
    let r = g.M.Mmio.registers c.args.io.now in
    let test : lacks_places 3 r ≡ true = sym c.lacks_places.ensures ∙ c.if-lacks_places.true in
    λ granted tells.
    c.in_ok-stage.ensures.goes_on (detaching_reasons d r granted)
    ∙ passes granted StillGranted (queueing d r 3) (same_test granted c.has_grants.result false (HasGrants d.ledger c.args.id) tells c.has_grants.ensures c.if-has_grants.false)
    ∙ queue_full d r 3 c.if-self.false test

pub returns-then-last_fence-eq4294967295-clause-refused : goal.returns-then-last_fence-eq4294967295-clause-refused
returns-then-last_fence-eq4294967295-clause-refused g c =
    let d = state_of c.args.self.now in
    let r = g.M.Mmio.registers c.args.io.now in
    let test : lacks_places 3 r ≡ false = sym c.lacks_places.ensures ∙ c.if-lacks_places.false in
    λ granted tells.
    c.in_ok-stage.ensures.goes_on (detaching_reasons d r granted)
    ∙ passes granted StillGranted (queueing d r 3) (same_test granted c.has_grants.result false (HasGrants d.ledger c.args.id) tells c.has_grants.ensures c.if-has_grants.false)
    ∙ used_up d r 3 c.if-self.false test (no_more_numbers (last_fence d) c.last_fence.result c.last_fence.ensures c.if-last_fence-eq4294967295.true)

pub returns : goal.returns
returns g c =
    let d = state_of c.args.self.now in
    let r = g.M.Mmio.registers c.args.io.now in
    let test : lacks_places 3 r ≡ false = sym c.lacks_places.ensures ∙ c.if-lacks_places.false in
    let more = more_numbers (last_fence d) c.last_fence.result c.args.self.now.invariants.fences.numbered c.last_fence.ensures c.if-last_fence-eq4294967295.false in
    let none : HasGrants d.ledger c.args.id → ⊥ = λ has. not_true c.has_grants.result c.if-has_grants.false (c.has_grants.ensures.1 has) in
    record {
      admitted =
          λ granted tells.
          c.in_ok-stage.ensures.goes_on (detaching_reasons d r granted)
          ∙ passes granted StillGranted (queueing d r 3) (same_test granted c.has_grants.result false (HasGrants d.ledger c.args.id) tells c.has_grants.ensures c.if-has_grants.false)
          ∙ may_queue d r 3 c.if-self.false test more;
      may = record {
        started = c.in_ok-stage.ensures.started;
        attached = c.in_ok-stage.ensures.attached;
        none_held = λ page. none_there (held_in d.ledger c.args.id page) (λ some. none (page, inl some));
        few = c.if-self.false;
        room = fits r 3 (c.requires c.in_ok-stage.ensures.started) test;
        number = more;
      };
      refused = tt;
    }
