use Rattle.std.proofs.Common.{◌≡◌, ◌∙◌, [], refl, sym, subst}
use Rattle.std.proofs.lemmas.Bool.{false≢true}
use Rattle.iom_base.specs.Accesses.{offset_of}
use Rattle.iom_base.specs.declared.access.AcceptedAccess.{AcceptedAccess}
use Rattle.iom_machine.specs.declared.state.State.{State}
use Rattle.iom_machine.specs.Frames.{stored}
use Rattle.iom_machine.specs.Machine.{GivesBytes, MakesWrite, with_oldest_made}
use Rattle.iom_kept_state.specs.Frames.{frames_in}
use Rattle.iom_kept_state.specs.States.{state_of}
use Rattle.iom_machine_judge.proofs.LeftLemmas.{stays_by}
use Rattle.iom_machine_judge.proofs.DecidedLemmas.{there}
use Rattle.iom_machine_judge.proofs.MakeLemmas.{is_made, never_made, same_made, some_first, none_first, never_empty, never_other, made_state}
use Rattle.iom_machine_judge.proofs.commits.make.Goals as goal

pub returns-then-not-gives : goal.returns-then-not-gives
returns-then-not-gives c =
    let read = c.index-as_slice-place.result in
    rw c.in-Read.is (there c.args.kept.now.devices c.args.place read _ (rw c.as_slice.ensures at c.index-as_slice-place.is) (λ at own.
    never_made c.args.kept.now _ c.in-Some.made.now (λ made before. GivesBytes before read.id made c.in-Read.bytes.items) (λ made before. with_oldest_made before read) c.in-Some.ensures
    (λ h past given. false≢true (sym c.if-not-gives.true ∙ (rw c.as_slice-in-Read.ensures.value at (c.gives.ensures h past)).1 given))))

pub take_oldest-made-requires : goal.take_oldest-made-requires
take_oldest-made-requires c =
    (c.requires, there c.args.kept.now.devices c.args.place c.index-as_slice-place.result _ (rw c.as_slice.ensures at c.index-as_slice-place.is) (λ at. some_first _ c.in-Some.made.now c.in-Some.ensures))

pub returns-else-not-gives : goal.returns-else-not-gives
returns-else-not-gives c =
    let read = c.index-as_slice-place.result in
    rw c.in-Read.is (there c.args.kept.now.devices c.args.place read _ (rw c.as_slice.ensures at c.index-as_slice-place.is) (λ at own.
    is_made c.args.kept.now (record c.args.kept.now { devices = c.take_oldest-made.new.devices }) _ c.in-Some.made.now (λ made before. GivesBytes before read.id made c.in-Read.bytes.items) (λ made before. with_oldest_made before read) c.in-Some.ensures refl
    (λ h past. (rw c.as_slice-in-Read.ensures.value at (c.gives.ensures h past)).0 c.if-not-gives.false)
    (λ h past. made_state c.args.kept.now h read c.args.place _ (frames_in c.args.kept.now.frames) (frames_in c.args.kept.now.frames) own (c.take_oldest-made.ensures read at).1 refl)))

pub returns-then-not-writes : goal.returns-then-not-writes
returns-then-not-writes c =
    let read = c.index-as_slice-place.result in
    rw c.in-Wrote.is (there c.args.kept.now.devices c.args.place read _ (rw c.as_slice.ensures at c.index-as_slice-place.is) (λ at own.
    never_made c.args.kept.now _ c.in-Some.made.now (λ made before. MakesWrite before read.id made c.in-Wrote.len)
    (λ made before. record (with_oldest_made before read) { frames = stored before.frames made.frame (offset_of made.access) made.access.bytes }) c.in-Some.ensures
    (λ h past makes. false≢true (sym c.if-not-writes.true ∙ (c.writes.ensures h past).1 makes))))

pub take_oldest-made-requires-in-Wrote : goal.take_oldest-made-requires-in-Wrote
take_oldest-made-requires-in-Wrote c =
    (c.requires, there c.args.kept.now.devices c.args.place c.index-as_slice-place.result _ (rw c.as_slice.ensures at c.index-as_slice-place.is) (λ at. some_first _ c.in-Some.made.now c.in-Some.ensures))

pub returns-in_ok-store-in-Wrote : goal.returns-in_ok-store-in-Wrote
returns-in_ok-store-in-Wrote c =
    let read = c.index-as_slice-place.result in
    let stored_so = rw c.as_slice-bytes.ensures at c.in_ok-store-in-Wrote.ensures in
    rw c.in-Wrote.is (there c.args.kept.now.devices c.args.place read _ (rw c.as_slice.ensures at c.index-as_slice-place.is) (λ at own.
    let taken = c.take_oldest-made-in-Wrote.ensures read at in
    is_made c.args.kept.now (record c.args.kept.now { devices = c.take_oldest-made-in-Wrote.new.devices; frames = c.store.new.self }) _ c.take_oldest-made-in-Wrote.result (λ made before. MakesWrite before read.id made c.in-Wrote.len)
    (λ made before. record (with_oldest_made before read) { frames = stored before.frames made.frame (offset_of made.access) made.access.bytes }) (sym taken.0) refl
    (λ h past. subst (λ (made : AcceptedAccess). MakesWrite (state_of c.args.kept.now h) read.id made c.in-Wrote.len) (same_made _ _ (c.in-Some.ensures ∙ taken.0))
    ((c.writes.ensures h past).0 c.if-not-writes.false))
    (λ h past. made_state c.args.kept.now h read c.args.place _ _ _ own taken.1 stored_so)))

pub returns-in-NothingInFlight : goal.returns-in-NothingInFlight
returns-in-NothingInFlight c =
    let read = c.index-as_slice-place.result in
    let none = sym (rw c.in_default.is at c.oldest.ensures) in
    rw c.in-NothingInFlight.is (there c.args.kept.now.devices c.args.place read _ (rw c.as_slice.ensures at c.index-as_slice-place.is) (λ at own.
    stays_by _ (λ (before : State). read.in_flight ≡ []) c.args.kept.now (λ h past. ((λ yes. none_first _ none), (λ empty. refl)))))

pub returns-in_default-matches : goal.returns-in_default-matches
returns-in_default-matches c =
    let none = sym (rw c.in_default.is at c.oldest.ensures) in
    there c.args.kept.now.devices c.args.place c.index-as_slice-place.result _ (rw c.as_slice.ensures at c.index-as_slice-place.is) (λ at own.
    (refl, λ h past after. never_empty c.index-as_slice-place.result c.args.outcome.now none c.in_default-matches.not-NothingInFlight (state_of c.args.kept.now h) after))

pub returns-in_default-outcome : goal.returns-in_default-outcome
returns-in_default-outcome c =
    there c.args.kept.now.devices c.args.place c.index-as_slice-place.result _ (rw c.as_slice.ensures at c.index-as_slice-place.is) (λ at own.
    (refl, λ h past after. never_other c.index-as_slice-place.result c.in-Some.made.now c.args.outcome.now c.in-Some.ensures c.in_default-outcome.not-Read c.in_default-outcome.not-Wrote (state_of c.args.kept.now h) after))
