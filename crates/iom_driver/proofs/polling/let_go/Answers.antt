use Rattle.std.proofs.Common.{◌≡◌, ◌<◌, ◌≤◌, ◌+◌, ◌++◌, ◌∙◌, suc, ℕ, true, false, List, [], ◌∷◌, take, length, map, Some, option_map, slice_get, set, refl, sym, ap, subst, inl, inr, arith}
use Rattle.std.proofs.lemmas.Bool.{cases_lt}
use Rattle.std.proofs.lemmas.Bool.Decides.{eqb_tells}
use Rattle.std.proofs.lemmas.List.{length-map, length-set}
use Rattle.std.proofs.lemmas.Option.{slice_get-map, slice_get_past}
use Rattle.iom_driver.specs.declared.device.Attachment.TheVariants.{Detached}
use Rattle.iom_driver.specs.declared.device.Device.{Device}
use Rattle.iom_driver.specs.Confirmed.{has_left_until, driven_once_confirmed}
use Rattle.iom_driver.proofs.GoneMore.{none_before, owners_unchanged, clears_stay, marks_back, clears_back, marks_at_first, clears_at_first}
use Rattle.iom_driver.proofs.Lists.{same_items, take_more, get_there, get_set_same, get_set_other, read_is}
use Rattle.iom_driver.proofs.polling.let_go.Goals.{then-has_left, else-has_left}
use Rattle.iom_driver.proofs.polling.let_go.Goals as goal

-- the devices up to a place are as they are afterwards, and the rest as they were
record DoneTo (done : ℕ) (old now : List Device) (place : ℕ) : Type 0 where
  many : length now ≡ length old
  so_far : (k : ℕ) → k < place → slice_get now k ≡ option_map (driven_once_confirmed done) (slice_get old k)
  rest : (k : ℕ) → place ≤ k → slice_get now k ≡ slice_get old k

-- one more has left, or stays
one_left : (done : ℕ) (old now now' : List Device) (place : ℕ) (device new : Device) → DoneTo done old now place → slice_get old place ≡ Some device → place < length old
    → now' ≡ set now place new → new ≡ driven_once_confirmed done device → DoneTo done old now' (place + 1)
one_left done old now now' place device new before at inside is same = record {
  many = ap (λ (ds : List Device). length ds) is ∙ length-set now place new ∙ before.many;
  so_far = λ k lt. elim (eqb_tells k place) [
    | inl e ↦
        let here : slice_get (set now place new) place ≡ Some new = get_set_same now place new (subst (λ n. place < n) (sym before.many) inside) in
        ap (λ (ds : List Device). slice_get ds k) is ∙ ap (λ n. slice_get (set now place new) n) e.1 ∙ here ∙ ap Some same
        ∙ sym (ap (λ n. option_map (driven_once_confirmed done) (slice_get old n)) e.1 ∙ ap (option_map (driven_once_confirmed done)) at)
    | inr ne ↦ ap (λ (ds : List Device). slice_get ds k) is ∙ get_set_other now place k new ne.1 ∙ before.so_far k (omega (arith, lt, ne.1))
  ];
  rest = λ k le.
      ap (λ (ds : List Device). slice_get ds k) is ∙ get_set_other now place k new (λ same_place. absurd (omega (arith, le, same_place)))
      ∙ before.rest k (omega (arith, le));
}

one_stays : (done : ℕ) (old now : List Device) (place : ℕ) (device : Device) → DoneTo done old now place → slice_get old place ≡ Some device → has_left_until done device.attachment ≡ false
    → DoneTo done old now (place + 1)
one_stays done old now place device before at unchanged = record {
  many = before.many;
  so_far = λ k lt. elim (eqb_tells k place) [
    | inl e ↦
        let kept : Some device ≡ Some (driven_once_confirmed done device) = rw unchanged refl in
        before.rest k (omega (arith, e.1)) ∙ ap (λ n. slice_get old n) e.1 ∙ at ∙ kept
        ∙ sym (ap (λ n. option_map (driven_once_confirmed done) (slice_get old n)) e.1 ∙ ap (option_map (driven_once_confirmed done)) at)
    | inr ne ↦ before.so_far k (omega (arith, lt, ne.1))
  ];
  rest = λ k le. before.rest k (omega (arith, le));
}

one_more : (devices : List Device) (place : ℕ) (device : Device) → slice_get devices place ≡ Some device → take (place + 1) devices ≡ take place devices ++ device ∷ []
one_more devices place device at = let next : place + 1 ≡ suc place = omega arith in ap (λ n. take n devices) next ∙ take_more devices place device at

pub loop-place-init : goal.loop-place-init
loop-place-init c = record {
  many = refl;
  so_far = λ k lt. absurd (omega arith);
  rest = λ k le. refl;
  owners = marks_at_first c.args.done c.args.owners.now;
  memory = clears_at_first c.args.done c.args.owners.now c.args.memory.now;
}

pub loop-place-preserved : goal.loop-place-preserved
loop-place-preserved c =
    let old = c.args.devices.now.items in
    let now = c.loop-place.devices.items in
    let place = c.loop-place.place in
    let done = c.args.done in
    let device = c.index-device.result.now in
    let before : DoneTo done old now place = record { many = c.loop-place.invariant.many; so_far = c.loop-place.invariant.so_far; rest = c.loop-place.invariant.rest } in
    let inside : place < length old = omega (arith, c.len-place-end.ensures, c.loop-place-test.true) in
    let found = get_there old place inside in
    let there = before.rest place (omega arith) ∙ found.1 in
    let same : device ≡ found.0 = read_is now place found.0 device there c.index-device.ensures in
    let at : slice_get old place ≡ Some device = found.1 ∙ ap Some (sym same) in
    let none = none_before old place device c.requires.ids at in
    let more = one_more old place device at in
    elim c.if-has_left.branch [
      | then-has_left w ↦
          let left : has_left_until done device.attachment ≡ true = sym c.has_left.ensures ∙ w.if-has_left.true in
          let read : w.index_mut.result.now ≡ found.0 = read_is now place found.0 w.index_mut.result.now there w.index_mut.ensures.value in
          let is : c.if-has_left.devices.items ≡ set now place (record { id = w.index_mut.result.now.id; trusted = w.index_mut.result.now.trusted; attachment = Detached }) = ap (λ v. v.items) w.devices-is in
          let gone : ◌≡◌ {A = Device} (record { id = w.index_mut.result.now.id; trusted = w.index_mut.result.now.trusted; attachment = Detached }) (driven_once_confirmed done device) =
          ap (λ (d : Device). record d { attachment = Detached }) (read ∙ sym same) ∙ rw left refl in
          let all = one_left done old now c.if-has_left.devices.items place device (record { id = w.index_mut.result.now.id; trusted = w.index_mut.result.now.trusted; attachment = Detached }) before at inside is gone in
          rw (w.owners-is, w.memory-is, more) record {
            many = all.many;
            so_far = all.so_far;
            rest = all.rest;
            owners = marks_back done (take place old) device c.loop-place.owners w.give_back.new.self c.args.owners.now c.loop-place.memory w.give_back.new.memory none left c.loop-place.invariant.owners w.give_back.ensures;
            memory = clears_back done (take place old) device c.loop-place.owners w.give_back.new.self c.args.owners.now c.args.memory.now c.loop-place.memory w.give_back.new.memory none left
                c.loop-place.invariant.owners w.give_back.ensures c.loop-place.invariant.memory;
          }
      | else-has_left w ↦
          let unchanged : has_left_until done device.attachment ≡ false = sym c.has_left.ensures ∙ w.if-has_left.false in
          let all = one_stays done old now place device before at unchanged in
          rw (w.devices-is, w.owners-is, w.memory-is, more) record {
            many = all.many;
            so_far = all.so_far;
            rest = all.rest;
            owners = owners_unchanged done (take place old) device c.loop-place.owners c.args.owners.now none unchanged c.loop-place.invariant.owners;
            memory = clears_stay done (take place old) device c.args.owners.now c.args.memory.now c.loop-place.memory none unchanged c.loop-place.invariant.memory;
          }
    ]

pub returns-clause-devices : goal.returns-clause-devices
returns-clause-devices c =
    let old = c.args.devices.now.items in
    let now = c.loop-place.devices.items in
    let end : length old ≤ c.loop-place.place = omega (arith, c.len-place-end.ensures, c.loop-place-test.false) in
    same_items now (map (driven_once_confirmed c.args.done) old) (λ k. elim (cases_lt k c.loop-place.place) [
      | inl lt ↦ c.loop-place.invariant.so_far k lt ∙ sym (slice_get-map (driven_once_confirmed c.args.done) old k)
      | inr le ↦
          slice_get_past now k (subst (λ n. n ≤ k) (sym c.loop-place.invariant.many) (omega (arith, end, le)))
          ∙ sym (slice_get_past (map (driven_once_confirmed c.args.done) old) k (subst (λ n. n ≤ k) (sym (length-map old (driven_once_confirmed c.args.done))) (omega (arith, end, le))))
    ])
