use Rattle.std.proofs.Common.{◌≡◌, ◌+◌, ◌++◌, map, length, refl, sym, subst, ap, ◌∙◌, take, drop, arith, append_assoc}
use Rattle.std.proofs.lemmas.Bool.{false≢true}
use Rattle.std.proofs.lemmas.List.{length-drop, length-take-le, take-append-drop}
use Rattle.iom_script.specs.Cuts.{digit_of_value, value_of_digit, IsHexOf}
use Rattle.iom_script.proofs.LaneLemmas.{AreValues, slice_bytes, half_is, values_are_64, both_are_values, both_said, both_not_said}
use Rattle.iom_script.proofs.lanes.put_64.Goals as goal

pub joined_of_64-front-requires : goal.joined_of_64-front-requires
joined_of_64-front-requires c =
    ((both_are_values 64 c.values_of-first.result c.values_of-second.result c.type_inv.first.0 c.type_inv.second.0).0 (c.if-not-are_values_of_64.ensures.0 refl)).0

pub joined_of_64-back-requires : goal.joined_of_64-back-requires
joined_of_64-back-requires c =
    let front = values_are_64 (take 64 c.args.digits.now) c.values_of-first.result (length-take-le 64 c.args.digits.now (omega arith)) c.values_of-first.ensures in
    ((both_are_values 64 c.values_of-first.result c.values_of-second.result front c.type_inv.second.0).0 (c.if-not-are_values_of_64.ensures.0 refl)).1

pub returns-then-not-are_values_of_64-clause-said : goal.returns-then-not-are_values_of_64-clause-said
returns-then-not-are_values_of_64-clause-said c =
    let text = c.args.digits.now in
    let first = c.values_of-first.ensures in
    let second : c.values_of-second.result ≡ map value_of_digit (drop 64 text) = c.values_of-second.ensures ∙ ap (map value_of_digit) (half_is text c.requires.digits) in
    let front = values_are_64 (take 64 text) c.values_of-first.result (length-take-le 64 text (omega arith)) first in
    let back = values_are_64 (drop 64 text) c.values_of-second.result (omega (arith, length-drop 64 text)) second in
    both_not_said text (take 64 text) (drop 64 text) (sym (take-append-drop 64 text)) (λ all. false≢true (c.if-not-are_values_of_64.ensures.1
    ((both_are_values 64 c.values_of-first.result c.values_of-second.result front back).1 (subst AreValues (sym first) all.0, subst AreValues (sym second) all.1))))

pub returns-clause-said : goal.returns-clause-said
returns-clause-said c =
    let text = c.args.digits.now in
    let old = c.args.places.now in
    let place = c.args.place in
    let first = c.values_of-first.ensures in
    let second : c.values_of-second.result ≡ map value_of_digit (drop 64 text) = c.values_of-second.ensures ∙ ap (map value_of_digit) (half_is text c.requires.digits) in
    let front = values_are_64 (take 64 text) c.values_of-first.result (length-take-le 64 text (omega arith)) first in
    let back = values_are_64 (drop 64 text) c.values_of-second.result (omega (arith, length-drop 64 text)) second in
    let both = (both_are_values 64 c.values_of-first.result c.values_of-second.result front back).0 (c.if-not-are_values_of_64.ensures.0 refl) in
    let one = c.joined_of_64-front.result in
    let two = c.joined_of_64-back.result in
    let long_one : length one ≡ 32 = omega arith in
    let long_two : length two ≡ 32 = omega arith in
    let all : place + 64 ≡ place + 32 + length two = omega (arith, long_two) in
    let some : place + 32 ≡ place + length one = omega (arith, long_one) in
    let until : take (place + 32) c.write_at.new.places ≡ take place old ++ one = ap (λ count. take count c.write_at.new.places) some ∙ c.write_at.ensures.written in
    let written = ap (λ count. take count c.write_at-2.new.places) all ∙ c.write_at-2.ensures.written ∙ ap (λ list. list ++ two) until ∙ append_assoc (take place old) one two in
    let said = both_said text (take 64 text) (drop 64 text) c.joined_of_64-front.result c.joined_of_64-back.result (sym (take-append-drop 64 text)) (slice_bytes text c.type_inv.digits)
    (subst AreValues first both.0) (subst AreValues second both.1)
    (subst (λ values. IsHexOf (map digit_of_value values) c.joined_of_64-front.result) first c.joined_of_64-front.ensures)
    (subst (λ values. IsHexOf (map digit_of_value values) c.joined_of_64-back.result) second c.joined_of_64-back.ensures) in
    (one ++ two, said, written)
