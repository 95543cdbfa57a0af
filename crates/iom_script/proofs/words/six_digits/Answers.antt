use Rattle.std.proofs.Common.{arith, length, ◌≡◌, ◌<◌, ◌^◌, refl, sym, ◌∙◌, take}
use Rattle.std.proofs.lemmas.List.{take_all}
use Rattle.iom_script.specs.declared.words.TheConstants.{HEX_VALUES}
use Rattle.iom_script.specs.Digits.{hex_digits}
use Rattle.iom_script.proofs.HexLemmas.{hex_stops, hex_whole}
use Rattle.iom_script.proofs.SixLemmas.{IsTable, worth_of, sum_fits, sum_more}
use Rattle.iom_script.proofs.words.six_digits.Goals as goal

is_table : IsTable HEX_VALUES
is_table = record { whole = refl; worths = refl }

pub loop-digit-init : goal.loop-digit-init
unfolding hex_digits
loop-digit-init c = record { most = omega arith; read = λ low. refl; none = λ high. absurd (omega (arith, high)) }

pub overflow_mul-number : goal.overflow_mul-number
overflow_mul-number c =
    let fits = sum_fits c.loop-digit.digit-index c.loop-digit.number (omega arith) c.loop-digit.invariant.most in
    omega (arith, fits)

pub overflow_add-number : goal.overflow_add-number
overflow_add-number c =
    let fits = sum_fits c.loop-digit.digit-index c.loop-digit.number (omega arith) c.loop-digit.invariant.most in
    let worth = worth_of HEX_VALUES c.from.result refl (omega (arith, c.from.ensures)) in
    grind (arith, fits, worth)

pub loop-digit-preserved : goal.loop-digit-preserved
loop-digit-preserved c =
    sum_more c.args.text.now HEX_VALUES c.loop-digit.digit-index c.loop-digit.number c.from.result is_table (omega arith) (omega arith) c.from.ensures
    (omega (arith, c.from.ensures)) c.loop-digit.invariant

pub returns-then-number-lt-NO : goal.returns-then-number-lt-NO
returns-then-number-lt-NO c =
    let all : c.loop-digit.digit-index ≡ length c.args.text.now = omega arith in
    let six : length c.args.text.now ≡ 6 = c.requires in
    let below : c.loop-digit.number < 16 ^ length c.args.text.now = rw six (omega (arith, c.if-number-lt-NO.true)) in
    let read : take (length c.args.text.now) c.args.text.now ≡ hex_digits (length c.args.text.now) c.loop-digit.number = rw (sym all) (c.loop-digit.invariant.read (rw all below)) in
    hex_whole c.args.text.now c.loop-digit.number below (sym (take_all (length c.args.text.now) c.args.text.now (omega arith)) ∙ read)

pub returns-else-number-lt-NO : goal.returns-else-number-lt-NO
returns-else-number-lt-NO c =
    let all : c.loop-digit.digit-index ≡ 6 = omega arith in
    let found = c.loop-digit.invariant.none (rw all (omega (arith, c.if-number-lt-NO.false))) in
    hex_stops c.args.text.now found.0 (omega (arith, found.1)) found.2
