use Rattle.std.proofs.Common.{arith, get_or, ◌+◌, ◌-◌, ◌≡◌, length, take, sym, subst}
use Rattle.std.specs.Int.{IsInRange}
use Rattle.std.specs.Str.Parse.{AllDigits}
use Rattle.iom_script.proofs.DecimalLemmas.{decimal_leads, decimal_is_large, decimal_more, decimal_below, decimal_fits, few_fit, digits_read_on}
use Rattle.iom_script.proofs.words.leading_decimal.Goals as goal

pub overflow_mul-number : goal.overflow_mul-number
overflow_mul-number c =
    let fits = decimal_fits c.loop-count.count c.loop-count.number 0 (omega arith) c.loop-count.invariant.below (omega arith) in
    omega (arith, fits)

pub overflow_add-number : goal.overflow_add-number
overflow_add-number c =
    let range : IsInRange 48 57 (get_or c.args.text.now c.loop-count.count 0) = c.if-not-is_ascii_digit.ensures.cases in
    let fits = decimal_fits c.loop-count.count c.loop-count.number 9 (omega arith) c.loop-count.invariant.below (omega arith) in
    omega (arith, fits, range.0, range.1, c.from.ensures)

pub returns-then-not-is_ascii_digit : goal.returns-then-not-is_ascii_digit
returns-then-not-is_ascii_digit c =
    decimal_leads c.args.text.now c.loop-count.number c.loop-count.count (record {
      within = omega arith;
      digits = c.loop-count.invariant.digits;
      value = c.loop-count.invariant.value;
      fits = few_fit c.loop-count.count c.loop-count.number (omega arith) c.loop-count.invariant.below;
      stops = λ lt range. (let t = c.if-not-is_ascii_digit.ensures in omega (arith, t.cases, range.0, range.1));
    })

pub loop-count-preserved : goal.loop-count-preserved
loop-count-preserved c =
    let range : IsInRange 48 57 (get_or c.args.text.now c.loop-count.count 0) = c.if-not-is_ascii_digit.ensures.cases in
    let more = decimal_more c.args.text.now c.loop-count.count (omega arith) range.0 range.1 in
    rw c.from.ensures (record {
      digits = digits_read_on c.args.text.now c.loop-count.count (omega arith) c.loop-count.invariant.digits range.0 range.1;
      value = omega (arith, more, c.loop-count.invariant.value);
      below = decimal_below c.loop-count.count c.loop-count.number (get_or c.args.text.now c.loop-count.count 0 - 48) c.loop-count.invariant.below (omega (arith, range.0, range.1));
    })

pub loop-place-init : goal.loop-place-init
loop-place-init c =
    let all : c.loop-count.count ≡ c.min-few.result = omega arith in
    record {
      digits = subst (λ k. AllDigits 10 (take k c.args.text.now)) all c.loop-count.invariant.digits;
      value = rw (sym all) c.loop-count.invariant.value;
      fits = few_fit c.loop-count.count c.loop-count.number (omega arith) c.loop-count.invariant.below;
    }

pub returns-then-not-is_ascii_digit-2 : goal.returns-then-not-is_ascii_digit-2
returns-then-not-is_ascii_digit-2 c =
    decimal_leads c.args.text.now c.loop-place.number c.loop-place.place (record {
      within = omega arith;
      digits = c.loop-place.invariant.digits;
      value = c.loop-place.invariant.value;
      fits = c.loop-place.invariant.fits;
      stops = λ lt range. (let t = c.if-not-is_ascii_digit-2.ensures in omega (arith, t.cases, range.0, range.1));
    })

pub returns-in_err-checked_mul : goal.returns-in_err-checked_mul
returns-in_err-checked_mul c =
    let range : IsInRange 48 57 (get_or c.args.text.now c.loop-place.place 0) = c.if-not-is_ascii_digit-2.ensures.cases in
    let more = decimal_more c.args.text.now c.loop-place.place (omega arith) range.0 range.1 in
    let digits = digits_read_on c.args.text.now c.loop-place.place (omega arith) c.loop-place.invariant.digits range.0 range.1 in
    rw c.from_residual.ensures (decimal_is_large c.args.text.now (c.loop-place.place + 1) (omega arith) digits (omega (arith, more, c.loop-place.invariant.value, c.in_err-checked_mul.ensures)))

pub returns-in_err-number : goal.returns-in_err-number
returns-in_err-number c =
    let range : IsInRange 48 57 (get_or c.args.text.now c.loop-place.place 0) = c.if-not-is_ascii_digit-2.ensures.cases in
    let more = decimal_more c.args.text.now c.loop-place.place (omega arith) range.0 range.1 in
    let digits = digits_read_on c.args.text.now c.loop-place.place (omega arith) c.loop-place.invariant.digits range.0 range.1 in
    let product = c.in_ok-checked_mul.ensures in
    rw c.from_residual-in_err-number.ensures (decimal_is_large c.args.text.now (c.loop-place.place + 1) (omega arith) digits
    (omega (arith, more, c.loop-place.invariant.value, product.1, c.from-in-loop-place.ensures, c.in_err-number.ensures)))

pub loop-place-preserved : goal.loop-place-preserved
loop-place-preserved c =
    let range : IsInRange 48 57 (get_or c.args.text.now c.loop-place.place 0) = c.if-not-is_ascii_digit-2.ensures.cases in
    let more = decimal_more c.args.text.now c.loop-place.place (omega arith) range.0 range.1 in
    let product = c.in_ok-checked_mul.ensures in
    let total = c.in_ok-number.ensures in
    record {
      digits = digits_read_on c.args.text.now c.loop-place.place (omega arith) c.loop-place.invariant.digits range.0 range.1;
      value = omega (arith, more, c.loop-place.invariant.value, product.1, c.from-in-loop-place.ensures, total.1);
      fits = omega (arith, total.0, total.1);
    }

pub returns : goal.returns
returns c =
    let all : c.loop-place.place ≡ length c.args.text.now = omega arith in
    decimal_leads c.args.text.now c.loop-place.number (length c.args.text.now) (record {
      within = omega arith;
      digits = subst (λ k. AllDigits 10 (take k c.args.text.now)) all c.loop-place.invariant.digits;
      value = rw (sym all) c.loop-place.invariant.value;
      fits = c.loop-place.invariant.fits;
      stops = λ lt. absurd (omega (arith, lt));
    })
