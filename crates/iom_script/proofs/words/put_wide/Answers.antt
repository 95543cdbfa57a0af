use Rattle.std.proofs.Common.{◌≡◌, ◌+◌, ◌*◌, ◌/◌, arith, sym, subst, length, take}
use Rattle.iom_script.specs.Cuts.{SaysFirst}
use Rattle.iom_script.proofs.HexBytesLemmas.{slice_of_digits, says_none, says_digits, digits_stop}
use Rattle.iom_script.proofs.words.put_wide.Goals as goal

pub loop-group-init : goal.loop-group-init
loop-group-init c = (c.requires, says_none c.args.text.now)

pub loop-group-preserved : goal.loop-group-preserved
loop-group-preserved c =
    let text = c.args.text.now in
    let group = c.loop-group.group in
    let places = c.loop-group.places in
    let new = c.put_64.new.places in
    let put = c.if-not-put_64.ensures.said in
    let further : 64 * (group + 1) ≡ 64 * group + 64 = omega arith in
    let said = rw (slice_of_digits text (128 * group) (128 * group + 128) (64 * group) 64 (omega arith) (omega arith)) at put.1 in
    let told = says_digits text (take (64 * group) places) put.0 (64 * group) 64 (omega arith) c.loop-group.invariant.1 said in (
      omega (arith, c.loop-group.invariant.0, c.put_64.ensures.len),
      subst (λ count. SaysFirst text count (take count new)) (sym further) (subst (λ list. SaysFirst text (64 * group + 64) list) (sym put.2) told),
    )

pub returns-then-not-put_64-clause-said : goal.returns-then-not-put_64-clause-said
returns-then-not-put_64-clause-said c =
    let text = c.args.text.now in
    let group = c.loop-group.group in
    digits_stop text (64 * group) 64 (rw (slice_of_digits text (128 * group) (128 * group + 128) (64 * group) 64 (omega arith) (omega arith)) at c.if-not-put_64.ensures.said)

pub returns-clause-said : goal.returns-clause-said
returns-clause-said c = let all : c.loop-group.group ≡ length c.args.text.now / 128 = omega arith in rw (sym all) c.loop-group.invariant.1
