use Rattle.std.proofs.Common.{◌≡◌, ◌+◌, ◌*◌, ◌/◌, ◌++◌, ◌∙◌, ap, arith, sym, subst, length, take}
use Rattle.iom_script.specs.Cuts.{IsHexOf, SaysFirst}
use Rattle.iom_script.proofs.ReadsLemmas.{read_holds}
use Rattle.iom_script.proofs.HexBytesLemmas.{digits_at, slice_of_digits, says_digits, digits_stop}
use Rattle.iom_script.proofs.words.put_groups.Goals as goal

pub loop-group-init : goal.loop-group-init
loop-group-init c =
    let text = c.args.text.now in
    let same : 64 * (length text / 128) ≡ 16 * (4 * (length text / 128)) = omega arith in
    (omega (arith, c.requires, c.put_wide.ensures.len), subst (λ count. SaysFirst text count (take count c.put_wide.new.places)) same c.if-not-put_wide.ensures.said)

pub loop-group-preserved : goal.loop-group-preserved
loop-group-preserved c =
    let text = c.args.text.now in
    let group = c.loop-group.group in
    let places = c.loop-group.places in
    let sixteen = c.in-Some.sixteen in
    let new = c.write_at.new.places in
    let reads = rw (slice_of_digits text (32 * group) (32 * group + 32) (16 * group) 16 (omega arith) (omega arith)) at c.in-Some.ensures in
    let long : length sixteen ≡ 16 = omega arith in
    let until : 16 * group + 16 ≡ 16 * group + length sixteen = omega (arith, long) in
    let further : 16 * (group + 1) ≡ 16 * group + 16 = omega arith in
    let front : take (16 * group + 16) new ≡ take (16 * group) places ++ sixteen = ap (λ count. take count new) until ∙ c.write_at.ensures.written in
    let told = says_digits text (take (16 * group) places) sixteen (16 * group) 16 (omega arith) c.loop-group.invariant.1 (read_holds (IsHexOf (digits_at text (16 * group) 16)) sixteen reads) in (
      omega (arith, c.loop-group.invariant.0, c.write_at.ensures.len),
      subst (λ count. SaysFirst text count (take count new)) (sym further) (subst (λ list. SaysFirst text (16 * group + 16) list) (sym front) told),
    )

pub returns-in-None-clause-said : goal.returns-in-None-clause-said
returns-in-None-clause-said c =
    let text = c.args.text.now in
    let group = c.loop-group.group in
    digits_stop text (16 * group) 16 (rw (slice_of_digits text (32 * group) (32 * group + 32) (16 * group) 16 (omega arith) (omega arith)) at c.in-None.ensures)

pub returns-clause-said : goal.returns-clause-said
returns-clause-said c = let all : c.loop-group.group ≡ length c.args.text.now / 32 = omega arith in rw (sym all) c.loop-group.invariant.1
