use Rattle.std.proofs.Common.{arith, refl, length, inl, inr, ◌<◌, ◌≡◌}
use Rattle.std.proofs.lemmas.Bool.Decides.{nat_tests, when_true, when_false}
use Rattle.iom_hardware_script.specs.Grammar.{SayHardware}
use Rattle.iom_script.specs.Faults.{IsTakenAs, IsRefusedAs}
use Rattle.iom_script.proofs.ScriptLemmas.{read_nothing_yet, read_on, number_fits, less_is_left, bad_line, whole_script, unended}
use Rattle.iom_hardware_script.proofs.parser.read_lines.Goals as goal
use Rattle.iom_hardware_script.proofs.parser.read_lines.Goals.{else-is_empty-via-then-is_empty+else-bytes-le-SCRIPT_LIMIT, else-is_empty-via-else-is_empty}

pub loop-line-init : goal.loop-line-init
loop-line-init c = rw c.min.ensures (read_nothing_yet SayHardware c.args.bytes.now _ (refl, c.new.ensures))

pub loop-line-smaller : goal.loop-line-smaller
loop-line-smaller c = less_is_left c.loop-line.rest.now c.in-Some.line.now c.in-Some.after.now c.in-Some.ensures

pub overflow_add-number : goal.overflow_add-number
overflow_add-number c =
    let fits = number_fits SayHardware c.args.bytes.now c.loop-line.rest.now c.loop-line.number c.loop-line.script c.loop-line.invariant in
    omega arith

pub loop-line-preserved : goal.loop-line-preserved
loop-line-preserved c =
    read_on SayHardware c.args.bytes.now c.loop-line.rest.now c.in-Some.line.now c.in-Some.after.now c.loop-line.number c.loop-line.script c.take_line.new.script c.loop-line.invariant c.in-Some.ensures
    (when_true (IsTakenAs SayHardware c.loop-line.number c.loop-line.script c.in-Some.line.now c.take_line.new.script) (IsRefusedAs SayHardware c.loop-line.number c.loop-line.script c.in-Some.line.now) c.in-Ok-true.field-0-test c.in-Ok-true.ensures)

pub returns-in-Ok-false-clause-fault : goal.returns-in-Ok-false-clause-fault
returns-in-Ok-false-clause-fault c =
    bad_line SayHardware c.args.bytes.now c.loop-line.rest.now c.in-Some.line.now c.in-Some.after.now c.loop-line.number c.loop-line.script c.loop-line.invariant c.in-Some.ensures
    (when_false (IsTakenAs SayHardware c.loop-line.number c.loop-line.script c.in-Some.line.now c.take_line.new.script) (IsRefusedAs SayHardware c.loop-line.number c.loop-line.script c.in-Some.line.now) c.in-Ok-false.field-0-test c.in-Ok-false.ensures)

pub returns-then-bytes-le-SCRIPT_LIMIT-clause-script : goal.returns-then-bytes-le-SCRIPT_LIMIT-clause-script
returns-then-bytes-le-SCRIPT_LIMIT-clause-script c =
    let nothing : length c.loop-line.rest.now ≡ 0 = let e = c.if-is_empty.ensures in grind (arith, nat_tests, e) in
    whole_script SayHardware c.args.bytes.now c.loop-line.rest.now c.loop-line.number c.loop-line.script c.loop-line.invariant nothing c.if-bytes-le-SCRIPT_LIMIT.true

pub returns-else-is_empty-clause-fault : goal.returns-else-is_empty-clause-fault
returns-else-is_empty-clause-fault c =
    unended SayHardware c.args.bytes.now c.loop-line.rest.now c.loop-line.number c.loop-line.script c.loop-line.invariant c.in_default.ensures
    (elim c.else-is_empty.branch [
      | else-is_empty-via-then-is_empty+else-bytes-le-SCRIPT_LIMIT w ↦ (let long : 1048576 < length c.args.bytes.now = omega (arith, w.if-bytes-le-SCRIPT_LIMIT.false) in inr long)
      | else-is_empty-via-else-is_empty w ↦ (let some : 0 < length c.loop-line.rest.now = let e = w.if-is_empty.ensures in grind (arith, nat_tests, e) in inl some)
    ])
