use Rattle.std.proofs.Common.{sym, subst, refl}
use Rattle.iom_script.specs.Reading.{Reads}
use Rattle.iom_hardware_script.specs.Grammar.{IsHardwareLine}
use Rattle.iom_hardware_script.proofs.HardwareTextLemmas.{skipped, setup_taken, setup_refused, line_taken, line_refused}
use Rattle.iom_hardware_script.proofs.parser.take_line.Goals as goal

pub returns-then-not-is_spoken : goal.returns-then-not-is_spoken
returns-then-not-is_spoken c = skipped c.args.script.now c.args.number c.args.line.now (sym c.if-not-is_spoken.ensures)

pub returns-in-Some-setup_of : goal.returns-in-Some-setup_of
returns-in-Some-setup_of c =
    setup_taken c.args.script.now _ c.args.number c.args.line.now c.in-Some-setup_of.setup (sym c.if-not-is_spoken.ensures) c.in-None.is c.in-Some-setup_of.ensures refl refl

pub returns-in-None-setup_of : goal.returns-in-None-setup_of
returns-in-None-setup_of c =
    setup_refused c.args.script.now c.args.number c.args.line.now (sym c.if-not-is_spoken.ensures) c.in-None.is c.in-None-setup_of.ensures

pub returns-in_ok-push-in-Some-2 : goal.returns-in_ok-push-in-Some-2
returns-in_ok-push-in-Some-2 c =
    line_taken c.args.script.now _ c.in-Some.field-0 c.args.number c.args.line.now c.in-Some-2.said _ (sym c.if-not-is_spoken.ensures) c.in-Some.is
    (subst (λ o. Reads o (IsHardwareLine c.args.line.now)) c.in-Some-2.is c.in_ok-said-in-Some.ensures) refl refl refl c.in_ok-push-in-Some-2.ensures.ok

pub returns-in-None-2 : goal.returns-in-None-2
returns-in-None-2 c =
    line_refused c.args.script.now c.in-Some.field-0 c.args.number c.args.line.now (sym c.if-not-is_spoken.ensures) c.in-Some.is
    (subst (λ o. Reads o (IsHardwareLine c.args.line.now)) c.in-None-2.is c.in_ok-said-in-Some.ensures)
