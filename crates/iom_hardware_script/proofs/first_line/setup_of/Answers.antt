use Rattle.std.proofs.Common.{refl}
use Rattle.iom_hardware_script.proofs.SetupLemmas.{setup_otherwise, setup_unsaid, setup_out_of_range, setup_read}
use Rattle.iom_hardware_script.proofs.first_line.setup_of.Goals as goal

pub returns-in_err-words : goal.returns-in_err-words
returns-in_err-words c = rw c.from_residual.ensures (setup_otherwise c.args.line.now c.in_err-words.ensures)

pub returns-in_err-size : goal.returns-in_err-size
returns-in_err-size c =
    rw c.from_residual-in_err-size.ensures (setup_unsaid c.args.line.now c.in_ok-words.words.now c.in_ok-words.ensures c.in_err-size.ensures)

pub returns-then-not-is_frame_count : goal.returns-then-not-is_frame_count
returns-then-not-is_frame_count c =
    setup_out_of_range c.args.line.now c.in_ok-words.words.now c.in_ok-size.size c.in_ok-size.pace c.in_ok-words.ensures c.in_ok-size.ensures
    (λ count. let in_range = c.if-not-is_frame_count.ensures.1 count in cc)

pub returns : goal.returns
returns c =
    setup_read c.args.line.now c.in_ok-words.words.now c.in_ok-size.size c.in_ok-size.pace c.in_ok-words.ensures c.in_ok-size.ensures (c.if-not-is_frame_count.ensures.0 refl)
