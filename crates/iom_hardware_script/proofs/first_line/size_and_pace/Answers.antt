use Rattle.iom_script.specs.Words.{IsNumber}
use Rattle.iom_script.proofs.FieldLemmas.{followed_none, followed_by_none, followed_by}
use Rattle.iom_hardware_script.specs.Parts.{IsPaceWord}
use Rattle.iom_hardware_script.proofs.SetupLemmas.{size_alone, size_paced, no_size}
use Rattle.iom_hardware_script.proofs.first_line.size_and_pace.Goals as goal

pub returns-in-Some : goal.returns-in-Some
returns-in-Some c = size_alone c.args.words.now c.in-Some.size c.in-Some.ensures

pub returns-in_err-size : goal.returns-in_err-size
returns-in_err-size c =
    rw c.from_residual.ensures (no_size c.args.words.now c.in_default.ensures (followed_none IsNumber IsPaceWord c.args.words.now c.in_err-size.ensures))

pub returns-in_err-pace : goal.returns-in_err-pace
returns-in_err-pace c =
    rw c.from_residual-in_err-pace.ensures (no_size c.args.words.now c.in_default.ensures
    (followed_by_none IsNumber IsPaceWord c.args.words.now c.in_ok-size.rest.now c.in_ok-size.size c.in_ok-size.ensures c.in_err-pace.ensures))

pub returns : goal.returns
returns c =
    size_paced c.args.words.now c.in_ok-size.size c.in_ok-pace.pace
    (followed_by IsNumber IsPaceWord c.args.words.now c.in_ok-size.rest.now c.in_ok-size.size c.in_ok-pace.pace c.in_ok-size.ensures c.in_ok-pace.ensures)
