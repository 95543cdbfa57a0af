-- A script is read and told, or isn't read.
use Rattle.std.proofs.Common.{◌∙◌, [], ap, lit<, Err, subst, sym}
use Rattle.std.proofs.lemmas.Option.{IfSome_then}
use Rattle.std.proofs.lemmas.Result.{err_from_is_err_and}
use Rattle.iom_runner.specs.Disks.{setting_of}
use Rattle.iom_runner.specs.Reading.{IsReadFault}
use Rattle.iom_runner.proofs.TextLemmas.{input_of, input_is_left, whole_script, unread, unparsed, runs_script}
use Rattle.iom_runner.proofs.runner.run.Goals as goal

pub returns-in_err-bytes-clause-ran : goal.returns-in_err-bytes-clause-ran
returns-in_err-bytes-clause-ran g c =
    let known = g.R.Read.remaining c.args.reader.now in
    let fault = err_from_is_err_and c.from_residual.result c.from_residual.ensures.1 in
    (input_of known [], input_is_left known [], unread (setting_of g.D.Disk.shown c.args.disks.items c.args.trace) (input_of known []) _ c.from_residual.result fault.0 fault.1 (subst IsReadFault (sym fault.2) c.in_err-bytes.ensures.fault))

pub returns-in_err-script-clause-ran : goal.returns-in_err-script-clause-ran
returns-in_err-script-clause-ran g c =
    let known = g.R.Read.remaining c.args.reader.now in
    let bytes = c.deref.result.now in
    let read = IfSome_then known c.in_ok-bytes.ensures.bytes (λ input is. c.deref.ensures.value ∙ is) in
    let fault = err_from_is_err_and c.from_residual-in_err-script.result c.from_residual-in_err-script.ensures.1 in
    (input_of known bytes, input_is_left known bytes, unparsed (setting_of g.D.Disk.shown c.args.disks.items c.args.trace) known bytes 1048577 _ c.from_residual-in_err-script.result c.in_err-script.field-0.0 (lit< tt) read c.in_err-script.ensures.fault (fault.1 ∙ ap (λ f. Err f) fault.2))

pub returns-clause-ran : goal.returns-clause-ran
returns-clause-ran g c =
    let known = g.R.Read.remaining c.args.reader.now in
    let bytes = c.deref.result.now in
    let script = c.in_ok-script.script in
    let read = IfSome_then known c.in_ok-bytes.ensures.bytes (λ input is. c.deref.ensures.value ∙ is) in
    let is = whole_script known bytes 1048577 script (lit< tt) read c.in_ok-script.ensures.script in
    (input_of known bytes, input_is_left known bytes, runs_script (setting_of g.D.Disk.shown c.args.disks.items c.args.trace) (input_of known bytes) script c.tell.result _ _ is c.tell.ensures)
