-- A lawful command line is run, from the input or from a file.
use Rattle.std.proofs.Common.{◌∙◌, [], Ok, Err, ap, map}
use Rattle.std.proofs.KnownBytes.{Keeps-refl}
use Rattle.std.proofs.lemmas.Result.{err_from_is_err_and}
use Rattle.iom_command_line.specs.CommandLine.{wants_trace}
use Rattle.iom_runner.specs.Disks.{program_setting}
use Rattle.iom_runner.proofs.TextLemmas.{input_of, input_is_left, program_as, program_ran, program_failed, words_unread}
use Rattle.iom_runner.proofs.program.run_words.Goals as goal

pub returns-in_err-args-clause-ran : goal.returns-in_err-args-clause-ran
returns-in_err-args-clause-ran g c = λ lawful.
    let known = g.R.Read.remaining c.args.input.now in
    let reply = err_from_is_err_and c.from_residual.result c.from_residual.ensures.1 in (
      input_of known [],
      (λ none. input_is_left known []),
      words_unread (program_setting (wants_trace (map (λ word. word.now) c.args.words.now))) (input_of known []) c.from_residual.result c.in_err-args.field-0.0 _ (reply.1 ∙ ap (λ f. Err f) reply.2)
          (λ bad. c.read_words.ensures.lawful lawful (c.in_err-args.was ∙ ap (λ f. Err f) bad)),
    )

pub returns-in-Err-clause-ran : goal.returns-in-Err-clause-ran
returns-in-Err-clause-ran g c = λ lawful.
    let known = g.R.Read.remaining c.args.input.now in
    (input_of known [], (λ none. input_is_left known []), Keeps-refl _)

pub returns-in_err-run_with_disks-in-None-clause-ran : goal.returns-in_err-run_with_disks-in-None-clause-ran
returns-in_err-run_with_disks-in-None-clause-ran g c = λ lawful.
    let reply = err_from_is_err_and c.from_residual-in_err-run_with_disks-in-None.result c.from_residual-in_err-run_with_disks-in-None.ensures.1 in
    let ran = c.run_with_disks.ensures.ran in
    let args = c.in_ok-args.args in (
      ran.0,
      (λ none. ran.1),
      program_as args.trace (wants_trace (map (λ word. word.now) c.args.words.now)) ran.0 _ _ _ c.in_ok-args.ensures.trace
          (program_failed (program_setting args.trace) ran.0 c.run_with_disks.result c.from_residual-in_err-run_with_disks-in-None.result c.in_err-run_with_disks-in-None.field-0.0 _ _
          c.in_err-run_with_disks-in-None.was (reply.1 ∙ ap (λ f. Err f) reply.2) ran.2),
    )

pub returns-in_ok-run_with_disks-in-None-clause-ran : goal.returns-in_ok-run_with_disks-in-None-clause-ran
returns-in_ok-run_with_disks-in-None-clause-ran g c = λ lawful.
    let ran = c.run_with_disks.ensures.ran in
    let args = c.in_ok-args.args in (
      ran.0,
      (λ none. ran.1),
      program_as args.trace (wants_trace (map (λ word. word.now) c.args.words.now)) ran.0 (Ok tt) (g.W.Write.contents c.args.output.now) (g.W.Write.contents c.run_with_disks.new.writer) c.in_ok-args.ensures.trace
          (program_ran (program_setting args.trace) ran.0 c.run_with_disks.result _ _ _ c.in_ok-run_with_disks-in-None.was ran.2),
    )
