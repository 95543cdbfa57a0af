use Rattle.std.proofs.Common.{◌∙◌, ap}
use Rattle.iom_command_queue.specs.Formats.{first_of, second_of}
use Rattle.iom_command_queue.specs.Legal.{decoded}
use Rattle.iom_command_queue.proofs.Exact.{answers, refuses}
use Rattle.iom_command_queue.proofs.command.Command.decode.Goals as goal

pub returns-clause-command : goal.returns-clause-command
returns-clause-command c =
    answers (first_of c.args.bytes.now) (second_of c.args.bytes.now) c.decode_words.result
    (c.decode_words.ensures ∙ ap (λ f. decoded f c.second_of.result) c.first_of.ensures ∙ ap (λ s. decoded (first_of c.args.bytes.now) s) c.second_of.ensures)

pub returns-clause-illegal : goal.returns-clause-illegal
returns-clause-illegal c =
    refuses (first_of c.args.bytes.now) (second_of c.args.bytes.now) c.decode_words.result
    (c.decode_words.ensures ∙ ap (λ f. decoded f c.second_of.result) c.first_of.ensures ∙ ap (λ s. decoded (first_of c.args.bytes.now) s) c.second_of.ensures)
