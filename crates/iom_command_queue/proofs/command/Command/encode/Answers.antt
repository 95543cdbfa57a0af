use Rattle.std.proofs.Common.{◌≡◌, sym, subst, rules}
use Rattle.iom_command_queue.specs.Formats.{AreWordsOf, first_of, second_of}
use Rattle.iom_command_queue.specs.Encoded.{encoded, UnusedAreZero}
use Rattle.iom_command_queue.proofs.Fits.{Fits}
use Rattle.iom_command_queue.proofs.Encodes.{means, unused_means}
use Rattle.iom_command_queue.proofs.command.Command.encode.Goals as goal

pub returns-clause-command : goal.returns-clause-command
returns-clause-command c =
    let fits : Fits c.args.self = search rules in
    let written : c.bytes_of.result ≡ encoded c.args.self = search rules in
    subst (λ bytes. AreWordsOf c.args.self (first_of bytes) (second_of bytes)) (sym written) (means c.args.self fits)

pub returns-clause-unused : goal.returns-clause-unused
returns-clause-unused c =
    let fits : Fits c.args.self = search rules in
    let written : c.bytes_of.result ≡ encoded c.args.self = search rules in
    subst (λ bytes. UnusedAreZero c.args.self (first_of bytes) (second_of bytes)) (sym written) (unused_means c.args.self fits)
