use Rattle.std.proofs.Common.{◌≡◌, ◌+◌, ◌<◌, ℕ, List, length, arith, subst}
use Rattle.std.proofs.lemmas.Bool.Decides.{nat_tests}
use Rattle.iom_hardware_runner.proofs.TextLemmas.{nothing_in, whole_runs}
use Rattle.iom_hardware_runner.proofs.BadLineLemmas.{names_another, piece_is_left}
use Rattle.iom_hardware_runner.specs.Parts.{HasTakenBytes, Breaks, IsUnended}
use Rattle.iom_hardware_runner.proofs.arriving.Arriving.end.Goals as goal

pub returns-then-is_empty-clause-ran : goal.returns-then-is_empty-clause-ran
returns-then-is_empty-clause-ran c = λ most bytes arrived.
    let nothing : length c.args.self.now.piece.items ≡ 0 = let e = c.if-is_empty.ensures in grind (arith, nat_tests, e) in
    let conversation = c.args.self.now.conversation in
    whole_runs most bytes conversation.lines conversation.machine c.is_wrong.result c.is_wrong.ensures
    (subst (λ (p : List ℕ). HasTakenBytes most bytes p conversation.lines conversation.machine) (nothing_in c.args.self.now.piece.items nothing) arrived)

pub returns-else-is_empty-clause-named : goal.returns-else-is_empty-clause-named
returns-else-is_empty-clause-named c = λ most bytes arrived.
    let piece = c.args.self.now.piece.items in
    let conversation = c.args.self.now.conversation in
    let some : 0 < length piece = let e = c.if-is_empty.ensures in grind (arith, nat_tests, e) in
    names_another (λ (n : ℕ). n ≡ conversation.lines + 1) (Breaks IsUnended most bytes) c.bad_line.result
    (λ number is. piece_is_left most bytes piece conversation.lines number conversation.machine some arrived is) c.bad_line.ensures
