use Rattle.std.proofs.Common.{◌≡◌, ◌∙◌, ◌+◌, ◌<◌, ◌≤◌, ℕ, List, [], ◌∷◌, ◌++◌, OnOk, length, arith, ap, sym, subst}
use Rattle.std.proofs.lemmas.Bool.Decides.{nat_tests}
use Rattle.std.proofs.lemmas.List.{length-append}
use Rattle.iom_hardware_runner.proofs.RunLemmas.{on_ok}
use Rattle.iom_hardware_runner.proofs.TextLemmas.{nothing_in, line_ends, line_ends_ok}
use Rattle.iom_hardware_runner.proofs.BadLineLemmas.{whole_refused, refused, too_long, passes_on}
use Rattle.iom_hardware_runner.specs.Parts.{TookTexts, HasTakenBytes, IsBadLine, NamesNext}
use Rattle.iom_hardware_runner.specs.declared.conversation.Conversation.{Conversation}
use Rattle.iom_script.specs.Grammar.{spoken}
use Rattle.iom_hardware_runner.proofs.arriving.Arriving.end_line.Goals as goal

pub returns-then-is_empty-clause-taken : goal.returns-then-is_empty-clause-taken
returns-then-is_empty-clause-taken c = λ most bytes room none arrived.
    let old = c.args.self.now.conversation in
    let new = c.take_line.new.self in
    let short : length c.args.self.now.piece.items ≡ 0 = let e = c.if-is_empty.ensures in grind (arith, nat_tests, e) in
    let nothing = nothing_in c.args.self.now.piece.items short in
    let fits : length (let l : List ℕ = [] in l) + length c.args.part.now ≤ most = omega (arith, room.1) in
    subst (λ (p : List ℕ). OnOk c.take_line.result (HasTakenBytes most (bytes ++ c.args.part.now ++ 10 ∷ []) p new.lines new.machine)) (sym nothing)
    (line_ends_ok most bytes [] c.args.part.now old.lines new.lines old.machine new.machine c.take_line.result none fits c.take_line.ensures.counted
    (subst (λ (p : List ℕ). HasTakenBytes most bytes p old.lines old.machine) nothing arrived) c.take_line.ensures.taken)

pub returns-then-is_empty-clause-empty : goal.returns-then-is_empty-clause-empty
returns-then-is_empty-clause-empty c =
    let short : length c.args.self.now.piece.items ≡ 0 = let e = c.if-is_empty.ensures in grind (arith, nat_tests, e) in
    on_ok c.take_line.result (nothing_in c.args.self.now.piece.items short)

pub returns-then-is_empty-clause-named : goal.returns-then-is_empty-clause-named
returns-then-is_empty-clause-named c =
    let old = c.args.self.now.conversation in
    let short : length c.args.self.now.piece.items ≡ 0 = let e = c.if-is_empty.ensures in grind (arith, nat_tests, e) in
    whole_refused c.take_line.result old.lines old.machine c.args.self.now.piece.items c.args.part.now (nothing_in c.args.self.now.piece.items short) c.take_line.ensures.named

pub returns-in_err-keep-clause-named : goal.returns-in_err-keep-clause-named
returns-in_err-keep-clause-named c =
    let old = c.args.self.now.conversation in
    let piece = c.args.self.now.piece.items in
    let some : 0 < length piece = let e = c.if-is_empty.ensures in grind (arith, nat_tests, e) in
    passes_on c.from_residual.result (NamesNext old.lines (IsBadLine old.machine piece c.args.part.now)) _ c.from_residual.ensures.1
    (too_long _ old.lines old.machine piece c.args.part.now some c.in_err-keep.ensures.named)

pub returns-in_err-take_line-clause-named : goal.returns-in_err-take_line-clause-named
returns-in_err-take_line-clause-named c =
    let old = c.args.self.now.conversation in
    let piece = c.args.self.now.piece.items in
    passes_on c.from_residual-in_err-take_line.result (NamesNext old.lines (IsBadLine old.machine piece c.args.part.now)) _ c.from_residual-in_err-take_line.ensures.1
    (refused _ old c.keep.new.self.conversation piece c.args.part.now c.deref.result.now c.in_ok-keep.ensures.rest (c.deref.ensures.value ∙ c.in_ok-keep.ensures.kept) c.in_err-take_line.ensures.named)

pub returns-clause-taken : goal.returns-clause-taken
returns-clause-taken c = λ most bytes room none arrived.
    let old = c.args.self.now.conversation in
    let new = c.take_line-2.new.self in
    let piece = c.args.self.now.piece.items in
    let part = c.args.part.now in
    let same : c.deref.result.now ≡ piece ++ part = c.deref.ensures.value ∙ c.in_ok-keep.ensures.kept in
    let fits : length piece + length part ≤ most = omega (arith, room.0, c.in_ok-keep.ensures.short, ap length c.in_ok-keep.ensures.kept, length-append piece part) in
    let counted : new.lines ≡ old.lines + 1 = c.in_ok-take_line.ensures.counted ∙ ap (λ (v : Conversation). v.lines + 1) c.in_ok-keep.ensures.rest in
    subst (λ (p : List ℕ). HasTakenBytes most (bytes ++ part ++ 10 ∷ []) p new.lines new.machine) (sym c.clear.ensures.items)
    (line_ends most bytes piece part old.lines new.lines old.machine new.machine none fits counted arrived
    (λ texts took. subst (λ (t : List ℕ). TookTexts (spoken (texts ++ t ∷ [])) new.machine) same
    (c.in_ok-take_line.ensures.taken texts (subst (λ (v : Conversation). TookTexts (spoken texts) v.machine) (sym c.in_ok-keep.ensures.rest) took))))
