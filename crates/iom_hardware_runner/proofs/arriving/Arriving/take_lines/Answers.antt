use Rattle.std.proofs.Common.{◌≡◌, ◌∙◌, ◌+◌, ℕ, List, [], ◌∷◌, ◌++◌, OnOk, length, arith, sym, ap, subst}
use Rattle.std.proofs.lemmas.List.{append_assoc, length-append}
use Rattle.iom_script.proofs.CutLemmas.{uncut}
use Rattle.iom_script.proofs.ScriptLemmas.{less_is_left}
use Rattle.iom_hardware_runner.proofs.BadLineLemmas.{line_breaks, names_another, names_nothing, passes_on, piece_refused}
use Rattle.iom_hardware_runner.proofs.TextLemmas.{cut_parts, goes_further, grouped, kept_ok}
use Rattle.iom_hardware_runner.specs.Parts.{HasTakenBytes, IsBadLine, IsRoomFor, Breaks, IsBadRest}
use Rattle.iom_hardware_runner.specs.Runs.{NamesLine}
use Rattle.iom_hardware_runner.specs.declared.conversation.Conversation.{Conversation}
use Rattle.iom_hardware_runner.proofs.arriving.Arriving.take_lines.Goals as goal

-- there is room for a line of these bytes
room_for_line : (most : ℕ) (bytes front rest line after : List ℕ) → IsRoomFor most bytes → bytes ≡ front ++ rest → rest ≡ line ++ 10 ∷ after → IsRoomFor most line
room_for_line most bytes front rest line after room is cut =
    (room.0, omega (arith, room.1, ap length is, length-append front rest, ap length cut, length-append line (10 ∷ after)))

pub loop-line-smaller : goal.loop-line-smaller
loop-line-smaller g c = less_is_left c.loop-line.rest.now c.in-Some.line.now c.in-Some.after.now c.in-Some.ensures

pub loop-line-preserved : goal.loop-line-preserved
loop-line-preserved g c =
    let (front, is, so, clear) = c.loop-line.invariant in
    let rest = c.loop-line.rest.now in
    let line = c.in-Some.line.now in
    let new = c.end_line.new.self in
    let cut = cut_parts rest line c.in-Some.after.now c.in-Some.ensures in (
      front ++ line ++ 10 ∷ [],
      goes_further c.args.bytes.now front rest line c.in-Some.after.now is cut,
      λ most before room arrived. subst (λ (bytes : List ℕ). HasTakenBytes most bytes new.piece.items new.conversation.lines new.conversation.machine) (grouped before front line (10 ∷ []))
          (c.in_ok-end_line.ensures.taken most (before ++ front) (room_for_line most c.args.bytes.now front rest line c.in-Some.after.now room is cut.1) cut.0 (so most before room arrived)),
      λ none. c.in_ok-end_line.ensures.empty,
    )

pub returns-in_err-end_line-clause-named : goal.returns-in_err-end_line-clause-named
returns-in_err-end_line-clause-named g c = λ most before room arrived.
    let (front, is, so, clear) = c.loop-line.invariant in
    let bytes = c.args.bytes.now in
    let rest = c.loop-line.rest.now in
    let line = c.in-Some.line.now in
    let after = c.in-Some.after.now in
    let old = c.loop-line.self in
    let starts = c.args.self.now.piece.items ≡ [] in
    let cut = cut_parts rest line after c.in-Some.ensures in
    let same : before ++ bytes ≡ (before ++ front) ++ (line ++ 10 ∷ after) =
    ap (λ (l : List ℕ). before ++ l) (is ∙ ap (λ (l : List ℕ). front ++ l) cut.1) ∙ sym (append_assoc before front (line ++ 10 ∷ after)) in
    passes_on c.from_residual.result (NamesLine (Breaks (IsBadRest starts) most (before ++ bytes))) _ c.from_residual.ensures.1
    (names_another (λ number. (number ≡ old.conversation.lines + 1) × IsBadLine old.conversation.machine old.piece.items line) (Breaks (IsBadRest starts) most (before ++ bytes)) _
    (λ number bad. line_breaks most (before ++ bytes) (before ++ front) old.piece.items line after old.conversation.lines number old.conversation.machine starts clear same cut.0
    (so most before room arrived) bad.0 bad.1) c.in_err-end_line.ensures.named)

pub returns-in_err-write_much-clause-named : goal.returns-in_err-write_much-clause-named
returns-in_err-write_much-clause-named g c = λ most before room arrived.
    let bad = Breaks (IsBadRest (c.args.self.now.piece.items ≡ [])) most (before ++ c.args.bytes.now) in
    passes_on c.from_residual-in_err-write_much.result (NamesLine bad) _ c.from_residual-in_err-write_much.ensures.1 (names_nothing bad _ c.in_err-write_much.ensures.named)

pub returns-clause-named : goal.returns-clause-named
returns-clause-named g c = λ most before room arrived.
    let (front, is, so, clear) = c.loop-line.invariant in
    let rest = c.loop-line.rest.now in
    let old = c.loop-line.self in
    let same : before ++ c.args.bytes.now ≡ (before ++ front) ++ rest = ap (λ (l : List ℕ). before ++ l) is ∙ sym (append_assoc before front rest) in
    piece_refused most (before ++ c.args.bytes.now) (before ++ front) old.piece.items rest old.conversation.lines old.conversation.machine (c.args.self.now.piece.items ≡ []) c.keep.result same
    (uncut 10 rest c.in_default.ensures) (so most before room arrived) c.keep.ensures.named

pub returns-clause-taken : goal.returns-clause-taken
returns-clause-taken g c = λ most before room arrived.
    let (front, is, so, clear) = c.loop-line.invariant in
    let rest = c.loop-line.rest.now in
    let old = c.loop-line.self in
    let new = c.keep.new.self in
    let same : before ++ c.args.bytes.now ≡ (before ++ front) ++ rest = ap (λ (l : List ℕ). before ++ l) is ∙ sym (append_assoc before front rest) in
    subst (λ (bytes : List ℕ). OnOk c.keep.result (HasTakenBytes most bytes new.piece.items new.conversation.lines new.conversation.machine)) (sym same)
    (subst (λ (v : Conversation). OnOk c.keep.result (HasTakenBytes most ((before ++ front) ++ rest) new.piece.items v.lines v.machine)) (sym c.keep.ensures.rest)
    (kept_ok most (before ++ front) old.piece.items rest new.piece.items old.conversation.lines old.conversation.machine c.keep.result (uncut 10 rest c.in_default.ensures) (so most before room arrived) c.keep.ensures.kept))
