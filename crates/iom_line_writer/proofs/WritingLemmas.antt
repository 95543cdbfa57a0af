-- What is written, a part after another.
use Rattle.std.proofs.Common.{◌≡◌, ◌-◌, ◌<◌, ◌++◌, ◌∙◌, ℕ, List, [], ◌∷◌, length, take, drop, Option, None, Some, Result, Ok, Err, OnErr, refl, sym, ap, subst, append_assoc, append-nil, arith, length-drop, take-append-drop}
use Rattle.std.proofs.lemmas.List.{take_all}
use Rattle.std.specs.Io.KnownBytes.{Appends, Keeps}
use Rattle.std.proofs.KnownBytes.{Appends-nil, Appends-trans, Appends-kept}
use Rattle.iom_base.specs.declared.refusal.Refusal.{Refusal}
use Rattle.iom_machine.specs.declared.outcome.Outcome.{Outcome}
use Rattle.iom_machine.specs.declared.outcome.Trace.{Trace}
use Rattle.iom_script.specs.Lines.{line_of, settled_line, trace_line}
use Rattle.iom_line_writer.specs.declared.writing.LineWriter.{LineWriter}
use Rattle.iom_line_writer.specs.AnswerLines.{settled_lines}
use Rattle.iom_line_writer.specs.Writing.{AppendsFront, AppendsPart, TakesText, FailsAt, FailsWriting}

-- nothing is written of a text
pub front-none : (known : Option (List ℕ)) (text : List ℕ) → AppendsFront known known text
front-none known text = ([], text, refl, Appends-nil known)

-- all of a text is a beginning of it
pub front-all : (old new : Option (List ℕ)) (text : List ℕ) → Appends old new text → AppendsFront old new text
front-all old new text all = (text, [], sym (append-nil text), all)

-- a beginning of a text is one of a longer text
pub front-longer : (old new : Option (List ℕ)) (text more : List ℕ) → AppendsFront old new text → AppendsFront old new (text ++ more)
front-longer old new text more (front, rest, is, wrote) =
    (front, rest ++ more, ap (λ l. l ++ more) is ∙ append_assoc front rest more, wrote)

-- a part is a beginning
pub part-front : (old new : Option (List ℕ)) (text : List ℕ) → AppendsPart old new text → AppendsFront old new text
part-front old new text (front, next, rest, is, wrote) = (front, next ∷ rest, is, wrote)

-- nothing is written of a text that has a byte
pub part-none : (known : Option (List ℕ)) (next : ℕ) (rest : List ℕ) → AppendsPart known known (next ∷ rest)
part-none known next rest = ([], next, rest, refl, Appends-nil known)

-- a part of a text is one of a longer text
pub part-longer : (old new : Option (List ℕ)) (text more : List ℕ) → AppendsPart old new text → AppendsPart old new (text ++ more)
part-longer old new text more (front, next, rest, is, wrote) =
    (front, next, rest ++ more, ap (λ l. l ++ more) is ∙ append_assoc front (next ∷ rest) more, wrote)

-- some is written, and then a part of the rest
pub part-after : (old mid new : Option (List ℕ)) (written text : List ℕ) → Appends old mid written → AppendsPart mid new text → AppendsPart old new (written ++ text)
part-after old mid new written text first (front, next, rest, is, wrote) = (
  written ++ front,
  next,
  rest,
  ap (λ l. written ++ l) is ∙ sym (append_assoc written front (next ∷ rest)),
  Appends-trans old mid new written front first wrote,
)

-- a sink takes a text, and then another
pub takes-more : {W : Type 0} (contents : W → Option (List ℕ)) (old mid new : LineWriter W) (text more : List ℕ)
    → TakesText contents old text mid → TakesText contents mid more new → TakesText contents old (text ++ more) new
takes-more contents old mid new text more (same, written, wrote, is) (same_later, written_later, wrote_later, is_later) = (
  (same_later.0 ∙ same.0, same_later.1 ∙ same.1),
  written ++ written_later,
  Appends-trans _ _ _ written written_later wrote wrote_later,
  sym (append_assoc old.buffer text more) ∙ ap (λ l. l ++ more) is ∙ append_assoc written mid.buffer more ∙ ap (λ l. written ++ l) is_later
      ∙ sym (append_assoc written written_later new.buffer),
)

-- a sink fails at a text, and so at a longer one
pub fails-longer : {W : Type 0} (contents : W → Option (List ℕ)) (old new : LineWriter W) (text more : List ℕ) → FailsAt contents old text new → FailsAt contents old (text ++ more) new
fails-longer contents old new text more (same, part) =
    (same, subst (AppendsPart (contents old.writer.now) (contents new.writer.now)) (append_assoc old.buffer text more) (part-longer _ _ (old.buffer ++ text) more part))

-- a sink fails at the line of an outcome, and so at that with its counts
pub fails-line : {W : Type 0} (contents : W → Option (List ℕ)) (old new : LineWriter W) (outcome : Outcome) (trace : Option Trace) → FailsAt contents old (line_of outcome) new
    → FailsWriting contents old outcome trace new
fails-line contents old new outcome None failed = failed
fails-line contents old new outcome (Some trace) failed = fails-longer contents old new (line_of outcome) (trace_line trace) failed

-- the same of the line of what settling answers
pub fails-answer : {W : Type 0} (contents : W → Option (List ℕ)) (old new : LineWriter W) (answer : Result ℕ Refusal) (trace : Option Trace)
    → FailsAt contents old (settled_line answer) new → FailsAt contents old (settled_lines answer trace) new
fails-answer contents old new answer None failed = failed
fails-answer contents old new answer (Some trace) failed = fails-longer contents old new (settled_line answer) (trace_line trace) failed

-- a sink takes a text, and fails at another
pub fails-later : {W : Type 0} (contents : W → Option (List ℕ)) (old mid new : LineWriter W) (text more : List ℕ) → TakesText contents old text mid → FailsAt contents mid more new
    → FailsAt contents old (text ++ more) new
fails-later contents old mid new text more (same, written, wrote, is) (same_later, part) = (
  (same_later.0 ∙ same.0, same_later.1 ∙ same.1),
  subst (AppendsPart (contents old.writer.now) (contents new.writer.now))
      (sym (append_assoc written mid.buffer more) ∙ ap (λ l. l ++ more) (sym is) ∙ append_assoc old.buffer text more)
      (part-after _ _ _ written (mid.buffer ++ more) wrote part),
)

-- a sink that had nothing took a text, and then all of the buffer is written
pub all_written : {W : Type 0} (contents : W → Option (List ℕ)) (old mid : LineWriter W) (new : Option (List ℕ)) (text : List ℕ)
    → old.buffer ≡ [] → TakesText contents old text mid → Appends (contents mid.writer.now) new mid.buffer → Appends (contents old.writer.now) new text
all_written contents old mid new text empty (same, written, wrote, is) last =
    subst (Appends (contents old.writer.now) new) (sym (sym (ap (λ l. l ++ text) empty) ∙ is)) (Appends-trans _ _ new written mid.buffer wrote last)

-- a sink that had nothing took a text, and then a part of the buffer is written
pub part_written : {W : Type 0} (contents : W → Option (List ℕ)) (old mid : LineWriter W) (new : Option (List ℕ)) (text : List ℕ)
    → old.buffer ≡ [] → TakesText contents old text mid → AppendsPart (contents mid.writer.now) new mid.buffer → AppendsPart (contents old.writer.now) new text
part_written contents old mid new text empty (same, written, wrote, is) last =
    subst (AppendsPart (contents old.writer.now) new) (sym (sym (ap (λ l. l ++ text) empty) ∙ is)) (part-after _ _ new written mid.buffer wrote last)

-- a sink that had nothing failed at a text
pub part_failed : {W : Type 0} (contents : W → Option (List ℕ)) (old new : LineWriter W) (text : List ℕ) → old.buffer ≡ [] → FailsAt contents old text new
    → AppendsPart (contents old.writer.now) (contents new.writer.now) text
part_failed contents old new text empty failed = subst (λ b. AppendsPart (contents old.writer.now) (contents new.writer.now) (b ++ text)) empty failed.1

-- what is so anyway is so at an error
pub at_err : {T E P : Type 0} (result : Result T E) → P → OnErr result P
at_err (Ok x) fact = tt
at_err (Err e) fact = fact

-- and what is so at an error is so where there is one
pub at_fault : {T E P : Type 0} (result : Result T E) (fault : E) → result ≡ Err fault → OnErr result P → P
at_fault (Ok x) fault is fact = cc
at_fault (Err e) fault is fact = fact

-- what is left of the bytes, where the first are written
abbrev pub IsLeft : Option (List ℕ) → Option (List ℕ) → List ℕ → List ℕ → Type 0
IsLeft old mid bytes rest = (written : List ℕ) × Appends old mid written × (bytes ≡ written ++ rest)

-- some of what is left is written
pub left_after : (old mid new : Option (List ℕ)) (bytes rest : List ℕ) (count : ℕ) → IsLeft old mid bytes rest → Appends mid new (take count rest)
    → IsLeft old new bytes (take (length rest - count) (drop count rest))
left_after old mid new bytes rest count (written, wrote, is) more =
    let left : take (length rest - count) (drop count rest) ≡ drop count rest = take_all (length rest - count) (drop count rest) (simp length-drop (omega arith)) in (
      written ++ take count rest,
      Appends-trans old mid new written (take count rest) wrote more,
      is ∙ ap (λ l. written ++ l) (sym (take-append-drop count rest) ∙ ap (λ l. take count rest ++ l) (sym left))
          ∙ sym (append_assoc written (take count rest) (take (length rest - count) (drop count rest))),
    )

-- where something is left, and no more is written, a part is
pub left_is_part : (old mid new : Option (List ℕ)) (bytes rest : List ℕ) → IsLeft old mid bytes rest → 0 < length rest → Keeps mid new → AppendsPart old new bytes
left_is_part old mid new bytes [] left some same = absurd (omega arith)
left_is_part old mid new bytes (next ∷ rest) (written, wrote, is) some same = (written, next, rest, is, Appends-kept old mid new written wrote same)

-- a write of no bytes writes nothing
pub none_written : (old new : Option (List ℕ)) (rest : List ℕ) (count : ℕ) → count ≡ 0 → Appends old new (take count rest) → Keeps old new
none_written None new rest count zero_is more = tt
none_written (Some xs) None rest count zero_is more = absurd more
none_written (Some xs) (Some ys) rest count zero_is more = more ∙ ap (λ n. xs ++ take n rest) zero_is ∙ append-nil xs
