use Rattle.std.proofs.Common.{◌+◌, ◌∙◌, ◌++◌, ◌∷◌, [], ℕ, List, Option, Some, ap, length-append, subst, sym}
use Rattle.iom_script.specs.Grammar.{spoken}
use Rattle.iom_trace_lines.specs.Taken.{TakesNext}
use Rattle.iom_trace_lines.specs.declared.reading.Lines.{Lines}
use Rattle.iom_trace_lines.specs.declared.trace.NextLine.{NextLine}
use Rattle.iom_trace_lines.specs.declared.trace.NextLine.TheVariants as next_lines
use Rattle.iom_judge.specs.Certified.{Certify}
use Rattle.iom_judge.specs.declared.machine.TraceMachine.{TraceMachine}
use Rattle.iom_judge.proofs.CertificateLemmas.{all_lawful, named_is_so}
use Rattle.iom_judge.proofs.judging.Judge.judge_next.Goals as goal

pub returns-in-End : goal.returns-in-End
returns-in-End g c first (lines, read, taken) =
    all_lawful c.args.self.now lines first taken (rw c.in-End.is at (c.in_ok-next_line.ensures lines first read))

pub returns-in-Broken : goal.returns-in-Broken
returns-in-Broken g c first (lines, read, taken) =
    let before = c.args.self.now.lines in
    named_is_so c.args.self.now _ lines before.buffer.items before.start before.end first (g.R.Read.remaining c.args.reader.now) read taken
    (c.in_ok-take_broken-in-Broken.ensures ∙ ap (λ (n : ℕ). Some (n + 1)) taken.counted)

pub returns-in_ok-verdict-in-Err : goal.returns-in_ok-verdict-in-Err
returns-in_ok-verdict-in-Err g c first (lines, read, taken) =
    let before = c.args.self.now.lines in
    named_is_so c.args.self.now _ lines before.buffer.items before.start before.end first (g.R.Read.remaining c.args.reader.now) read taken
    (c.in_ok-verdict-in-Err.ensures ∙ ap (λ (n : ℕ). Some n) (c.in_ok-number.ensures.number ∙ ap (λ (n : ℕ). n + 1) taken.counted))

pub returns-in-Ok : goal.returns-in-Ok
returns-in-Ok g c first (lines, read, taken) =
    let after = c.next_line.new.self in
    let now = g.R.Read.remaining c.next_line.new.reader in
    let taken_next =
    subst (λ (n : NextLine). TakesNext lines after.buffer.items after.start after.end first now n) c.in-Line.is (c.in_ok-next_line.ensures lines first read) in
    let next = subst
    (λ (l : Lines). TakesNext lines l.buffer.items l.start l.end first now (next_lines.Line c.in-Line.start c.in-Line.end))
    (sym c.count.ensures.lines) taken_next in
    let certified = c.in-Ok.ensures lines (subst (λ (m : Option TraceMachine). Certify m (spoken lines)) (sym c.count.ensures.machine) taken.certified) in (
      _,
      next.2,
      record {
        certified = subst (λ (text : List ℕ). Certify c.take.new.found (spoken (lines ++ text ∷ []))) (c.between.ensures next.0 next.1) certified;
        counted = c.in_ok-number.ensures.counted ∙ ap (λ (n : ℕ). n + 1) taken.counted ∙ sym (length-append lines _);
      },
    )
