use Rattle.std.proofs.Common.{◌≡◌, ◌++◌, ◌∷◌, ◌<◌, arith, length, length-append, refl, sym, subst, ℕ, List}
use Rattle.std.specs.Prelude.{codes}
use Rattle.iom_script.specs.Cuts.{BeginsWithWord}
use Rattle.iom_script.specs.Words.{IsNumber}
use Rattle.iom_trace_lines.specs.TraceLines.{frames_text}
use Rattle.iom_trace_lines.proofs.TraceLemmas.{frame_more}
use Rattle.iom_trace_lines.proofs.words.read_frames.Goals as goal

-- what stands behind a number and a space is shorter
shorter : (text more : List ℕ) (frame : ℕ) → BeginsWithWord IsNumber text frame more → length more < length text
shorter text more frame (word, says, is) = rw (is, length-append word (32 ∷ more)) (omega arith)

pub loop-frame-smaller : goal.loop-frame-smaller
loop-frame-smaller c =
    let frame = c.in-Some-number_and.frame in
    let more = c.in-Some-number_and.more.now in
    shorter c.loop-frame.rest.now more frame ((c.in-Some-number_and.ensures (frame, more)).0 refl)

pub loop-frame-preserved : goal.loop-frame-preserved
loop-frame-preserved c =
    let rest = c.loop-frame.rest.now in
    let frame = c.in-Some-number_and.frame in
    let more = c.in-Some-number_and.more.now in
    let begins = (c.in-Some-number_and.ensures (frame, more)).0 refl in
    subst (λ (items : List ℕ). c.args.text.now ≡ frames_text items ++ (codes " " ++ more)) (sym c.in_ok-push.ensures.items)
    (frame_more c.args.text.now (codes " " ++ rest) rest begins.0 (codes " " ++ more) c.loop-frame.frames.items frame
    c.loop-frame.invariant refl begins.2 begins.1)
