use Rattle.std.proofs.Common.{◌≡◌, ◌++◌, ℕ, List, refl}
use Rattle.std.specs.Prelude.{codes}
use Rattle.iom_script.specs.Cuts.{BeginsWithWord}
use Rattle.iom_script.specs.Words.{IsNumber}
use Rattle.iom_script.proofs.ReadsLemmas.{read_holds}
use Rattle.iom_trace_lines.proofs.TraceLemmas.{large_world}
use Rattle.iom_trace_lines.proofs.sizes.large_world_of.Goals as goal

pub returns-then-is_large : goal.returns-then-is_large
returns-then-is_large c =
    large_world c.args.line.now c.in_ok-arguments.arguments.now c.in_ok-frames.rest.now (record { frames = c.in_ok-frames.frames; levels = c.in_ok-levels.levels })
    (read_holds (λ rest. c.args.line.now ≡ codes "world " ++ rest) c.in_ok-arguments.arguments.now c.in_ok-arguments.ensures)
    ((c.in_ok-frames.ensures (c.in_ok-frames.frames, c.in_ok-frames.rest.now)).0 refl)
    (read_holds (λ (number : ℕ). IsNumber c.in_ok-frames.rest.now number) c.in_ok-levels.levels c.in_ok-levels.ensures)
    (c.is_large.ensures c.if-is_large.true)
