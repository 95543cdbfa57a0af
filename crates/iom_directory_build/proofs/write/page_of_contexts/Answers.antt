-- The path is followed from level to level, or ends where an entry names no page.
use Rattle.std.proofs.Common.{◌∙◌, sym, arith}
use Rattle.iom_directory_build.specs.Pages.{root_level}
use Rattle.iom_directory_build.proofs.Hanging.{page_past, no_page_past}
use Rattle.iom_directory_build.proofs.write.page_of_contexts.Goals as goal

pub returns-in_err-page-clause-page : goal.returns-in_err-page-clause-page
returns-in_err-page-clause-page g c =
    let le = c.loop-level.auto.level in
    c.from_residual.ensures
    ∙ sym (no_page_past (g.B.Bytes.frames_of c.args.memory.now) (root_level c.args.levels) c.args.root c.args.id c.loop-level.level c.loop-level.page c.loop-level-test.true (omega (arith, le))
    c.loop-level.invariant.at (sym c.next_page.ensures.value ∙ c.in_err-page.was))

pub loop-level-preserved : goal.loop-level-preserved
loop-level-preserved g c =
    let le = c.loop-level.auto.level in
    let lt = c.loop-level-test.true in
    record {
      range = c.in_ok-page.ensures.range;
      low = omega (arith, lt);
      at = page_past (g.B.Bytes.frames_of c.args.memory.now) (root_level c.args.levels) c.args.root c.args.id c.loop-level.level c.loop-level.page c.in_ok-page.page lt (omega (arith, le))
          c.loop-level.invariant.at (sym c.next_page.ensures.value ∙ c.in_ok-page.was);
    }
