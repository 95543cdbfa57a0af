-- The loop hangs the missing pages, and the context is written in the last of the path's pages.
use Rattle.std.proofs.Common.{◌-◌, ◌∙◌, ◌^◌, ◌<◌, slice_index, sym, arith}
use Rattle.iom_directory_build.specs.Pages.{root_level}
use Rattle.iom_directory_build.proofs.Hanging.{hung_start, page_inside, next_zero, goes_past, hangs_next, puts_all}
use Rattle.iom_directory_build.proofs.write.put_context.Goals as goal

pub loop-level-init : goal.loop-level-init
loop-level-init g c =
    let small = c.ranges.root.fits in
    let levels = c.requires.levels in
    rw c.from-page.ensures
    (record {
      range = omega (arith, small);
      low = omega (arith, levels);
      hung = hung_start (g.B.Bytes.frames_of c.args.memory.now) (root_level c.args.levels) c.args.root c.args.id c.args.pages.now c.args.context c.requires.directory c.requires.count c.requires.fresh;
    })

pub loop-level-preserved-in-Some : goal.loop-level-preserved-in-Some
loop-level-preserved-in-Some g c =
    let lt = c.loop-level-test.true in
    record {
      range = c.in-Some.ensures.range;
      low = omega (arith, lt);
      hung = goes_past (g.B.Bytes.frames_of c.args.memory.now) (g.B.Bytes.frames_of c.loop-level.memory) (root_level c.args.levels) c.args.root c.args.id c.args.pages.now c.args.context c.loop-level.level c.loop-level.page c.loop-level.used c.in-Some.next
          lt c.loop-level.invariant.hung (sym c.next_page.ensures.value ∙ c.in-Some.is);
    }

pub put_entry-requires-clause-page : goal.put_entry-requires-clause-page
put_entry-requires-clause-page g c =
    page_inside (g.B.Bytes.frames_of c.args.memory.now) (g.B.Bytes.frames_of c.loop-level.memory) (root_level c.args.levels) c.args.root c.args.id c.args.pages.now c.args.context (c.loop-level.level - 1) c.loop-level.page c.loop-level.used
    c.requires.id c.loop-level.invariant.hung

pub put_entry-requires-clause-zero : goal.put_entry-requires-clause-zero
put_entry-requires-clause-zero g c =
    next_zero (g.B.Bytes.frames_of c.args.memory.now) (g.B.Bytes.frames_of c.loop-level.memory) (root_level c.args.levels) c.args.root c.args.id c.args.pages.now c.args.context c.loop-level.level c.loop-level.page c.loop-level.used
    c.loop-level-test.true c.loop-level.invariant.hung (sym c.next_page.ensures.value ∙ c.in-None.is)

pub loop-level-preserved : goal.loop-level-preserved
loop-level-preserved g c =
    let lt = c.loop-level-test.true in
    let small = c.type_inv.pages c.loop-level.used in
    let levels = c.requires.levels in
    let fits : slice_index c.args.pages.now c.loop-level.used < 2 ^ 44 = omega (arith, small) in
    rw c.from-page-in-None.ensures
    (record {
      range = fits;
      low = omega (arith, lt);
      hung = hangs_next (g.B.Bytes.frames_of c.args.memory.now) (g.B.Bytes.frames_of c.loop-level.memory) (g.B.Bytes.frames_of c.put_entry.new.memory) (root_level c.args.levels) c.args.root c.args.id c.args.pages.now c.args.context c.loop-level.level c.loop-level.page c.loop-level.used
          lt (omega (arith, levels)) c.requires.id c.requires.fresh.distinct fits c.loop-level.invariant.hung (sym c.next_page.ensures.value ∙ c.in-None.is) c.put_entry.ensures.stores c.put_entry.ensures.whole;
    })

pub write_context-requires-clause-page : goal.write_context-requires-clause-page
write_context-requires-clause-page g c =
    page_inside (g.B.Bytes.frames_of c.args.memory.now) (g.B.Bytes.frames_of c.loop-level.memory) (root_level c.args.levels) c.args.root c.args.id c.args.pages.now c.args.context (c.loop-level.level - 1) c.loop-level.page c.loop-level.used
    c.requires.id c.loop-level.invariant.hung

pub returns : goal.returns
returns g c =
    let p = puts_all (g.B.Bytes.frames_of c.args.memory.now) (g.B.Bytes.frames_of c.loop-level.memory) (g.B.Bytes.frames_of c.write_context.new.memory) (root_level c.args.levels) c.args.root c.args.id c.args.pages.now c.args.context c.loop-level.level c.loop-level.page c.loop-level.used
    c.loop-level-test.false c.requires.id c.loop-level.invariant.hung c.write_context.ensures.writes c.write_context.ensures.whole in
    record { directory = p.directory; pages = p.pages_are; here = p.here; others = p.others; outside = p.outside; size = p.size; path = p.path; paths = p.paths; keeps = p.keeps; whole = p.whole }
