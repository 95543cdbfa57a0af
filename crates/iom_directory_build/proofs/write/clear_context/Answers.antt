-- The id's place is cleared, where its path has a page of contexts; else it finds none already.
use Rattle.std.proofs.Common.{◌∙◌, Err, refl, sym, arith}
use Rattle.iom_base.specs.declared.cause.Cause.TheVariants.{DirectoryEntryNotValid}
use Rattle.iom_directory_build.specs.Pages.{root_level}
use Rattle.iom_directory_build.proofs.Places.{writes}
use Rattle.iom_directory_build.proofs.write.clear_context.Goals as goal

pub erase_context-requires-clause-page : goal.erase_context-requires-clause-page
erase_context-requires-clause-page g c =
    c.requires.directory.inside c.in-Some.page (0, c.args.id, omega arith, c.requires.id, sym c.page_of_contexts.ensures.page ∙ c.in-Some.is)

pub returns-in-Some : goal.returns-in-Some
returns-in-Some g c =
    let w = writes (g.B.Bytes.frames_of c.args.memory.now) (g.B.Bytes.frames_of c.erase_context.new.memory) (root_level c.args.levels) c.args.root c.in-Some.page c.args.id (Err DirectoryEntryNotValid)
    c.requires.directory c.requires.id (sym c.page_of_contexts.ensures.page ∙ c.in-Some.is) c.erase_context.ensures.writes refl in
    record {
      directory = w.directory;
      pages = w.pages;
      here = w.here;
      others = w.others;
      outside = w.outside;
      size = w.size;
      paths = w.paths;
      keeps = w.keeps;
      whole = rw (sym c.page_of_contexts.ensures.page ∙ c.in-Some.is) c.erase_context.ensures.whole;
    }
