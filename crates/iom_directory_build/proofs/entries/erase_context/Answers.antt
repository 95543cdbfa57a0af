-- Four zeros clear a place.
use Rattle.iom_directory_build.proofs.Words.{context_cleared}
use Rattle.iom_directory_build.proofs.entries.erase_context.Goals as goal

pub returns-clause-writes : goal.returns-clause-writes
returns-clause-writes g c =
    context_cleared (g.B.Bytes.frames_of c.args.memory.now) (g.B.Bytes.frames_of c.put_word.new.memory) (g.B.Bytes.frames_of c.clear_behind.new.memory)
    (g.B.Bytes.frames_of c.clear_behind-2.new.memory) (g.B.Bytes.frames_of c.clear_behind-3.new.memory)
    c.context_place-place.result c.args.page c.args.id c.context_place-place.ensures c.put_word.ensures.stores c.clear_behind.ensures.stores c.clear_behind-2.ensures.stores c.clear_behind-3.ensures.stores
