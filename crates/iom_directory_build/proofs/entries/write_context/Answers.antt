-- Four words write a context.
use Rattle.std.proofs.Common.{◌≡◌, slice_index, Some, Ok, sym, subst}
use Rattle.iom_device_dir.specs.Paths.{four_context_words}
use Rattle.iom_device_dir.specs.Located.{loaded_context}
use Rattle.iom_directory_build.proofs.Words.{context_written, others_stand}
use Rattle.iom_directory_build.proofs.entries.write_context.Goals as goal

pub make_valid-requires-clause-others : goal.make_valid-requires-clause-others
make_valid-requires-clause-others g c =
    others_stand (g.B.Bytes.frames_of c.args.memory.now) (g.B.Bytes.frames_of c.put_word.new.memory) (g.B.Bytes.frames_of c.put_word-2.new.memory)
    (g.B.Bytes.frames_of c.put_word-3.new.memory)
    c.context_place-place.result _ _ _ _ (Ok c.args.context) c.put_word.ensures.stores c.put_word-2.ensures.stores c.put_word-3.ensures.stores
    (subst (λ ws. loaded_context (four_context_words (Some (slice_index ws 0)) (Some (slice_index ws 1)) (Some (slice_index ws 2)) (Some (slice_index ws 3))) ≡ Ok c.args.context) (sym c.words_of.ensures.words) c.words_of.ensures.found)

pub returns-clause-writes : goal.returns-clause-writes
returns-clause-writes g c =
    context_written (g.B.Bytes.frames_of c.args.memory.now) (g.B.Bytes.frames_of c.put_word.new.memory) (g.B.Bytes.frames_of c.put_word-2.new.memory)
    (g.B.Bytes.frames_of c.put_word-3.new.memory) (g.B.Bytes.frames_of c.make_valid.new.memory)
    c.context_place-place.result c.args.page c.args.id _ _ _ _ (Ok c.args.context) c.context_place-place.ensures c.put_word.ensures.stores c.put_word-2.ensures.stores c.put_word-3.ensures.stores c.make_valid.ensures.stores
    (subst (λ ws. loaded_context (four_context_words (Some (slice_index ws 0)) (Some (slice_index ws 1)) (Some (slice_index ws 2)) (Some (slice_index ws 3))) ≡ Ok c.args.context) (sym c.words_of.ensures.words) c.words_of.ensures.found)
