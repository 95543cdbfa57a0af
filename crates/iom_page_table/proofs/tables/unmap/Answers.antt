-- Unmapping a page: its leaf is cleared where its last table stands, and else nothing changes.
use Rattle.std.proofs.Common.{◌≡◌, ◌*◌, ◌%◌, ◌∙◌, Some, ap, None, refl, subst, sym}
use Rattle.iom_phys_mem.specs.Words.{word_at}
use Rattle.iom_stage_walk.specs.Entries.{entries}
use Rattle.iom_stage_walk.specs.Paths.{path_of}
use Rattle.iom_stage_walk.specs.declared.entry.Entry.TheVariants.{Invalid}
use Rattle.iom_page_table.specs.Trees.{shape_of, IsLastEntry}
use Rattle.iom_page_table.proofs.KeptTables.{tables_kept}
use Rattle.iom_page_table.proofs.Pages.{leaves_after}
use Rattle.iom_page_table.proofs.Whole.{entry_inside, sets_page, same_frames, entry_number, is_entry, no_entry, not_mapped}
use Rattle.iom_page_table.specs.Written.{with_entries, cleared_entries}
use Rattle.iom_page_table.proofs.Written.{cleared_last, cleared_none}
use Rattle.iom_page_table.specs.Building.{upper_in}
use Rattle.iom_page_table.proofs.UpperPath.{upper_path}
use Rattle.iom_page_table.proofs.tables.unmap.Goals as goal

pub put-requires-clause-inside : goal.put-requires-clause-inside
put-requires-clause-inside g c = entry_inside c.args.size (g.B.Bytes.frames_of c.args.memory.now) c.args.root c.args.page c.in-Some.table (upper_in c.args.size c.first_indices-all.result) c.requires.tree (upper_path c.args.size c.args.page c.first_indices-all.result c.first_indices-all.ensures) c.in-Some.ensures.some

pub returns-in-Some-clause-tree : goal.returns-in-Some-clause-tree
returns-in-Some-clause-tree g c =
    (sets_page c.args.size (g.B.Bytes.frames_of c.args.memory.now) (g.B.Bytes.frames_of c.put.new.memory) c.args.root c.args.page c.in-Some.table (upper_in c.args.size c.first_indices-all.result) Invalid c.requires.tree (upper_path c.args.size c.args.page c.first_indices-all.result c.first_indices-all.ensures) c.in-Some.ensures.some c.put.ensures.put tt).tree

pub returns-in-Some-clause-tables : goal.returns-in-Some-clause-tables
returns-in-Some-clause-tables g c =
    same_frames (shape_of c.args.size) (g.B.Bytes.frames_of c.args.memory.now) (g.B.Bytes.frames_of c.put.new.memory) c.args.root (path_of (shape_of c.args.size) c.args.page) Invalid
    (sets_page c.args.size (g.B.Bytes.frames_of c.args.memory.now) (g.B.Bytes.frames_of c.put.new.memory) c.args.root c.args.page c.in-Some.table (upper_in c.args.size c.first_indices-all.result) Invalid c.requires.tree (upper_path c.args.size c.args.page c.first_indices-all.result c.first_indices-all.ensures) c.in-Some.ensures.some c.put.ensures.put tt)

pub returns-in-Some-clause-leaf : goal.returns-in-Some-clause-leaf
returns-in-Some-clause-leaf g c =
    let s = sets_page c.args.size (g.B.Bytes.frames_of c.args.memory.now) (g.B.Bytes.frames_of c.put.new.memory) c.args.root c.args.page c.in-Some.table (upper_in c.args.size c.first_indices-all.result) Invalid c.requires.tree (upper_path c.args.size c.args.page c.first_indices-all.result c.first_indices-all.ensures) c.in-Some.ensures.some c.put.ensures.put tt in
    leaves_after c.args.size (g.B.Bytes.frames_of c.args.memory.now) (g.B.Bytes.frames_of c.put.new.memory) c.args.root c.args.page None c.requires.page s.leaf s.same

pub returns-in-Some-clause-cleared : goal.returns-in-Some-clause-cleared
returns-in-Some-clause-cleared g c =
    λ s last.
    let at = entry_number c.args.size (g.B.Bytes.frames_of c.args.memory.now) c.args.root c.args.page (upper_in c.args.size c.first_indices-all.result) (upper_path c.args.size c.args.page c.first_indices-all.result c.first_indices-all.ensures) c.in-Some.table s c.in-Some.ensures.some last in
    subst (λ n. word_at 8 (g.B.Bytes.frames_of c.put.new.memory) (8 * n) ≡ Some 0) (sym at) c.put.ensures.here

pub returns-in-Some-clause-other_bytes : goal.returns-in-Some-clause-other_bytes
returns-in-Some-clause-other_bytes g c =
    λ a out.
    let is = is_entry c.args.size (g.B.Bytes.frames_of c.args.memory.now) c.args.root c.args.page (upper_in c.args.size c.first_indices-all.result) (upper_path c.args.size c.args.page c.first_indices-all.result c.first_indices-all.ensures) c.in-Some.table c.in-Some.ensures.some in
    c.put.ensures.other_bytes a (λ e. out (subst (λ n. IsLastEntry (entries (g.B.Bytes.frames_of c.args.memory.now)) c.args.root (path_of (shape_of c.args.size) c.args.page) n) (sym e) is))

pub returns-in-Some-clause-outside : goal.returns-in-Some-clause-outside
returns-in-Some-clause-outside g c =
    let old = g.B.Bytes.frames_of c.args.memory.now in
    let new = g.B.Bytes.frames_of c.put.new.memory in
    let s = sets_page c.args.size old new c.args.root c.args.page c.in-Some.table (upper_in c.args.size c.first_indices-all.result) Invalid c.requires.tree (upper_path c.args.size c.args.page c.first_indices-all.result c.first_indices-all.ensures) c.in-Some.ensures.some c.put.ensures.put tt in
    λ f out. s.others f (λ h. out ((same_frames (shape_of c.args.size) old new c.args.root (path_of (shape_of c.args.size) c.args.page) Invalid s f).1 h))

pub returns-in-Some-clause-keeps : goal.returns-in-Some-clause-keeps
returns-in-Some-clause-keeps g c =
    tables_kept c.args.size (g.B.Bytes.frames_of c.args.memory.now) (g.B.Bytes.frames_of c.put.new.memory) c.args.root c.requires.tree
    (sets_page c.args.size (g.B.Bytes.frames_of c.args.memory.now) (g.B.Bytes.frames_of c.put.new.memory) c.args.root c.args.page c.in-Some.table (upper_in c.args.size c.first_indices-all.result) Invalid c.requires.tree (upper_path c.args.size c.args.page c.first_indices-all.result c.first_indices-all.ensures) c.in-Some.ensures.some c.put.ensures.put tt).unchanged

pub returns-in-None-clause-leaf : goal.returns-in-None-clause-leaf
returns-in-None-clause-leaf g c =
    let frames = g.B.Bytes.frames_of c.args.memory.now in
    leaves_after c.args.size frames frames c.args.root c.args.page None c.requires.page
    (not_mapped c.args.size frames c.args.root c.args.page (upper_in c.args.size c.first_indices-all.result) (upper_path c.args.size c.args.page c.first_indices-all.result c.first_indices-all.ensures) c.requires.tree c.in-None.ensures.none) (λ is inside long ne. refl)

pub returns-in-None-clause-cleared : goal.returns-in-None-clause-cleared
returns-in-None-clause-cleared g c =
    λ s last. absurd (no_entry c.args.size (g.B.Bytes.frames_of c.args.memory.now) c.args.root c.args.page (upper_in c.args.size c.first_indices-all.result) (upper_path c.args.size c.args.page c.first_indices-all.result c.first_indices-all.ensures) c.in-None.ensures.none s last)

pub returns-in-Some-clause-whole : goal.returns-in-Some-clause-whole
returns-in-Some-clause-whole g c =
    let old = g.B.Bytes.frames_of c.args.memory.now in
    c.put.ensures.whole
    ∙ sym (ap (with_entries old) (sym (ap (cleared_entries (entries old) c.args.root) (upper_path c.args.size c.args.page c.first_indices-all.result c.first_indices-all.ensures)) ∙ cleared_last (entries old) c.args.root (upper_in c.args.size c.first_indices-all.result) (c.args.page % 512) c.in-Some.table c.in-Some.ensures.some))

pub returns-in-None-clause-whole : goal.returns-in-None-clause-whole
returns-in-None-clause-whole g c =
    let old = g.B.Bytes.frames_of c.args.memory.now in
    sym (ap (with_entries old) (sym (ap (cleared_entries (entries old) c.args.root) (upper_path c.args.size c.args.page c.first_indices-all.result c.first_indices-all.ensures)) ∙ cleared_none (entries old) c.args.root (upper_in c.args.size c.first_indices-all.result) (c.args.page % 512) c.in-None.ensures.none))
