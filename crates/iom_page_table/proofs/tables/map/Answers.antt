-- Mapping a page: its tables are built, and then its leaf is written.
use Rattle.std.proofs.Common.{◌*◌, ◌%◌, ◌∙◌, [], ◌∷◌, length, refl, sym, ap, subst}
use Rattle.iom_phys_mem.specs.Words.{with_word}
use Rattle.iom_stage_walk.specs.Paths.{path_of}
use Rattle.iom_page_table.specs.Written.{word_of_leaf}
use Rattle.iom_stage_walk.specs.Entries.{entries, slot}
use Rattle.iom_page_table.specs.Trees.{missing_under}
use Rattle.iom_page_table.specs.Building.{Puts, SameWrites}
use Rattle.iom_page_table.proofs.KeptTables.{tables_kept}
use Rattle.iom_page_table.proofs.Mapping.{missing_above_last, whole_table}
use Rattle.iom_page_table.proofs.Written.{writes_done}
use Rattle.iom_page_table.proofs.Pages.{is_page}
use Rattle.iom_page_table.proofs.Whole.{entry_inside, Maps, maps, maps_bytes}
use Rattle.iom_page_table.specs.Trees.{shape_of}
use Rattle.iom_page_table.specs.Building.{upper_in}
use Rattle.iom_page_table.proofs.UpperPath.{upper_path}
use Rattle.iom_page_table.proofs.tables.map.Goals as goal
use Rattle.iom_page_table.proofs.tables.map.Given.{Over}

pub build-table-requires-clause-page : goal.build-table-requires-clause-page
build-table-requires-clause-page g c = is_page c.args.size c.args.page (c.args.page % 512) (upper_in c.args.size c.first_indices-all.result) (upper_path c.args.size c.args.page c.first_indices-all.result c.first_indices-all.ensures)

pub build-table-requires-clause-count : goal.build-table-requires-clause-count
build-table-requires-clause-count g c =
    let e = entries (g.B.Bytes.frames_of c.args.memory.now) in
    let upper = upper_in c.args.size c.first_indices-all.result in
    c.requires.count ∙ sym (ap (missing_under e c.args.root) (upper_path c.args.size c.args.page c.first_indices-all.result c.first_indices-all.ensures)) ∙ missing_above_last e c.args.root upper (c.args.page % 512)

pub put-requires-clause-inside : goal.put-requires-clause-inside
put-requires-clause-inside g c =
    let old = g.B.Bytes.frames_of c.args.memory.now in
    let mid = g.B.Bytes.frames_of c.build-table.new.memory in
    let b = c.build-table.ensures.built in
    entry_inside c.args.size mid c.args.root c.args.page c.build-table.result (upper_in c.args.size c.first_indices-all.result) b.tree (upper_path c.args.size c.args.page c.first_indices-all.result c.first_indices-all.ensures)
    (whole_table (shape_of c.args.size) old mid c.args.root (upper_in c.args.size c.first_indices-all.result) c.build-table.result c.args.frames.now (length c.args.frames.now) b)

-- all that the calls did
done : (g : Over) (c : goal.After-put g)
    → Maps c.args.size (g.B.Bytes.frames_of c.args.memory.now) (g.B.Bytes.frames_of c.put.new.memory) c.args.root c.args.page c.args.leaf c.args.frames.now
done g c =
    let mid = g.B.Bytes.frames_of c.build-table.new.memory in
    let new = g.B.Bytes.frames_of c.put.new.memory in
    maps c.args.size (g.B.Bytes.frames_of c.args.memory.now) mid new c.args.root c.args.page c.build-table.result (upper_in c.args.size c.first_indices-all.result) c.args.frames.now c.args.leaf c.requires.page c.build-table.ensures.built (upper_path c.args.size c.args.page c.first_indices-all.result c.first_indices-all.ensures)
    (subst (λ x. Puts mid new (slot c.build-table.result (c.args.page % 512)) x) c.leaf_word.ensures.entry c.put.ensures.put)

pub returns-clause-other_bytes : goal.returns-clause-other_bytes
returns-clause-other_bytes g c =
    let mid = g.B.Bytes.frames_of c.build-table.new.memory in
    let new = g.B.Bytes.frames_of c.put.new.memory in
    maps_bytes c.args.size (g.B.Bytes.frames_of c.args.memory.now) mid new c.args.root c.args.page c.build-table.result (upper_in c.args.size c.first_indices-all.result) c.args.frames.now c.args.leaf c.requires.page c.build-table.ensures.built (upper_path c.args.size c.args.page c.first_indices-all.result c.first_indices-all.ensures) c.requires.free
    (subst (λ x. Puts mid new (slot c.build-table.result (c.args.page % 512)) x) c.leaf_word.ensures.entry c.put.ensures.put) c.put.ensures.other_bytes

pub returns-clause-tree : goal.returns-clause-tree
returns-clause-tree g c = (done g c).tree

pub returns-clause-tables : goal.returns-clause-tables
returns-clause-tables g c = (done g c).tables

pub returns-clause-leaf : goal.returns-clause-leaf
returns-clause-leaf g c = (done g c).leaves

pub returns-clause-outside : goal.returns-clause-outside
returns-clause-outside g c = (done g c).others

pub returns-clause-keeps : goal.returns-clause-keeps
returns-clause-keeps g c = tables_kept c.args.size (g.B.Bytes.frames_of c.args.memory.now) (g.B.Bytes.frames_of c.put.new.memory) c.args.root c.requires.tree (done g c).unchanged

pub returns-clause-whole : goal.returns-clause-whole
returns-clause-whole g c =
    let old = g.B.Bytes.frames_of c.args.memory.now in
    let mid = g.B.Bytes.frames_of c.build-table.new.memory in
    let new = g.B.Bytes.frames_of c.put.new.memory in
    let last = c.args.page % 512 in
    let table = c.build-table.result in
    let b = c.build-table.ensures.built in
    let page = is_page c.args.size c.args.page last (upper_in c.args.size c.first_indices-all.result) (upper_path c.args.size c.args.page c.first_indices-all.result c.first_indices-all.ensures) in
    let at = whole_table (shape_of c.args.size) old mid c.args.root (upper_in c.args.size c.first_indices-all.result) table c.args.frames.now (length c.args.frames.now) b in
    writes_done old mid new c.args.root (path_of (shape_of c.args.size) c.args.page) c.args.frames.now last table (word_of_leaf c.args.leaf)
    (subst (λ path. SameWrites old mid c.args.root path c.args.frames.now table (last ∷ []) []) (upper_path c.args.size c.args.page c.first_indices-all.result c.first_indices-all.ensures) c.build-table.ensures.writes)
    (b.tree.lowest (upper_in c.args.size c.first_indices-all.result) last (slot table last) (table, page.inside, at, refl) page.long)
    (c.put.ensures.whole ∙ ap (λ n. with_word 8 mid (8 * slot table last) n) c.leaf_word.ensures.word)
