use Rattle.std.proofs.Common.{◌≡◌, ◌<◌, ℕ, length, slice_get, Some, subst, arith}
use Rattle.iom_board.specs.BoardParts.{board_parts}
use Rattle.iom_pointers.specs.declared.pointer.Pointer.{Pointer}
use Rattle.iom_table_survey.specs.Rows.{GrowsBy}
use Rattle.iom_table_survey.proofs.AddLemmas.{adds_none_yet, adds_next}
use Rattle.iom_way_survey.specs.Along.{IsTableAlong, IsReachedAlong, RowsGrow}
use Rattle.iom_way_survey.proofs.GrowLemmas.{grew_none_yet, grew_next, grew_there}
use Rattle.iom_way_survey.proofs.StepLemmas.{adds_there, at_get}
use Rattle.iom_way_survey.proofs.along.look_along_all.Goals as goal

pub loop-place-init : goal.loop-place-init
loop-place-init c = record {
  rows = grew_none_yet c.args.rows.now (λ k id kind f. (pointer : Pointer) × (slice_get c.args.pointers.now k ≡ Some pointer) × IsReachedAlong c.args.napot (board_parts c.args.hardware.now) pointer id kind f);
  tables = adds_none_yet c.args.read.now (λ k f. (pointer : Pointer) × (slice_get c.args.pointers.now k ≡ Some pointer) × IsTableAlong c.args.napot c.args.hardware.now.memory pointer f);
}

pub loop-place-preserved : goal.loop-place-preserved
loop-place-preserved c =
    let pointers = c.args.pointers.now in
    let place = c.loop-place.place in
    let own = c.index-pointers-place.result in
    let here : slice_get pointers place ≡ Some own = at_get pointers place own (omega arith) c.index-pointers-place.is in
    record {
      rows = grew_next c.args.rows.now c.loop-place.rows c.look_along_one.new.rows
          (λ k id kind f. (pointer : Pointer) × (slice_get pointers k ≡ Some pointer) × IsReachedAlong c.args.napot (board_parts c.args.hardware.now) pointer id kind f) place c.loop-place.invariant.rows
          (grew_there pointers place own c.loop-place.rows c.look_along_one.new.rows (IsReachedAlong c.args.napot (board_parts c.args.hardware.now)) here c.look_along_one.ensures.rows);
      tables = adds_next c.args.read.now c.loop-place.read c.look_along_one.new.read
          (λ k f. (pointer : Pointer) × (slice_get pointers k ≡ Some pointer) × IsTableAlong c.args.napot c.args.hardware.now.memory pointer f) place c.loop-place.invariant.tables
          (adds_there pointers place own here c.loop-place.read c.look_along_one.new.read (IsTableAlong c.args.napot c.args.hardware.now.memory) c.look_along_one.ensures.tables);
    }

pub returns : goal.returns
returns c =
    let pointers = c.args.pointers.now in
    let last : c.loop-place.place ≡ length pointers = omega arith in
    record {
      rows = subst (λ (n : ℕ). RowsGrow c.args.rows.now c.loop-place.rows (λ id kind f. (k : ℕ) × (k < n) × ((pointer : Pointer) × (slice_get pointers k ≡ Some pointer)
          × IsReachedAlong c.args.napot (board_parts c.args.hardware.now) pointer id kind f))) last c.loop-place.invariant.rows;
      tables = subst (λ (n : ℕ). GrowsBy c.args.read.now c.loop-place.read (λ f. (k : ℕ) × (k < n) × ((pointer : Pointer) × (slice_get pointers k ≡ Some pointer)
          × IsTableAlong c.args.napot c.args.hardware.now.memory pointer f))) last c.loop-place.invariant.tables;
    }
