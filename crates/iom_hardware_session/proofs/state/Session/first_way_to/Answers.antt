use Rattle.std.proofs.Common.{◌≡◌, inl, inr, ℕ, Some, sym, subst, slice_get, arith}
use Rattle.std.proofs.lemmas.Bool.Decides.{eqb_tells}
use Rattle.std.proofs.lemmas.Option.{slice_get_within, slice_get_read}
use Rattle.iom_device.specs.declared.device.Device.{Device}
use Rattle.iom_board.specs.BoardParts.{board_parts}
use Rattle.iom_hardware.specs.Inside.{inside}
use Rattle.iom_virtio_blk.specs.MemoryDisks.{disk_state}
use Rattle.iom_reach.specs.Ways.{Way}
use Rattle.iom_way_survey.specs.Surveys.{is_id_among}
use Rattle.iom_hardware_session.specs.Good.{scene_in}
use Rattle.iom_hardware_session.proofs.WayLemmas.{place_beside, one_there}
use Rattle.iom_hardware_session.proofs.state.Session.first_way_to.Goals as goal

pub returns-clause-none : goal.returns-clause-none
returns-clause-none c = λ is device kind way.
    let session = c.args.self.now in
    let (k, own, there, same) = place_beside (is_id_among session.trusted.items) (board_parts session.hardware.board) (inside disk_state session.hardware).blocks session.beside session.hardware.board.events device
    c.args.frame kind session.invariants session.sound way in
    let within = slice_get_within session.hardware.board.devices.items k own there in
    c.loop-place.invariant k own kind (omega (arith, within, c.len-place-end.ensures, c.loop-place-test.false, session.hardware.board.devices.ok.0)) there
    (subst (λ (d : ℕ). Way (scene_in session) d c.args.frame kind) (sym same) way)

pub loop-place-preserved : goal.loop-place-preserved
loop-place-preserved c = λ k own kind less there way.
    let session = c.args.self.now in
    let devices = session.hardware.board.devices in
    let at : slice_get devices.items c.loop-place.place ≡ Some c.index.result.now =
    slice_get_read devices.items _ c.loop-place.place c.index.result.now devices.ok.0 (omega (arith, c.len-place-end.ensures, c.loop-place-test.true)) c.index.ensures in
    elim (eqb_tells k c.loop-place.place) [
      | inl same ↦
          let is : own ≡ c.index.result.now = one_there devices.items k c.loop-place.place own c.index.result.now same.1 there at in
          c.way_to.ensures.none (scene_in session) c.requires.looked.0 c.in_default.is kind (subst (λ (d : Device). Way (scene_in session) d.id c.args.frame kind) is way)
      | inr apart ↦ c.loop-place.invariant k own kind (omega (arith, less, apart.1)) there way
    ]
