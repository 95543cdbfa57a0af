use Rattle.std.proofs.Common.{◌∙◌, length, slice_get, sym, ap, arith}
use Rattle.std.proofs.lemmas.Option.{slice_get_within}
use Rattle.iom_board.specs.BoardParts.{board_parts}
use Rattle.iom_hardware_ways.proofs.ListLemmas.{get_contains}
use Rattle.iom_hardware_session.proofs.TimelyLemmas.{timely_beside}
use Rattle.iom_hardware_session.proofs.WayLemmas.{no_both}
use Rattle.iom_hardware_session.proofs.state.Session.is_timely.Goals as goal

pub returns-clause-timely : goal.returns-clause-timely
returns-clause-timely c = λ is.
    let fabric = c.args.self.now.hardware.board.fabric in
    let long = c.len-place-end.ensures ∙ ap length c.messages-messages.ensures in
    timely_beside _ (board_parts c.args.self.now.hardware.board) c.args.self.now.beside
    (λ k on there. let within = slice_get_within fabric k on there in c.loop-place.invariant k on (omega (arith, within, long, c.loop-place-test.false)) there)

pub returns-then-not-is_timely_message-clause-untimely : goal.returns-then-not-is_timely_message-clause-untimely
returns-then-not-is_timely_message-clause-untimely c = λ is. (
  c.in-Some.on,
  get_contains c.args.self.now.hardware.board.fabric c.loop-place.place c.in-Some.on
      (ap (λ messages. slice_get messages c.loop-place.place) (sym c.messages-messages.ensures) ∙ sym c.get.ensures ∙ c.in-Some.is),
  λ timely. no_both c.is_timely_message.result (c.is_timely_message.ensures.1 timely) c.if-not-is_timely_message.true,
)
