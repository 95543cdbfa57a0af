use Rattle.std.proofs.Common.{subst}
use Rattle.iom_board.specs.BoardParts.{board_parts}
use Rattle.iom_hardware_session.proofs.ReadyPointedLemmas.{finds_ahead, if_none, led_by_root, led_nowhere, led_to_frame, not_the_frame}
use Rattle.iom_pointed_board.specs.Starts.{IsStart}
use Rattle.iom_hardware_session.proofs.ready.led_instead.Goals as goal

pub returns-in_err-start-clause-none : goal.returns-in_err-start-clause-none
returns-in_err-start-clause-none c =
    let asks = subst (λ r. IsStart c.args.napot (board_parts c.args.hardware.now) c.args.pointers.now r c.start_of.result) c.request_at.ensures c.start_of.ensures in
    if_none c.from_residual.result
    (led_nowhere c.args.napot (board_parts c.args.hardware.now) c.args.pointers.now c.facts.ensures c.args.device c.args.page c.args.kind c.start_of.result asks
    c.in_err-start.was c.args.frame)

pub returns-in_err-translation-clause-none : goal.returns-in_err-translation-clause-none
returns-in_err-translation-clause-none c =
    let asks = subst (λ r. IsStart c.args.napot (board_parts c.args.hardware.now) c.args.pointers.now r c.start_of.result) c.request_at.ensures c.start_of.ensures in
    if_none c.from_residual-in_err-translation.result
    (led_by_root c.args.napot (board_parts c.args.hardware.now) c.args.pointers.now c.facts.ensures c.args.device c.args.page c.args.kind c.start_of.result asks
    c.in_ok-start.start c.in_ok-start.was c.in_err-translation.was c.args.frame)

pub returns-then-translation-frame-clause-none : goal.returns-then-translation-frame-clause-none
returns-then-translation-frame-clause-none c =
    let asks = subst (λ r. IsStart c.args.napot (board_parts c.args.hardware.now) c.args.pointers.now r c.start_of.result) c.request_at.ensures c.start_of.ensures in
    led_to_frame c.args.napot (board_parts c.args.hardware.now) c.args.pointers.now c.facts.ensures c.args.device c.args.page c.args.kind c.start_of.result asks
    c.in_ok-start.start c.in_ok-start.was c.in_ok-translation.translation c.in_ok-translation.was c.args.frame c.if-translation-frame.true

pub returns-clause-some : goal.returns-clause-some
returns-clause-some c =
    let asks = subst (λ r. IsStart c.args.napot (board_parts c.args.hardware.now) c.args.pointers.now r c.start_of.result) c.request_at.ensures c.start_of.ensures in (
      finds_ahead c.args.napot (board_parts c.args.hardware.now) c.args.pointers.now c.facts.ensures c.args.device c.args.page c.args.kind c.start_of.result asks
          c.in_ok-start.start c.in_ok-start.was c.in_ok-translation.translation c.in_ok-translation.was c.found_from.result c.found_from.ensures,
      not_the_frame c.args.napot (board_parts c.args.hardware.now) c.args.pointers.now c.facts.ensures c.args.device c.args.page c.args.kind c.start_of.result asks
          c.in_ok-start.start c.in_ok-start.was c.in_ok-translation.translation c.args.frame c.found_from.result c.found_from.ensures c.if-translation-frame.false,
    )
