use Rattle.std.proofs.Common.{refl}
use Rattle.iom_trace_lines.proofs.TraceLemmas.{releases_line, releases_say}
use Rattle.iom_trace_lines.proofs.others.read_releases.Goals as goal

pub returns : goal.returns
returns c tables =
    let said = c.args.said.now in
    let device = (c.in_ok-device.ensures (c.in_ok-device.device, c.in_ok-device.pages.now)).0 refl in
    releases_say said c.args.answered.now c.in_ok-word.word.now c.in_ok-device.device c.in_ok-page.page c.in_ok-page.count c.in_ok-ticket.ticket tables
    (releases_line said c.in_ok-words.words.now c.in_ok-device.pages.now device.0 c.in_ok-device.device c.in_ok-page.page c.in_ok-page.count
    c.in_ok-words.ensures device.1 device.2 c.in_ok-page.ensures)
    c.in_ok-ticket.ensures c.in_ok-word.ensures
