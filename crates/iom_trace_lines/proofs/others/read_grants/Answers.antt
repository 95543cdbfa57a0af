use Rattle.std.proofs.Common.{◌∙◌, ℕ, List, ap, refl}
use Rattle.iom_base.specs.declared.grant_rights.GrantRights.{GrantRights}
use Rattle.iom_script.specs.Words.{◌␣◌, IsRight}
use Rattle.iom_script.proofs.ReadsLemmas.{read_holds}
use Rattle.iom_trace_lines.proofs.TraceLemmas.{grants_line, grants_say}
use Rattle.iom_trace_lines.proofs.others.read_grants.Goals as goal

pub returns : goal.returns
returns c answered tables done =
    let device = (c.in_ok-device.ensures (c.in_ok-device.device, c.in_ok-device.words.now)).0 refl in
    let cut = (c.in_ok-pages.ensures (c.in_ok-pages.pages.now, c.in_ok-pages.words.now)).0 refl in
    let frame = (c.in_ok-frame.ensures (c.in_ok-frame.frame, c.in_ok-frame.right.now)).0 refl in
    let rights = c.in_ok-rights.rights in
    grants_say c.args.said.now answered c.in_ok-device.device c.in_ok-page.page c.in_ok-page.count c.in_ok-frame.frame rights c.args.has_tables tables
    (grants_line c.args.said.now c.in_ok-words.words.now c.in_ok-pages.pages.now c.in_ok-pages.words.now c.in_ok-frame.right.now device.0 frame.0
    c.in_ok-device.device c.in_ok-page.page c.in_ok-page.count c.in_ok-frame.frame rights
    c.in_ok-words.ensures
    device.1 (device.2 ∙ ap (λ (l : List ℕ). device.0 ␣ l) cut.1) c.in_ok-page.ensures frame.1 frame.2
    (read_holds (λ (rights : GrantRights). IsRight c.in_ok-frame.right.now rights) rights c.in_ok-rights.ensures)
    (c.are_some.ensures c.if-not-are_some.false).1)
    done
