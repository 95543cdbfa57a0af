use Rattle.std.proofs.Common.{sym, ap, ◌∙◌}
use Rattle.iom_frame_set.specs.Sets.{has}
use Rattle.iom_ledger.proofs.FreeLemmas.{row_free}
use Rattle.iom_ledger.proofs.ledger.Ledger.free_frames.Goals as goal

pub returns : goal.returns
returns c frame =
    let ledger = c.args.self.now in
    let free = row_free ledger frame in
    let member = ledger.frames.is_free.has_free frame in
    let same = ap (λ free. has free frame) c.free_frames.ensures in
    ((λ inside. free.0 (member.0 (sym same ∙ inside))), (λ none. same ∙ member.1 (free.1 none)))
