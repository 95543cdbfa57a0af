-- By address space and page.
use Rattle.std.proofs.lemmas.Bool.Decides.{Decides-at}
use Rattle.iom_tlb.specs.Entries.{is_key}
use Rattle.iom_tlb.proofs.SameLemmas.{key_decides}
use Rattle.iom_tlb.proofs.entries.is_same_key.Goals as goal

pub returns : goal.returns
returns c = Decides-at c.eq.result (is_key c.args.one.now c.args.other.now) c.eq.ensures (key_decides c.args.one.now c.args.other.now)
