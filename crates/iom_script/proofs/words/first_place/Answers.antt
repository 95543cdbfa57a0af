use Rattle.std.proofs.Common.{subst}
use Rattle.memchr.specs.Find.{TakesFirst}
use Rattle.iom_script.proofs.CutLemmas.{first_taken}
use Rattle.iom_script.proofs.words.first_place.Goals as goal

pub returns : goal.returns
returns c =
    first_taken c.args.byte c.args.bytes.now c.next.new.self c.next.result
    (subst (λ places. TakesFirst places c.next.result c.next.new.self) c.memchr_iter.ensures.value c.next.ensures.steps)
