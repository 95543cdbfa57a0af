use Rattle.std.proofs.Common.{◌∙◌, append-nil, sym}
use Rattle.iom_script.specs.Grammar.{IsWorldLine}
use Rattle.iom_script.specs.declared.script.WorldSize.{WorldSize}
use Rattle.iom_script.proofs.ReadsLemmas.{read_holds}
use Rattle.iom_trace_lines.proofs.sizes.size_and_limits.Goals as goal

pub returns-in_ok-world_of-in_default-None : goal.returns-in_ok-world_of-in_default-None
returns-in_ok-world_of-in_default-None c =
    let sized = c.cut.result.0.now in (
      sized,
      read_holds (λ (size : WorldSize). IsWorldLine sized size) c.in_ok-world_of-in_default-None.field-0 c.in_ok-world_of-in_default-None.ensures,
      rw c.in_default-None.is-1 at c.cut.ensures ∙ sym (append-nil sized),
    )
