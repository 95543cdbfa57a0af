use Rattle.std.proofs.Common.{◌≡◌, None, Some, [], sym, ◌∙◌, ap, rules}
use Rattle.std.proofs.lemmas.Option.{slice_get-get_or}
use Rattle.std.specs.Option.{option_copied_mut}
use Rattle.iom_phys_mem.specs.Words.{zeroed}
use Rattle.iom_driver.proofs.starting.clear.Goals as goal

pub returns-in-Some : goal.returns-in-Some
unfolding zeroed
returns-in-Some c = search rules

pub returns-in_default : goal.returns-in_default
returns-in_default c =
    let there = slice_get-get_or c.args.memory.now c.args.frame [] c.requires in
    let bad : None ≡ Some _ = sym (ap option_copied_mut c.in_default.is) ∙ c.frame_mut.ensures.value ∙ there in
    cc
