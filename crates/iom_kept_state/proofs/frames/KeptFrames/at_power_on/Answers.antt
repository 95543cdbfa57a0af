use Rattle.std.proofs.Common.{◌∙◌, ◌-◌, [], ◌∷◌, List, ap}
use Rattle.iom_base.specs.declared.owner.Owner.TheVariants.{System}
use Rattle.iom_machine.specs.declared.state.Frame.{Frame}
use Rattle.iom_machine.specs.Frames.{reserved_for}
use Rattle.iom_kept_state.specs.declared.frames.KeptFrames.{KeptFrames}
use Rattle.iom_kept_state.proofs.FrameLists.{nothing_kept}
use Rattle.iom_kept_state.proofs.frames.KeptFrames.at_power_on.Goals as goal

pub returns : goal.returns
returns c =
    let start : KeptFrames = record { count = c.args.count; named = c.new.result; small = c.requires.small } in
    let four = (c.args.count - 4) ∷ (c.args.count - 3) ∷ (c.args.count - 2) ∷ (c.args.count - 1) ∷ [] in
    c.in_ok-reserve.ensures
    ∙ ap (λ (frames : List Frame). reserved_for System four frames) (nothing_kept start c.new.ensures.empty)
