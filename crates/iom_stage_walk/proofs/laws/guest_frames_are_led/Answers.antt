-- The frames that both stages give are those to which the second leads.
use Rattle.iom_stage_walk.proofs.ServesBoth.{guest_frames_led, final_frame_led}
use Rattle.iom_stage_walk.proofs.laws.guest_frames_are_led.Goals as goal

pub returns : goal.returns
returns c =
    λ levels levels' frames first second address kind walked h. (
      guest_frames_led levels levels' frames first second address kind walked h,
      final_frame_led levels levels' frames first second address kind walked h,
    )
