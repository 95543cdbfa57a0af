-- What a request finds at a page.
use Rattle.std.specs.Prelude.{ℕ, Option, Some, None}
use Rattle.iom_hardware_session.specs.declared.answer.Found.{Found}
use Rattle.iom_hardware_session.specs.declared.answer.Found.TheVariants.{NoContext, Fault, Walk, Cached, Pointed}

-- the frame on which the request is accepted, if it is
abbrev pub frame_found : Found → Option ℕ
frame_found NoContext = None
frame_found (Fault cause) = None
frame_found (Walk frame) = Some frame
frame_found (Cached space frame) = Some frame
frame_found (Pointed space frame) = Some frame
