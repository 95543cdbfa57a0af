-- Frames as they are kept: those alone that have an owner or other bytes than zeros.
use Rattle.std.specs.Prelude.{◌≡◌, ℕ, zero, suc, nat_eq, nat_lt, if◌then◌else◌, List, [], ◌∷◌, ◌++◌, Option, None, replicate}
use Rattle.std.specs.Option.{option_map_or}
use Rattle.indexmap.specs.IndexMap.{get}
use Rattle.iom_base.specs.Sizes.{page_size}
use Rattle.iom_machine.specs.declared.state.Frame.{Frame}
use Rattle.iom_machine.specs.PowerOn.{empty_frame}
use Rattle.iom_kept_state.specs.declared.frames.KeptFrame.{KeptFrame}
use Rattle.iom_kept_state.specs.declared.frames.KeptFrames.{KeptFrames}

-- the bytes of a frame; none stand for zeros alone
abbrev pub bytes_kept : List ℕ → List ℕ
bytes_kept [] = replicate page_size 0
bytes_kept (first ∷ rest) = first ∷ rest

-- the frame that is kept so
abbrev pub frame_kept : KeptFrame → Frame
frame_kept kept = record { owner = kept.owner; bytes = bytes_kept kept.bytes.items }

-- the frame of this number: one of zeros that belongs to nobody, where nothing is kept of it
abbrev pub frame_of : KeptFrames → ℕ → Frame
frame_of kept number = option_map_or frame_kept (get nat_eq kept.named number) empty_frame

-- the frames with the numbers below this
abbrev pub frames_below : (ℕ → Frame) → ℕ → List Frame
frames_below frame zero = []
frames_below frame (suc n) = frames_below frame n ++ frame n ∷ []

-- all of memory
abbrev pub frames_in : KeptFrames → List Frame
frames_in kept = frames_below (frame_of kept) kept.count

-- what is kept of the frame of this number, if there is such a frame
abbrev pub kept_at : KeptFrames → ℕ → Option KeptFrame
kept_at kept number = if nat_lt number kept.count then get nat_eq kept.named number else None

-- the frame of this number is changed so, and no other
abbrev pub ChangesFrame : KeptFrames → KeptFrames → ℕ → (Frame → Frame) → Type 0
ChangesFrame old new number change =
    (new.count ≡ old.count) × ((k : ℕ) → frame_of new k ≡ (if nat_eq number k then change (frame_of old k) else frame_of old k))
