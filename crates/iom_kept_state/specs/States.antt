-- The state that is kept, with a history that is a past of it.
use Rattle.std.specs.Prelude.{◌≡◌, ◌↔◌, Bool, true, false}
use Rattle.iom_ledger.specs.History.{History}
use Rattle.iom_machine.specs.declared.state.State.{State}
use Rattle.iom_kept_state.specs.Grants.{IsPastOf}
use Rattle.iom_kept_state.specs.Frames.{frames_in}
use Rattle.iom_kept_state.specs.declared.state.KeptState.{KeptState}

-- the state that has this history
abbrev pub state_of : KeptState → History → State
state_of kept history = record {
  limits = kept.limits;
  levels = kept.levels;
  frames = frames_in kept.frames;
  history = history;
  last_ticket = kept.grants.given;
  devices = kept.devices;
  disks = kept.disks;
}

-- THE NEXT STATE is kept: of each past there is one now with which it is the only one that such a step leaves
abbrev pub Leaves : KeptState → KeptState → (State → State → Type 0) → Type 0
Leaves old new IsStep =
    (history : History) → IsPastOf old.grants history
    → (now : History) × IsPastOf new.grants now × ((after : State) → (after ≡ state_of new now) ↔ IsStep (state_of old history) after)

-- no such step may come, whatever the past
abbrev pub MayNotCome : KeptState → (State → State → Type 0) → Type 0
MayNotCome old IsStep = (history : History) → IsPastOf old.grants history → (after : State) → ¬ IsStep (state_of old history) after

-- WHAT IS DECIDED of a step: it may come, and the next state is kept; or it may not, and what is kept stays
abbrev pub Decides : Bool → KeptState → KeptState → (State → State → Type 0) → Type 0
Decides true old new IsStep = Leaves old new IsStep
Decides false old new IsStep = (new ≡ old) × MayNotCome old IsStep

-- the same of a step that leaves the state as it is, which needn't be changed for it
abbrev pub DecidesUnchanged : Bool → KeptState → (State → State → Type 0) → Type 0
DecidesUnchanged may kept IsStep = Decides may kept kept IsStep
