-- A worked scene: what a device reaches by the tables of another in the same address space.
use Rattle.std.specs.Prelude.{◌≡◌, ℕ, ◌==◌, false, List, [], ◌∷◌, Option, None, Some, if◌then◌else◌}
use Rattle.iom_base.specs.declared.access.AccessKind.TheVariants.{Read}
use Rattle.iom_base.specs.Rights.{r}
use Rattle.iom_reach.specs.Memory.{Frame, Tables, Nothing, Leaf}
use Rattle.iom_reach.specs.Scene.{Mapping, FirstStage, Context, At, Forges, HardwareScene}
use Rattle.iom_reach.specs.Ways.{tables_of, LeadsToMapping, MayFind}
use Rattle.iom_reach.specs.Safe.{IsSafe, AreTimely}
use Rattle.iom_reach.specs.Transitions.{Transition, Make, ComesAbout, ComeInTurn}

-- the context of device 1, and that of device 2: one number, two roots
abbrev pub own_context : Context
own_context = record { lets_ats = false; stages = FirstStage 5 (record { root = 60; levels = 1 }) }

abbrev pub other_context : Context
other_context = record { lets_ats = false; stages = FirstStage 5 (record { root = 57; levels = 1 }) }

-- the first byte of a frame; 0, where there is none
abbrev pub first_byte : Frame → ℕ
first_byte None = 0
first_byte (Some []) = 0
first_byte (Some (byte ∷ bytes)) = byte

-- the two contexts, each cached for its device
abbrev pub contexts_of_two : ℕ → Option Context
contexts_of_two device = if device == 1 then Some own_context else if device == 2 then Some other_context else None

-- Each table is of one place, which names the frame that it leads to, to be read: 7 in table 57, 3 in all others. Two contexts are cached, and nothing else.
abbrev pub scene_of_two : HardwareScene
scene_of_two = record {
  formats = record {
    entry = λ frame place left. Leaf (record { frame = first_byte frame; rights = r });
    context = λ frame place left. Nothing;
    word = λ frame offset. None;
    steps_to = λ stages page. record { frame = 0; place = 0 } ∷ [];
    steps_of = λ levels device. record { frame = 0; place = 0 } ∷ [];
  };
  memory = λ frame. Some ((if frame == 57 then 7 else 3) ∷ []);
  directory = At (record { root = 0; levels = 1 });
  waiting = [];
  fault_frames = [];
  kind_of = λ device. Some Forges;
  is_trusted = λ device. false;
  contexts = contexts_of_two;
  translations = λ at. None;
  partial_walks = [];
  directory_walks = [];
  ats_entries = λ device. [];
  epoch_of = λ device. 0;
  messages = [];
  in_flight = λ device. [];
}

-- a walk from any context of the device leads to this frame alone
abbrev pub LeadsOnlyTo : HardwareScene → ℕ → ℕ → Type 0
LeadsOnlyTo scene device frame = (context : Context) (tables : Tables) (mapping : Mapping) → MayFind scene device context → tables_of context.stages ≡ Some tables
    → LeadsToMapping scene.formats scene.memory tables.root (scene.formats.steps_to context.stages) mapping → mapping.frame ≡ frame

-- The scene is safe, device 1's own tables lead to frame 3 alone, and it comes to read frame 7.
abbrev pub SpacesAreShared : Type 0
SpacesAreShared = IsSafe scene_of_two × AreTimely scene_of_two × LeadsOnlyTo scene_of_two 1 3
    × ((transitions : List Transition) × (between : HardwareScene) × (new : HardwareScene) × ComeInTurn scene_of_two transitions between
    × ComesAbout (Make 1 (record { frame = 7; kind = Read })) between new)
