-- What the confirmation of their tickets leaves of devices and frames.
use Rattle.std.proofs.Common.{◌≡◌, ℕ, zero, suc, ◌+◌, ◌<◌, ◌==◌, ◌++◌, Bool, true, false, cond, List, [], ◌∷◌, length, map, take, drop, find, All, Option, None, Some, slice_get, slice_set, refl, sym, ap, ◌∙◌, subst, arith}
use Rattle.std.specs.Option.{option_map, option_map_or}
use Rattle.std.proofs.lemmas.List.Elements.{All-map, All-nil, All-cons, All-head, All-tail}
use Rattle.std.proofs.lemmas.Grind.{common_steps}
use Rattle.std.proofs.lemmas.List.Edits.{map_over_more}
use Rattle.std.proofs.lemmas.Option.{get_or_from_slice_get, slice_get-map}
use Rattle.iom_base.specs.declared.owner.Owner.{Owner}
use Rattle.iom_base.specs.declared.owner.Owner.TheVariants.{System, OneDevice}
use Rattle.iom_ledger.specs.History.{History}
use Rattle.iom_machine.specs.declared.state.Attachment.TheVariants.{Detached}
use Rattle.iom_machine.specs.declared.state.Device.{Device}
use Rattle.iom_machine.specs.declared.state.Frame.{Frame}
use Rattle.iom_machine.specs.declared.state.State.{State}
use Rattle.iom_machine.specs.Devices.{device_of, DeviceMay}
use Rattle.iom_machine.specs.Judging.{is_of_left_in}
use Rattle.iom_machine.specs.Refusals.{attachment_of}
use Rattle.iom_machine.specs.Leaving.{once_confirmed, device_once_confirmed, is_of_left, given_back, with_left}

-- the device with an id, once the tickets are confirmed
pub found_once_confirmed : (history : History) (devices : List Device) (id : ℕ)
    → find (λ d. d.id == id) (map (device_once_confirmed history) devices) ≡ option_map (device_once_confirmed history) (find (λ d. d.id == id) devices)
found_once_confirmed history [] id = refl
found_once_confirmed history (device ∷ devices) id = by (device.id == id) (found_once_confirmed history devices id)
  where
    by : (b : Bool) → find (λ d. d.id == id) (map (device_once_confirmed history) devices) ≡ option_map (device_once_confirmed history) (find (λ d. d.id == id) devices)
        → cond b (Some (device_once_confirmed history device)) (find (λ d. d.id == id) (map (device_once_confirmed history) devices))
        ≡ option_map (device_once_confirmed history) (cond b (Some device) (find (λ d. d.id == id) devices))
    by true rest = refl
    by false rest = rest

-- what is true of each element of a map is true of what it is made of
pub All-mapped : {X Y : Type 0} (P : Y → Type 0) (f : X → Y) (xs : List X) → All P (map f xs) → All (λ x. P (f x)) xs
All-mapped P f [] all = All-nil (λ x. P (f x))
All-mapped P f (x ∷ xs) all = All-cons (λ a. P (f a)) x xs (All-head P (f x) (map f xs) all) (All-mapped P f xs (All-tail P (f x) (map f xs) all))

-- each access in flight may reach its frame, whether its device has left or not
pub devices_may : (history : History) (devices : List Device)
    → (All (DeviceMay history) devices → All (DeviceMay history) (map (device_once_confirmed history) devices))
    × (All (DeviceMay history) (map (device_once_confirmed history) devices) → All (DeviceMay history) devices)
devices_may history devices =
    (All-map (DeviceMay history) (device_once_confirmed history) devices, All-mapped (DeviceMay history) (device_once_confirmed history) devices)

-- whether an owner has left, by the parts of the state
pub left_in : (state : State) (owner : Option Owner) → is_of_left_in state.history state.devices owner ≡ is_of_left state owner
left_in state None = refl
left_in state (Some System) = refl
left_in state (Some (OneDevice id)) = refl

-- and the frames that are given back
pub frames_left : (state : State) (frames : List Frame)
    → map (λ frame. given_back (is_of_left_in state.history state.devices frame.owner) frame) frames ≡ map (λ frame. given_back (is_of_left state frame.owner) frame) frames
frames_left state [] = refl
frames_left state (frame ∷ frames) =
    let first : given_back (is_of_left_in state.history state.devices frame.owner) frame ≡ given_back (is_of_left state frame.owner) frame =
    ap (λ b. given_back b frame) (left_in state frame.owner) in
    ap (λ (f : Frame). f ∷ map (λ frame. given_back (is_of_left_in state.history state.devices frame.owner) frame) frames) first
    ∙ ap (λ (fs : List Frame). given_back (is_of_left state frame.owner) frame ∷ fs) (frames_left state frames)

-- what is true of both lists is true of each
pub All-parts : {X : Type 0} (P : X → Type 0) (xs ys : List X) → All P (xs ++ ys) → All P xs × All P ys
All-parts P [] ys all = (All-nil P, all)
All-parts P (x ∷ xs) ys all =
    let rest = All-parts P xs ys (All-tail P x (xs ++ ys) all) in (All-cons P x xs (All-head P x (xs ++ ys) all) rest.0, rest.1)

-- a loop that changes each element in turn
pub one_more_changed : {X : Type 0} (f : X → X) (old now new : List X) (k : ℕ) → k < length old → now ≡ map f (take k old) ++ drop k old → length now ≡ length old
    → ((x : X) → slice_get now k ≡ Some x → new ≡ slice_set now k (f x))
    → (new ≡ map f (take (k + 1) old) ++ drop (k + 1) old) × (length new ≡ length old)
one_more_changed f old now new k below so_far size changes =
    let found = element_at now k (subst (λ n. k < n) (sym size) below) in
    let written : new ≡ slice_set now k (f found.0) = changes found.0 found.1 in
    let is : new ≡ map f (take (k + 1) old) ++ drop (k + 1) old =
    written ∙ map_over_more f old now k found.0 below so_far (sym (get_or_from_slice_get now k found.0 found.0 found.1)) in
    (is, ap (λ (l : List _). length l) written ∙ length-set now k (f found.0) ∙ size)
  where
    element_at : {Y : Type 0} (ys : List Y) (n : ℕ) → n < length ys → (y : Y) × (slice_get ys n ≡ Some y)
    element_at [] n low = absurd (omega arith)
    element_at (y ∷ ys) zero low = (y, refl)
    element_at (y ∷ ys) (suc n) low = let rest = element_at ys n (omega arith) in (rest.0, rest.1)

    length-set : {Y : Type 0} (ys : List Y) (n : ℕ) (y : Y) → length (slice_set ys n y) ≡ length ys
    length-set ys n y = grind (arith, common_steps)

-- The state with its left devices detached, part by part: a device, its attachment, and a frame.
pub device_left : (state : State) (id : ℕ) → device_of (with_left state) id ≡ option_map (device_once_confirmed state.history) (device_of state id)
device_left state id = found_once_confirmed state.history state.devices id

pub attachment_left : (state : State) (id : ℕ) → attachment_of (with_left state) id ≡ once_confirmed state.history (attachment_of state id)
attachment_left state id =
    ap (λ (found : Option Device). option_map_or (λ (device : Device). device.attachment) found Detached) (device_left state id) ∙ by (device_of state id)
  where
    by : (found : Option Device) → option_map_or (λ (device : Device). device.attachment) (option_map (device_once_confirmed state.history) found) Detached
        ≡ once_confirmed state.history (option_map_or (λ (device : Device). device.attachment) found Detached)
    by None = refl
    by (Some device) = refl

pub frame_left : (state : State) (number : ℕ)
    → slice_get (with_left state).frames number ≡ option_map (λ (frame : Frame). given_back (is_of_left state frame.owner) frame) (slice_get state.frames number)
frame_left state number = slice_get-map (λ (frame : Frame). given_back (is_of_left state frame.owner) frame) state.frames number
