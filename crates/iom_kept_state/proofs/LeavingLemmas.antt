-- What stays and what is given back, of devices that left and of those that didn't.
use Rattle.std.proofs.Common.{◌≡◌, ◌∙◌, ◌+◌, ◌<◌, ◌||◌, ◌==◌, not, cond, ℕ, nat_eq, Bool, true, false, if◌then◌else◌, List, [], ◌∷◌, length, map, filter, find, drop, get_or, Option, None, Some, refl, sym, ap, arith}
use Rattle.std.specs.Cmp.{nat_eq_equiv}
use Rattle.std.specs.List.{list_any}
use Rattle.std.specs.Map.{lookup}
use Rattle.std.specs.Option.{option_map_or}
use Rattle.std.proofs.lemmas.Bool.{false≢true}
use Rattle.std.proofs.lemmas.List.{at_drop_more}
use Rattle.std.proofs.lemmas.Map.Entries.{option_filter, lookup-filter-values}
use Rattle.indexmap.specs.IndexMap.{IsUnique}
use Rattle.iom_base.specs.declared.owner.Owner.{Owner}
use Rattle.iom_base.specs.declared.owner.Owner.TheVariants.{System, OneDevice}
use Rattle.iom_ledger.specs.History.{History}
use Rattle.iom_machine.specs.declared.state.Attachment.{Attachment}
use Rattle.iom_machine.specs.declared.state.Attachment.TheVariants.{Detached, Attached, Quarantined, Leaving}
use Rattle.iom_machine.specs.declared.state.Device.{Device}
use Rattle.iom_machine.specs.declared.state.Frame.{Frame}
use Rattle.iom_machine.specs.declared.state.State.{State}
use Rattle.iom_machine.specs.Judging.{attachment_in, is_of_left_in}
use Rattle.iom_machine.specs.Leaving.{has_left, once_confirmed, device_once_confirmed, given_back, with_left}
use Rattle.iom_machine.specs.PowerOn.{empty_frame}
use Rattle.iom_machine.proofs.LeavingLemmas.{frames_left}
use Rattle.iom_kept_state.proofs.FrameLists.{frames_below-same, map-frames_below}
use Rattle.iom_kept_state.specs.Frames.{frame_kept, frame_of, frames_below, frames_in}
use Rattle.iom_kept_state.specs.declared.frames.KeptFrame.{KeptFrame}
use Rattle.iom_kept_state.specs.declared.frames.KeptFrames.{KeptFrames}

-- of a frame that is given back nothing is kept
module _ (left : Option Owner → Bool) (nobody : left None ≡ false) where
  abbrev back : Frame → Frame
  back frame = given_back (left frame.owner) frame

  kept_or_back : (b : Bool) (it : KeptFrame) → option_map_or frame_kept (cond (not b) (Some it) None) empty_frame ≡ given_back b (frame_kept it)
  kept_or_back true it = refl
  kept_or_back false it = refl

  of_found : (found : Option KeptFrame)
      → option_map_or frame_kept (option_filter (λ (it : KeptFrame). not (left it.owner)) found) empty_frame ≡ back (option_map_or frame_kept found empty_frame)
  of_found None = sym (ap (λ (b : Bool). given_back b empty_frame) nobody)
  of_found (Some it) = kept_or_back (left it.owner) it

  pub given_back_all : (old new : KeptFrames) → new.count ≡ old.count → IsUnique nat_eq old.named
      → new.named.entries ≡ filter (λ (e : ℕ × KeptFrame). not (left e.1.owner)) old.named.entries
      → frames_in new ≡ map (λ (frame : Frame). given_back (left frame.owner) frame) (frames_in old)
  given_back_all old new count unique entries =
      ap (λ (n : ℕ). frames_below (frame_of new) n) count
      ∙ frames_below-same (frame_of new) (λ k. back (frame_of old k)) old.count (λ k.
      ap (λ (es : List (ℕ × KeptFrame)). option_map_or frame_kept (lookup (nat_eq k) es) empty_frame) entries
      ∙ ap (λ (o : Option KeptFrame). option_map_or frame_kept o empty_frame) (lookup-filter-values nat_eq_equiv (λ (it : KeptFrame). not (left it.owner)) k old.named.entries unique)
      ∙ of_found (lookup (nat_eq k) old.named.entries))
      ∙ sym (map-frames_below back (frame_of old) old.count)

pub none_filtered : {X : Type 0} (test : X → Bool) (xs : List X) → length xs ≡ 0 → xs ≡ filter test xs
none_filtered test [] none = refl
none_filtered test (x ∷ xs) some = absurd (omega (arith, some))

-- where no device has left
neither : (a b : Bool) → (a || b) ≡ false → (a ≡ false) × (b ≡ false)
neither true b e = absurd (false≢true (sym e))
neither false b e = (refl, e)

pub detached_once : (h : History) (attachment : Attachment) → has_left h attachment ≡ true → Detached ≡ once_confirmed h attachment
detached_once h Detached left = refl
detached_once h (Attached mode ats) left = absurd (false≢true left)
detached_once h (Quarantined ticket mode ats) left = absurd (false≢true left)
detached_once h (Leaving ticket mode ats) left = sym (ap (λ (b : Bool). if b then Detached else Leaving ticket mode ats) left)

pub once_stays : (h : History) (attachment : Attachment) → has_left h attachment ≡ false → attachment ≡ once_confirmed h attachment
once_stays h Detached unchanged = refl
once_stays h (Attached mode ats) unchanged = refl
once_stays h (Quarantined ticket mode ats) unchanged = refl
once_stays h (Leaving ticket mode ats) unchanged = sym (ap (λ (b : Bool). if b then Detached else Leaving ticket mode ats) unchanged)

pub devices_stay : (h : History) (devices : List Device) → list_any (λ (device : Device). has_left h device.attachment) devices ≡ false
    → devices ≡ map (device_once_confirmed h) devices
devices_stay h [] none = refl
devices_stay h (device ∷ devices) none =
    let parts = neither (has_left h device.attachment) (list_any (λ (d : Device). has_left h d.attachment) devices) none in
    ap (λ (a : Attachment). record device { attachment = a } ∷ devices) (once_stays h device.attachment parts.0)
    ∙ ap (λ (ds : List Device). device_once_confirmed h device ∷ ds) (devices_stay h devices parts.1)

attachment_stays : (h : History) (devices : List Device) (id : ℕ) → list_any (λ (device : Device). has_left h device.attachment) devices ≡ false
    → has_left h (attachment_in devices id) ≡ false
attachment_stays h [] id none = refl
attachment_stays h (device ∷ devices) id none =
    let parts = neither (has_left h device.attachment) (list_any (λ (d : Device). has_left h d.attachment) devices) none in
    by (device.id == id) parts.0 (attachment_stays h devices id parts.1)
  where
    by : (b : Bool) → has_left h device.attachment ≡ false → has_left h (attachment_in devices id) ≡ false
        → has_left h (option_map_or (λ (d : Device). d.attachment) (cond b (Some device) (find (λ (d : Device). d.id == id) devices)) Detached) ≡ false
    by true here rest = here
    by false here rest = rest

owner_stays : (h : History) (devices : List Device) (owner : Option Owner) → list_any (λ (device : Device). has_left h device.attachment) devices ≡ false
    → is_of_left_in h devices owner ≡ false
owner_stays h devices None none = refl
owner_stays h devices (Some System) none = refl
owner_stays h devices (Some (OneDevice id)) none = attachment_stays h devices id none

pub frames_stay : (h : History) (devices : List Device) (frames : List Frame) → list_any (λ (device : Device). has_left h device.attachment) devices ≡ false
    → frames ≡ map (λ (frame : Frame). given_back (is_of_left_in h devices frame.owner) frame) frames
frames_stay h devices [] none = refl
frames_stay h devices (frame ∷ frames) none =
    ap (λ (b : Bool). given_back b frame ∷ frames) (sym (owner_stays h devices frame.owner none))
    ∙ ap (λ (fs : List Frame). given_back (is_of_left_in h devices frame.owner) frame ∷ fs) (frames_stay h devices frames none)

-- the state without those that left, by its parts
pub without_left : (old : State) (frames : List Frame) (devices : List Device)
    → frames ≡ map (λ (frame : Frame). given_back (is_of_left_in old.history old.devices frame.owner) frame) old.frames
    → devices ≡ map (device_once_confirmed old.history) old.devices
    → record old { frames = frames; devices = devices } ≡ with_left old
without_left old frames devices f d =
    ap (λ (fs : List Frame). record old { frames = fs; devices = devices }) (f ∙ frames_left old old.frames)
    ∙ ap (λ (ds : List Device). record old { frames = (with_left old).frames; devices = ds }) d

-- a search through a list, one element after the other
module _ {X : Type 0} (test : X → Bool) (xs : List X) (i : ℕ) (x : X) (below : i < length xs) (is : x ≡ get_or xs i x) where
  any_by : (b : Bool) → test x ≡ b → list_any test (drop i xs) ≡ (b || list_any test (drop (i + 1) xs))
  any_by b answer =
      at_drop_more (λ (ys : List X). list_any test ys) xs i x below
      ∙ ap (λ (y : X). test y || list_any test (drop (i + 1) xs)) (sym is)
      ∙ ap (λ (a : Bool). a || list_any test (drop (i + 1) xs)) answer

  pub any_here : test x ≡ true → list_any test (drop i xs) ≡ true
  any_here passes = any_by true passes

  pub any_later : test x ≡ false → list_any test (drop i xs) ≡ list_any test (drop (i + 1) xs)
  any_later fails = any_by false fails
