-- The frames of the ledger machine after a frame is reserved, and after bytes of reserved frames change.
use Rattle.std.proofs.Common.{◌≡◌, ◌≢◌, ◌<◌, ◌∙◌, inl, inr, ℕ, false, List, [], ◌∷◌, length, All, Option, Some, None, option_map, is_some, slice_get, slice_set, refl, sym, ap, subst}
use Rattle.std.proofs.lemmas.List.{length-set}
use Rattle.std.proofs.lemmas.Bool.Decides.{eqb_tells}
use Rattle.std.specs.Option.{option_map_or}
use Rattle.iom_machine.specs.declared.state.Frame.{Frame}
use Rattle.iom_machine.specs.Frames.{is_reserved, with_frame, reserved_for}
use Rattle.iom_base.specs.declared.owner.Owner.{Owner}
use Rattle.iom_table_frames.specs.Owners as owners
use Rattle.iom_world_effects.specs.Frames.{ShowsFrames}
use Rattle.iom_driver.specs.Choices.{owned_by}
use Rattle.iom_driver.proofs.Lists.{get_set_same, get_set_other, get_within, get_there}
use Rattle.iom_driver.proofs.Owners.{all_head, all_tail}

-- a frame of the machine where an owner takes it
abbrev pub owned : Owner → Frame → Frame
owned owner frame = record frame { owner = Some owner }

-- a frame is changed where it is, and no other
frame_changed : (frames : List Frame) (n : ℕ) (change : Frame → Frame) → n < length frames
    → (frame : Frame) × (slice_get frames n ≡ Some frame) × (with_frame frames n change ≡ slice_set frames n (change frame))
frame_changed frames n change lt =
    let there = get_there frames n lt in
    (there.0, there.1, ap (λ (o : Option Frame). option_map_or (λ frame. slice_set frames n (change frame)) o frames) there.1)

pub length-with_frame : (frames : List Frame) (n : ℕ) (change : Frame → Frame) → n < length frames → length (with_frame frames n change) ≡ length frames
length-with_frame frames n change lt =
    let at = frame_changed frames n change lt in
    ap (λ (fs : List Frame). length fs) at.2 ∙ length-set frames n (change at.0)

pub get_with_frame_other : (frames : List Frame) (n k : ℕ) (change : Frame → Frame) → n < length frames → k ≢ n → slice_get (with_frame frames n change) k ≡ slice_get frames k
get_with_frame_other frames n k change lt ne =
    let at = frame_changed frames n change lt in
    ap (λ (fs : List Frame). slice_get fs k) at.2 ∙ get_set_other frames n k (change at.0) ne

pub get_with_frame_same : (frames : List Frame) (n : ℕ) (change : Frame → Frame) (frame : Frame) → slice_get frames n ≡ Some frame → slice_get (with_frame frames n change) n ≡ Some (change frame)
get_with_frame_same frames n change frame at =
    ap (λ (o : Option Frame). slice_get (option_map_or (λ (f : Frame). slice_set frames n (change f)) o frames) n) at ∙ get_set_same frames n (change frame) (get_within frames n frame at)

-- a frame of memory is reserved: it has an owner, and no other frame's bytes change
pub shows_reserved : (memory memory' : List (List ℕ)) (marked : List (Option Owner)) (frames : List Frame) (n : ℕ) (owner : Owner)
    → ShowsFrames memory marked frames → n < length memory → length marked ≡ length memory
    → ((k : ℕ) → k ≢ n → slice_get memory' k ≡ slice_get memory k) → length memory' ≡ length memory
    → ShowsFrames memory' (slice_set marked n (Some owner)) (with_frame frames n (owned owner))
shows_reserved memory memory' marked frames n owner shows lt long same size =
    let inside : n < length frames = rw (shows.size) lt in
    let there = get_there frames n inside in
    record {
      size = length-with_frame frames n (owned owner) inside ∙ shows.size ∙ sym size;
      same_owners = λ k. elim (eqb_tells k n) [
        | inl e ↦ subst (λ j. option_map (λ (f : Frame). f.owner) (slice_get (with_frame frames n (owned owner)) j) ≡ slice_get (slice_set marked n (Some owner)) j) (sym e.1)
            (ap (option_map (λ (f : Frame). f.owner)) (get_with_frame_same frames n (owned owner) there.0 there.1)
            ∙ sym (get_set_same marked n (Some owner) (rw long lt)))
        | inr ne ↦ ap (option_map (λ (f : Frame). f.owner)) (get_with_frame_other frames n k (owned owner) inside ne.1) ∙ shows.same_owners k
            ∙ sym (get_set_other marked n k (Some owner) ne.1)
      ];
      bytes = λ k free. elim (eqb_tells k n) [
        | inl e ↦ absurd (not_free (sym (get_set_same marked n (Some owner) (rw long lt)) ∙ ap (λ j. slice_get (slice_set marked n (Some owner)) j) (sym e.1) ∙ free))
        | inr ne ↦ ap (option_map (λ (f : Frame). f.bytes)) (get_with_frame_other frames n k (owned owner) inside ne.1)
            ∙ shows.bytes k (sym (get_set_other marked n k (Some owner) ne.1) ∙ free) ∙ sym (same k ne.1)
      ];
    }
  where
    not_free : ◌≡◌ {A = Option (Option Owner)} (Some (Some owner)) (Some None) → ⊥
    not_free same = cc

-- frames become an owner's, before their bytes change
pub shows_marked : (owner : Owner) (fs : List ℕ) (memory : List (List ℕ)) (marked : List (Option Owner)) (frames : List Frame) → ShowsFrames memory marked frames → length marked ≡ length memory
    → All (λ f. f < length memory) fs → ShowsFrames memory (owned_by owner fs marked) (reserved_for owner fs frames)
shows_marked owner [] memory marked frames shows long inside = shows
shows_marked owner (f ∷ fs) memory marked frames shows long inside =
    shows_marked owner fs memory (slice_set marked f (Some owner)) _
    (shows_reserved memory memory marked frames f owner shows (all_head (λ g. g < length memory) f fs inside) long (λ k other. refl) refl)
    (length-set marked f (Some owner) ∙ long) (all_tail (λ g. g < length memory) f fs inside)

-- bytes of reserved frames alone change
pub shows_kept : (memory memory' : List (List ℕ)) (marked : List (Option Owner)) (frames : List Frame)
    → ShowsFrames memory marked frames → ((k : ℕ) → slice_get marked k ≡ Some None → slice_get memory' k ≡ slice_get memory k) → length memory' ≡ length memory
    → ShowsFrames memory' marked frames
shows_kept memory memory' marked frames shows same size = record {
  size = shows.size ∙ sym size;
  same_owners = shows.same_owners;
  bytes = λ k free. shows.bytes k free ∙ sym (same k free);
}

-- a frame is reserved in the machine exactly where it has an owner
pub reserved_shown : (memory : List (List ℕ)) (marked : List (Option Owner)) (frames : List Frame) (n : ℕ) → ShowsFrames memory marked frames → is_reserved frames n ≡ owners.has_owner marked n
reserved_shown memory marked frames n shows = by (slice_get frames n) (slice_get marked n) (shows.same_owners n)
  where
    by : (f : Option Frame) (m : Option (Option Owner)) → option_map (λ (g : Frame). g.owner) f ≡ m
        → option_map_or (λ (g : Frame). is_some g.owner) f false ≡ option_map_or (λ (k : Option Owner). is_some k) m false
    by None None same = refl
    by None (Some m) same = cc
    by (Some f) None same = cc
    by (Some f) (Some None) same = let e : f.owner ≡ None = cc in rw e refl
    by (Some f) (Some (Some owner)) same = let e : f.owner ≡ Some owner = cc in rw e refl
