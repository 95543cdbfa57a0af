-- Bytes that are stored in a frame that is nobody's, as the ledger machine sees them.
use Rattle.std.proofs.Common.{◌≡◌, ◌<◌, ◌∙◌, inl, inr, ℕ, List, [], length, Option, Some, None, option_map, slice_get, slice_set, refl, sym, ap, subst}
use Rattle.std.specs.Option.{option_map_or}
use Rattle.std.proofs.lemmas.Bool.Decides.{eqb_tells}
use Rattle.std.proofs.lemmas.List.{length-set}
use Rattle.iom_base.specs.declared.owner.Owner.{Owner}
use Rattle.iom_base.specs.Bytes.{with_bytes}
use Rattle.iom_machine.specs.declared.state.Frame.{Frame}
use Rattle.iom_machine.specs.Frames.{bytes_of, stored}
use Rattle.iom_world_effects.specs.Frames.{ShowsFrames}
use Rattle.iom_driver.proofs.Lists.{get_set_same, get_set_other, get_within}

-- the frame of the machine that has these bytes
frame_by_bytes : (o : Option Frame) (bytes : List ℕ) → option_map (λ (f : Frame). f.bytes) o ≡ Some bytes → (frame : Frame) × (o ≡ Some frame) × (frame.bytes ≡ bytes)
frame_by_bytes None bytes is = cc
frame_by_bytes (Some frame) bytes is = (frame, refl, (let same : frame.bytes ≡ bytes = cc in same))

-- what the machine shows of the bytes of a frame that is nobody's
pub bytes_shown : (memory : List (List ℕ)) (owners : List (Option Owner)) (frames : List Frame) (n : ℕ) (bytes : List ℕ) → ShowsFrames memory owners frames → slice_get owners n ≡ Some None
    → slice_get memory n ≡ Some bytes → bytes_of frames n ≡ bytes
bytes_shown memory owners frames n bytes shows free there = by (slice_get frames n) (shows.bytes n free ∙ there)
  where
    by : (o : Option Frame) → option_map (λ (f : Frame). f.bytes) o ≡ Some bytes → option_map_or (λ (f : Frame). f.bytes) o [] ≡ bytes
    by None is = cc
    by (Some frame) is = cc

-- the frame, where the bytes stand from the offset on
abbrev rewritten : Frame → ℕ → List ℕ → Frame
rewritten frame offset bytes = record frame { bytes = with_bytes frame.bytes offset bytes }

-- the machine's frames show the memory where bytes are stored
pub frames_stored : (memory : List (List ℕ)) (owners : List (Option Owner)) (frames : List Frame) (n offset : ℕ) (bytes replacement : List ℕ)
    → ShowsFrames memory owners frames → slice_get owners n ≡ Some None → slice_get memory n ≡ Some bytes
    → ShowsFrames (slice_set memory n (with_bytes bytes offset replacement)) owners (stored frames n offset replacement)
frames_stored memory owners frames n offset bytes replacement shows free there =
    subst (λ (fs : List Frame). ShowsFrames (slice_set memory n (with_bytes bytes offset replacement)) owners fs) (sym stored_is) (record {
      size = length-set frames n frame' ∙ shows.size ∙ sym (length-set memory n (with_bytes bytes offset replacement));
      same_owners = λ k. elim (eqb_tells k n) [
        | inl same ↦ subst (λ (j : ℕ). option_map (λ (f : Frame). f.owner) (slice_get (slice_set frames n frame') j) ≡ slice_get owners j) (sym same.1)
            (ap (option_map (λ (f : Frame). f.owner)) (get_set_same frames n frame' inside) ∙ sym (ap (option_map (λ (f : Frame). f.owner)) at.1) ∙ shows.same_owners n)
        | inr other ↦ ap (option_map (λ (f : Frame). f.owner)) (get_set_other frames n k frame' other.1) ∙ shows.same_owners k
      ];
      bytes = λ k unreserved. elim (eqb_tells k n) [
        | inl same ↦ subst (λ (j : ℕ). option_map (λ (f : Frame). f.bytes) (slice_get (slice_set frames n frame') j) ≡ slice_get (slice_set memory n (with_bytes bytes offset replacement)) j) (sym same.1)
            (ap (option_map (λ (f : Frame). f.bytes)) (get_set_same frames n frame' inside)
            ∙ ap (λ (b : List ℕ). Some (with_bytes b offset replacement)) at.2
            ∙ sym (get_set_same memory n (with_bytes bytes offset replacement) (get_within memory n bytes there)))
        | inr other ↦ ap (option_map (λ (f : Frame). f.bytes)) (get_set_other frames n k frame' other.1) ∙ shows.bytes k unreserved
            ∙ sym (get_set_other memory n k (with_bytes bytes offset replacement) other.1)
      ];
    })
  where
    at : (frame : Frame) × (slice_get frames n ≡ Some frame) × (frame.bytes ≡ bytes)
    at = frame_by_bytes (slice_get frames n) bytes (shows.bytes n free ∙ there)

    frame' : Frame
    frame' = rewritten at.0 offset replacement

    inside : n < length frames
    inside = get_within frames n at.0 at.1

    stored_is : stored frames n offset replacement ≡ slice_set frames n frame'
    stored_is = ap (λ (o : Option Frame). option_map_or (λ (f : Frame). slice_set frames n (rewritten f offset replacement)) o frames) at.1
