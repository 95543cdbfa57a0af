-- The frames of the ledger machine after those of devices that have left are given back.
use Rattle.std.proofs.Common.{◌≡◌, ◌∙◌, ℕ, Bool, true, false, List, length, map, Option, Some, None, option_map, slice_get, refl, sym, ap, if◌then◌else◌}
use Rattle.std.proofs.lemmas.List.{length-map}
use Rattle.std.proofs.lemmas.Option.{slice_get-map}
use Rattle.iom_base.specs.declared.owner.Owner.{Owner}
use Rattle.iom_machine.specs.declared.state.Frame.{Frame}
use Rattle.iom_machine.specs.Leaving.{given_back}
use Rattle.iom_machine.specs.PowerOn.{empty_frame}
use Rattle.iom_phys_mem.specs.Words.{zeroed}
use Rattle.iom_world_effects.specs.Frames.{ShowsFrames}

-- a frame that is given back is nobody's
abbrev pub mark_back : (Option Owner → Bool) → Option Owner → Option Owner
mark_back left mark = if left mark then None else mark

-- frames with these owners are zero now, and all others as they were
pub record GivesFramesBack (left : Option Owner → Bool) (owners : List (Option Owner)) (memory memory' : List (List ℕ)) : Type 0 where
  pub size : length memory' ≡ length memory
  pub own : (n : ℕ) (mark : Option Owner) → slice_get owners n ≡ Some mark → left mark ≡ true → slice_get memory' n ≡ Some zeroed
  pub others : (n : ℕ) (mark : Option Owner) → slice_get owners n ≡ Some mark → left mark ≡ false → slice_get memory' n ≡ slice_get memory n

zeros : empty_frame.bytes ≡ zeroed
unfolding zeroed
zeros = refl

module _ (left : Option Owner → Bool) (none : left None ≡ false) where
  abbrev pub back : Frame → Frame
  back frame = given_back (left frame.owner) frame

  back_owner : (frame : Frame) → (back frame).owner ≡ mark_back left frame.owner
  back_owner frame = by (left frame.owner)
    where
      by : (b : Bool) → (given_back b frame).owner ≡ (if b then None else frame.owner)
      by true = refl
      by false = refl

  owner_at : (f : Option Frame) (m : Option (Option Owner)) → option_map (λ (frame : Frame). frame.owner) f ≡ m
      → option_map (λ (frame : Frame). frame.owner) (option_map back f) ≡ option_map (mark_back left) m
  owner_at None None same = refl
  owner_at None (Some m) same = cc
  owner_at (Some f) None same = cc
  owner_at (Some f) (Some m) same = let e : f.owner ≡ m = cc in ap Some (back_owner f ∙ ap (mark_back left) e)

  -- a frame that is nobody's now: it was given back, or was nobody's before
  bytes_at : (n : ℕ) (owners : List (Option Owner)) (memory memory' : List (List ℕ)) → GivesFramesBack left owners memory memory'
      → (f : Option Frame) (m : Option (Option Owner)) → slice_get owners n ≡ m → option_map (λ (frame : Frame). frame.owner) f ≡ m
      → (m ≡ Some None → option_map (λ (frame : Frame). frame.bytes) f ≡ slice_get memory n)
      → option_map (mark_back left) m ≡ Some None → option_map (λ (frame : Frame). frame.bytes) (option_map back f) ≡ slice_get memory' n
  bytes_at n owners memory memory' gives None None there same bytes free = cc
  bytes_at n owners memory memory' gives None (Some m) there same bytes free = cc
  bytes_at n owners memory memory' gives (Some f) None there same bytes free = cc
  bytes_at n owners memory memory' gives (Some f) (Some m) there same bytes free =
      let e : f.owner ≡ m = cc in by (left m) refl
    where
      owns : f.owner ≡ m
      owns = cc

      by : (b : Bool) → left m ≡ b → option_map (λ (frame : Frame). frame.bytes) (option_map back (Some f)) ≡ slice_get memory' n
      by true gone =
          ap (λ b. Some (given_back b f).bytes) (ap left owns ∙ gone) ∙ ap Some zeros ∙ sym (gives.own n m there gone)
      by false unchanged =
          let nobody : m ≡ None = (let back_is : Some (if left m then None else m) ≡ Some None = free in (let k : (if left m then None else m) ≡ None = cc in sym (ap (λ b. if b then None else m) unchanged) ∙ k)) in
          ap (λ b. Some (given_back b f).bytes) (ap left owns ∙ unchanged) ∙ bytes (ap Some nobody) ∙ sym (gives.others n m there unchanged)

  pub shows_given_back : (owners : List (Option Owner)) (memory memory' : List (List ℕ)) (frames : List Frame) → ShowsFrames memory owners frames → GivesFramesBack left owners memory memory'
      → ShowsFrames memory' (map (mark_back left) owners) (map back frames)
  shows_given_back owners memory memory' frames shows gives = record {
    size = length-map frames back ∙ shows.size ∙ sym gives.size;
    same_owners = λ n. ap (option_map (λ (frame : Frame). frame.owner)) (slice_get-map back frames n) ∙ owner_at (slice_get frames n) (slice_get owners n) (shows.same_owners n) ∙ sym (slice_get-map (mark_back left) owners n);
    bytes = λ n free. ap (option_map (λ (frame : Frame). frame.bytes)) (slice_get-map back frames n)
        ∙ bytes_at n owners memory memory' gives (slice_get frames n) (slice_get owners n) refl (shows.same_owners n) (λ nobody. shows.bytes n nobody) (sym (slice_get-map (mark_back left) owners n) ∙ free);
  }
