-- Tables that are given back are free, where no device may reach them.
use Rattle.std.proofs.Common.{◌≡◌, ◌≢◌, ◌∙◌, inl, inr, ℕ, zero, suc, ◌<◌, Bool, false, List, [], ◌∷◌, length, All, Contains, Option, None, Some, is_some, get_or, slice_get, slice_set, refl, sym, ap, subst, arith}
use Rattle.std.specs.Option.{option_map_or, option_and_then}
use Rattle.std.proofs.lemmas.Bool.{cases_eq}
use Rattle.std.proofs.lemmas.List.Elements.{All-contains}
use Rattle.iom_ledger.specs.History.{NoneMayReach}
use Rattle.iom_machine.specs.declared.state.Frame.{Frame}
use Rattle.iom_machine.specs.declared.state.State.{State}
use Rattle.iom_machine.specs.Frames.{is_reserved, with_frame, IsFree}
use Rattle.iom_machine.specs.PowerOn.{empty_frame}
use Rattle.iom_machine.specs.Returning.{MayGiveBackOf, MayGiveBack, frames_returned, with_returned}
use Rattle.iom_machine.proofs.ByteLemmas.{slice_get-set_same, slice_get-set_other}
use Rattle.iom_machine.proofs.InvariantLemmas.{length-with_frame}

-- whether a frame is reserved, where it stands so
abbrev reserved_at : Option Frame → Bool
reserved_at found = option_map_or (λ (frame : Frame). is_some frame.owner) found false

-- the frames, where the one of this number is emptied; and where it stands so
abbrev emptied : List Frame → ℕ → List Frame
emptied frames number = with_frame frames number (λ frame. empty_frame)

abbrev emptied_at : List Frame → ℕ → Option Frame → List Frame
emptied_at frames number found = option_map_or (λ (frame : Frame). slice_set frames number empty_frame) found frames

-- a frame that is emptied isn't reserved, and the others are as before
emptied_here : (frames : List Frame) (number : ℕ) (found : Option Frame) → slice_get frames number ≡ found → is_reserved (emptied frames number) number ≡ false
emptied_here frames number None none =
    ap (λ (o : Option Frame). is_reserved (emptied_at frames number o) number) none ∙ ap reserved_at none
emptied_here frames number (Some frame) at =
    ap (λ (o : Option Frame). is_reserved (emptied_at frames number o) number) at ∙ ap reserved_at (slice_get-set_same frames number frame empty_frame at)

emptied_elsewhere : (frames : List Frame) (number other : ℕ) (found : Option Frame) → slice_get frames number ≡ found → other ≢ number
    → is_reserved (emptied frames number) other ≡ is_reserved frames other
emptied_elsewhere frames number other None none differ = ap (λ (o : Option Frame). is_reserved (emptied_at frames number o) other) none
emptied_elsewhere frames number other (Some frame) at differ =
    ap (λ (o : Option Frame). is_reserved (emptied_at frames number o) other) at ∙ ap reserved_at (slice_get-set_other frames number other empty_frame differ)

-- one that isn't reserved stays so
stays_unreserved : (numbers : List ℕ) (frames : List Frame) (number : ℕ) → is_reserved frames number ≡ false → is_reserved (frames_returned numbers frames) number ≡ false
stays_unreserved [] frames number free = free
stays_unreserved (first ∷ numbers) frames number free = stays_unreserved numbers (emptied frames first) number (elim (cases_eq number first) [
  | inl same ↦ subst (λ k. is_reserved (emptied frames first) k ≡ false) (sym same) (emptied_here frames first (slice_get frames first) refl)
  | inr other ↦ emptied_elsewhere frames first number (slice_get frames first) refl other ∙ free
])

-- each that is given back isn't
unreserved : (numbers : List ℕ) (frames : List Frame) (number k : ℕ) → k < length numbers → get_or numbers k number ≡ number
    → is_reserved (frames_returned numbers frames) number ≡ false
unreserved [] frames number k below at = absurd (omega (arith, below))
unreserved (first ∷ numbers) frames number zero below at =
    stays_unreserved numbers (emptied frames first) number
    (subst (λ n. is_reserved (emptied frames first) n ≡ false) at (emptied_here frames first (slice_get frames first) refl))
unreserved (first ∷ numbers) frames number (suc k) below at = unreserved numbers (emptied frames first) number k (omega (arith, below)) at

-- as many frames as before
same_length : (numbers : List ℕ) (frames : List Frame) → length (frames_returned numbers frames) ≡ length frames
same_length [] frames = refl
same_length (first ∷ numbers) frames = same_length numbers (emptied frames first) ∙ length-with_frame frames first (λ frame. empty_frame)

-- what may be given back is a frame of the memory
is_there : (state : State) (frames : List Frame) (number : ℕ) → MayGiveBackOf state (option_and_then (λ (frame : Frame). frame.owner) (slice_get frames number)) → number < length frames
is_there state [] number may = absurd may
is_there state (frame ∷ frames) zero may = omega arith
is_there state (frame ∷ frames) (suc number) may = let below : number < length frames = is_there state frames number may in omega (arith, below)

pub returned_tables_are_free : (state : State) (returned : List ℕ) (number : ℕ)
    → All (MayGiveBack state) returned → Contains returned number → NoneMayReach state.history number → IsFree (with_returned returned state) number
returned_tables_are_free state returned number all named none =
    let below : number < length state.frames = is_there state state.frames number (All-contains (MayGiveBack state) returned number all named).1 in
    let size = same_length returned state.frames in
    (subst (λ n. number < n) (sym size) below, unreserved returned state.frames number named.0 named.1 named.2, none)
