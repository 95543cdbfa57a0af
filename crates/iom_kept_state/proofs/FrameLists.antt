-- The list of the frames with the numbers below some number, and of those that are kept.
use Rattle.std.proofs.Common.{◌≡◌, ◌≢◌, ◌∙◌, ℕ, zero, suc, ◌+◌, ◌<◌, ◌≤◌, inl, inr, nat_eq, nat_lt, Bool, true, false, if◌then◌else◌, List, [], ◌∷◌, ◌++◌, length, map, Option, None, Some, slice_get, refl, sym, ap, subst, length-append, arith}
use Rattle.std.specs.Prelude.{replicate, slice_set}
use Rattle.std.specs.Map.{lookup}
use Rattle.std.specs.Option.{option_map, option_map_or, option_and_then}
use Rattle.std.proofs.lemmas.Bool.{cases_eq, eqb-true, eq-eqb, false≢true}
use Rattle.std.proofs.lemmas.Bool.Decides.{nat_tests}
use Rattle.std.proofs.lemmas.List.{map_push, replicate_more}
use Rattle.std.proofs.lemmas.Option.{none-some, same_Some, slice_get_past}
use Rattle.indexmap.specs.IndexMap.{get}
use Rattle.iom_base.specs.Sizes.{page_size}
use Rattle.iom_machine.specs.declared.state.Frame.{Frame}
use Rattle.iom_machine.specs.Frames.{with_frame, bytes_of}
use Rattle.iom_machine.specs.PowerOn.{empty_frame}
use Rattle.iom_machine.proofs.ByteLemmas.{slice_get-set_same, slice_get-set_other}
use Rattle.iom_kept_state.specs.Frames.{bytes_kept, frame_kept, frame_of, frames_below, frames_in, kept_at, ChangesFrame}
use Rattle.iom_kept_state.specs.declared.frames.KeptFrame.{KeptFrame}
use Rattle.iom_kept_state.specs.declared.frames.KeptFrames.{KeptFrames}

-- lists with the same element at each place are the same
pub ext_slice_get : {X : Type 0} (xs ys : List X) → ((k : ℕ) → slice_get xs k ≡ slice_get ys k) → xs ≡ ys
ext_slice_get [] [] same = refl
ext_slice_get [] (y ∷ ys) same = absurd (none-some y (same 0))
ext_slice_get (x ∷ xs) [] same = absurd (none-some x (sym (same 0)))
ext_slice_get (x ∷ xs) (y ∷ ys) same =
    ap (λ h. h ∷ xs) (same_Some x y (same 0)) ∙ ap (λ t. y ∷ t) (ext_slice_get xs ys (λ k. same (suc k)))

slice_get-before : {X : Type 0} (xs ys : List X) (k : ℕ) → k < length xs → slice_get (xs ++ ys) k ≡ slice_get xs k
slice_get-before [] ys k below = absurd (omega (arith, below))
slice_get-before (x ∷ xs) ys zero below = refl
slice_get-before (x ∷ xs) ys (suc k) below = slice_get-before xs ys k (omega (arith, below))

slice_get-last : {X : Type 0} (xs : List X) (x : X) → slice_get (xs ++ x ∷ []) (length xs) ≡ Some x
slice_get-last [] x = refl
slice_get-last (y ∷ ys) x = slice_get-last ys x

pub length-frames_below : (at : ℕ → Frame) (n : ℕ) → length (frames_below at n) ≡ n
length-frames_below at zero = refl
length-frames_below at (suc n) = omega (arith, length-append (frames_below at n) (at n ∷ []), length-frames_below at n)

-- each frame below stands at its number
frame_below : (at : ℕ → Frame) (n k : ℕ) → k < n → slice_get (frames_below at n) k ≡ Some (at k)
frame_below at zero k below = absurd (omega (arith, below))
frame_below at (suc n) k below = elim (cases_eq k n) [
  | inl same ↦
      subst (λ (j : ℕ). slice_get (frames_below at n ++ at n ∷ []) j ≡ Some (at j)) (sym same)
      (ap (λ (j : ℕ). slice_get (frames_below at n ++ at n ∷ []) j) (sym (length-frames_below at n)) ∙ slice_get-last (frames_below at n) (at n))
  | inr other ↦
      slice_get-before (frames_below at n) (at n ∷ []) k (omega (arith, below, other, length-frames_below at n))
      ∙ frame_below at n k (omega (arith, below, other))
]

is_below : (k n : ℕ) → nat_lt k n ≡ true → k < n
is_below k n test = grind (arith, nat_tests)

isnt_below : (k n : ℕ) → nat_lt k n ≡ false → n ≤ k
isnt_below k n test = grind (arith, nat_tests)

pub below_is : (k n : ℕ) → k < n → nat_lt k n ≡ true
below_is k n below = grind (arith, nat_tests)

-- and no other does
pub slice_get-frames_below : (at : ℕ → Frame) (n k : ℕ) → slice_get (frames_below at n) k ≡ (if nat_lt k n then Some (at k) else None)
slice_get-frames_below at n k = by (nat_lt k n) refl
  where
    by : (b : Bool) → nat_lt k n ≡ b → slice_get (frames_below at n) k ≡ (if b then Some (at k) else None)
    by true test = frame_below at n k (is_below k n test)
    by false test =
        let low : n ≤ k = isnt_below k n test in
        slice_get_past (frames_below at n) k (omega (arith, low, length-frames_below at n))

pub frames_below-same : (at new : ℕ → Frame) (n : ℕ) → ((k : ℕ) → at k ≡ new k) → frames_below at n ≡ frames_below new n
frames_below-same at new zero same = refl
frames_below-same at new (suc n) same =
    ap (λ (l : List Frame). l ++ at n ∷ []) (frames_below-same at new n same) ∙ ap (λ (f : Frame). frames_below new n ++ f ∷ []) (same n)

pub map-frames_below : (change : Frame → Frame) (at : ℕ → Frame) (n : ℕ) → map change (frames_below at n) ≡ frames_below (λ k. change (at k)) n
map-frames_below change at zero = refl
map-frames_below change at (suc n) = map_push change (frames_below at n) (at n) ∙ ap (λ (l : List Frame). l ++ change (at n) ∷ []) (map-frames_below change at n)

pub frames_below-replicate : (frame : Frame) (n : ℕ) → frames_below (λ k. frame) n ≡ replicate n frame
frames_below-replicate frame zero = refl
frames_below-replicate frame (suc n) =
    let one_more : n + 1 ≡ suc n = omega arith in
    ap (λ (l : List Frame). l ++ frame ∷ []) (frames_below-replicate frame n) ∙ replicate_more n frame ∙ ap (λ (k : ℕ). replicate k frame) one_more

-- a list of frames where one is changed
changed_there : (frames : List Frame) (k : ℕ) (change : Frame → Frame) (found : Option Frame) → slice_get frames k ≡ found
    → slice_get (with_frame frames k change) k ≡ option_map change found
changed_there frames k change None none = ap (λ (o : Option Frame). slice_get (option_map_or (λ (f : Frame). slice_set frames k (change f)) o frames) k) none ∙ none
changed_there frames k change (Some frame) at =
    ap (λ (o : Option Frame). slice_get (option_map_or (λ (f : Frame). slice_set frames k (change f)) o frames) k) at
    ∙ slice_get-set_same frames k frame (change frame) at

stays_elsewhere : (frames : List Frame) (k j : ℕ) (change : Frame → Frame) (found : Option Frame) → slice_get frames k ≡ found → j ≢ k
    → slice_get (with_frame frames k change) j ≡ slice_get frames j
stays_elsewhere frames k j change None none other = ap (λ (o : Option Frame). slice_get (option_map_or (λ (f : Frame). slice_set frames k (change f)) o frames) j) none
stays_elsewhere frames k j change (Some frame) at other =
    ap (λ (o : Option Frame). slice_get (option_map_or (λ (f : Frame). slice_set frames k (change f)) o frames) j) at
    ∙ slice_get-set_other frames k j (change frame) other

mapped : (b : Bool) (frame : Frame) (change : Frame → Frame)
    → ◌≡◌ {A = Option Frame} (if b then Some (change frame) else None) (option_map change (if b then Some frame else None))
mapped true frame change = refl
mapped false frame change = refl

pub with_frame-frames_below : (at new : ℕ → Frame) (n k : ℕ) (change : Frame → Frame) → ((j : ℕ) → new j ≡ (if nat_eq k j then change (at j) else at j))
    → frames_below new n ≡ with_frame (frames_below at n) k change
with_frame-frames_below at new n k change changes = ext_slice_get (frames_below new n) (with_frame (frames_below at n) k change) (λ j. by j (nat_eq k j) refl)
  where
    by : (j : ℕ) (b : Bool) → nat_eq k j ≡ b → slice_get (frames_below new n) j ≡ slice_get (with_frame (frames_below at n) k change) j
    by j true test =
        let here : k ≡ j = eqb-true k j test in
        let now : new j ≡ change (at j) = changes j ∙ ap (λ (b : Bool). if b then change (at j) else at j) test in
        slice_get-frames_below new n j
        ∙ ap (λ (f : Frame). if nat_lt j n then Some f else None) now
        ∙ mapped (nat_lt j n) (at j) change
        ∙ ap (λ (o : Option Frame). option_map change o) (sym (slice_get-frames_below at n j))
        ∙ subst (λ (i : ℕ). option_map change (slice_get (frames_below at n) i) ≡ slice_get (with_frame (frames_below at n) k change) i) here
        (sym (changed_there (frames_below at n) k change (slice_get (frames_below at n) k) refl))
    by j false test =
        let other : j ≢ k = λ same. absurd (false≢true (sym test ∙ eq-eqb k j (sym same))) in
        let now : new j ≡ at j = changes j ∙ ap (λ (b : Bool). if b then change (at j) else at j) test in
        slice_get-frames_below new n j
        ∙ ap (λ (f : Frame). if nat_lt j n then Some f else None) now
        ∙ sym (slice_get-frames_below at n j)
        ∙ sym (stays_elsewhere (frames_below at n) k j change (slice_get (frames_below at n) k) refl other)

-- memory where a frame is changed
pub changed : (old new : KeptFrames) (number : ℕ) (change : Frame → Frame) → ChangesFrame old new number change → frames_in new ≡ with_frame (frames_in old) number change
changed old new number change changes =
    ap (λ (n : ℕ). frames_below (frame_of new) n) changes.0 ∙ with_frame-frames_below (frame_of old) (frame_of new) old.count number change changes.1

-- and where there is no such frame
pub unchanged_beyond : (kept : KeptFrames) (number : ℕ) (change : Frame → Frame) → kept.count ≤ number → frames_in kept ≡ with_frame (frames_in kept) number change
unchanged_beyond kept number change beyond =
    let none : slice_get (frames_in kept) number ≡ None = slice_get_past (frames_in kept) number (omega (arith, beyond, length-frames_below (frame_of kept) kept.count)) in
    sym (ap (λ (o : Option Frame). option_map_or (λ (f : Frame). slice_set (frames_in kept) number (change f)) o (frames_in kept)) none)

-- memory of which nothing is kept
pub nothing_kept : (kept : KeptFrames) → kept.named.entries ≡ [] → frames_in kept ≡ replicate kept.count empty_frame
nothing_kept kept none =
    frames_below-same (frame_of kept) (λ k. empty_frame) kept.count (λ k. ap (λ es. option_map_or frame_kept (lookup (nat_eq k) es) empty_frame) none)
    ∙ frames_below-replicate empty_frame kept.count

-- what is kept of a frame tells its owner and its bytes
owner_by : (b : Bool) (found : Option KeptFrame)
    → option_and_then (λ (frame : Frame). frame.owner) (if b then Some (option_map_or frame_kept found empty_frame) else None) ≡ option_and_then (λ (it : KeptFrame). it.owner) (if b then found else None)
owner_by true None = refl
owner_by true (Some it) = refl
owner_by false found = refl

pub owner_kept : (kept : KeptFrames) (number : ℕ) (found : Option KeptFrame) → found ≡ kept_at kept number
    → option_and_then (λ (frame : Frame). frame.owner) (slice_get (frames_in kept) number) ≡ option_and_then (λ (it : KeptFrame). it.owner) found
owner_kept kept number found is =
    ap (λ (o : Option Frame). option_and_then (λ (frame : Frame). frame.owner) o) (slice_get-frames_below (frame_of kept) kept.count number)
    ∙ owner_by (nat_lt number kept.count) (get nat_eq kept.named number)
    ∙ ap (λ (o : Option KeptFrame). option_and_then (λ (it : KeptFrame). it.owner) o) (sym is)

bytes_by : (found : Option KeptFrame)
    → option_map_or (λ (frame : Frame). frame.bytes) (Some (option_map_or frame_kept found empty_frame)) [] ≡ option_map_or (λ (it : KeptFrame). bytes_kept it.bytes.items) found (replicate page_size 0)
bytes_by None = refl
bytes_by (Some it) = refl

pub bytes_there : (kept : KeptFrames) (number : ℕ) (found : Option KeptFrame) → number < kept.count → found ≡ kept_at kept number
    → bytes_of (frames_in kept) number ≡ option_map_or (λ (it : KeptFrame). bytes_kept it.bytes.items) found (replicate page_size 0)
bytes_there kept number found below is =
    let test : nat_lt number kept.count ≡ true = below_is number kept.count below in
    let own : found ≡ get nat_eq kept.named number = is ∙ ap (λ (b : Bool). if b then get nat_eq kept.named number else None) test in
    ap (λ (o : Option Frame). option_map_or (λ (frame : Frame). frame.bytes) o []) (frame_below (frame_of kept) kept.count number below)
    ∙ bytes_by (get nat_eq kept.named number)
    ∙ ap (λ (o : Option KeptFrame). option_map_or (λ (it : KeptFrame). bytes_kept it.bytes.items) o (replicate page_size 0)) (sym own)

pub bytes_beyond : (kept : KeptFrames) (number : ℕ) → kept.count ≤ number → bytes_of (frames_in kept) number ≡ []
bytes_beyond kept number beyond =
    ap (λ (o : Option Frame). option_map_or (λ (frame : Frame). frame.bytes) o [])
    (slice_get_past (frames_in kept) number (omega (arith, beyond, length-frames_below (frame_of kept) kept.count)))
