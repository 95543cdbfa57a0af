-- Sectors of data that grows, and the buffer that gathers one.
use Rattle.std.proofs.Common.{◌≡◌, ◌∙◌, ℕ, ◌+◌, ◌-◌, ◌≤◌, List, ◌++◌, length, take, drop, refl, sym, ap, subst, arith, length-append, length-take, length-drop}
use Rattle.std.proofs.lemmas.List.{take-append-le, drop-append-le, length-take-le, take_all}
use Rattle.std.proofs.Math.Seq.{take-append_seam}
use Rattle.iom_virtio_blk.specs.Blocks.{overlaid}

-- a sector that the data has complete is the same once there is more data
pub same_sector : (xs more : List ℕ) (at : ℕ) → at + 512 ≤ length xs → take 512 (drop at (xs ++ more)) ≡ take 512 (drop at xs)
same_sector xs more at le =
    let low : at ≤ length xs = omega arith in
    let long : 512 ≤ length (drop at xs) = simp length-drop (omega arith) in
    rw (drop-append-le at xs more low) (take-append-le 512 (drop at xs) more long)

-- the buffer begins with what it began with and the bytes that were put behind it
pub buffer_front : (buffer got : List ℕ) (r : ℕ) → r + length got ≤ length buffer → take (r + length got) (overlaid buffer r got) ≡ take r buffer ++ got
buffer_front buffer got r le =
    let few : length (take r buffer) ≡ r = length-take-le r buffer (omega arith) in
    let long : length (take r buffer ++ got) ≡ r + length got = simp length-append (rw few refl) in
    subst (λ k. take k (overlaid buffer r got) ≡ take r buffer ++ got) long (take-append_seam (take r buffer ++ got) (drop (r + length got) buffer))

buffer_len : (buffer got : List ℕ) (r : ℕ) → r + length got ≤ length buffer → length (overlaid buffer r got) ≡ length buffer
buffer_len buffer got r le = simp (length-append, length-take, length-drop) (omega arith)

-- the rest of the data grows as the buffer does
pub rest_grows : (buffer xs got : List ℕ) (r : ℕ) → r ≤ length xs → r + length got ≤ length buffer → take r buffer ≡ drop (length xs - r) xs
    → take (r + length got) (overlaid buffer r got) ≡ drop (length xs - r) (xs ++ got)
rest_grows buffer xs got r few le rest =
    let low : length xs - r ≤ length xs = omega arith in
    buffer_front buffer got r le ∙ ap (λ (ys : List ℕ). ys ++ got) rest ∙ sym (drop-append-le (length xs - r) xs got low)

-- a buffer that the data filled is the last sector of the data
pub buffer_filled : (buffer xs got : List ℕ) (r : ℕ) → length buffer ≡ 512 → r ≤ length xs → r + length got ≡ 512 → take r buffer ≡ drop (length xs - r) xs
    → overlaid buffer r got ≡ drop (length xs - r) (xs ++ got)
buffer_filled buffer xs got r full few whole rest =
    let le : r + length got ≤ length buffer = omega arith in
    let all : take (r + length got) (overlaid buffer r got) ≡ overlaid buffer r got = take_all (r + length got) (overlaid buffer r got) (let len = buffer_len buffer got r le in omega arith) in
    sym all ∙ rest_grows buffer xs got r few le rest
