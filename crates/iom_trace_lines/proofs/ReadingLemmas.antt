-- What waits in the buffer, as lines are taken of it and bytes are read behind it.
use Rattle.std.proofs.Common.{◌≡◌, ◌≢◌, ◌∙◌, ℕ, ◌+◌, ◌-◌, ◌<◌, ◌≤◌, List, [], ◌∷◌, ◌++◌, length, take, drop, get_or, Option, None, Some, IfSome, refl, sym, ap, subst, arith, append_assoc, append-nil, take-add}
use Rattle.std.specs.Io.KnownBytes.{Consumes, IsAtEnd}
use Rattle.std.specs.List.{slice_range}
use Rattle.std.proofs.KnownBytes.{Consumes-trans}
use Rattle.std.proofs.lemmas.Grind.{common_steps}
use Rattle.std.proofs.lemmas.List.{length-take, length-drop, drop-take, drop-drop}
use Rattle.std.proofs.lemmas.List.Concat.{flat_map-append}
use Rattle.std.proofs.lemmas.List.Elements.{All-push}
use Rattle.iom_script.specs.Grammar.{bytes_of_lines}
use Rattle.iom_script.specs.Words.{IsWithout}
use Rattle.iom_script.proofs.CutLemmas.{cut_here, without_front}
use Rattle.iom_trace_lines.specs.Taken.{BufferHolds, HasTaken, AreLines}

-- the bytes of one line more
bytes_more : (lines : List (List ℕ)) (line : List ℕ) → bytes_of_lines (lines ++ line ∷ []) ≡ bytes_of_lines lines ++ (line ++ 10 ∷ [])
bytes_more lines line = flat_map-append (λ l. l ++ 10 ∷ []) lines (line ∷ []) ∙ ap (λ t. bytes_of_lines lines ++ t) (append-nil (line ++ 10 ∷ []))

-- so many bytes stand between the places
length_between : (buffer : List ℕ) (start end : ℕ) → start ≤ end → end ≤ length buffer → length (slice_range buffer start end) ≡ end - start
length_between buffer start end order fits =
    length-take (end - start) (drop start buffer) ∙ omega (arith, order, fits, length-drop start buffer)

-- the first of them
front_between : (buffer : List ℕ) (start end k : ℕ) → start ≤ end → end ≤ length buffer → k < end - start → take k (slice_range buffer start end) ≡ slice_range buffer start (start + k)
front_between buffer start end k order fits low = grind (arith, common_steps)

-- and those behind the next one
back_between : (buffer : List ℕ) (start end k : ℕ) → start ≤ end → end ≤ length buffer → k < end - start → drop (k + 1) (slice_range buffer start end) ≡ slice_range buffer (start + k + 1) end
back_between buffer start end k order fits low =
    let count : end - start ≡ (k + 1) + (end - (start + k + 1)) = omega (arith, low) in
    let place : start + (k + 1) ≡ start + k + 1 = omega arith in
    ap (λ (n : ℕ). drop (k + 1) (take n (drop start buffer))) count
    ∙ drop-take (k + 1) (end - (start + k + 1)) (drop start buffer)
    ∙ ap (λ (l : List ℕ). take (end - (start + k + 1)) l) (drop-drop (k + 1) start buffer ∙ ap (λ (n : ℕ). drop n buffer) place)

-- a line is taken, up to the first line feed
pub line_taken : (lines : List (List ℕ)) (buffer : List ℕ) (start end k : ℕ) (first now : Option (List ℕ)) → HasTaken lines buffer start end first now
    → k < length (slice_range buffer start end) → get_or (slice_range buffer start end) k 0 ≡ 10 → ((j : ℕ) → j < k → get_or (slice_range buffer start end) j 0 ≢ 10)
    → (start ≤ start + k) × (start + k ≤ length buffer) × HasTaken (lines ++ slice_range buffer start (start + k) ∷ []) buffer (start + k + 1) end first now
line_taken lines buffer start end k first now has low here apart =
    let (order, fits, room, is) = has.holds in
    let small : k < end - start = omega (arith, low, length_between buffer start end order fits) in
    let line = slice_range buffer start (start + k) in
    let rest = slice_range buffer (start + k + 1) end in
    let front = front_between buffer start end k order fits small in
    let cut : has.waiting ≡ line ++ 10 ∷ rest =
    is ∙ cut_here 10 (slice_range buffer start end) k low here
    ∙ ap (λ (l : List ℕ). l ++ 10 ∷ drop (k + 1) (slice_range buffer start end)) front
    ∙ ap (λ (l : List ℕ). line ++ 10 ∷ l) (back_between buffer start end k order fits small) in (
      omega arith,
      omega (arith, small, order, fits),
      record {
        whole = All-push (IsWithout 10) lines line has.whole (subst (IsWithout 10) front (without_front 10 k (slice_range buffer start end) (omega (arith, low)) apart));
        read = has.read;
        consumed = has.consumed;
        waiting = rest;
        holds = (omega (arith, small, order), fits, room, refl);
        is_read = has.is_read ∙ ap (λ (l : List ℕ). bytes_of_lines lines ++ l) (cut ∙ sym (append_assoc line (10 ∷ []) rest)) ∙ sym (append_assoc (bytes_of_lines lines) (line ++ 10 ∷ []) rest)
            ∙ ap (λ (l : List ℕ). l ++ rest) (sym (bytes_more lines line));
      },
    )

-- some bytes are read behind those that wait
pub bytes_read : (lines : List (List ℕ)) (buffer after : List ℕ) (start end count : ℕ) (first old new : Option (List ℕ)) → HasTaken lines buffer start end first old → start ≡ 0
    → take end after ≡ take end buffer → length after ≡ length buffer → count ≤ length (drop end after) → Consumes old new (take count (drop end after))
    → HasTaken lines after start (end + count) first new
bytes_read lines buffer after start end count first old new has at_front same long few consumed =
    let (order, fits, room, is) = has.holds in
    let more = take count (drop end after) in
    let from_front : (bytes : List ℕ) (n : ℕ) → take n bytes ≡ slice_range bytes start n =
    λ bytes n. ap (λ (m : ℕ). take m bytes) {x = n} {y = n - 0} (omega arith) ∙ ap (λ (m : ℕ). slice_range bytes m n) (sym at_front) in
    let front : has.waiting ≡ take end after = is ∙ sym (from_front buffer end) ∙ sym same in
    record {
      whole = has.whole;
      read = has.read ++ more;
      consumed = Consumes-trans first old new has.read more has.consumed consumed;
      waiting = has.waiting ++ more;
      holds = (
        omega (arith, order),
        omega (arith, fits, long, few, length-drop end after),
        omega (arith, room, long),
        ap (λ (l : List ℕ). l ++ more) front ∙ sym (take-add end count after) ∙ from_front after (end + count),
      );
      is_read = ap (λ (l : List ℕ). l ++ more) has.is_read ∙ append_assoc (bytes_of_lines lines) has.waiting more;
    }

-- nothing waits, and nothing more comes
pub all_taken : (lines : List (List ℕ)) (buffer : List ℕ) (start end : ℕ) (first now : Option (List ℕ)) → HasTaken lines buffer start end first now → end ≡ 0 → IsAtEnd now
    → IfSome first (AreLines lines)
all_taken lines buffer start end None now has none over = tt
all_taken lines buffer start end (Some text) None has none over = absurd has.consumed
all_taken lines buffer start end (Some text) (Some rest) has none over =
    let nothing : has.waiting ≡ [] = has.holds.3 ∙ ap (λ (n : ℕ). take n (drop start buffer)) {x = end - start} {y = 0} (omega (arith, none)) in (
      has.whole,
      has.consumed ∙ ap (λ (l : List ℕ). has.read ++ l) over ∙ append-nil has.read ∙ has.is_read ∙ ap (λ (l : List ℕ). bytes_of_lines lines ++ l) nothing ∙ append-nil (bytes_of_lines lines),
    )

-- a line that was taken, by other names of its places
pub ends_at : (lines : List (List ℕ)) (buffer : List ℕ) (start stop behind stop_read behind_read end : ℕ) (first now : Option (List ℕ)) → stop_read ≡ stop → behind_read ≡ behind
    → (start ≤ stop) × (stop ≤ length buffer) × HasTaken (lines ++ slice_range buffer start stop ∷ []) buffer behind end first now
    → (start ≤ stop_read) × (stop_read ≤ length buffer) × HasTaken (lines ++ slice_range buffer start stop_read ∷ []) buffer behind_read end first now
ends_at lines buffer start stop behind stop_read behind_read end first now same same_behind taken =
    subst (λ (b : ℕ). (start ≤ stop_read) × (stop_read ≤ length buffer) × HasTaken (lines ++ slice_range buffer start stop_read ∷ []) buffer b end first now) (sym same_behind)
    (subst (λ (s : ℕ). (start ≤ s) × (s ≤ length buffer) × HasTaken (lines ++ slice_range buffer start s ∷ []) buffer behind end first now) (sym same) taken)

-- what waits is moved to the front, and some bytes are read behind it
pub moved : (lines : List (List ℕ)) (buffer after : List ℕ) (start end start_after end_after : ℕ) (first now : Option (List ℕ)) → HasTaken lines buffer start end first now
    → ((waiting : List ℕ) → BufferHolds buffer start end waiting → BufferHolds after start_after end_after waiting) → HasTaken lines after start_after end_after first now
moved lines buffer after start end start_after end_after first now has moves = record {
  whole = has.whole;
  read = has.read;
  consumed = has.consumed;
  waiting = has.waiting;
  holds = moves has.waiting has.holds;
  is_read = has.is_read;
}
