-- Decoding is exact to the grammar: what it answers is what the words are, and what they are is what it answers.
use Rattle.std.proofs.Common.{◌≡◌, ◌≢◌, ◌<◌, ◌∙◌, ◌&&◌, ℕ, Bool, true, false, inl, inr, List, [], ◌∷◌, Result, Ok, Err, refl, sym, ap, subst, arith, if◌then◌else◌}
use Rattle.std.specs.Prelude.{◌↔◌}
use Rattle.std.proofs.lemmas.Bool.Decides.{eqb_tells}
use Rattle.iom_command_queue.specs.declared.illegal.Illegal.{Illegal}
use Rattle.iom_command_queue.specs.declared.illegal.Illegal.TheVariants.{Opcode, Func, Reserved, Combination}
use Rattle.iom_command_queue.specs.declared.operation.Operation.{Operation}
use Rattle.iom_command_queue.specs.declared.operation.Operation.TheVariants as is
use Rattle.iom_command_queue.specs.declared.command.Command.{Command}
use Rattle.iom_command_queue.specs.declared.command.Command.TheVariants.{IotinvalVma, IotinvalGvma, IofenceC, IodirInvalDdt, AtsInval}
use Rattle.iom_command_queue.specs.Bits.{bits_of, is_set, where_set}
use Rattle.iom_command_queue.specs.Formats.{operation_of, opcode_of, func3_of, reserved_first, reserved_second, AreZero, IsClear, HasFields, AreWordsOf, ats_range}
use Rattle.iom_command_queue.specs.Legal.{IsOperation, is_forbidden, IsIllegal, operation_at, are_zero, is_clear, command_of, decoded_as, decoded_by, decoded}

-- what an opcode and a func3 tell
abbrev Tells : ℕ → ℕ → Result Operation Illegal → Type 0
Tells opcode func3 (Ok o) = (opcode ≡ opcode_of o) × (func3 ≡ func3_of o)
Tells opcode func3 (Err Opcode) = (o : Operation) → opcode ≢ opcode_of o
Tells opcode func3 (Err Func) = ((o : Operation) × (opcode ≡ opcode_of o)) × ((o : Operation) → ¬ ((opcode ≡ opcode_of o) × (func3 ≡ func3_of o)))
Tells opcode func3 (Err Reserved) = ⊥
Tells opcode func3 (Err Combination) = ⊥

no_opcode : (opcode : ℕ) → opcode ≢ 1 → opcode ≢ 2 → opcode ≢ 3 → opcode ≢ 4 → (o : Operation) → opcode ≢ opcode_of o
no_opcode opcode a b c d is.IotinvalVma = a
no_opcode opcode a b c d is.IotinvalGvma = a
no_opcode opcode a b c d is.IofenceC = b
no_opcode opcode a b c d is.IodirInvalDdt = c
no_opcode opcode a b c d is.AtsInval = d

no_func3 : (opcode func3 : ℕ) → 1 < opcode → func3 ≢ 0 → (o : Operation) → ¬ ((opcode ≡ opcode_of o) × (func3 ≡ func3_of o))
no_func3 opcode func3 more ne is.IotinvalVma h = ne h.1
no_func3 opcode func3 more ne is.IotinvalGvma h = let e = h.0 in omega arith
no_func3 opcode func3 more ne is.IofenceC h = ne h.1
no_func3 opcode func3 more ne is.IodirInvalDdt h = ne h.1
no_func3 opcode func3 more ne is.AtsInval h = ne h.1

no_iotinval : (opcode func3 : ℕ) → opcode ≡ 1 → func3 ≢ 0 → func3 ≢ 1 → (o : Operation) → ¬ ((opcode ≡ opcode_of o) × (func3 ≡ func3_of o))
no_iotinval opcode func3 one a b is.IotinvalVma h = a h.1
no_iotinval opcode func3 one a b is.IotinvalGvma h = b h.1
no_iotinval opcode func3 one a b is.IofenceC h = a h.1
no_iotinval opcode func3 one a b is.IodirInvalDdt h = a h.1
no_iotinval opcode func3 one a b is.AtsInval h = a h.1

tells : (opcode func3 : ℕ) → Tells opcode func3 (operation_at opcode func3)
tells opcode func3 =
    elim (eqb_tells opcode 1) [
      | inl one ↦ rw one.0 (elim (eqb_tells func3 0) [
        | inl z ↦ rw z.0 (one.1, z.1)
        | inr z ↦ rw z.0 (elim (eqb_tells func3 1) [ inl y ↦ rw y.0 (one.1, y.1) | inr y ↦ rw y.0 ((is.IotinvalVma, one.1), no_iotinval opcode func3 one.1 z.1 y.1) ])
      ])
      | inr one ↦ rw one.0 (elim (eqb_tells opcode 2) [
        | inl two ↦ rw two.0 (elim (eqb_tells func3 0) [
          | inl z ↦ rw z.0 (two.1, z.1)
          | inr z ↦ rw z.0 (let e = two.1 in ((is.IofenceC, two.1), no_func3 opcode func3 (omega arith) z.1))
        ])
        | inr two ↦ rw two.0 (elim (eqb_tells opcode 3) [
          | inl three ↦ rw three.0 (elim (eqb_tells func3 0) [
            | inl z ↦ rw z.0 (three.1, z.1)
            | inr z ↦ rw z.0 (let e = three.1 in ((is.IodirInvalDdt, three.1), no_func3 opcode func3 (omega arith) z.1))
          ])
          | inr three ↦ rw three.0 (elim (eqb_tells opcode 4) [
            | inl four ↦ rw four.0 (elim (eqb_tells func3 0) [
              | inl z ↦ rw z.0 (four.1, z.1)
              | inr z ↦ rw z.0 (let e = four.1 in ((is.AtsInval, four.1), no_func3 opcode func3 (omega arith) z.1))
            ])
            | inr four ↦ rw four.0 (no_opcode opcode one.1 two.1 three.1 four.1)
          ])
        ])
      ])
    ]

reply : (o : Operation) → operation_at (opcode_of o) (func3_of o) ≡ Ok o
reply is.IotinvalVma = refl
reply is.IotinvalGvma = refl
reply is.IofenceC = refl
reply is.IodirInvalDdt = refl
reply is.AtsInval = refl

-- the test of the reserved bits
abbrev SaysZero : ℕ → List (ℕ × ℕ) → Bool → Type 0
SaysZero word ranges true = AreZero word ranges
SaysZero word ranges false = ¬ AreZero word ranges

zero_told : (word : ℕ) (ranges : List (ℕ × ℕ)) → SaysZero word ranges (are_zero word ranges)
zero_told word [] = tt
zero_told word (range ∷ ranges) =
    elim (eqb_tells (bits_of word range.0 range.1) 0) [
      | inl z ↦ rw z.0 (elim (are_zero word ranges) as (λ b. SaysZero word ranges b → SaysZero word (range ∷ ranges) b) [
        | true ↦ λ rest. (z.1, rest)
        | false ↦ λ rest all. rest all.1
      ] (zero_told word ranges))
      | inr z ↦ rw z.0 (λ all. z.1 all.0)
    ]

abbrev SaysClear : Operation → ℕ → ℕ → Bool → Type 0
SaysClear o first second true = IsClear o first second
SaysClear o first second false = ¬ IsClear o first second

both_told : (first second : ℕ) (a b : List (ℕ × ℕ)) (x y : Bool) → SaysZero first a x → SaysZero second b y
    → elim (x && y) as (λ _. Type 0) [ true ↦ AreZero first a × AreZero second b | false ↦ ¬ (AreZero first a × AreZero second b) ]
both_told first second a b true true p q = (p, q)
both_told first second a b true false p q = λ h. q h.1
both_told first second a b false y p q = λ h. p h.0

clear_told : (o : Operation) (first second : ℕ) → SaysClear o first second (is_clear o first second)
clear_told o first second =
    both_told first second (reserved_first o) (reserved_second o) (are_zero first (reserved_first o)) (are_zero second (reserved_second o))
    (zero_told first (reserved_first o)) (zero_told second (reserved_second o))

if_clear : (o : Operation) (first second : ℕ) (b : Bool) → SaysClear o first second b → IsClear o first second → b ≡ true
if_clear o first second true says clear = refl
if_clear o first second false says clear = absurd (says clear)

if_unclear : (o : Operation) (first second : ℕ) (b : Bool) → SaysClear o first second b → (¬ IsClear o first second) → b ≡ false
if_unclear o first second true says unclear = absurd (unclear says)
if_unclear o first second false says unclear = refl

-- the fields are read off, where no forbidden bit is set
has_fields : (o : Operation) (first second : ℕ) → is_forbidden o first second ≡ false → HasFields (command_of o first second) first second
has_fields is.IotinvalVma first second allowed = (refl, refl, refl)
has_fields is.IotinvalGvma first second allowed = (allowed, refl, refl)
has_fields is.IofenceC first second allowed = (refl, refl, refl, refl)
has_fields is.IodirInvalDdt first second allowed = refl
has_fields is.AtsInval first second allowed = (allowed, refl, refl)

operation_stays : (o : Operation) (first second : ℕ) → operation_of (command_of o first second) ≡ o
operation_stays is.IotinvalVma first second = refl
operation_stays is.IotinvalGvma first second = refl
operation_stays is.IofenceC first second = refl
operation_stays is.IodirInvalDdt first second = refl
operation_stays is.AtsInval first second = refl

allowed_by : (c : Command) (first second : ℕ) → HasFields c first second → is_forbidden (operation_of c) first second ≡ false
allowed_by (IotinvalVma gscid pscid page) first second h = refl
allowed_by (IotinvalGvma gscid page) first second h = h.0
allowed_by (IofenceC store wsi pr pw) first second h = refl
allowed_by (IodirInvalDdt device) first second h = refl
allowed_by (AtsInval device range) first second h = h.0

same_command : (c : Command) (first second : ℕ) → HasFields c first second → command_of (operation_of c) first second ≡ c
same_command (IotinvalVma gscid pscid page) first second h =
    ap (λ g. IotinvalVma g (where_set (is_set first 32) (bits_of first 31 12)) (where_set (is_set first 10) (bits_of second 61 10))) (sym h.0)
    ∙ ap (λ p. IotinvalVma gscid p (where_set (is_set first 10) (bits_of second 61 10))) (sym h.1)
    ∙ ap (λ a. IotinvalVma gscid pscid a) (sym h.2)
same_command (IotinvalGvma gscid page) first second h =
    ap (λ g. IotinvalGvma g (where_set (is_set first 10) (bits_of second 61 10))) (sym h.1) ∙ ap (λ a. IotinvalGvma gscid a) (sym h.2)
same_command (IofenceC store wsi pr pw) first second h =
    ap (λ s. IofenceC s (is_set first 11) (is_set first 12) (is_set first 13)) (sym h.0)
    ∙ ap (λ w. IofenceC store w (is_set first 12) (is_set first 13)) (sym h.1)
    ∙ ap (λ r. IofenceC store wsi r (is_set first 13)) (sym h.2)
    ∙ ap (λ w. IofenceC store wsi pr w) (sym h.3)
same_command (IodirInvalDdt device) first second h = ap (λ d. IodirInvalDdt d) (sym h)
same_command (AtsInval device range) first second h =
    ap (λ d. AtsInval d (ats_range second)) (sym h.1) ∙ ap (λ r. AtsInval device r) (sym h.2)

-- what decoding answers, judged by the grammar
abbrev pub Judges : ℕ → ℕ → Result Command Illegal → Type 0
Judges first second (Ok command) = AreWordsOf command first second
Judges first second (Err reason) = IsIllegal reason first second

words_of : (o : Operation) (first second : ℕ) → IsOperation o first → IsClear o first second → is_forbidden o first second ≡ false
    → AreWordsOf (command_of o first second) first second
words_of o first second operation clear allowed =
    let same = sym (operation_stays o first second) in
    record {
      opcode = operation.0 ∙ ap opcode_of same;
      func3 = operation.1 ∙ ap func3_of same;
      clear = subst (λ p. IsClear p first second) same clear;
      fields = has_fields o first second allowed;
    }

judged_as : (o : Operation) (first second : ℕ) → IsOperation o first → (clear forbidden : Bool) → SaysClear o first second clear
    → is_forbidden o first second ≡ forbidden
    → Judges first second (if clear then (if forbidden then Err Combination else Ok (command_of o first second)) else Err Reserved)
judged_as o first second operation true true says e = (o, operation, says, e)
judged_as o first second operation true false says e = words_of o first second operation says e
judged_as o first second operation false forbidden says e = (o, operation, says)

judged_by : (first second : ℕ) (r : Result Operation Illegal) → Tells (bits_of first 6 0) (bits_of first 9 7) r → Judges first second (decoded_by r first second)
judged_by first second (Ok o) tell = judged_as o first second tell (is_clear o first second) (is_forbidden o first second) (clear_told o first second) refl
judged_by first second (Err Opcode) tell = tell
judged_by first second (Err Func) tell = tell
judged_by first second (Err Reserved) tell = absurd tell
judged_by first second (Err Combination) tell = absurd tell

-- SOUND: what decoding answers is so
pub judged : (first second : ℕ) → Judges first second (decoded first second)
unfolding decoded
judged first second = judged_by first second (operation_at (bits_of first 6 0) (bits_of first 9 7)) (tells (bits_of first 6 0) (bits_of first 9 7))

as_operation : (o : Operation) (first second : ℕ) → IsOperation o first → decoded first second ≡ decoded_as o first second
unfolding decoded
as_operation o first second operation =
    ap (λ n. decoded_by (operation_at n (bits_of first 9 7)) first second) operation.0
    ∙ ap (λ n. decoded_by (operation_at (opcode_of o) n) first second) operation.1
    ∙ ap (λ r. decoded_by r first second) (reply o)

-- COMPLETE: what is so is what decoding answers
pub found : (first second : ℕ) (c : Command) → AreWordsOf c first second → decoded first second ≡ Ok c
found first second c words =
    let o = operation_of c in
    let clear = if_clear o first second (is_clear o first second) (clear_told o first second) words.clear in
    as_operation o first second (words.opcode, words.func3)
    ∙ ap (λ b. if b then (if is_forbidden o first second then Err Combination else Ok (command_of o first second)) else Err Reserved) clear
    ∙ ap (λ b. if b then Err Combination else Ok (command_of o first second)) (allowed_by c first second words.fields)
    ∙ ap (λ d. Ok d) (same_command c first second words.fields)

refused_opcode : (first second : ℕ) (r : Result Operation Illegal) → Tells (bits_of first 6 0) (bits_of first 9 7) r → IsIllegal Opcode first second
    → decoded_by r first second ≡ Err Opcode
refused_opcode first second (Ok o) tell no_one = absurd (no_one o tell.0)
refused_opcode first second (Err Opcode) tell no_one = refl
refused_opcode first second (Err Func) tell no_one = absurd (no_one tell.0.0 tell.0.1)
refused_opcode first second (Err Reserved) tell no_one = absurd tell
refused_opcode first second (Err Combination) tell no_one = absurd tell

refused_func : (first second : ℕ) (r : Result Operation Illegal) → Tells (bits_of first 6 0) (bits_of first 9 7) r → IsIllegal Func first second
    → decoded_by r first second ≡ Err Func
refused_func first second (Ok o) tell refused = absurd (refused.1 o tell)
refused_func first second (Err Opcode) tell refused = absurd (tell refused.0.0 refused.0.1)
refused_func first second (Err Func) tell refused = refl
refused_func first second (Err Reserved) tell refused = absurd tell
refused_func first second (Err Combination) tell refused = absurd tell

pub refused : (first second : ℕ) (reason : Illegal) → IsIllegal reason first second → decoded first second ≡ Err reason
unfolding decoded
refused first second Opcode h = refused_opcode first second (operation_at (bits_of first 6 0) (bits_of first 9 7)) (tells (bits_of first 6 0) (bits_of first 9 7)) h
refused first second Func h = refused_func first second (operation_at (bits_of first 6 0) (bits_of first 9 7)) (tells (bits_of first 6 0) (bits_of first 9 7)) h
refused first second Reserved h =
    as_operation h.0 first second h.1
    ∙ ap (λ b. if b then (if is_forbidden h.0 first second then Err Combination else Ok (command_of h.0 first second)) else Err Reserved)
    (if_unclear h.0 first second (is_clear h.0 first second) (clear_told h.0 first second) h.2)
refused first second Combination h =
    as_operation h.0 first second h.1
    ∙ ap (λ b. if b then (if is_forbidden h.0 first second then Err Combination else Ok (command_of h.0 first second)) else Err Reserved)
    (if_clear h.0 first second (is_clear h.0 first second) (clear_told h.0 first second) h.2)
    ∙ ap (λ b. if b then Err Combination else Ok (command_of h.0 first second)) h.3

-- both ways at once, for whatever was answered
pub answers : (first second : ℕ) (result : Result Command Illegal) → result ≡ decoded first second
    → (c : Command) → (result ≡ Ok c) ↔ AreWordsOf c first second
answers first second result is c = (
  (λ e. subst (λ r. Judges first second r) (sym is ∙ e) (judged first second)),
  (λ words. is ∙ found first second c words),
)

pub refuses : (first second : ℕ) (result : Result Command Illegal) → result ≡ decoded first second
    → (reason : Illegal) → (result ≡ Err reason) ↔ IsIllegal reason first second
refuses first second result is reason = (
  (λ e. subst (λ r. Judges first second r) (sym is ∙ e) (judged first second)),
  (λ h. is ∙ refused first second reason h),
)
