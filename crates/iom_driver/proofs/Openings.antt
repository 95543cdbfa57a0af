-- A driver with nothing in it.
use Rattle.std.proofs.Common.{suc, zero, ◌≡◌, ◌+◌, ◌-◌, ◌≤◌, ◌++◌, ◌∙◌, ℕ, false, List, [], ◌∷◌, length, replicate, Option, Some, None, option_map, slice_get, refl, sym, ap, subst, arith, length-append}
use Rattle.std.specs.Option.{option_to_list}
use Rattle.std.proofs.lemmas.Bool.{false≢true}
use Rattle.std.proofs.lemmas.List.{length-replicate}
use Rattle.iom_base.specs.declared.owner.Owner.{Owner}
use Rattle.iom_base.specs.declared.owner.Owner.TheVariants.{System}
use Rattle.iom_ledger.specs.declared.ledger.Ledger.{Ledger}
use Rattle.iom_ledger.specs.History.{Pair}
use Rattle.iom_ledger.specs.Shown.{Agrees, held_in, lingering_in, released_in}
use Rattle.iom_phys_mem.specs.Sizes.{IsMemorySize}
use Rattle.iom_table_frames.specs.Owners.{opening_owners}
use Rattle.iom_driver.specs.declared.device.Device.{Device}
use Rattle.iom_driver.specs.declared.device.Stages.{Stages}
use Rattle.iom_driver.specs.Devices.{owned_stages_of}
use Rattle.iom_driver.specs.Layout.{IsLevels, AreFixed}
use Rattle.iom_driver.specs.Ready.{IsReady}
use Rattle.iom_driver.specs.State.{DriverState}
use Rattle.iom_registers.specs.declared.registers.Registers.{Registers}
use Rattle.iom_driver.specs.Invariant.{StateInvariant, RiseBetween}

-- an option that lists nothing is none
none_listed : {X : Type 0} (o : Option X) → [] ≡ option_to_list o → o ≡ None
none_listed None same = refl
none_listed (Some x) same = cc

not_both : (o : Option Pair) (pair : Pair) → o ≡ None → o ≡ Some pair → ⊥
not_both o pair none some = cc

-- a ledger of no grants
none_held : (ledger : Ledger) → Agrees ledger [] → (device page : ℕ) → held_in ledger device page ≡ None
none_held ledger agrees device page = sym (agrees.pages device page).holds

none_lingers : (ledger : Ledger) → Agrees ledger [] → (device page : ℕ) → lingering_in ledger device page ≡ None
none_lingers ledger agrees device page =
    ap (λ (o : Option (ℕ × Pair)). option_map (λ released. released.1) o) (none_listed (released_in ledger device page) (agrees.pages device page).lingers)

-- an item behind the first list
get_behind : {X : Type 0} (xs ys : List X) (i k : ℕ) → i ≡ length xs + k → slice_get (xs ++ ys) i ≡ slice_get ys k
get_behind [] ys i k e = let same : i ≡ k = omega arith in ap (λ n. slice_get ys n) same
get_behind (x ∷ xs) ys zero k e = absurd (omega arith)
get_behind (x ∷ xs) ys (suc i) k e = get_behind xs ys i k (omega arith)

marked : (n : ℕ) → 64 ≤ n → length (opening_owners n) ≡ n
marked n le =
    let bare : List (Option Owner) = replicate (n - 4) None in
    let long : length bare ≡ n - 4 = length-replicate {A = Option Owner} (n - 4) None in
    let behind : length bare + 4 ≡ n = omega arith in
    length-append bare (replicate 4 (Some System)) ∙ behind

fixed : (n : ℕ) → 64 ≤ n → AreFixed (opening_owners n) n
fixed n le =
    let bare : List (Option Owner) = replicate (n - 4) None in
    let long : length bare ≡ n - 4 = length-replicate {A = Option Owner} (n - 4) None in
    record {
      command = get_behind bare (replicate 4 (Some System)) (n - 1) 3 (omega arith);
      fault = get_behind bare (replicate 4 (Some System)) (n - 2) 2 (omega arith);
      completion = get_behind bare (replicate 4 (Some System)) (n - 3) 1 (omega arith);
      directory = get_behind bare (replicate 4 (Some System)) (n - 4) 0 (omega arith);
    }

sound_at_start : (ledger : Ledger) (n levels : ℕ) → IsMemorySize n → IsLevels levels → Agrees ledger [] → StateInvariant ledger (opening_owners n) [] n levels false 0 0 0 0
sound_at_start ledger n levels size range agrees = record {
  sizes = record { owned = marked n size.0; size = size; in_range = range };
  fixed = fixed n size.0;
  grants = record {
    held = λ device page frame rights held. absurd (not_both (held_in ledger device page) (frame, rights) (none_held ledger agrees device page) held);
    lingering = λ device page frame rights lingers. absurd (not_both (lingering_in ledger device page) (frame, rights) (none_lingers ledger agrees device page) lingers);
  };
  holders = λ id page none. none_held ledger agrees id page;
  numbers = record { small = λ id stage at. cc; own = λ one other a b at_one at_other same. cc };
  named = λ id stage at. cc;
  tickets = record { pending = subst (λ ts. RiseBetween 0 0 ts) agrees.pending tt; ordered = omega arith };
  fences = record { earlier = omega arith; numbered = omega arith };
  leaving = λ id ticket stage at. cc;
  quarantined = λ id ticket stage at. cc;
  ids = tt;
  few = omega arith;
  idle = λ stopped id. refl;
}

pub sound_opening : (ledger : Ledger) (owners : List (Option Owner)) (devices : List Device) (n levels : ℕ) → owners ≡ opening_owners n → devices ≡ [] → IsMemorySize n → IsLevels levels → Agrees ledger []
    → StateInvariant ledger owners devices n levels false 0 0 0 0
sound_opening ledger owners devices n levels opens none size range agrees = rw (opens, none) (sound_at_start ledger n levels size range agrees)

-- and it is ready for a memory of its size, whatever the registers are
pub ready_opening : (d : DriverState) (frames : ℕ) (memory : List (List ℕ)) (r : Registers) → length d.owners ≡ frames → length memory ≡ frames → d.devices ≡ [] → d.started ≡ false → IsReady d memory r
ready_opening d frames memory r marked size none stopped = record {
  stand = record {
    size = size ∙ sym marked;
    tables = λ id stage at. absurd (none_attached id stage (ap (λ (ds : List Device). owned_stages_of ds id) (sym none) ∙ at));
    directory = λ runs. absurd (false≢true (sym stopped ∙ runs));
  };
  ring = λ runs. absurd (false≢true (sym stopped ∙ runs));
  faults = λ runs. absurd (false≢true (sym stopped ∙ runs));
  directory = λ runs. absurd (false≢true (sym stopped ∙ runs));
}
  where
    none_attached : (id : ℕ) (stage : Stages) → ◌≡◌ {A = Option Stages} None (Some stage) → ⊥
    none_attached id stage same = cc
