-- How many entries a queue has: a power of two that a register's five bits can name.
use Rattle.std.proofs.Common.{◌≡◌, ◌+◌, ◌*◌, ◌%◌, ◌^◌, ◌<◌, ◌≤◌, ℕ, sym, arith}
use Rattle.std.proofs.Math.Pow.{pow_mono}
use Rattle.std.proofs.lemmas.Nat.{pow-add}
use Rattle.std.proofs.Math.Nat.{mod-eq_of_lt}

pub shifted : (k : ℕ) → k < 32 → 2 * 2 ^ k % 18446744073709551616 ≡ 2 ^ (k + 1)
shifted k small =
    let twice : 2 * 2 ^ k ≡ 2 ^ (k + 1) = sym (omega (arith, pow-add 2 k 1)) in
    let below : k + 1 ≤ 32 = omega (arith, small) in
    let few : 2 ^ (k + 1) ≤ 2 ^ 32 = pow_mono below in
    rw twice (mod-eq_of_lt (omega (arith, few)))

pub some : (k : ℕ) → 2 ≤ 2 ^ (k + 1)
some k =
    let below : 1 ≤ k + 1 = omega arith in
    let more : 2 ^ 1 ≤ 2 ^ (k + 1) = pow_mono below in
    more

pub few : (k : ℕ) → k < 32 → 2 ^ (k + 1) ≤ 2 ^ 32
few k small = let below : k + 1 ≤ 32 = omega (arith, small) in pow_mono below
