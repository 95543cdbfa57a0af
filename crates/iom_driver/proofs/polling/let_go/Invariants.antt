use Rattle.std.proofs.Common.{◌≡◌, ◌<◌, ◌≤◌, ℕ, take, length, map, option_map, slice_get}
use Rattle.iom_driver.specs.Confirmed.{driven_once_confirmed, owner_given_back, ClearsGone}
use Rattle.iom_driver.proofs.polling.let_go.Given as goal

-- the devices up to this place are as they are afterwards, and what they own is given back
abbrev pub invariant-loop-place : goal.invariant-loop-place
invariant-loop-place l = record {
  many : length l.devices.items ≡ length l.fn.devices.items;
  so_far : (k : ℕ) → k < l.place → slice_get l.devices.items k ≡ option_map (driven_once_confirmed l.done) (slice_get l.fn.devices.items k);
  rest : (k : ℕ) → l.place ≤ k → slice_get l.devices.items k ≡ slice_get l.fn.devices.items k;
  owners : l.owners ≡ map (owner_given_back l.done (take l.place l.fn.devices.items)) l.fn.owners;
  memory : ClearsGone l.done (take l.place l.fn.devices.items) l.fn.owners l.fn.memory l.memory;
}
