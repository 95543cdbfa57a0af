-- The numbers of fences, beside those of tickets. Numbers below the first may be used up at the start. Then each ticket took the next number of a fence,
-- and so did each restart, whose fence all tickets wait for that weren't confirmed then.
use Rattle.std.specs.Prelude.{ℕ, ◌+◌, ◌-◌, nat_lt, min, max, if◌then◌else◌}
use Rattle.iom_driver.specs.State.{DriverState}

-- the number of the last fence
abbrev pub last_fence : DriverState → ℕ
last_fence d = d.given + d.restarts

-- the fence that a ticket waits for: that of the last restart, where it was given before, and else its own
abbrev pub fence_of : DriverState → ℕ → ℕ
fence_of d ticket = max ticket d.restarted + d.restarts

-- the last ticket whose fence isn't above the completion word; 0 where that of the last restart is
abbrev pub done_by : DriverState → ℕ → ℕ
done_by d word = if nat_lt word (d.restarted + d.restarts) then 0 else min (word - d.restarts) d.given
