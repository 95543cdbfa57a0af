-- Which tickets are confirmed, as they are kept.
use Rattle.std.specs.Prelude.{ℕ, Bool, ◌&&◌, ◌||◌, nat_lt, nat_le, nat_eq}
use Rattle.indexmap.specs.IndexSet.{contains}
use Rattle.iom_kept_state.specs.declared.tickets.ConfirmedTickets.{ConfirmedTickets}

-- whether the ticket is one of those up to the last
abbrev pub is_up_to : ℕ → ℕ → Bool
is_up_to last ticket = nat_lt 0 ticket && nat_le ticket last

-- whether the ticket is confirmed: it is one of those that are settled, or one beyond
abbrev pub is_among : ConfirmedTickets → ℕ → Bool
is_among tickets ticket = is_up_to tickets.settled ticket || contains nat_eq tickets.later ticket
