-- What a commit would make.
use Rattle.std.proofs.Common.{◌≡◌, ◌∙◌, ℕ, List, Option, None, Some, sym, ap}
use Rattle.iom_inflight.specs.Calls.{MakesOldestInFlight, WouldMakeOldest}
use Rattle.iom_inflight.specs.Flights.{Flights, row_of, oldest_in, first_made, made_at}
use Rattle.iom_inflight.specs.declared.made.MadeAt.{MadeAt}
use Rattle.iom_inflight.proofs.Rows.{row_is_own}

-- the oldest access is the one that is made
pub would_make : (flights : Flights) (id : ℕ) (made : Option MadeAt) → made ≡ oldest_in (row_of flights.rows id) → WouldMakeOldest flights id made
would_make flights id made is memory None new_memory new (idle, unchanged, same) =
    sym (ap oldest_in idle.stands ∙ ap (first_made idle.row.device) idle.idle) ∙ sym is
would_make flights id made is memory (Some answer) new_memory new makes =
    ap Some makes.reply ∙ sym (ap oldest_in makes.stands ∙ ap (first_made makes.row.device) makes.waiting ∙ ap (λ device. Some (made_at device makes.oldest.accepted)) (row_is_own flights.rows id makes.row makes.stands)) ∙ sym is
