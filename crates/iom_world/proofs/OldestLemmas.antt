-- The oldest access in flight of a device is what a commit of it makes.
use Rattle.std.proofs.Common.{◌≡◌, ◌∙◌, ℕ, None, Some, sym, ap}
use Rattle.iom_inflight.specs.Flights.{Flights, first_made, made_at, oldest_in, row_of}
use Rattle.iom_inflight.proofs.Rows.{row_is_own}
use Rattle.iom_world.specs.Made.{IsMadeByCommit}

pub oldest_is_made : (flights : Flights) (id : ℕ) → IsMadeByCommit flights id (oldest_in (row_of flights.rows id))
oldest_is_made flights id memory new_memory None new (idle, same_memory, same) = sym (ap oldest_in idle.stands ∙ ap (first_made idle.row.device) idle.idle)
oldest_is_made flights id memory new_memory (Some made) new is =
    let own : is.row.device ≡ id = row_is_own flights.rows id is.row is.stands in
    ap (λ m. Some m) (is.reply ∙ ap (λ d. made_at d is.oldest.accepted) (sym own))
    ∙ sym (ap oldest_in is.stands ∙ ap (first_made is.row.device) is.waiting)
