-- What stays true of a board by a fetch, and by a look at the front of the command queue where that is a whole fetch
use Rattle.std.proofs.Common.{◌≡◌, ◌+◌, ℕ, List, refl, sym, subst}
use Rattle.std.specs.List.{All}
use Rattle.iom_fabric.specs.declared.fabric.OnLink.{OnLink}
use Rattle.iom_iommu.specs.declared.fetched.Fetched.{Fetched}
use Rattle.iom_iommu.specs.Fetches.{FetchesCommand}
use Rattle.iom_iommu.specs.OwnIommu.{Iommu}
use Rattle.iom_iommu.specs.Parts.{slots_of}
use Rattle.iom_board.specs.BoardParts.{BoardParts, board_parts}
use Rattle.iom_board.specs.Commits.{TakesCommand}
use Rattle.iom_board.specs.Messages.{with_opened}
use Rattle.iom_board.specs.Looks.{FetchesOnce}
use Rattle.iom_board.specs.Invariant.{IsMessageOf, BoardInvariant}
use Rattle.iom_board.specs.declared.board.Board.{Board}
use Rattle.iom_board.proofs.Sent.{messages_opened}
use Rattle.iom_board.proofs.SoundReplies.{fetched_kept, fetched_length}
use Rattle.iom_board.proofs.SoundThen.{sound_then, devices_kept}

pub fetched_sound : (old : BoardParts) (fetched : Fetched) (new : BoardParts) (events : ℕ) → BoardInvariant old events → TakesCommand old fetched new → BoardInvariant new (events + 1)
fetched_sound old fetched new events invariants takes =
    sound_then old new events invariants (fetched_length old.memory old.iommu fetched new.memory new.iommu takes.call)
    (fetched_kept old new.memory new.iommu events fetched invariants takes.call) (devices_kept old new.devices events invariants takes.devices)
    (subst (λ (f : List OnLink). All (IsMessageOf old.devices) f) (sym takes.fabric)
    (messages_opened old.devices old.fabric fetched (slots_of new.iommu).last invariants.askers))

-- a look that is a whole fetch: only the IOMMU changes, and nothing is sent
pub looked : (old : Board) (fetched : Fetched) (iommu : Iommu) → BoardInvariant (board_parts old) old.events → with_opened fetched (slots_of iommu).last old.fabric ≡ old.fabric
    → FetchesCommand old.memory old.iommu fetched old.memory iommu → FetchesOnce old fetched (record old { iommu = iommu; events = old.events + 1 })
looked old fetched iommu invariants unsent call =
    let takes : TakesCommand (board_parts old) fetched (record (board_parts old) { iommu = iommu }) = record { call = call; devices = refl; fabric = sym unsent } in
    record { effect = takes; invariants = fetched_sound (board_parts old) fetched (record (board_parts old) { iommu = iommu }) old.events invariants takes; counted = record { events = refl; disks = refl } }
