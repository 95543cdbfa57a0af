-- A frame is free in the ledger machine exactly where the world finds it free.
use Rattle.std.proofs.Common.{◌≡◌, ◌≢◌, ◌<◌, ◌∙◌, ℕ, List, false, Option, Some, length, sym, subst}
use Rattle.iom_base.specs.declared.access.AccessKind.TheVariants.{Read}
use Rattle.iom_ledger.specs.declared.ledger.Ledger.{Ledger}
use Rattle.iom_ledger.specs.Shown.{Agrees, IsFreeIn}
use Rattle.iom_ledger.proofs.AgreementLemmas.{some_row_from_May, May_from_some_row, IsFreeIn-from_rows, not_free_from_row}
use Rattle.iom_machine.specs.declared.state.State.{State}
use Rattle.iom_machine.specs.Frames.{IsFree}
use Rattle.iom_base.specs.declared.owner.Owner.{Owner}
use Rattle.iom_table_frames.specs.Owners.{has_owner, IsFreeForTable}
use Rattle.iom_world_effects.specs.Frames.{ShowsFrames}
use Rattle.iom_world_effects.proofs.FrameLemmas.{reserved_shown}

pub free_in_machine : (memory : List (List ℕ)) (owners : List (Option Owner)) (ledger : Ledger) (state : State) (n : ℕ) → Agrees ledger state.history → ShowsFrames memory owners state.frames
    → n < length memory → has_owner owners n ≡ false → IsFreeIn ledger n → IsFree state n
free_in_machine memory owners ledger state n agrees shows inside unmarked free = (
  subst (λ m. n < m) (sym shows.size) inside,
  reserved_shown memory owners state.frames n shows ∙ unmarked,
  (λ device kind may. not_free_from_row ledger n (some_row_from_May ledger state.history agrees device n kind may) free),
)

pub free_in_world : (memory : List (List ℕ)) (owners : List (Option Owner)) (ledger : Ledger) (state : State) (named : Option ℕ) (n : ℕ) → Agrees ledger state.history → ShowsFrames memory owners state.frames
    → named ≢ Some n → IsFree state n → (n < length memory) × IsFreeForTable owners ledger named n
free_in_world memory owners ledger state named n agrees shows other free = (
  subst (λ m. n < m) shows.size free.0,
  record {
    other = other;
    unmarked = sym (reserved_shown memory owners state.frames n shows) ∙ free.1;
    ungranted = IsFreeIn-from_rows ledger n (λ some. let may = May_from_some_row ledger state.history agrees ledger.granted n some in free.2 may.0 Read may.1);
  },
)
