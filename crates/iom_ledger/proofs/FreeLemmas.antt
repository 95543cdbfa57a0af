-- The frames that a ledger shows as free, by their rows.
use Rattle.std.proofs.Common.{◌↔◌, ℕ}
use Rattle.iom_base.specs.declared.access.AccessKind.TheVariants.{Read}
use Rattle.iom_ledger.specs.declared.ledger.Ledger.{Ledger}
use Rattle.iom_ledger.specs.History.{History, NoneMayReach}
use Rattle.iom_ledger.specs.FrameRows.{IsFreeRow}
use Rattle.iom_ledger.specs.Counts.{row_of_frame}
use Rattle.iom_ledger.specs.Shown.{Agrees, IsFreeIn}
use Rattle.iom_ledger.proofs.AgreementLemmas.{IsFreeIn-from_rows, not_free_from_row, some_row_from_May, May_from_some_row}
use Rattle.iom_ledger.proofs.CountLemmas.{no_row_from_free, free_from_no_row}

-- a frame's row is free exactly where the ledger shows the frame as free
pub row_free : (ledger : Ledger) (frame : ℕ)
    → IsFreeRow (row_of_frame ledger.frames.rows.items frame) ↔ IsFreeIn ledger frame
row_free ledger frame = (
  (λ free. IsFreeIn-from_rows ledger frame (no_row_from_free ledger.devices ledger.frames.rows.items frame ledger.counted free)),
  (λ free. free_from_no_row ledger.devices ledger.frames.rows.items frame ledger.counted (λ some. not_free_from_row ledger frame some free)),
)

-- and exactly where no device may reach it, by each history that the ledger agrees with
pub row_unreached : (ledger : Ledger) (h : History) → Agrees ledger h → (frame : ℕ)
    → IsFreeRow (row_of_frame ledger.frames.rows.items frame) ↔ NoneMayReach h frame
row_unreached ledger h agrees frame = (
  (λ free device kind may.
      no_row_from_free ledger.devices ledger.frames.rows.items frame ledger.counted free
      (some_row_from_May ledger h agrees device frame kind may)),
  (λ none.
      free_from_no_row ledger.devices ledger.frames.rows.items frame ledger.counted (λ some.
      let may = May_from_some_row ledger h agrees ledger.granted frame some in none may.0 Read may.1)),
)
