use Rattle.std.proofs.Common.{◌≡◌, ◌<◌, ℕ, ap, subst, ◌∙◌, sym, take, length, slice_get, arith}
use Rattle.std.proofs.Math.Seq.{take-length}
use Rattle.std.proofs.lemmas.List.{length-map}
use Rattle.iom_ledger.specs.Rows.{entries_of, pages_of}
use Rattle.iom_ledger.specs.RowChanges.{ReleasesRowsAt}
use Rattle.iom_ledger.proofs.ReleaseLemmas.{ReleasesRowsAt-more, ReleasesRows-all, page_within}
use Rattle.iom_ledger.proofs.devices.release_all_in.Goals as goal
use Rattle.iom_ledger.proofs.devices.release_all_in.Goals.{in-Some, in_default}

pub loop-index-preserved : goal.loop-index-preserved
loop-index-preserved c =
    let pages = pages_of c.args.devices.now c.args.device in
    let n = c.loop-index.index in
    let at = ap (λ ps. slice_get ps n) c.loop-index.invariant.order in
    elim c.match-page_at.branch [
      | in-Some w ↦
          rw (w.devices-is, w.frames-is) (record {
            counted = w.release_in.ensures.counted;
            framed = w.release_in.ensures.frames ∙ c.loop-index.invariant.framed;
            rows =
                ReleasesRowsAt-more c.args.devices.now c.loop-index.devices w.release_in.new.devices c.args.device c.args.ticket n w.in-Some.page pages (sym at ∙ sym w.in-Some.ensures)
                c.loop-index.invariant.rows w.release_in.ensures.rows;
            order = w.release_in.ensures.order ∙ c.loop-index.invariant.order;
          })
      | in_default w ↦
          let below : n < length pages = omega (arith, length-map (entries_of c.args.devices.now c.args.device) (λ entry. entry.0)) in
          absurd (page_within pages n below (w.in_default.ensures ∙ at))
    ]

pub returns-clause-rows : goal.returns-clause-rows
returns-clause-rows c =
    let pages = pages_of c.args.devices.now c.args.device in
    let end : c.loop-index.index ≡ length pages = omega (arith, length-map (entries_of c.args.devices.now c.args.device) (λ entry. entry.0)) in
    ReleasesRows-all c.args.devices.now c.loop-index.devices c.args.device c.args.ticket
    (subst (λ ps. ReleasesRowsAt c.args.devices.now c.loop-index.devices c.args.device ps c.args.ticket) (ap (λ (k : ℕ). take k pages) end ∙ take-length pages) c.loop-index.invariant.rows)
