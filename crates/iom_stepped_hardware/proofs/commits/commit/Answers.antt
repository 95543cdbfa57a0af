use Rattle.std.proofs.Common.{◌∙◌, [], IfOk, None, Ok, Option, Result, Some, ap, subst, sym}
use Rattle.std.specs.Option.{IfSome}
use Rattle.iom_base.specs.declared.refusal.Refusal.{Refusal}
use Rattle.iom_board.specs.BoardParts.{board_parts}
use Rattle.iom_board.specs.Commits.{StandWhereMade}
use Rattle.iom_hardware.specs.Blocks.{oldest_number}
use Rattle.iom_hardware.specs.Inside.{inside}
use Rattle.iom_inflight.specs.Flights.{row_of}
use Rattle.iom_inflight.specs.declared.made.MadeAt.{MadeAt}
use Rattle.iom_iommu.specs.Parts.{flights_of}
use Rattle.iom_stepped_hardware.proofs.AskLaws.{committed_beside}
use Rattle.iom_stepped_hardware.proofs.commits.commit.Goals as goal

pub returns-in-Ok-Some-clause-beside : goal.returns-in-Ok-Some-clause-beside
returns-in-Ok-Some-clause-beside g c =
    let old = c.args.hardware.now in
    let new = c.commit.new.self in
    committed_beside (board_parts old.board) (board_parts new.board) (inside g.D.Disk.shown old) (inside g.D.Disk.shown new) c.args.walks.now c.args.id c.commit.result
    (oldest_number (row_of (flights_of old.board.iommu).rows c.args.id)) c.bytes_of-bytes.result.now c.requires.beside c.commit.ensures.effect c.commit.ensures.inside
    (subst (λ (answer : Result (Option MadeAt) Refusal). IfOk answer (λ made. IfSome made (λ (one : MadeAt). StandWhereMade new.board.memory one c.bytes_of-bytes.result.now)))
    (sym (c.in-Ok-Some.is ∙ ap (λ (made : Option MadeAt). Ok made) c.in-Ok-Some.field-0-is)) c.bytes_of-bytes.ensures)

pub returns-in-Ok-None-clause-beside : goal.returns-in-Ok-None-clause-beside
returns-in-Ok-None-clause-beside g c =
    let old = c.args.hardware.now in
    let new = c.commit.new.self in
    committed_beside (board_parts old.board) (board_parts new.board) (inside g.D.Disk.shown old) (inside g.D.Disk.shown new) c.args.walks.now c.args.id c.commit.result
    (oldest_number (row_of (flights_of old.board.iommu).rows c.args.id)) [] c.requires.beside c.commit.ensures.effect c.commit.ensures.inside
    (subst (λ (answer : Result (Option MadeAt) Refusal). IfOk answer (λ made. IfSome made (λ (one : MadeAt). StandWhereMade new.board.memory one [])))
    (sym (c.in-Ok-None.is ∙ ap (λ (made : Option MadeAt). Ok made) c.in-Ok-None.field-0-is)) tt)
