use Rattle.iom_script.specs.Cuts.{single_starts}
use Rattle.iom_script.proofs.LineLemmas.{of_some_line, under_first, under_first_ok}
use Rattle.iom_script.proofs.events.event_of.Goals as goal
use Rattle.iom_script.proofs.events.event_of.Goals.{in-114, in-99, in-103, in-100, in-102, in-113, in-115, in-109}

pub returns-in-Some : goal.returns-in-Some
returns-in-Some c = of_some_line c.args.line.now single_starts c.in-Some.event c.in-Some.ensures

pub returns-in-97 : goal.returns-in-97
returns-in-97 c = under_first_ok c.args.line.now c.in-Some-first.first.now 97 c.under_a.result c.in_default.ensures c.in-Some-first.ensures.value c.in-97.is c.under_a.ensures

pub returns-in-119 : goal.returns-in-119
returns-in-119 c = under_first_ok c.args.line.now c.in-Some-first.first.now 119 c.write.result c.in_default.ensures c.in-Some-first.ensures.value c.in-119.is c.write.ensures

pub returns-in-112 : goal.returns-in-112
returns-in-112 c = under_first_ok c.args.line.now c.in-Some-first.first.now 112 c.under_p.result c.in_default.ensures c.in-Some-first.ensures.value c.in-112.is c.under_p.ensures

pub returns-in-116 : goal.returns-in-116
returns-in-116 c = under_first_ok c.args.line.now c.in-Some-first.first.now 116 c.under_t.result c.in_default.ensures c.in-Some-first.ensures.value c.in-116.is c.under_t.ensures

pub returns : goal.returns
returns c =
    let line = c.args.line.now in
    let first = c.in-Some-first.first.now in
    elim c.match-first-2.branch [
      | in-114 w ↦ rw w.event-is (under_first line first 114 w.under_r-event.result c.in_default.ensures c.in-Some-first.ensures.value w.in-114.is w.under_r-event.ensures)
      | in-99 w ↦ rw w.event-is (under_first line first 99 w.commit-event.result c.in_default.ensures c.in-Some-first.ensures.value w.in-99.is w.commit-event.ensures)
      | in-103 w ↦ rw w.event-is (under_first line first 103 w.grant-event.result c.in_default.ensures c.in-Some-first.ensures.value w.in-103.is w.grant-event.ensures)
      | in-100 w ↦ rw w.event-is (under_first line first 100 w.under_d-event.result c.in_default.ensures c.in-Some-first.ensures.value w.in-100.is w.under_d-event.ensures)
      | in-102 w ↦ rw w.event-is (under_first line first 102 w.under_f-event.result c.in_default.ensures c.in-Some-first.ensures.value w.in-102.is w.under_f-event.ensures)
      | in-113 w ↦ rw w.event-is (under_first line first 113 w.under_q-event.result c.in_default.ensures c.in-Some-first.ensures.value w.in-113.is w.under_q-event.ensures)
      | in-115 w ↦ rw w.event-is (under_first line first 115 w.under_s-event.result c.in_default.ensures c.in-Some-first.ensures.value w.in-115.is w.under_s-event.ensures)
      | in-109 w ↦ rw w.event-is (under_first line first 109 w.medium-event.result c.in_default.ensures c.in-Some-first.ensures.value w.in-109.is w.medium-event.ensures)
    ]
