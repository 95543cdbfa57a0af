use Rattle.std.proofs.Common.{drop}
use Rattle.iom_litmus.specs.declared.reply.Reply.{Reply}
use Rattle.iom_litmus.specs.Replies.{RunsLines, no_reply}
use Rattle.iom_litmus.proofs.taking.run_lines.Given as goal

abbrev pub invariant-loop-line : goal.invariant-loop-line
invariant-loop-line g l = (said : Reply) (after : g.row.S.Denot) → RunsLines g.S.System.rules l.system l.reply (drop l.line-index l.lines) said after
    → RunsLines g.S.System.rules l.initial.system no_reply l.lines said after
