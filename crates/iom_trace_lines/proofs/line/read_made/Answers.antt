use Rattle.iom_trace_lines.proofs.line.read_made.Goals as goal
