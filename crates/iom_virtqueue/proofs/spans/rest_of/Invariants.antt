use Rattle.std.proofs.Common.{◌≡◌, drop}
use Rattle.iom_virtqueue.specs.Spans.{rest_of}
use Rattle.iom_virtqueue.proofs.spans.rest_of.Given as goal

abbrev pub invariant-loop-link : goal.invariant-loop-link
invariant-loop-link l = rest_of (drop l.link-index l.links) l.left ≡ rest_of l.links l.n
