-- The answer is the end of the path, exactly.
use Rattle.std.proofs.Common.{rules}
use Rattle.iom_device_dir.proofs.Ends.{located_exactly, stopped_exactly}
use Rattle.iom_device_dir.proofs.directory.locate.Goals as goal

value : goal.returns-clause-value
value g c = search rules

pub returns-clause-value : goal.returns-clause-value
returns-clause-value g c = value g c

pub returns-clause-located : goal.returns-clause-located
returns-clause-located g c =
    located_exactly c.args.ddtp.mode (g.B.Bytes.frames_of c.args.memory.now) c.args.ddtp.ppn c.args.id c.requires c.follow.result (value g c)

pub returns-clause-stopped : goal.returns-clause-stopped
returns-clause-stopped g c =
    stopped_exactly c.args.ddtp.mode (g.B.Bytes.frames_of c.args.memory.now) c.args.ddtp.ppn c.args.id c.requires c.follow.result (value g c)
