use Rattle.iom_command_queue.proofs.Puts.{puts}
use Rattle.iom_command_queue.proofs.Encodes.{reads_back}
use Rattle.iom_command_queue.proofs.Fits.{Fits}
use Rattle.std.proofs.Common.{rules}
use Rattle.iom_command_queue.proofs.ring.put.Goals as goal

pub returns : goal.returns
returns c =
    let a = c.store_u64.ensures in
    let b = c.store_u64-2.ensures in
    let fits : Fits c.args.command = search rules in
    puts c.args.memory.now c.store_u64.new.self c.store_u64-2.new.self c.args.address c.args.command
    c.first_word-first.result c.second_word-second.result c.store_u64.result c.store_u64-2.result
    (reads_back c.args.command fits) c.first_word-first.ensures c.second_word-second.ensures c.requires.aligned c.requires.inside
    a.done a.stored a.other_words a.other_bytes a.other_frames a.frames a.whole
    b.done b.stored b.other_words b.other_bytes b.other_frames b.frames b.whole
