-- What is written for an entry is that entry, so it is what is read.
use Rattle.std.proofs.Common.{◌<◌, ◌^◌, arith}
use Rattle.iom_device_dir.specs.Encoded.{encoded_non_leaf_entry}
use Rattle.iom_device_dir.specs.Formats.{IsNonLeafEntry}
use Rattle.iom_device_dir.proofs.Exact.{found_non_leaf}
use Rattle.iom_device_dir.proofs.laws.entry_reads_back.Goals as goal

pub returns : goal.returns
returns c =
    let entry = c.args.entry in
    let fits : entry.next.number < 2 ^ 44 = entry.next.in_range in
    let means : IsNonLeafEntry (encoded_non_leaf_entry entry) entry =
    record { valid = omega arith; clear_below = omega arith; next = omega (arith, fits); clear_above = omega (arith, fits) } in
    found_non_leaf (encoded_non_leaf_entry entry) entry means
