use Rattle.packet_text.specs.Steps.DigitMarks.{bytes_from}
use Rattle.packet_text.proofs.ByteBlocks.{high, low, high_digits, low_digits, block_put}
use Rattle.packet_text.proofs.lanes.encode_block.Goals as goal

pub returns-clause-here : goal.returns-clause-here
returns-clause-here c =
    let bytes = c.args.bytes.now in
    let at = c.args.at in
    let these = c.load-these.ensures in
    let is_high = high_digits bytes _ _ _ at these c.requires.table c.by_high-high.ensures in
    let is_low = low_digits bytes _ _ _ at these c.requires.table c.by_low-low.ensures in
    let first = c.first_pairs.ensures (λ i. high (bytes_from bytes at i)) (λ i. low (bytes_from bytes at i)) is_high is_low in
    let later = c.later_pairs.ensures (λ i. high (bytes_from bytes at i)) (λ i. low (bytes_from bytes at i)) is_high is_low in
    block_put bytes c.args.digits.now _ _ at c.requires.bytes c.requires.digits first later
