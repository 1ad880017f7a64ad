use Rattle.std.proofs.Common.{◌≡◌, ◌∙◌, ap, not, nat_lt, length, take, slice_index, arith}
use Rattle.std.specs.List.{prefix_len}
use Rattle.std.proofs.lemmas.List.{length-map, length-take-le}
use Rattle.pcap_packets.specs.Decoding.{worth}
use Rattle.pcap_packets.proofs.LowerLanes.{few_run, get_thirty_two}
use Rattle.pcap_packets.proofs.DecodedDigits.{block_decoded}
use Rattle.pcap_packets.proofs.lanes.decode_block.Goals as goal

pub returns-clause-bound : goal.returns-clause-bound
returns-clause-bound c =
    let size : length (take 32 c.args.text.now) ≡ 32 = length-take-le 32 c.args.text.now c.requires.text in
    let values = ap length c.worths-values.ensures in
    let same = length-map (take 32 c.args.text.now) worth in
    let le = few_run c.worths-values.result in
    omega (arith, le, values, same, size, c.digits_before.ensures)

pub returns-clause-decoded : goal.returns-clause-decoded
returns-clause-decoded c =
    let block = take 32 c.args.text.now in
    let size : length block ≡ 32 = length-take-le 32 c.args.text.now c.requires.text in
    block_decoded c.args.text.now c.args.buffer.now c.pairs.result c.args.at c.digits_before.result c.requires.text c.requires.room
    (c.pairs.ensures (λ i. worth (slice_index block i)) (c.worths-values.ensures ∙ get_thirty_two worth block size)) (c.digits_before.ensures ∙ ap (prefix_len (λ x. not (nat_lt 127 x))) c.worths-values.ensures)
