use Rattle.pcap_packets.proofs.DecodedDigits.{none_put, record_put}
use Rattle.pcap_packets.proofs.making.put_record.Goals as goal

pub returns-then-not-ends_line-clause-none : goal.returns-then-not-ends_line-clause-none
returns-then-not-ends_line-clause-none c = λ none. none_put c.args.text.now c.args.buffer.now c.decode_front-count.new.buffer c.args.at c.decode_front-count.result c.decode_front-count.ensures

pub returns-clause-record : goal.returns-clause-record
returns-clause-record c = λ some. (
    record_put c.args.text.now c.args.buffer.now c.decode_front-count.new.buffer c.put_header.new.buffer c.args.at c.decode_front-count.result (c.ends_line.ensures.whole c.if-not-ends_line.false) c.decode_front-count.ensures c.put_header.ensures.front c.put_header.ensures.behind)
