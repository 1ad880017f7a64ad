use Rattle.std.proofs.Common.{◌∙◌, length, ap, sym}
use Rattle.tributary_line.proofs.feed.fill_blank.Goals as goal

pub returns-clause-filled : goal.returns-clause-filled
returns-clause-filled c = record {
  size = ap length (sym c.as_bytes.ensures.bytes) ∙ c.as_bytes.ensures.size;
  put = λ own turns stands. (c.fill.ensures.put own turns stands).put;
  other = λ port row column low high left right none. c.fill.ensures.kept port row column low high left right none ∙ c.requires.blank _;
}
