use Rattle.std.proofs.Common.{◌≡◌, ◌∙◌, ◌+◌, ◌++◌, length, refl, sym, arith}
use Rattle.std.specs.Prelude.{string_bytes}
use Rattle.network_view.specs.NetworkText.{numbered, way_lines}
use Rattle.network_view.specs.Ways.{way_at}
use Rattle.network_view.proofs.Lists.{known_item, flat_count, flat_numbered, numbered_none}
use Rattle.network_view.proofs.text.lines_of_ways.Goals as goal

pub loop-i-init : goal.loop-i-init
loop-i-init c = record { text = c.new-text.ensures.bytes ∙ sym (numbered_none (way_lines c.args.named.now) 1); count = refl; most = omega arith }

pub loop-i-preserved : goal.loop-i-preserved
loop-i-preserved c =
    let all = c.args.legs.now in
    let network = c.args.named.now.network in
    let i = c.loop-i.i in
    let x = c.index-legs-i.result in
    let inv = c.loop-i.invariant in
    let known = known_item all i x (let less = c.loop-i-test.true in omega arith) c.index-legs-i.is in
    let more : string_bytes c.add_way.new.text ≡ string_bytes c.loop-i.text ++ numbered (way_lines c.args.named.now) (c.loop-i.count + 1)
    (way_at network (length all) x) =
    let said = c.in_ok-count.ensures.text in let is = c.index-legs-i.is in cc in
    let ways : c.in_ok-count.field-0 ≡ length (way_at network (length all) x) = let said = c.in_ok-count.ensures.told in let is = c.index-legs-i.is in cc in
    record {
      text = flat_numbered (way_lines c.args.named.now) (way_at network (length all)) all i x c.loop-i.count (string_bytes c.loop-i.text)
          (string_bytes c.add_way.new.text) known inv.count inv.text more;
      count = flat_count (way_at network (length all)) all i x c.loop-i.count c.in_ok-count.field-0 known inv.count ways;
      most = (let most = inv.most in let one = c.in_ok-count.ensures.one in omega arith);
    }
