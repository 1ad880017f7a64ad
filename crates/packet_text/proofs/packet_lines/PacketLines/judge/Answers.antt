use Rattle.std.proofs.Common.{rules, ◌≡◌, ◌≤◌, length, arith, refl, ap, ◌∙◌, take}
use Rattle.std.proofs.lemmas.List.{with_items_is}
use Rattle.packet_text.proofs.Judging.{judge_empty, judge_packet}
use Rattle.packet_text.proofs.packet_lines.PacketLines.judge.Goals as goal

pub returns-in-Some-eq0-clause-judges : goal.returns-in-Some-eq0-clause-judges
returns-in-Some-eq0-clause-judges c = λ lines h.
    judge_empty lines _ _ _ c.in-Some-eq0.field-0 _ _ _ c.line.ensures c.in-Some-eq0.field-0-test c.in-Some-eq0.ensures.1 h c.pass.ensures.bad c.pass.ensures.empty c.saturating_add-self.ensures

pub returns-in-Some-clause-judges : goal.returns-in-Some-clause-judges
returns-in-Some-clause-judges c = λ lines h.
    let s = c.args.self.now in
    let size : length c.read_line.new.packet ≡ s.spare.len = omega (arith, c.read_line.auto.packet, c.deref_mut.ensures.len, s.spare_size) in
    let room : c.in-Some.n ≤ length c.read_line.new.packet = omega (arith, c.in-Some.ensures.0, s.spare_size) in
    judge_packet lines _ _ _ c.in-Some.n _ _ c.line.ensures (search rules) room c.in-Some.ensures.1 h (ap (λ v. take c.in-Some.n v.items) c.swap.ensures.x_after ∙ ap (take c.in-Some.n) (with_items_is s.spare c.read_line.new.packet size)) refl c.saturating_add-self.ensures
