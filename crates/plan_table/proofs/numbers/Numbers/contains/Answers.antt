use Rattle.std.proofs.Common.{◌≡◌, ◌∙◌, sym, rules, to_z, of_z, w64, false}
use Rattle.std.specs.Ordering.{int_eq}
use Rattle.plan_table.specs.Seen.{numbers_in}
use Rattle.plan_table.proofs.Steps.{any_go}
use Rattle.plan_table.proofs.numbers.Numbers.contains.Goals as goal

pub loop-i-preserved : goal.loop-i-preserved
loop-i-preserved c =
    let same : to_z w64 (of_z w64 c.args.number) ≡ c.args.number = search (rules, c.ranges.number) in
    let same' : to_z w64 (of_z w64 c.at.result) ≡ c.at.result = search (rules, c.at.type_inv) in
    let fails : int_eq c.args.number c.at.result ≡ false = rw (same, same') at (sym c.if-is_equal.ensures) in
    rw same ((rw same at c.loop-i.invariant) ∙ any_go (int_eq c.args.number) (numbers_in c.args.self.now) c.loop-i.i c.at.result c.at.ensures fails)
