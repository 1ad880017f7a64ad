use Rattle.std.proofs.Common.{rules, subst}
use Rattle.otn_c.specs.Places.{IsKept}
use Rattle.otn_c.proofs.Filling.{view}
use Rattle.otn_c.proofs.Parts.{next_out}
use Rattle.otn_c.proofs.outputs.put_outputs.Goals as goal

pub loop-n-preserved : goal.loop-n-preserved
loop-n-preserved c =
    let stood = c.in_ok-end.ensures.put in
    record {
      block = search rules;
      ends = search rules;
      out = next_out c.loop-n.n (view c.args.bays.now) c.loop-n.block c.put_output.new.block c.loop-n.ends c.loop-n.total c.in_ok-end.end stood.0
          (search rules) c.loop-n.invariant.out (subst (λ place. IsKept place stood.0) c.place_of.ensures stood.1) stood.2 c.put_output.ensures.length;
    }
