use Rattle.std.proofs.Common.{◌≡◌, ◌+◌, ◌-◌, ℕ, List, subst, arith}
use Rattle.std.specs.Prelude.{slice_index}
use Rattle.otn_base.specs.declared.kind.PortName.TheVariants as port
use Rattle.node_links.specs.Links.{takes_part}
use Rattle.node_links.specs.Steps.LineFrames.{AllotsOwn}
use Rattle.node_links.specs.declared.link.Link.{Link}
use Rattle.node_links.proofs.LinkSteps.{step_more, step_none}
use Rattle.node_links.proofs.lines_out.slot_map.Goals as goal

pub loop-link-init : goal.loop-link-init
loop-link-init c = record {
  size = c.new-map.ensures.size;
  rest = λ new steps. record {
    first = c.new-map.result;
    blank = record { zero = λ i. let place : i + 1 - 1 ≡ i = omega arith in subst (λ k. slice_index c.new-map.result k ≡ 0) place (c.new-map.ensures.free (i + 1)) };
    steps = steps;
  };
}

pub loop-link-preserved : goal.loop-link-preserved
loop-link-preserved c =
    let Step = λ (link : Link) (before now : List ℕ). AllotsOwn c.args.kind (takes_part c.args.past (port.LineOut c.args.b) link) link before now in
    record {
      size = c.allot_own.ensures.kind;
      rest = λ new steps.
          c.loop-link.invariant.rest new
          (step_more Step c.args.links.now c.loop-link.link-index c.link-item.result c.loop-link.map c.allot_own.new.map new (let test = c.loop-link-test.true in omega arith)
          (subst (λ link. Step link c.loop-link.map c.allot_own.new.map) c.link-item.is c.allot_own.ensures.allots) steps);
    }

pub returns-clause-allots : goal.returns-clause-allots
returns-clause-allots c =
    let Step = λ (link : Link) (before now : List ℕ). AllotsOwn c.args.kind (takes_part c.args.past (port.LineOut c.args.b) link) link before now in
    c.loop-link.invariant.rest c.loop-link.map (step_none Step c.args.links.now c.loop-link.link-index c.loop-link.map (let test = c.loop-link-test.false in omega arith))
