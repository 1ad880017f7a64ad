use Rattle.std.proofs.Common.{arith}
use Rattle.unbundle_command.proofs.Holding.{clients_none, clients_twice}
use Rattle.unbundle_command.proofs.outputs.flush_all.Goals as goal

pub loop-cid-init : goal.loop-cid-init
loop-cid-init g c = record {
  many = c.requires.many;
  stands = λ first arrived h. h;
  none = record { each = λ cid low. absurd (omega (arith, low)) };
  alone = clients_none _;
}

pub loop-cid-preserved : goal.loop-cid-preserved
loop-cid-preserved g c = record {
  many = c.flush_one.ensures.many;
  stands = λ first arrived h. c.flush_one.ensures.stands first arrived (c.loop-cid.invariant.stands first arrived h);
  none = c.flush_one.ensures.none c.loop-cid.invariant.none;
  alone = clients_twice _ _ _ c.loop-cid.invariant.alone c.flush_one.ensures.alone;
}

pub returns-clause-none : goal.returns-clause-none
returns-clause-none g c = record { each = λ cid low. c.loop-cid.invariant.none.each cid (omega (arith, low, c.loop-cid-test.false)) }
