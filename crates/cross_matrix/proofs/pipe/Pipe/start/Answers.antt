use Rattle.std.proofs.Common.{◌∙◌, ap, sym, subst}
use Rattle.otn_base.specs.Bursts.{BurstView}
use Rattle.cross_matrix.specs.Parts.{TakesFrom}
use Rattle.cross_matrix.specs.Pipes.{IsPipeOf}
use Rattle.cross_matrix.proofs.PipeMoves.{out_fresh}
use Rattle.cross_matrix.proofs.pipe.Pipe.start.Goals as goal

pub invariant_of-self : goal.invariant_of-self
invariant_of-self c = record {
  sink = c.start.ensures.slots c.self.inside.slots c.self.invariant.sink;
  source = c.start-2.ensures.slots c.self.inside.slots c.self.invariant.source;
  fit = c.self.invariant.fit;
  incoming = ap (λ (b : BurstView). b.room) c.clear.ensures ∙ c.self.invariant.incoming;
  outgoing = ap (λ (b : BurstView). b.room) c.clear-2.ensures ∙ c.self.invariant.outgoing;
}

pub returns-clause-client_in : goal.returns-clause-client_in
returns-clause-client_in c = λ x n first entry e.
    c.start.ensures.text x n first (subst (λ from. TakesFrom from x c.self.inside.taking) e (subst (IsPipeOf x) (sym c.self.view_is) entry).taking)

pub returns-clause-client_out : goal.returns-clause-client_out
returns-clause-client_out c = λ x n input first entry e.
    out_fresh x n input first c.self.inside.giving c.start-2.new.self e (subst (IsPipeOf x) (sym c.self.view_is) entry).giving (c.start-2.ensures.text first)
