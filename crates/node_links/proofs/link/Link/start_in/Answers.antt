use Rattle.std.proofs.Common.{◌≡◌, ◌+◌, ◌∙◌, true, refl, sym, arith, nat_eq}
use Rattle.std.proofs.lemmas.Bool.Decides.{nat_tests}
use Rattle.node_links.proofs.LinkLaws.{still_its}
use Rattle.node_links.proofs.link.Link.start_in.Goals as goal

pub invariant_of-self : goal.invariant_of-self
invariant_of-self c = record { of_entry = still_its c.args.self.now c.start.new.self c.start.ensures.entry }

pub returns-then-starts_in : goal.returns-then-starts_in
returns-then-starts_in c =
    let tested : nat_eq c.args.self.now.entry.start (c.args.past + 1) ≡ true = sym c.starts_in.ensures ∙ c.if-starts_in.true in
    let here : c.args.self.now.entry.start ≡ c.args.past + 1 = grind (arith, nat_tests) in
    record {
      same = record { entry = refl; pipe = λ x h. c.start.ensures.entry x h };
      other = λ not. absurd (not here);
      stands = λ at x input h of. c.start.ensures.stands x input h.pipe of;
      client_in = λ at x n first h e. c.start.ensures.client_in x n first h.pipe e;
      client_out = λ at x n input first h e. c.start.ensures.client_out x n input first h.pipe e;
    }
