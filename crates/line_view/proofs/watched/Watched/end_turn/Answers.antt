use Rattle.std.proofs.Common.{◌≡◌, ◌∷◌, [], true, false, refl, subst, arith}
use Rattle.std.specs.Prelude.{nat_le}
use Rattle.std.proofs.lemmas.Bool.Decides.{nat_tests}
use Rattle.trib_sink.specs.Sink.{StandsAfter, ended_view}
use Rattle.line_view.specs.ViewText.{told_of}
use Rattle.line_view.proofs.Steps.{made_told}
use Rattle.line_view.proofs.watched.Watched.end_turn.Goals as goal

pub returns-then-t-self-clause-turn : goal.returns-then-t-self-clause-turn
returns-then-t-self-clause-turn c =
    let early = c.if-t-self.true in
    let off : nat_le c.args.self.now.first c.args.t ≡ false = grind (arith, nat_tests) in
    record {
      same = record { slots = refl; sink_port = refl; port = refl; name = refl; first = refl; stop = refl };
      waits = λ _. refl;
      count = λ on. cc;
      stands = λ on. cc;
      told = λ on. cc;
    }

pub returns-clause-turn : goal.returns-clause-turn
returns-clause-turn c =
    let late = c.if-t-self.false in
    let on : nat_le c.args.self.now.first c.args.t ≡ true = grind (arith, nat_tests) in
    let e = c.end_turn-bytes.ensures in
    let all = c.has_all-whole.ensures in
    let sink = c.end_turn-bytes.new.self in
    record {
      same = record { slots = e.slots; sink_port = e.port; port = refl; name = refl; first = refl; stop = refl };
      waits = λ off. cc;
      count = λ _. e.taken;
      stands = λ _ has own past frames h. subst (λ w. StandsAfter own (ended_view own w frames ∷ past) [] sink) (all.same has) (e.stands own past frames h);
      told = λ _ has own past frames h.
          let view = ended_view own c.has_all-whole.result frames in
          let stands = e.stands own past frames h in
          subst (λ w. record { state = c.state.result; pair = c.pair.result; bytes = c.end_turn-bytes.result } ≡ told_of own past (ended_view own w frames)) (all.same has)
          (made_told own past view c.state.result c.pair.result c.end_turn-bytes.result (c.state.ensures own (view ∷ past) [] stands) (c.pair.ensures own (view ∷ past) [] stands) (e.count own past frames h));
    }
