use Rattle.std.proofs.Common.{◌≡◌, ℕ, arith, refl, subst, ap, ◌∙◌}
use Rattle.otn_base.specs.LineSlots.{slots_of}
use Rattle.port_base.specs.InPlace.{in_view}
use Rattle.line_side.specs.LineStands.{LineView}
use Rattle.line_side.proofs.Hunting.{HuntsOn, hunt_begins, hunt_passes, hunt_locks, hunt_ends, hunt_fails, tries_as}
use Rattle.multiframe.proofs.TurnLaw.{some_slots}
use Rattle.line_side.proofs.line_in.LineIn.hunt.Goals as goal

pub loop-init : goal.loop-init
loop-init g c = record { hunts = hunt_begins _ _ _; quiet = λ h. (refl, h) }

pub loop-preserved : goal.loop-preserved
loop-preserved g c = record {
  hunts = hunt_passes _ _ _ _ _ _ _ _ c.loop.invariant.hunts (tries_as _ _ _ _ _ _ _ _ c.loop.invariant.hunts c.in-Passes.ensures.tries);
  quiet = λ h. (let x = c.loop.invariant.quiet h in let y = c.in-Passes.ensures.quiet x.1 in (y.0 ∙ x.0, y.1));
}

pub returns-in-Locks-clause-hunts : goal.returns-in-Locks-clause-hunts
returns-in-Locks-clause-hunts g c =
    let k : slots_of c.kind.result ≡ slots_of c.args.self.now.kind = ap slots_of (c.kind.ensures ∙ ap (λ (l : LineView). l.kind) c.self.view_is) in
    hunt_locks _ _ _ _ _ _ _ _ (omega arith) c.loop.invariant.hunts (tries_as _ _ _ _ _ _ _ _ c.loop.invariant.hunts c.in-Locks.ensures.tries)

pub returns-in-Ends-clause-hunts : goal.returns-in-Ends-clause-hunts
returns-in-Ends-clause-hunts g c =
    let k : slots_of c.kind.result ≡ slots_of c.args.self.now.kind = ap slots_of (c.kind.ensures ∙ ap (λ (l : LineView). l.kind) c.self.view_is) in
    hunt_ends _ _ _ _ _ _ _ _ (omega arith) c.loop.invariant.hunts (tries_as _ _ _ _ _ _ _ _ c.loop.invariant.hunts c.in-Ends.ensures.tries)

pub returns-clause-hunts : goal.returns-clause-hunts
returns-clause-hunts g c =
    let P : ℕ → Type 0 = λ m. HuntsOn (slots_of c.args.self.now.kind) c.args.self.now (in_view g.P.Source c.args.place.now) m c.loop.self (in_view g.P.Source c.loop.place) in
    let k : slots_of c.kind.result ≡ slots_of c.args.self.now.kind = ap slots_of (c.kind.ensures ∙ ap (λ (l : LineView). l.kind) c.self.view_is) in
    let all : c.loop.counter ≡ slots_of c.args.self.now.kind = omega arith in
    hunt_fails _ _ _ _ _ (some_slots c.args.self.now.kind) c.requires.going (subst P all c.loop.invariant.hunts)

pub returns-in-Locks-clause-quiet : goal.returns-in-Locks-clause-quiet
returns-in-Locks-clause-quiet g c = λ h. let x = c.loop.invariant.quiet h in let y = c.in-Locks.ensures.quiet x.1 in (y.0 ∙ x.0, y.1)

pub returns-in-Ends-clause-quiet : goal.returns-in-Ends-clause-quiet
returns-in-Ends-clause-quiet g c = λ h. let x = c.loop.invariant.quiet h in let y = c.in-Ends.ensures.quiet x.1 in (y.0 ∙ x.0, y.1)
