use Rattle.std.specs.Prelude.{vec_len}
use Rattle.std.proofs.Common.{◌≡◌, ◌≤◌, ◌+◌, ◌*◌, ◌/◌, ◌++◌, [], ◌∷◌, ◌∙◌, length, ap, sym, subst}
use Rattle.circular_buffer.specs.Buffer.{keep_last}
use Rattle.gmp_rule.specs.DataRule.{Progress}
use Rattle.trib_source.specs.Backlog.{BacklogView}
use Rattle.trib_source.specs.Source.{Source, IsSource, StandsAfter, said_cm}
use Rattle.trib_source.proofs.Begun.{begun, is_begun, stands_begun}
use Rattle.trib_source.proofs.source.TribSource.begin_turn.Goals as goal

pub invariant_of-self : goal.invariant_of-self
invariant_of-self c =
    let i = c.self.inside in
    let s : Source = record { slots = i.slots; said = i.said; cm = i.runner.cm; asked = i.runner.asked; left = i.backlog.items; cnd = i.cnd; message = i.message; filled = i.filled } in
    let m = c.count-m.result in
    let bytes = c.args.bytes.now in
    let groups = c.begin_groups-message in
    let left : c.push.new.self.items ≡ keep_last (m * said_cm s.said + s.cnd) s.left ++ bytes =
    ap (λ (b : BacklogView). b.items) c.push.ensures ∙ ap (λ xs. xs ++ bytes) (ap (λ (b : BacklogView). b.items) c.pass.ensures ∙ ap (λ k. keep_last k s.left) c.to_keep.ensures) in
    let is : ◌≡◌ {A = Source} (record { slots = i.slots; said = groups.new.said; cm = groups.new.runner.cm; asked = groups.new.runner.asked; left = c.push.new.self.items; cnd = groups.new.cnd; message = groups.result; filled = 0 }) (begun s m bytes) =
    λ k. record {
      slots = i.slots;
      said = (groups.ensures.said) k;
      cm = ap (λ (p : Progress). p.cm) groups.ensures.runner k;
      asked = ap (λ (p : Progress). p.asked) groups.ensures.runner k;
      left = left k;
      cnd = (groups.ensures.cnd) k;
      message = (groups.ensures.message) k;
      filled = 0;
    } in
    let fits : (s.cnd + length bytes) / length s.slots.list ≤ 15232 = subst (λ (x : Source). (x.cnd + length bytes) / length x.slots.list ≤ 15232) (sym c.self.view_is) c.requires.fits in
    subst (λ x. IsSource x c.push.new.self (vec_len i.scratch) groups.new.cm) (sym is)
    (subst (λ k. IsSource (begun s m bytes) c.push.new.self (vec_len i.scratch) k) (sym groups.ensures.cm)
    (is_begun s i.backlog c.push.new.self (vec_len i.scratch) i.cm m bytes c.self.invariant c.count-m.ensures.count fits
    (ap (λ (b : BacklogView). b.newest) c.push.ensures) (ap (λ (b : BacklogView). b.slots) c.push.ensures ∙ ap (λ (b : BacklogView). b.slots) c.pass.ensures)))

pub returns-clause-stands : goal.returns-clause-stands
returns-clause-stands c = λ own turns filled stands.
    let i = c.self.inside in
    let s : Source = record { slots = i.slots; said = i.said; cm = i.runner.cm; asked = i.runner.asked; left = i.backlog.items; cnd = i.cnd; message = i.message; filled = i.filled } in
    let m = c.count-m.result in
    let bytes = c.args.bytes.now in
    let groups = c.begin_groups-message in
    let left : c.push.new.self.items ≡ keep_last (m * said_cm s.said + s.cnd) s.left ++ bytes =
    ap (λ (b : BacklogView). b.items) c.push.ensures ∙ ap (λ xs. xs ++ bytes) (ap (λ (b : BacklogView). b.items) c.pass.ensures ∙ ap (λ k. keep_last k s.left) c.to_keep.ensures) in
    let is : ◌≡◌ {A = Source} (record { slots = i.slots; said = groups.new.said; cm = groups.new.runner.cm; asked = groups.new.runner.asked; left = c.push.new.self.items; cnd = groups.new.cnd; message = groups.result; filled = 0 }) (begun s m bytes) =
    λ k. record {
      slots = i.slots;
      said = (groups.ensures.said) k;
      cm = ap (λ (p : Progress). p.cm) groups.ensures.runner k;
      asked = ap (λ (p : Progress). p.asked) groups.ensures.runner k;
      left = left k;
      cnd = (groups.ensures.cnd) k;
      message = (groups.ensures.message) k;
      filled = 0;
    } in
    subst (λ x. StandsAfter own (turns ++ bytes ∷ []) 0 x) (sym is)
    (stands_begun own turns filled s i.backlog (vec_len i.scratch) i.cm m bytes c.self.invariant c.count-m.ensures.count
    (subst (λ (x : Source). StandsAfter own turns filled x) (sym c.self.view_is) stands))
