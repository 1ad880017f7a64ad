use Rattle.std.proofs.Common.{◌≡◌, ◌∙◌, true, false, [], refl, sym, ap, subst}
use Rattle.device_model.specs.Entries.{own_turn}
use Rattle.device_model.specs.Through.{of_line}
use Rattle.cross_matrix.specs.Parts.{IsOver, IsOfClient, IsToClient}
use Rattle.cross_matrix.specs.Pipes.{PipeView, PipeStands}
use Rattle.node_links.specs.Links.{is_on}
use Rattle.node_links.proofs.LinkLaws.{both, own_turn_is, turn_is, takes_text, gives_text, from_as, still_its, has_started}
use Rattle.node_links.proofs.link.Link.fence.Goals as goal

pub invariant_of-self : goal.invariant_of-self
invariant_of-self c = record { of_entry = still_its c.end_frames.new.self c.fence.new.self c.fence.ensures.entry }

pub fence-requires : goal.fence-requires
fence-requires c =
    let same = c.end_frames.ensures.same in
    let on : is_on c.args.past c.args.self.now ≡ true = sym c.is_on.ensures.on ∙ c.if-is_on.true in
    record { turn = has_started c.end_frames.new.self c.args.past (rw same.entry on) }

pub returns-then-is_on : goal.returns-then-is_on
returns-then-is_on c =
    let link = c.args.self.now in
    let past = c.args.past in
    let s = c.end_frames.ensures.same in
    let f = c.end_frames.ensures.ends in
    let t = c.fence.ensures in
    record {
      same = record { entry = s.entry; pipe = λ x h. t.entry x (s.pipe x h) };
      other = λ e. both (is_on past link) (sym c.is_on.ensures.on ∙ c.if-is_on.true) e;
      line = λ on x a number slots shows filled frames h e all view p.
          t.stands x (of_line shows) (own_turn x past) filled true (own_turn_is x link past h on) (subst (λ from. IsOver from true) (sym e) refl)
          (f.line a number slots (from_as x link h ∙ e) x a number slots shows (own_turn x past) filled frames e all p (view ∙ ap shows (sym (turn_is x link past h on))));
      client = λ on x n filled input h e p.
          t.stands x input (own_turn x past) filled true (own_turn_is x link past h on) (subst (λ from. IsOver from true) (sym e) refl)
          (subst (PipeStands x input (own_turn x past) [] true filled) (sym (f.client n (from_as x link h ∙ e))) p);
      text = λ x n h e.
          let still = f.client n (from_as x link h ∙ e) in
          t.client (subst (λ (p : PipeView). IsOfClient p.taking) (sym still) (takes_text x n link.pipe h.pipe e)) ∙ ap (λ (p : PipeView). p.taking) still;
      signal = λ on x signal filled input h e p.
          t.stands x input (own_turn x past) filled false (own_turn_is x link past h on) (subst (λ from. IsOver from false) (sym e) refl)
          (subst (PipeStands x input (own_turn x past) [] false filled) (sym (f.signal signal (from_as x link h ∙ e))) p);
      receiver = λ x n h e. t.receiver (subst IsToClient (sym f.giving) (gives_text x n link.pipe h.pipe e)) ∙ f.giving;
    }
