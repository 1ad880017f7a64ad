-- A node stands where it stood when further bytes are handed in.
use Rattle.std.proofs.Common.{◌≡◌, ◌≢◌, ℕ, false, List, Option, Some, None, refl, sym, subst, ap, ◌∙◌, inl, inr}
use Rattle.std.proofs.lemmas.Bool.Decides.{eqb_tells}
use Rattle.std.proofs.lemmas.List.{append_assoc}
use Rattle.otn_base.specs.declared.kind.PortName.{PortName}
use Rattle.otn_base.specs.declared.kind.PortName.TheVariants as port
use Rattle.port_base.specs.Bytes.{before}
use Rattle.port_base.specs.Given.{Gave}
use Rattle.port_base.specs.Places.{place_at, Input}
use Rattle.port_base.specs.Views.{InView, BaysView, line_in_at}
use Rattle.line_side.specs.LineForm.{LineForm}
use Rattle.line_side.specs.LineStands.{LineView, LineStands}
use Rattle.plan_file.specs.declared.plan.Plan.{Plan}
use Rattle.device_model.specs.Entries.{form_in}
use Rattle.device_model.specs.Moments.{uses}
use Rattle.node_moments.specs.NodeView.{NodeView}
use Rattle.node_moments.specs.Stands.{InputBytes, StandsAt, PortStands, LineInAt}
use Rattle.live_laws.specs.HandedIn.{left_with, grown, LineGrew, LinesGrow}

gives_on : (further bytes : List ℕ) (left : Option (List ℕ)) → left_with further (before bytes left) ≡ before bytes (left_with further left)
gives_on further bytes None = refl
gives_on further bytes (Some left) = ap Some (append_assoc bytes left further)

pub gave_on : (further : List ℕ) (first now : InView) (read : List ℕ) → Gave first read now → Gave (grown further first) read (grown further now)
gave_on further first now read g = record {
  takes = record {
    boxed = g.takes.boxed;
    left = ap (left_with further) g.takes.left ∙ gives_on further read now.left;
    faults = g.takes.faults;
    number = g.takes.number;
  };
  state = g.state;
  idle = λ ne. (ap (grown further) (g.idle ne).0, (g.idle ne).1);
}

line_on : (further : List ℕ) (form : LineForm) (first now : InView) (read : List ℕ) (t : ℕ) (line : LineView)
    → now.ended ≡ false → LineStands form first now read t line → LineStands form (grown further first) (grown further now) read t line
line_on further form first now read t line unended s = record {
  is_form = s.is_form;
  gave = gave_on further first now read s.gave;
  ending = record { died = s.ending.died; seen = s.ending.seen };
  over = λ closed live. (let has = s.over closed live in let answered = has.answered in absurd (cc));
  unended = s.unended;
  is_line = s.is_line;
}

module _ (plan : Plan) (first now first' now' : BaysView) (read : InputBytes) (node : NodeView) (a : ℕ) (further : List ℕ)
    (unended : (line_in_at now a).ended ≡ false) (f : LineGrew a further first first') (n : LineGrew a further now now')
    (s : StandsAt plan first read node now) where
  -- the line itself
  own_line : LineInAt plan first' read node now' a
  own_line line has used =
      let h = s.ports (port.LineIn a) line has used in (
        subst (λ v. LineStands (form_in plan a) v (line_in_at now' a) (read.line a) node.past line) (sym f.line)
            (subst (λ w. LineStands (form_in plan a) (grown further (line_in_at first a)) w (read.line a) node.past line) (sym n.line)
            (line_on further (form_in plan a) (line_in_at first a) (line_in_at now a) (read.line a) node.past line unended h.0)),
        h.1,
      )

  other_line : (b : ℕ) → b ≢ a → LineInAt plan first' read node now' b
  other_line b ne line has used =
      let h = s.ports (port.LineIn b) line has used in (
        subst (λ v. LineStands (form_in plan b) v (line_in_at now' b) (read.line b) node.past line) (sym (f.others b ne))
            (subst (λ w. LineStands (form_in plan b) (line_in_at first b) w (read.line b) node.past line) (sym (n.others b ne)) h.0),
        h.1,
      )

  line_at : (b : ℕ) → LineInAt plan first' read node now' b
  line_at b = elim (eqb_tells b a) [
    | inl e ↦ subst (λ c. LineInAt plan first' read node now' c) (sym e.1) own_line
    | inr e ↦ other_line b e.1
  ]

  ports : (name : PortName) → PortStands plan first' read node now' name
  ports (port.LineIn b) = line_at b
  ports (port.LineOut b) = λ inputs may line has used.
      let h = s.ports (port.LineOut b) inputs may line has used in
      (h.0, h.1, rw (f.line_out, n.line_out) h.2)
  ports (port.ClientIn m) = record {
    started = λ i x link e has t le.
        let c = (s.ports (port.ClientIn m)).started i x link e has t le in
        record { was = c.was; stands = rw f.client_in c.stands; place = rw n.client_in c.place };
    waits = λ i x e t late. let w = (s.ports (port.ClientIn m)).waits i x e t late in (rw (f.client_in, n.client_in) w.0, w.1);
  }
  ports (port.ClientOut m) = record {
    started = λ i x link e has t le.
        let c = (s.ports (port.ClientOut m)).started i x link e has t le in
        record { was = c.was; stands = rw f.client_out c.stands; place = rw n.client_out c.place };
    waits = λ i x e t late. let w = (s.ports (port.ClientOut m)).waits i x e t late in (rw (f.client_out, n.client_out) w.0, w.1);
  }

  same_input : (v w : InView) → Input v ≡ Input w → v ≡ w
  same_input v w e = cc

  idle_line : (b : ℕ) → place_at now (port.LineIn b) ≡ place_at first (port.LineIn b) → line_in_at now' b ≡ line_in_at first' b
  idle_line b e = elim (eqb_tells b a) [
    | inl k ↦ rw k.1 (n.line ∙ ap (grown further) (same_input _ _ (subst (λ c. place_at now (port.LineIn c) ≡ place_at first (port.LineIn c)) k.1 e)) ∙ sym f.line)
    | inr k ↦ n.others b k.1 ∙ same_input _ _ e ∙ sym (f.others b k.1)
  ]

  idle : (name : PortName) → uses plan name ≡ false → place_at now' name ≡ place_at first' name
  idle (port.LineIn b) off = ap Input (idle_line b (s.idle (port.LineIn b) off))
  idle (port.LineOut b) off = rw (f.line_out, n.line_out) (s.idle (port.LineOut b) off)
  idle (port.ClientIn m) off = rw (f.client_in, n.client_in) (s.idle (port.ClientIn m) off)
  idle (port.ClientOut m) off = rw (f.client_out, n.client_out) (s.idle (port.ClientOut m) off)

  stands : StandsAt plan first' read node now'
  stands = record { plan_stands = s.plan_stands; pipes = s.pipes; ports = ports; idle = idle }

pub lines_grow : LinesGrow
lines_grow plan first now first' now' read node a further unended f n s = stands plan first now first' now' read node a further unended f n s
