-- A node stands where it stood when further packets are handed in at a client.
use Rattle.std.proofs.Common.{◌≡◌, ◌≢◌, ℕ, Bool, true, false, List, refl, sym, subst, ap, ◌∙◌, inl, inr}
use Rattle.std.proofs.lemmas.Bool.Decides.{eqb_tells}
use Rattle.otn_base.specs.declared.kind.PortName.{PortName}
use Rattle.otn_base.specs.declared.kind.PortName.TheVariants as port
use Rattle.port_base.specs.Places.{place_at, Input}
use Rattle.port_base.specs.Retiring.{retired_in_as}
use Rattle.port_base.specs.Views.{State, Empty, Live, Dead, InView, BaysView, client_in_at}
use Rattle.packet_text.specs.LinesStand.{LinesView, LinesStand, lines_view}
use Rattle.plan_file.specs.declared.connection.Connection.{Connection}
use Rattle.plan_file.specs.declared.plan.Plan.{Plan}
use Rattle.cross_matrix.specs.Parts.{ClientInStands}
use Rattle.cross_matrix.specs.declared.taking.TakingPart.{TakingPart}
use Rattle.cross_matrix.specs.declared.taking.TakingPart.TheVariants as taking
use Rattle.device_model.specs.Moments.{uses, turns_done, is_retired}
use Rattle.device_model.specs.RetiredPlaces.{after_retire}
use Rattle.node_moments.specs.NodeView.{NodeView, done_at}
use Rattle.node_moments.specs.Stands.{InputBytes, StandsAt, PortStands}
use Rattle.live_laws.specs.HandedIn.{grown, ClientGrew, PacketsGrow}
use Rattle.live_laws.proofs.Grown.{gave_on}

lines_on : (further : List ℕ) (first now : InView) (read : List ℕ) (packets : List (List ℕ)) (view : LinesView)
    → now.ended ≡ false → LinesStand first now read packets view
    → LinesStand (grown further first) (grown further now) read packets view
lines_on further first now read packets view unended s = record {
  gave = gave_on further first now read s.gave;
  over = λ seen live. (let has = s.over seen live in let answered = has.answered in absurd (cc));
  unended = s.unended;
  alive = s.alive;
  ended = s.ended;
  lost = s.lost;
  goes = s.goes;
  told = s.told;
  shown = s.shown;
  needed = s.needed;
  near = s.near;
}

text_on : (further : List ℕ) (x : Connection) (first now : InView) (read : List ℕ) (n : ℕ) (part : TakingPart) → now.ended ≡ false
    → ClientInStands x first now read n part → ClientInStands x (grown further first) (grown further now) read n part
text_on further x first now read n (taking.Client client) unended s = record {
  emitted = s.emitted;
  count = s.count;
  stands = record {
    packets = s.stands.packets;
    payload = s.stands.payload;
    text = record {
      stands = lines_on further first now read s.stands.packets (lines_view client.lines) unended s.stands.text.stands;
      answer = s.stands.text.answer;
    };
    framed = s.stands.framed;
  };
  sapi = s.sapi;
  fcs = s.fcs;
}
text_on further x first now read n (taking.Line sink) unended s = s
text_on further x first now read n (taking.Signal stream) unended s = s

-- a place that has not answered its end was not emptied
pub record Stayed (further : List ℕ) (retired : Bool) (was now : InView) : Type 0 where
  pub unended : was.ended ≡ false
  pub place : grown further now ≡ after_retire retired (grown further was)

stayed_as : (further : List ℕ) (state : State) (was now : InView) → state ≡ was.state → now.ended ≡ false → now ≡ retired_in_as state was
    → (was.ended ≡ false) × (grown further now ≡ retired_in_as state (grown further was))
stayed_as further Live was now is unended e = absurd (cc)
stayed_as further Empty was now is unended e = (ap (λ (v : InView). v.ended) (sym e) ∙ unended, ap (grown further) e)
stayed_as further Dead was now is unended e = (ap (λ (v : InView). v.ended) (sym e) ∙ unended, ap (grown further) e)

pub stayed : (further : List ℕ) (retired : Bool) (was now : InView) → now.ended ≡ false → now ≡ after_retire retired was → Stayed further retired was now
stayed further false was now unended e = record { unended = ap (λ (v : InView). v.ended) (sym e) ∙ unended; place = ap (grown further) e }
stayed further true was now unended e =
    let s = stayed_as further was.state was now refl unended e in
    record { unended = s.0; place = s.1 }

module _ (plan : Plan) (first now first' now' : BaysView) (read : InputBytes) (node : NodeView) (n : ℕ) (further : List ℕ)
    (unended : (client_in_at now n).ended ≡ false) (f : ClientGrew n further first first') (g : ClientGrew n further now now')
    (s : StandsAt plan first read node now) where
  own_client : PortStands plan first' read node now' (port.ClientIn n)
  own_client = record {
    started = λ i x link e has t le.
        let c = (s.ports (port.ClientIn n)).started i x link e has t le in
        let k : ℕ = turns_done x node.past (done_at node (port.ClientIn n)) in
        let same = stayed further (is_retired x node.past) c.was (client_in_at now n) unended c.place in
        record {
          was = grown further c.was;
          stands = subst (λ v. ClientInStands x v (grown further c.was) (read.client n) k link.pipe.taking) (sym f.client)
              (text_on further x (client_in_at first n) c.was (read.client n) k link.pipe.taking same.unended c.stands);
          place = g.client ∙ same.place;
        };
    waits = λ i x e t late.
        let w = (s.ports (port.ClientIn n)).waits i x e t late in
        (g.client ∙ ap (grown further) w.0 ∙ sym f.client, w.1);
  }

  other_client : (m : ℕ) → m ≢ n → PortStands plan first' read node now' (port.ClientIn m)
  other_client m ne = record {
    started = λ i x link e has t le.
        let c = (s.ports (port.ClientIn m)).started i x link e has t le in
        let k : ℕ = turns_done x node.past (done_at node (port.ClientIn m)) in
        record {
          was = c.was;
          stands = subst (λ v. ClientInStands x v c.was (read.client m) k link.pipe.taking) (sym (f.others m ne)) c.stands;
          place = g.others m ne ∙ c.place;
        };
    waits = λ i x e t late.
        let w = (s.ports (port.ClientIn m)).waits i x e t late in
        (g.others m ne ∙ w.0 ∙ sym (f.others m ne), w.1);
  }

  ports : (name : PortName) → PortStands plan first' read node now' name
  ports (port.LineIn a) = λ line has used. let h = s.ports (port.LineIn a) line has used in (rw (f.line_in, g.line_in) h.0, h.1)
  ports (port.LineOut b) = λ inputs may line has used.
      let h = s.ports (port.LineOut b) inputs may line has used in
      (h.0, h.1, rw (f.line_out, g.line_out) h.2)
  ports (port.ClientIn m) = elim (eqb_tells m n) [
    | inl e ↦ subst (λ c. PortStands plan first' read node now' (port.ClientIn c)) (sym e.1) own_client
    | inr e ↦ other_client m e.1
  ]
  ports (port.ClientOut m) = record {
    started = λ i x link e has t le.
        let c = (s.ports (port.ClientOut m)).started i x link e has t le in
        record { was = c.was; stands = rw f.client_out c.stands; place = rw g.client_out c.place };
    waits = λ i x e t late. let w = (s.ports (port.ClientOut m)).waits i x e t late in (rw (f.client_out, g.client_out) w.0, w.1);
  }

  same_input : (v w : InView) → Input v ≡ Input w → v ≡ w
  same_input v w e = cc

  idle_client : (m : ℕ) → place_at now (port.ClientIn m) ≡ place_at first (port.ClientIn m) → client_in_at now' m ≡ client_in_at first' m
  idle_client m e = elim (eqb_tells m n) [
    | inl k ↦ rw k.1 (g.client ∙ ap (grown further) (same_input _ _ (subst (λ c. place_at now (port.ClientIn c) ≡ place_at first (port.ClientIn c)) k.1 e)) ∙ sym f.client)
    | inr k ↦ g.others m k.1 ∙ same_input _ _ e ∙ sym (f.others m k.1)
  ]

  idle : (name : PortName) → uses plan name ≡ false → place_at now' name ≡ place_at first' name
  idle (port.LineIn a) off = rw (f.line_in, g.line_in) (s.idle (port.LineIn a) off)
  idle (port.LineOut b) off = rw (f.line_out, g.line_out) (s.idle (port.LineOut b) off)
  idle (port.ClientIn m) off = ap Input (idle_client m (s.idle (port.ClientIn m) off))
  idle (port.ClientOut m) off = rw (f.client_out, g.client_out) (s.idle (port.ClientOut m) off)

  stands : StandsAt plan first' read node now'
  stands = record { plan_stands = s.plan_stands; pipes = s.pipes; ports = ports; idle = idle }

pub packets_grow : PacketsGrow
packets_grow plan first now first' now' read node n further unended f g s = stands plan first now first' now' read node n further unended f g s
