-- What has left of two live nodes is the same as far as the same was handed in.
use Rattle.std.proofs.Common.{◌≡◌, ◌<◌, ◌≤◌, ◌+◌, ◌-◌, ◌*◌, ◌/◌, ◌%◌, ◌&&◌, ℕ, Bool, true, false, min}
use Rattle.std.proofs.Common.{List, length, take, Option, Some, None, slice_get, nat_le, if◌then◌else◌, refl, sym, ap, ◌∙◌, subst, arith}
use Rattle.std.specs.Prelude.{⊤}
use Rattle.std.specs.List.{Contains, concat}
use Rattle.std.proofs.lemmas.List.{length-take, take_all}
use Rattle.std.proofs.lemmas.Option.{slice_get_read, slice_get_within}
use Rattle.otn_base.specs.LineSlots.{LineSlots, slots_of}
use Rattle.otn_base.specs.declared.kind.PortName.TheVariants as port
use Rattle.otn_base.specs.declared.line_kind.LineKind.{LineKind}
use Rattle.otn_base.specs.declared.line_kind.LineKind.TheVariants as kinds
use Rattle.port_base.specs.Sent.{IsSent}
use Rattle.port_base.specs.Retiring.{retired_out_as}
use Rattle.port_base.specs.Views.{State, Empty, Live, Dead, OutView, BaysView, line_out_at, client_out_at}
use Rattle.line_side.specs.LineForm.{size_of, through_mask}
use Rattle.line_side.specs.LineOutput.{FramePut}
use Rattle.plan_file.specs.Answer.{fault_in}
use Rattle.plan_file.specs.declared.connection.Connection.{Connection}
use Rattle.plan_file.specs.declared.connection.ToEnd.TheVariants as to_end
use Rattle.plan_file.specs.declared.plan.Plan.{Plan}
use Rattle.tributary_model.specs.Places.{tributary_of}
use Rattle.tributary_model.specs.Puts.{IsPut}
use Rattle.device_model.specs.Entries.{first_turn, own_turn, form_out, IsActive}
use Rattle.device_model.specs.LineFiles.{IsFrameOf, IsLineFile}
use Rattle.device_model.specs.Moments.{uses, turns_done, client_due, is_retired, LineDue}
use Rattle.device_model.specs.RetiredPlaces.{out_after_retire}
use Rattle.device_model.specs.Through.{Inputs, OwnInput, own_input, got_by, text_by}
use Rattle.device_model.proofs.ConnectionPorts.{to_line_used}
use Rattle.connection_laws.specs.TwoWorlds.{SameInput, FiledRun, HasFrame, HaveFrame, HaveSameByte}
use Rattle.connection_laws.specs.UpToTurn.{ShowUpTo}
use Rattle.connection_laws.proofs.OneFile.{one_file}
use Rattle.connection_laws.proofs.OwnBytes.{writes_as_got}
use Rattle.connection_laws.proofs.UpToTurn.{looks_not_ahead, shows_the_same_up_to}
use Rattle.connection_laws.proofs.WorldInputs.{gives_the_same_input, leaves_the_same, sound_of}
use Rattle.run_laws.specs.RunsAlike.{HasPlace}
use Rattle.run_laws.proofs.RunsAlike.{all_of, frame_made}
use Rattle.node_moments.specs.NodeView.{NodeView}
use Rattle.node_moments.specs.Stands.{InputBytes}
use Rattle.live_laws.specs.Live.{telling, AreServed, LiveStands}
use Rattle.live_laws.specs.LiveTurns.{inputs_of, turns_out}
use Rattle.live_laws.specs.LivePairs.{LiveMoment, IsLive, HasGot, LineGot, ClientGot, LeaveAlike, LivesAreIsolated, LivesLookNotAhead, AgreeSoFar, RingsClose, turns_of}
use Rattle.live_laws.proofs.LiveTurns.{live_turns}

-- ---- what a live place got is what was due

some_same : {a b : List ℕ} → ◌≡◌ {A = Option (List ℕ)} (Some a) (Some b) → a ≡ b
some_same e = cc

pub whole_sent : (due bytes : List ℕ) (now : OutView) → IsSent telling due now → HasGot now bytes → bytes ≡ due
whole_sent due bytes now s has =
    some_same (sym has.got ∙ s.gained.sends.got) ∙ all_of s.written s.rest due s.parts (s.whole has.alive)

not_live : (state : State) (was : OutView) → was.state ≡ state → (retired_out_as state was).state ≡ Live → ⊥
not_live Empty was is live = cc
not_live Live was is live = cc
not_live Dead was is live = cc

-- a place that is live was not emptied
pub not_emptied : (retired : Bool) (was now : OutView) → now ≡ out_after_retire retired was → now.state ≡ Live → now ≡ was
not_emptied false was now e live = e
not_emptied true was now e live = absurd (not_live was.state was refl (sym (ap (λ (v : OutView). v.state) e) ∙ live))

pub entry : (plan : Plan) (x : Connection) → (c : Contains plan.connections x) → slice_get plan.connections c.0 ≡ Some x
entry plan x c = slice_get_read plan.connections (length plan.connections) c.0 x refl c.1 (sym c.2)

line_is_due : (plan : Plan) (live : LiveMoment) (b : ℕ) (bytes : List ℕ) → IsLive plan live → uses plan (port.LineOut b) ≡ true → LineGot live b bytes
    → LineDue plan (inputs_of plan live.handed) b (turns_of live) 0 bytes
line_is_due plan live b bytes is used has =
    let left = (live_turns plan live.handed live.node live.now is.stands is.served).line b used in
    subst (LineDue plan (inputs_of plan live.handed) b (turns_of live) 0) (sym (whole_sent left.0 bytes (line_out_at live.now b) left.2 has)) left.1

pub text_is_due : (plan : Plan) (handed : InputBytes) (node : NodeView) (now : BaysView) (x : Connection) (n : ℕ) (bytes : List ℕ) → LiveStands plan handed node now
    → AreServed node → Contains plan.connections x → x.to ≡ to_end.Client n → x.start ≤ node.past + 1 → HasGot (client_out_at now n) bytes
    → bytes ≡ client_due x (own_input (inputs_of plan handed) x) (turns_out node) 0
text_is_due plan handed node now x n bytes h served has to start got =
    let left = (live_turns plan handed node now h served).client has.0 n x (entry plan x has) to start in
    let due = client_due x (own_input (inputs_of plan handed) x) (turns_out node) 0 in
    let same = not_emptied (is_retired x node.past) left.was (client_out_at now n) left.place got.alive in
    whole_sent due bytes (client_out_at now n) (subst (IsSent telling due) (sym same) left.sent) got

client_is_due : (plan : Plan) (live : LiveMoment) (x : Connection) (n : ℕ) (bytes : List ℕ) → IsLive plan live → Contains plan.connections x
    → x.to ≡ to_end.Client n → x.start ≤ live.node.past + 1 → ClientGot live n bytes
    → bytes ≡ client_due x (own_input (inputs_of plan live.handed) x) (turns_of live) 0
client_is_due plan live x n bytes is has to start got = text_is_due plan live.handed live.node live.now x n bytes is.stands is.served has to start got

-- ---- a connection of both

filed : (plan : Plan) (live : LiveMoment) (b : ℕ) (bytes : List ℕ) → LineDue plan (inputs_of plan live.handed) b (turns_of live) 0 bytes → FiledRun
filed plan live b bytes due = record { plan = plan; inputs = inputs_of plan live.handed; frames = due.frames }

has_frame : (plan : Plan) (live : LiveMoment) (x : Connection) (b number past n row column : ℕ) (slots : LineSlots) (bytes : List ℕ) → IsLive plan live
    → Contains plan.connections x → HasPlace x b number past n row column slots → past < turns_of live
    → (due : LineDue plan (inputs_of plan live.handed) b (turns_of live) 0 bytes) → HasFrame (filed plan live b bytes due) x b number past n slots
unfolding filed
has_frame plan live x b number past n row column slots bytes is has place less due =
    let accepted = is.stands.stands.plan_stands.accepted in
    let sound = sound_of plan x accepted has in
    let same : slots_of slots.kind ≡ size_of (form_out plan b) = ap slots_of (sound.to_line b number slots place.to).kind in
    let frame = place.frame in
    record {
      accepted = accepted;
      sends = record { is_of = has; to = place.to; active = place.active };
      count = size_of (form_out plan b) * turns_of live + 0;
      file = due.file;
      made = frame_made past n (size_of (form_out plan b)) (turns_of live) less (omega arith);
    }

same_byte : (plan other_plan : Plan) (one other : LiveMoment) (x : Connection) (b number past n row column : ℕ) (slots : LineSlots) (bytes others : List ℕ)
    → (due : LineDue plan (inputs_of plan one.handed) b (turns_of one) 0 bytes)
    → (other_due : LineDue other_plan (inputs_of other_plan other.handed) b (turns_of other) 0 others)
    → HaveFrame (filed plan one b bytes due) (filed other_plan other b others other_due) x b number past n row column slots
    → got_by x (own_input (inputs_of plan one.handed) x) (own_turn x past + 1) ≡ got_by x (own_input (inputs_of other_plan other.handed) x) (own_turn x past + 1)
    → (form_out plan b).scrambled ≡ (form_out other_plan b).scrambled → HaveSameByte bytes others (slots_of slots.kind * past + n) row column
unfolding filed
same_byte plan other_plan one other x b number past n row column slots bytes others due other_due have same mask =
    let f = slots_of slots.kind * past + n in
    subst (λ l. HaveSameByte l others f row column) (sym due.bytes)
    (subst (λ l. HaveSameByte (through_mask (form_out plan b).scrambled (concat due.frames)) l f row column) (sym other_due.bytes)
    (writes_as_got (filed plan one b bytes due) (filed other_plan other b others other_due) x b number past n row column slots have same mask))

-- what left is the same where what was got is
abbrev GotAlike : (Turn : (own : ℕ) → Type 0) → Connection → (one other : OwnInput) → Type 0
GotAlike Turn x one other = (own : ℕ) → Turn own
    → (got_by x one (own + 1) ≡ got_by x other (own + 1)) × (text_by x one (own + 1) ≡ text_by x other (own + 1))

alike : (Turn : (own : ℕ) → Type 0) (plan other_plan : Plan) (one other : LiveMoment) (x : Connection) → IsLive plan one → IsLive other_plan other
    → Contains plan.connections x → Contains other_plan.connections x
    → GotAlike Turn x (own_input (inputs_of plan one.handed) x) (own_input (inputs_of other_plan other.handed) x)
    → LeaveAlike Turn plan other_plan one other x
alike Turn plan other_plan one other x first second has has_too same = record {
  client = λ n own text others to start start_too turns turns_too within got got_too.
      client_is_due plan one x n text first has to start got ∙ ap (text_by x (own_input (inputs_of plan one.handed) x)) turns
      ∙ (same own within).1
      ∙ sym (client_is_due other_plan other x n others second has_too to start_too got_too ∙ ap (text_by x (own_input (inputs_of other_plan other.handed) x)) turns_too);
  line = λ b number past n row column slots bytes others place mask less less_too within got got_too.
      let used = to_line_used plan has.0 b number slots x (entry plan x has) place.to in
      let used_too = to_line_used other_plan has_too.0 b number slots x (entry other_plan x has_too) place.to in
      let due = line_is_due plan one b bytes first used got in
      let other_due = line_is_due other_plan other b others second used_too got_too in
      same_byte plan other_plan one other x b number past n row column slots bytes others due other_due
      record {
        first = has_frame plan one x b number past n row column slots bytes first has place less due;
        second = has_frame other_plan other x b number past n row column slots others second has_too place less_too other_due;
        frame = place.frame;
        own = place.own;
      }
      (same (own_turn x past) within).0 mask;
}

pub lives_are_isolated : LivesAreIsolated
lives_are_isolated plan other_plan one other x first second has has_too agree =
    let a = own_input (inputs_of plan one.handed) x in
    let b = own_input (inputs_of other_plan other.handed) x in
    let shows : SameInput a b =
    gives_the_same_input plan x (inputs_of plan one.handed) (inputs_of other_plan other.handed) first.stands.stands.plan_stands.accepted has agree in
    alike (λ own. ⊤) plan other_plan one other x first second has has_too
    (λ own within. let same = leaves_the_same x a b (own + 1) shows in (same.got, same.text))

pub lives_look_not_ahead : LivesLookNotAhead
lives_look_not_ahead plan other_plan one other x turns first second has has_too agree =
    let a = own_input (inputs_of plan one.handed) x in
    let b = own_input (inputs_of other_plan other.handed) x in
    let shows : ShowUpTo x turns a b =
    shows_the_same_up_to plan x turns (inputs_of plan one.handed) (inputs_of other_plan other.handed) first.stands.stands.plan_stands.accepted has agree in
    alike (λ own. own ≤ turns) plan other_plan one other x first second has has_too
    (λ own within. let same = looks_not_ahead x turns a b shows in (same.got (own + 1) (omega arith), same.text (own + 1) (omega arith)))

-- ---- a whole node

no_piece : (b : Bool) → ◌≡◌ {A = ℕ} (if b then 0 else 0) 0
no_piece true = refl
no_piece false = refl

pub so_many : (x : Connection) (turns : ℕ) → turns_done x turns 0 ≡ min turns x.stop - first_turn x
so_many x turns =
    ap (λ n. min turns x.stop - first_turn x + n) (no_piece (nat_le x.start (turns + 1) && nat_le (turns + 1) x.stop)) ∙ omega arith

own_is_done : (x : Connection) (past turns : ℕ) → IsActive x past → past ≤ turns → own_turn x past + 1 ≤ turns_done x turns 0 + 1
own_is_done x past turns active few =
    let many = so_many x turns in
    let stop = active.stop in
    omega arith

same_frame : (plan : Plan) (one other : Inputs) (b past n turns : ℕ) (put : FramePut) → fault_in plan ≡ None → past ≤ turns → AgreeSoFar plan turns one other
    → IsFrameOf plan one b past n put → IsFrameOf plan other b past n put
same_frame plan one other b past n turns put accepted few agree h = record {
  mfas = h.mfas;
  many = h.many;
  used = h.used;
  free = h.free;
  size = h.size;
  own = λ x number slots sent.
      let k : ℕ = turns_done x turns 0 in
      let shows = shows_the_same_up_to plan x k one other accepted sent.is_of (agree x sent.is_of) in
      let same = (looks_not_ahead x k (own_input one x) (own_input other x) shows).got (own_turn x past + 1) (own_is_done x past turns sent.active few) in
      subst (λ got. IsPut (tributary_of slots number) got (own_turn x past) n put.bytes) same (h.own x number slots sent);
  other = h.other;
}

of_kind : (kind : LineKind) (f turns : ℕ) → f < slots_of kind * turns + 0 → f / slots_of kind < turns
of_kind kinds.Otu2 f turns less = omega arith
of_kind kinds.Otu3 f turns less = omega arith

same_file : (plan : Plan) (one other : Inputs) (b turns past : ℕ) (frames : List (List ℕ)) → fault_in plan ≡ None → turns ≤ past + 1 → AgreeSoFar plan past one other
    → IsLineFile plan one b (size_of (form_out plan b) * turns + 0) frames → IsLineFile plan other b (size_of (form_out plan b) * turns + 0) frames
same_file plan one other b turns past frames accepted few agree h =
    let size = size_of (form_out plan b) in
    record {
      puts = h.puts;
      are_put = record {
        many = h.are_put.many;
        each = λ f put at.
            let within = slice_get_within h.puts f put at in
            let many = h.are_put.many in
            let less = of_kind (form_out plan b).kind f turns (omega arith) in
            same_frame plan one other b (f / size) (f % size) past put accepted (omega arith) agree (h.are_put.each f put at);
      };
      are_frames = h.are_frames;
    }

taken_whole : (count : ℕ) (xs ys : List (List ℕ)) → xs ≡ take count ys → ys ≡ take count xs → xs ≡ ys
taken_whole count xs ys one two =
    let short : length xs ≤ count = (let many = ap length one ∙ length-take count ys in omega arith) in
    sym (two ∙ take_all count xs short)

one_due : (plan : Plan) (inputs : Inputs) (b turns : ℕ) (due others : List ℕ) → LineDue plan inputs b turns 0 due → LineDue plan inputs b turns 0 others → due ≡ others
one_due plan inputs b turns due others one other =
    let count = size_of (form_out plan b) * turns + 0 in
    let same = taken_whole count one.frames other.frames (one_file plan inputs b count count one.frames other.frames one.file other.file (omega arith))
    (one_file plan inputs b count count other.frames one.frames other.file one.file (omega arith)) in
    one.bytes ∙ ap (λ frames. through_mask (form_out plan b).scrambled (concat frames)) same ∙ sym other.bytes

pub rings_close : RingsClose
rings_close plan one other first second past agree =
    let p = first.stands.stands.plan_stands in
    let q = second.stands.stands.plan_stands in
    let a = inputs_of plan one.handed in
    let b = inputs_of plan other.handed in
    let turns : turns_of one ≡ turns_of other =
    ap (λ t. min (t + 1) one.node.turns) past ∙ ap (min (other.node.past + 1)) (p.turns ∙ sym q.turns) in
    let most : turns_of one ≤ one.node.past + 1 = omega arith in
    record {
      line = λ c bytes others used got got_too.
          let due = line_is_due plan one c bytes first used got in
          let other_due = line_is_due plan other c others second used got_too in
          let same : LineDue plan b c (turns_of one) 0 bytes = record {
            frames = due.frames;
            file = same_file plan a b c (turns_of one) one.node.past due.frames p.accepted most agree due.file;
            bytes = due.bytes;
          } in
          one_due plan b c (turns_of other) bytes others (subst (λ t. LineDue plan b c t 0 bytes) turns same) other_due;
      client = λ x n text others has to start got got_too.
          let k : ℕ = turns_done x one.node.past 0 in
          let shows = shows_the_same_up_to plan x k a b p.accepted has (agree x has) in
          let within : turns_done x (turns_of one) 0 ≤ k + 1 = (let e = so_many x (turns_of one) in let f = so_many x one.node.past in omega arith) in
          let same = (looks_not_ahead x k (own_input a x) (own_input b x) shows).text (turns_done x (turns_of one) 0) within in
          client_is_due plan one x n text first has to start got ∙ same
          ∙ ap (λ t. client_due x (own_input b x) t 0) turns
          ∙ sym (client_is_due plan other x n others second has to (omega arith) got_too);
    }
