-- What leaves at the end of a way is the same wherever what came to its beginning is.
use Rattle.std.proofs.Common.{◌≡◌, ◌<◌, ◌≤◌, ◌+◌, ◌-◌, ◌*◌, inl, min, ℕ, List, [], ◌∷◌, ◌++◌, length, map, append-nil, refl, sym, ap, ◌∙◌, subst, arith}
use Rattle.std.specs.List.{Contains}
use Rattle.std.proofs.Math.Nat.{mul-le-mul_left}
use Rattle.otn_base.specs.LineSlots.{LineSlots, slots_of}
use Rattle.port_base.specs.Views.{client_out_at}
use Rattle.line_side.specs.LineForm.{LineForm, size_of, through_mask}
use Rattle.multiframe.specs.LineTurns.{multiframe}
use Rattle.plan_file.specs.declared.connection.Connection.{Connection}
use Rattle.plan_file.specs.declared.connection.FromEnd.{FromEnd}
use Rattle.plan_file.specs.declared.connection.FromEnd.TheVariants as from_end
use Rattle.plan_file.specs.declared.connection.ToEnd.TheVariants as to_end
use Rattle.tributary_model.specs.Places.{Tributary, tributary_of}
use Rattle.device_model.specs.Agreements.{AgreeOnTributary}
use Rattle.device_model.specs.Entries.{first_turn, form_in, form_out, own_turn}
use Rattle.device_model.specs.SoundPlans.{IsSoundEntry}
use Rattle.device_model.specs.Through.{own_input, text_by}
use Rattle.connection_laws.specs.UpToTurn.{AgreeInTurn}
use Rattle.connection_laws.proofs.UpToTurn.{looks_not_ahead, shows_the_same_up_to}
use Rattle.connection_laws.proofs.WorldInputs.{sound_of}
use Rattle.run_laws.specs.RunsAlike.{bytes_out}
use Rattle.run_laws.specs.SeenRuns.{Run, IsRun, LineGave, ClientGot, AgreeOnInput, AgreeOnInputUpTo, ShareInputUpTo, SameText, SameOutput, read_back}
use Rattle.run_laws.proofs.RunsAlike.{all_of, one_front}
use Rattle.run_laws.proofs.RunsThrough.{left_through}
use Rattle.run_laws.proofs.SeenRuns.{world_of, is_world, got_is, agreeing_so_far, not_ahead}
use Rattle.network_laws.specs.Isolation.{SameUpTo, WaysAreIsolated, WaysAreIsolatedUpTo, own_turns}
use Rattle.network_laws.specs.Ways.{Fibre, Hop, IsHop, LeadsOn, IsWay, IsWholeWay, HaveTurns, BringsTurns, last_hop, entries}
use Rattle.network_laws.proofs.Handing.{reads_alike, lived_long}

-- ---- the text of a client

-- where two runs agree on what it comes from in all turns but the last
pub seen_text : (n : ℕ) (one other : Run) (x : Connection) → IsRun one → IsRun other → ShareInputUpTo n one other x → x.stop - first_turn x ≤ n + 1
    → (m : ℕ) (written others : List ℕ) → x.to ≡ to_end.Client m
    → ClientGot one m written → ClientGot other m others → SameText one other m written others
seen_text n one other x first second share few m written others to got got_too =
    let w = agreeing_so_far one other first second x n x.from refl share.first share.second share.agree in
    let is = is_world one first w.mine w.may in
    let is_too = is_world other second w.theirs w.may_too in
    let alike = looks_not_ahead x n (own_input w.mine x) (own_input w.theirs x)
    (shows_the_same_up_to one.plan x n w.mine w.theirs first.accepted share.first w.agree) in
    let all = text_by x (own_input w.mine x) (x.stop - first_turn x) in
    let all_too = text_by x (own_input w.theirs x) (x.stop - first_turn x) in
    let same : all ≡ all_too = alike.text (x.stop - first_turn x) few in
    let front = (left_through (world_of one first w.mine) x is share.first).client m to in
    let front_too = (left_through (world_of other second w.theirs) x is_too share.second).client m to in
    let sent = (bytes_out (world_of one first w.mine) is).client m in
    let sent_too = (bytes_out (world_of other second w.theirs) is_too).client m in
    let e = got_is (client_out_at one.before m) (client_out_at one.after m) all sent written front got in
    let f = got_is (client_out_at other.before m) (client_out_at other.after m) all_too sent_too others front_too got_too in
    subst (λ l. SameText one other m l others) (sym e)
    (subst (λ l. SameText one other m sent l) (sym f)
    (record {
      front = one_front sent front.rest sent_too front_too.rest (front.parts ∙ same ∙ sym front_too.parts);
      whole = λ lived lived_too. all_of sent front.rest all front.parts (front.whole lived) ∙ same
          ∙ sym (all_of sent_too front_too.rest all_too front_too.parts (front_too.whole lived_too));
    }))

all_but_one : (turns : ℕ) (x : Connection) → x.stop ≤ turns + 1 → x.stop - first_turn x ≤ own_turns turns x + 1
all_but_one turns x h = omega arith

pub same_up_to : (turns : ℕ) (one other : Run) (x : Connection) → IsRun one → IsRun other → ShareInputUpTo (own_turns turns x) one other x
    → SameUpTo turns one other x
same_up_to turns one other x first second share = record {
  client = λ n written others to got got_too stop. seen_text (own_turns turns x) one other x first second share
      (all_but_one turns x stop) n written others to got got_too;
  line = not_ahead (own_turns turns x) one other x first second share;
}

-- ---- from one node to the next

-- a fibre that brought the first turns, so many, of a line with so many slots
record Bringing (size turns : ℕ) (here there : Run) (b c : ℕ) : Type 0 where
  fibre : Fibre here there b c
  enough : HaveTurns size turns fibre.brought

same_line : (a b p q : ℕ) (s t : LineSlots) → to_end.Line a p s ≡ to_end.Line b q t → a ≡ b
same_line a b p q s t e = cc

same_slots : (a b p q : ℕ) (s t : LineSlots) → to_end.Line a p s ≡ to_end.Line b q t → s ≡ t
same_slots a b p q s t e = cc

same_taken : (a b p q : ℕ) (s t : LineSlots) → from_end.Line a p s ≡ from_end.Line b q t → a ≡ b
same_taken a b p q s t e = cc

-- the fibre of a way by the same entries leads from the same line to the same line
bringing : (turns : ℕ) (x y : Connection) (here there : Hop) (b c port : ℕ) (slots : LineSlots) → x.to ≡ to_end.Line b port slots
    → y.from ≡ from_end.Line c port slots → x ≡ here.x → y ≡ there.x
    → (l : LeadsOn here there) → HaveTurns (slots_of l.slots.kind) (min turns there.x.stop) l.fibre.brought
    → Bringing (slots_of slots.kind) (min turns y.stop) here.run there.run b c
bringing turns x y here there b c port slots puts takes same next l enough =
    let to : to_end.Line l.b l.port l.slots ≡ to_end.Line b port slots = sym l.goes.puts ∙ sym (ap (λ (z : Connection). z.to) same) ∙ puts in
    let from : from_end.Line l.c l.port l.slots ≡ from_end.Line c port slots = sym l.goes.takes ∙ sym (ap (λ (z : Connection). z.from) next) ∙ takes in
    let it : Bringing (slots_of l.slots.kind) (min turns there.x.stop) here.run there.run l.b l.c = record { fibre = l.fibre; enough = enough } in
    subst (λ b. Bringing (slots_of slots.kind) (min turns y.stop) here.run there.run b c) (same_line l.b b l.port port l.slots slots to)
    (subst (λ c. Bringing (slots_of slots.kind) (min turns y.stop) here.run there.run l.b c) (same_taken l.c c l.port port l.slots slots from)
    (subst (λ (z : Connection). Bringing (slots_of slots.kind) (min turns z.stop) here.run there.run l.b l.c) (sym next)
    (subst (λ (s : LineSlots). Bringing (slots_of s.kind) (min turns there.x.stop) here.run there.run l.b l.c)
    (same_slots l.b b l.port port l.slots slots to) it)))

-- what the next node's line gave is what is read back of this one's
line_read : (here there : Run) (b c : ℕ) (fibre : Fibre here there b c)
    → read_back here b fibre.brought ≡ through_mask (form_in there.plan c).scrambled fibre.brought
line_read here there b c fibre = ap (λ (form : LineForm). through_mask form.scrambled fibre.brought) (sym fibre.form)

pub more_turns : (size past turns many : ℕ) → past + 1 ≤ turns → 16320 * (size * turns) ≤ many → 16320 * (size * (past + 1)) ≤ many
more_turns size past turns many le enough =
    let less : size * (past + 1) ≤ size * turns = mul-le-mul_left size le in
    omega arith

-- by both fibres it shows the next entry alike in its own turns
turn_alike : (turns : ℕ) (one other next after : Run) (x y : Connection) → IsRun one → IsRun other → ShareInputUpTo (own_turns turns x) one other x
    → (b c port : ℕ) (slots : LineSlots) → x.to ≡ to_end.Line b port slots
    → x.start ≤ y.start → y.stop ≤ x.stop → (l : Bringing (slots_of slots.kind) (min turns y.stop) one next b c)
    (m : Bringing (slots_of slots.kind) (min turns y.stop) other after b c)
    → (j : ℕ) → j < own_turns turns y
    → AgreeInTurn (tributary_of slots port) (through_mask (form_in next.plan c).scrambled l.fibre.brought)
    (through_mask (form_in after.plan c).scrambled m.fibre.brought) (first_turn y + j)
turn_alike turns one other next after x y first second share b c port slots to start stop l m j less =
    let past = first_turn y + j in
    let low : past + 1 ≤ min turns y.stop = omega arith in
    let begun : x.start ≤ past + 1 = omega arith in
    let lasts : past + 1 ≤ x.stop = omega arith in
    let so_far : own_turn x past ≤ own_turns turns x = omega arith in
    let own = tributary_of slots port in
    let alike = reads_alike (own_turns turns x) one other x first second share b port past slots to l.fibre.written l.fibre.brought l.fibre.cut l.fibre.went
    l.fibre.parts m.fibre.written m.fibre.brought m.fibre.cut m.fibre.went m.fibre.parts
    (record { start = begun; stop = lasts }) so_far
    (more_turns (slots_of slots.kind) past (min turns y.stop) (length l.fibre.brought) low l.enough)
    (more_turns (slots_of slots.kind) past (min turns y.stop) (length m.fibre.brought) low m.enough) in
    subst (λ line. AgreeInTurn own line (through_mask (form_in after.plan c).scrambled m.fibre.brought) past) (line_read one next b c l.fibre)
    (subst (λ line. AgreeInTurn own (read_back one b l.fibre.brought) line past) (line_read other after b c m.fibre) alike)

line_gave : (here there : Run) (b c : ℕ) (fibre : Fibre here there b c) → LineGave there c (through_mask (form_in there.plan c).scrambled fibre.brought)
line_gave here there b c fibre = record { available = fibre.brought; had = fibre.came; frames = refl }

next_agree : (turns : ℕ) (one other next after : Run) (x y : Connection) → IsRun one → IsRun other → ShareInputUpTo (own_turns turns x) one other x
    → (b c port : ℕ) (slots : LineSlots) → x.to ≡ to_end.Line b port slots → y.from ≡ from_end.Line c port slots
    → x.start ≤ y.start → y.stop ≤ x.stop → Bringing (slots_of slots.kind) (min turns y.stop) one next b c
    → Bringing (slots_of slots.kind) (min turns y.stop) other after b c
    → AgreeOnInputUpTo y.from y (own_turns turns y) next after
next_agree turns one other next after x y first second share b c port slots to from start stop l m =
    subst (λ e. AgreeOnInputUpTo e y (own_turns turns y) next after) (sym from) (
      through_mask (form_in next.plan c).scrambled l.fibre.brought,
      through_mask (form_in after.plan c).scrambled m.fibre.brought,
      line_gave one next b c l.fibre,
      line_gave other after b c m.fibre,
      turn_alike turns one other next after x y first second share b c port slots to start stop l m,
    )

-- ---- along the way

has_other : (x : Connection) (other : Hop) → x ≡ other.x → IsHop other → Contains other.run.plan.connections x
has_other x other same is = subst (λ z. Contains other.run.plan.connections z) (sym same) is.has

pub first_hop : (hop : Hop) (hops : List Hop) → IsWay hop hops → IsHop hop
first_hop hop [] way = way
first_hop hop (next ∷ hops) way = way.0

pub head_is : (x y : Connection) (xs ys : List Connection) → x ∷ xs ≡ y ∷ ys → x ≡ y
head_is x y xs ys e = cc

pub tail_is : (x y : Connection) (xs ys : List Connection) → x ∷ xs ≡ y ∷ ys → xs ≡ ys
tail_is x y xs ys e = cc

-- both runs of a node on two ways by the same entries share its entry
share_of : (n : ℕ) (hop other : Hop) → IsHop hop → IsHop other → hop.x ≡ other.x → AgreeOnInputUpTo hop.x.from hop.x n hop.run other.run
    → ShareInputUpTo n hop.run other.run hop.x
share_of n hop other is is_too same agree = record { first = is.has; second = has_other hop.x other same is_too; agree = agree }

pub isolated_up_to : WaysAreIsolatedUpTo
isolated_up_to turns hop other [] [] way second same brings brings_too agree =
    let x_same = head_is hop.x other.x [] [] same in
    same_up_to turns hop.run other.run hop.x way.is second.is (share_of (own_turns turns hop.x) hop other way second x_same agree)
isolated_up_to turns hop other [] (after ∷ others) way second same brings brings_too agree = absurd (cc)
isolated_up_to turns hop other (next ∷ hops) [] way second same brings brings_too agree = absurd (cc)
isolated_up_to turns hop other (next ∷ hops) (after ∷ others) way second same brings brings_too agree =
    let x_same = head_is hop.x other.x (entries next hops) (entries after others) same in
    let rest = tail_is hop.x other.x (entries next hops) (entries after others) same in
    let y_same = head_is next.x after.x (map (λ h. h.x) hops) (map (λ h. h.x) others) rest in
    let share = share_of (own_turns turns hop.x) hop other way.0 second.0 x_same agree in
    let l : Bringing (slots_of way.1.slots.kind) (min turns next.x.stop) hop.run next.run way.1.b way.1.c = record { fibre = way.1.fibre; enough = brings.0 } in
    let m = bringing turns hop.x next.x other after way.1.b way.1.c way.1.port way.1.slots way.1.goes.puts way.1.goes.takes x_same y_same second.1
    brings_too.0 in
    isolated_up_to turns next after hops others way.2 second.2 rest brings.1 brings_too.1
    (next_agree turns hop.run other.run next.run after.run hop.x next.x way.0.is second.0.is share way.1.b way.1.c way.1.port way.1.slots way.1.goes.puts
    way.1.goes.takes way.1.goes.start way.1.goes.stop l m)

-- ---- whole ways

-- a line that agrees in all frames agrees in each turn
pub line_in_turn : (own : Tributary) (one other : List ℕ) (t : ℕ) → AgreeOnTributary own one other → AgreeInTurn own one other t
line_in_turn own one other t agree = record {
  lock = ap (λ ms. multiframe own.line_slots ms t) agree.mfas;
  bytes = λ at n row column e l is. agree.bytes t at n row column e l is;
}

pub agree_so_far : (from : FromEnd) (x : Connection) (n : ℕ) (one other : Run) → AgreeOnInput from one other → AgreeOnInputUpTo from x n one other
agree_so_far (from_end.Line a port slots) x n one other (line, others, gave, gave_too, agree) =
    (line, others, gave, gave_too, λ j less. line_in_turn (tributary_of slots port) line others (first_turn x + j) agree)
agree_so_far (from_end.Client m) x n one other (input, gave, gave_too) = (input, input, gave, gave_too, inl refl)
agree_so_far (from_end.Signal signal) x n one other same = tt

all_came : (brought cut written : List ℕ) → brought ++ cut ≡ written → cut ≡ [] → length written ≡ length brought
all_came brought cut written parts none = ap length (sym parts ∙ ap (λ l. brought ++ l) none ∙ append-nil brought)

enough_turns : (size turns stop plan many : ℕ) → stop ≤ plan → 16320 * (size * plan) ≤ many → 16320 * (size * min turns stop) ≤ many
enough_turns size turns stop plan many le long =
    let low : min turns stop ≤ plan = omega arith in
    let less : size * min turns stop ≤ size * plan = mul-le-mul_left size low in
    omega arith

pub whole_brings : (turns : ℕ) (hop : Hop) (hops : List Hop) (way : IsWay hop hops) → IsWholeWay hop hops way → BringsTurns turns hop hops way
whole_brings turns hop [] way whole = tt
whole_brings turns hop (next ∷ hops) way whole =
    let l = way.1 in
    let sound : IsSoundEntry hop.run.plan hop.x = sound_of hop.run.plan hop.x way.0.is.accepted way.0.has in
    let kind : slots_of l.slots.kind ≡ size_of (form_out hop.run.plan l.b) = ap slots_of (sound.to_line l.b l.port l.slots l.goes.puts).kind in
    let long = lived_long hop.run hop.x way.0.is way.0.has l.b l.port l.slots l.fibre.written l.goes.puts l.fibre.went whole.0.lived in
    let size : length l.fibre.written ≡ length l.fibre.brought = all_came l.fibre.brought l.fibre.cut l.fibre.written l.fibre.parts whole.0.all in
    let stop : next.x.stop ≤ hop.run.plan.turns = (let a = sound.stop in let b = l.goes.stop in omega arith) in
    let here : 16320 * (size_of (form_out hop.run.plan l.b) * hop.run.plan.turns) ≤ length l.fibre.brought = omega arith in
    let there : 16320 * (slots_of l.slots.kind * hop.run.plan.turns) ≤ length l.fibre.brought = subst
    (λ s. 16320 * (s * hop.run.plan.turns) ≤ length l.fibre.brought) (sym kind) here in
    (enough_turns (slots_of l.slots.kind) turns next.x.stop hop.run.plan.turns (length l.fibre.brought) stop there, whole_brings turns next hops way.2 whole.1)

pub last_stop : (hop : Hop) (hops : List Hop) → IsWay hop hops → (last_hop hop hops).x.stop ≤ hop.x.stop
last_stop hop [] way = omega arith
last_stop hop (next ∷ hops) way =
    let later = last_stop next hops way.2 in
    let here = way.1.goes.stop in
    omega arith

own_all : (turns past : ℕ) (x : Connection) → past + 1 ≤ x.stop → x.stop ≤ turns → own_turn x past ≤ own_turns turns x
own_all turns past x a b = omega arith

same_output : (turns : ℕ) (one other : Run) (x : Connection) → x.stop ≤ turns → SameUpTo turns one other x → SameOutput one other x
same_output turns one other x most same = record {
  client = λ n written others to got got_too. same.client n written others to got got_too (omega arith);
  line = λ b port past n row column slots written others place mask got got_too. same.line.line b port past n row column slots written others place mask
      (own_all turns past x place.active.stop most) got got_too;
}

pub isolated : WaysAreIsolated
isolated hop other hops others way second same whole whole_too agree =
    let turns = hop.x.stop in
    same_output turns (last_hop hop hops).run (last_hop other others).run (last_hop hop hops).x (last_stop hop hops way)
    (isolated_up_to turns hop other hops others way second same (whole_brings turns hop hops way whole) (whole_brings turns other others second whole_too)
    (agree_so_far hop.x.from hop.x (own_turns turns hop.x) hop.run other.run agree))
