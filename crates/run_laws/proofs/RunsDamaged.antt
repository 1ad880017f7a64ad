-- What a run leaves on a connection whose line was damaged.
use Rattle.std.proofs.Common.{rules, ◌≡◌, ◌<◌, ◌≤◌, ◌+◌, ◌-◌, ℕ, List, ◌++◌, length, take, sym, ap, ◌∙◌, subst, arith}
use Rattle.std.specs.List.{Contains}
use Rattle.otn_base.specs.LineSlots.{LineSlots}
use Rattle.odu_client.specs.ClientOutput.{arriving_text}
use Rattle.plan_file.specs.declared.connection.Connection.{Connection}
use Rattle.plan_file.specs.declared.connection.FromEnd.TheVariants as from_end
use Rattle.plan_file.specs.declared.connection.ToEnd.TheVariants as to_end
use Rattle.std.specs.Prelude.{slice_range}
use Rattle.tributary_model.specs.Carries.{sent, Carries}
use Rattle.tributary_model.specs.Places.{tributary_of}
use Rattle.tributary_model.specs.Puts.{lengths_of}
use Rattle.device_model.specs.Entries.{first_turn}
use Rattle.connection_laws.specs.Healing.{IsCarriedAgain}
use Rattle.connection_laws.specs.HeldBack.{emitted_after}
use Rattle.device_model.specs.LineViews.{view_at}
use Rattle.connection_laws.specs.OneDamaged.{AgreeButForOne}
use Rattle.device_model.specs.Through.{own_input, got_by, arrived_by}
use Rattle.connection_laws.proofs.Accepted.{has_as_many_slots}
use Rattle.connection_laws.proofs.Healed.{gets_what_healed, arrives_healed, carries_what_it_gets}
use Rattle.connection_laws.proofs.OneDamaged.{leaves_as_if_repeated}
use Rattle.connection_laws.proofs.SecondNode.{passes_a_second_node}
use Rattle.device_model.proofs.SoundPlans.{sound_plan}
use Rattle.run_laws.specs.RunsAlike.{World, IsWorld, LeftAlike, state_of_line, state_of_client, bytes_out}
use Rattle.run_laws.specs.RunsDamaged.{CarriesAllGot, HealsIn, Follows, front_got, HandsOnAFront, ShareButForOne}
use Rattle.run_laws.specs.RunsThrough.{LivedIn, read_of}
use Rattle.run_laws.proofs.RunsAlike.{sound_in, text_in, text_lived, left_as_alike}
use Rattle.run_laws.proofs.RunsThrough.{entry, goes, file_of, made_to, read_back}

-- ---- healing

heals_on_line : (world : World) (x : Connection) (is : IsWorld world) → Contains world.plan.connections x → (a from b port w : ℕ) (slots others : LineSlots) → x.from ≡ from_end.Line a from slots
    → x.to ≡ to_end.Line b port others → LivedIn world (state_of_line b) → first_turn x ≤ w → w < x.stop → CarriesAllGot world (bytes_out world is) x b port others w
heals_on_line world x is has a from b port w slots others comes to lived low less =
    let f = file_of world x b port others is has to in
    let input = own_input world.inputs x in
    let n = w + 1 - first_turn x in
    let sound = sound_plan world.plan is.accepted in
    let same = has_as_many_slots world.plan has.0 a from b port x slots others sound (entry world x has) comes to in
    let list = ((sound_in world x is has).from_line a from slots comes).list in
    subst (λ line. Carries (tributary_of others port) (arrived_by x input n) (lengths_of (got_by x input n)) (view_at (tributary_of others port) line) (first_turn x) (first_turn x) w)
    (sym (read_back world b ((bytes_out world is).line b) f lived))
    (carries_what_it_gets world.plan world.inputs x a from b port w slots others f.frames comes list (goes world x b port others is has to).0 same
    (made_to world x b w ((bytes_out world is).line b) is has f less) low)

text_of_arrived : (world : World) (x : Connection) (is : IsWorld world) → Contains world.plan.connections x → (n : ℕ) → x.to ≡ to_end.Client n → LivedIn world (state_of_client n)
    → (bytes_out world is).client n ≡ arriving_text (arrived_by x (own_input world.inputs x) (x.stop - first_turn x))
text_of_arrived world x is has n to lived = text_lived world x n is has to lived ∙ text_in world x is has

text_healed : (world : World) (x : Connection) (a from s b u h n : ℕ) (slots : LineSlots) (bytes p : List ℕ) (is : IsWorld world) → Contains world.plan.connections x → x.from ≡ from_end.Line a from slots
    → IsCarriedAgain (world.inputs.line a) x from slots bytes p s b u h → x.to ≡ to_end.Client n → LivedIn world (state_of_client n) → h + 4 ≤ x.stop → x.stop ≤ u + 2
    → (bytes_out world is).client n ≡ arriving_text (arrived_by x (own_input world.inputs x) (h + 4 - first_turn x) ++ slice_range bytes (sent p (h + 1 - s)) (sent p (x.stop - s - 3)))
text_healed world x a from s b u h n slots bytes p is has comes heals to lived low most =
    let input = own_input world.inputs x in
    let f = first_turn x in
    let w = x.stop - 2 in
    text_of_arrived world x is has n to lived
    ∙ ap (λ k. arriving_text (arrived_by x input (k - f))) (let e : x.stop ≡ w + 2 = omega arith in e)
    ∙ ap arriving_text (arrives_healed world.inputs x a from s b u h w slots bytes p comes heals (omega arith) (omega arith))
    ∙ ap (λ k. arriving_text (arrived_by x input (h + 4 - f) ++ slice_range bytes (sent p (h + 1 - s)) (sent p k))) (let e : w - s - 1 ≡ x.stop - s - 3 = omega arith in e)

pub runs_heal : (world : World) (x : Connection) (a from s b u h : ℕ) (slots : LineSlots) (bytes p : List ℕ) (is : IsWorld world) → Contains world.plan.connections x → x.from ≡ from_end.Line a from slots
    → IsCarriedAgain (world.inputs.line a) x from slots bytes p s b u h → HealsIn world (bytes_out world is) x bytes p s u h
runs_heal world x a from s b u h slots bytes p is has comes heals = record {
  turn = λ t low high. search (rules, gets_what_healed);
  line = λ line port w others to lived low less. search (rules, heals_on_line);
  client = λ n to lived low most. search (rules, text_healed);
}

-- ---- behind a gap

reads_it : (one other : World) (x y : Connection) (b c : ℕ) (slots next : LineSlots) (first : IsWorld one) → Follows one other (bytes_out one first) x y b c slots next
    → other.inputs.line c ≡ read_of one (bytes_out one first) b
reads_it one other x y b c slots next first f = search rules

front_arrived : (one other : World) (x y : Connection) (b c n : ℕ) (slots next : LineSlots) (first : IsWorld one) → IsWorld other → Follows one other (bytes_out one first) x y b c slots next → first_turn x + n ≤ y.stop
    → arrived_by y (own_input other.inputs y) (n + 1) ≡ front_got one x y (length next.list) n
front_arrived one other x y b c n slots next first second f within =
    let file = file_of one x b f.port next first f.first f.goes in
    let plan = sound_plan one.plan first.accepted in
    let same = has_as_many_slots one.plan f.first.0 f.line f.from b f.port x slots next plan (entry one x f.first) f.comes f.goes in
    let list = ((sound_in one x first f.first).from_line f.line f.from slots f.comes).list in
    let sound = sound_in other y second f.second in
    let low = sound.start in
    let span = sound.span in
    let stop = f.stop in
    let start = f.start in
    let u = y.stop - 1 in
    let turn : first_turn y ≡ first_turn x = ap (λ k. k - 1) start in
    let count : u + 1 - first_turn x ≡ y.stop - first_turn x = omega arith in
    subst (λ k. arrived_by y (own_input other.inputs y) (n + 1) ≡ take (emitted_after (length next.list) (lengths_of (got_by x (own_input one.inputs x) k)) n) (arrived_by x (own_input one.inputs x) k)) count
    (passes_a_second_node one.plan one.inputs other.inputs x y f.line f.from b f.port c u n slots next file.frames f.comes list (goes one x b f.port next first f.first f.goes).0 same
    (made_to one x b u ((bytes_out one first).line b) first f.first file (omega arith)) (omega arith) f.reads (reads_it one other x y b c slots next first f ∙ read_back one b ((bytes_out one first).line b) file f.lived) turn (omega arith))

pub hands_on_a_front : (one other : World) (x y : Connection) (b c : ℕ) (slots next : LineSlots) (first : IsWorld one) (second : IsWorld other) → Follows one other (bytes_out one first) x y b c slots next
    → HandsOnAFront one other (bytes_out other second) x y (length next.list)
hands_on_a_front one other x y b c slots next first second f = record {
  arrived = λ n within. search (rules, front_arrived);
  client = λ k to lived.
      let sound = sound_in other y second f.second in
      let low = sound.start in
      let span = sound.span in
      let start = f.start in
      text_of_arrived other y second f.second k to lived
      ∙ ap (λ n. arriving_text (arrived_by y (own_input other.inputs y) n)) (let e : y.stop - first_turn y ≡ y.stop - y.start + 1 = omega arith in e)
      ∙ ap arriving_text (front_arrived one other x y b c (y.stop - y.start) slots next first second f (omega arith));
}

-- ---- one damaged message

no_client : (world : World) (x : Connection) (a port n : ℕ) (slots : LineSlots) → x.from ≡ from_end.Line a port slots → x.from ≡ from_end.Client n → ⊥
no_client world x a port n slots comes from = cc

agreed : (one other : World) (x : Connection) → ShareButForOne one other x → AgreeButForOne one.inputs other.inputs x
agreed one other x share = search rules

pub agree_but_for_one : (one other : World) (x : Connection) (first : IsWorld one) (second : IsWorld other) → ShareButForOne one other x → LeftAlike one other (bytes_out one first) (bytes_out other second) x
agree_but_for_one one other x first second share =
    left_as_alike one other x first second
    (record {
      first = share.first;
      second = share.second;
      alike = leaves_as_if_repeated one.inputs other.inputs x (agreed one other x share);
      client = λ n from. absurd (no_client one x share.agree.line share.agree.port n share.agree.slots share.agree.comes from);
    })
