-- What passes leave: a way goes on from pass to pass.
use Rattle.std.proofs.Common.{◌≡◌, ◌<◌, ◌≤◌, ◌+◌, ◌-◌, ◌*◌, ℕ, suc, List, [], ◌∷◌, None, length, map, refl, sym, ap, ◌∙◌, subst, arith}
use Rattle.std.specs.List.{concat, Contains}
use Rattle.otn_base.specs.LineSlots.{LineSlots}
use Rattle.packet_text.specs.PacketText.{hex_text}
use Rattle.line_side.specs.LineForm.{size_of, through_mask}
use Rattle.odu_client.specs.ClientInput.{emitted_before}
use Rattle.plan_file.specs.Answer.{fault_in}
use Rattle.plan_file.specs.declared.connection.Connection.{Connection}
use Rattle.plan_file.specs.declared.connection.ToEnd.TheVariants as to_end
use Rattle.plan_file.specs.declared.plan.Plan.{Plan}
use Rattle.tributary_model.specs.Places.{tributary_of}
use Rattle.device_model.specs.Entries.{form_out}
use Rattle.device_model.specs.LineFiles.{IsLineFile}
use Rattle.connection_laws.specs.Delivery.{AreOffered, whole_packets}
use Rattle.connection_laws.specs.UpToTurn.{AgreeInTurn}
use Rattle.run_laws.specs.RunsAlike.{World, IsWorld, LeftAlike, bytes_out, state_of_line, state_of_client}
use Rattle.run_laws.specs.RunsThrough.{LivedIn, read_of}
use Rattle.run_laws.proofs.RunsAlike.{all_of}
use Rattle.run_laws.proofs.RunsThrough.{left_through}
use Rattle.network_laws.specs.Networks.{Network}
use Rattle.network_laws.specs.Routes.{Leg, IsLeg, IsJoined, IsRoute, last_leg}
use Rattle.damaged_ways.specs.DamagedWays.{Passage, IsPassage, BringsUnharmed, IsDamagedWay, HasLivedInStep, last_is, last_passage, written_by}
use Rattle.damaged_ways.proofs.Delivered.{delivered}
use Rattle.damaged_ways.proofs.Isolated.{ShownAlike, isolated, leaves_alike, shown_alike, shown_from}
use Rattle.damaged_ways.proofs.Unharmed.{lived_turns}
use Rattle.network_passes.specs.Passes.{Passes, HandsOn, AllHandOn, BeginTogether, HasAWay, PassesDeliver, PassesLeaveTheSame, PassesSettle, last_leg_is, written_in}
use Rattle.network_passes.proofs.SameFile.{SameGotBy, same_file}

-- ---- the way from pass to pass

-- an entry in pass k, and those that follow it, each a pass later
abbrev passage : {network : Network} → Passes network → (k : ℕ) → Leg → Passage
passage passes k leg = record { world = passes.world k leg.node; x = leg.x }

passages : {network : Network} → Passes network → (k : ℕ) → List Leg → List Passage
passages passes k [] = []
passages passes k (leg ∷ legs) = passage passes (suc k) leg ∷ passages passes (suc k) legs

-- the pass in which the way ends
end_pass : (k : ℕ) → List Leg → ℕ
end_pass k [] = k
end_pass k (leg ∷ legs) = end_pass (suc k) legs

pass_is : (k : ℕ) (legs : List Leg) → end_pass k legs ≡ k + length legs
unfolding end_pass
pass_is k [] = omega arith
pass_is k (leg ∷ legs) = pass_is (suc k) legs ∙ (let e : suc k + length legs ≡ k + length (leg ∷ legs) = omega arith in e)

is_passage : (network : Network) (passes : Passes network) (k : ℕ) (leg : Leg) → IsLeg network leg → IsPassage (passage passes k leg)
is_passage network passes k leg is =
    let carried = passes.carries k leg.node is.plan is.known in
    record { is = carried.1; has = subst (λ (plan : Plan). Contains plan.connections leg.x) (sym carried.0) is.has }

same_turn : (own_line brought : List ℕ) → brought ≡ own_line → (port : ℕ) (slots : LineSlots) (t : ℕ) → AgreeInTurn (tributary_of slots port) own_line brought t
same_turn own_line brought e port slots t = subst (λ l. AgreeInTurn (tributary_of slots port) own_line l t) (sym e)
    (record { lock = refl; bytes = λ at n row column k l is. refl })

-- over a fibre the tributary comes unharmed from a pass to the next
brings : (network : Network) (passes : Passes network) (k : ℕ) (here next : Leg) (is : IsLeg network here) (joined : IsJoined network here next)
    → HandsOn passes k here next is joined
    → BringsUnharmed (passage passes k here) (passage passes (suc k) next) (written_by (passage passes k here) (is_passage network passes k here is))
unfolding is_passage
brings network passes k here next is joined hands =
    let p = is_passage network passes k here is in
    let stop = joined.goes.stop in
    record {
      b = joined.b;
      c = joined.c;
      port = joined.port;
      slots = joined.slots;
      goes = joined.goes;
      enough = lived_turns (passes.world k here.node) here.x p.is p.has joined.b joined.port next.x.stop joined.slots joined.goes.puts hands.lived stop;
      unharmed = λ t low high. same_turn (read_of (passes.world k here.node) (written_in passes k here is) joined.b)
          ((passes.world (suc k) next.node).inputs.line joined.c) hands.read joined.port joined.slots t;
    }

first_leg_is : (network : Network) (leg : Leg) (legs : List Leg) → IsRoute network leg legs → IsLeg network leg
first_leg_is network leg [] route = route
first_leg_is network leg (next ∷ legs) route = route.0

way_of : (network : Network) (passes : Passes network) (many k : ℕ) (leg : Leg) (legs : List Leg) (route : IsRoute network leg legs)
    → AllHandOn passes many → k + length legs < many → IsDamagedWay (passage passes k leg) (passages passes k legs)
unfolding passages
way_of network passes many k leg [] route hand less = is_passage network passes k leg route
way_of network passes many k leg (next ∷ legs) route hand less = (
  is_passage network passes k leg route.0,
  brings network passes k leg next route.0 route.1 (hand k leg next route.0 route.1 (omega arith)),
  way_of network passes many (suc k) next legs route.2 hand (omega arith),
)

-- ---- its end

-- what holds of the last passage holds of the last entry in the last pass
at_end : (network : Network) (passes : Passes network) (many k : ℕ) (leg : Leg) (legs : List Leg) (route : IsRoute network leg legs)
    (hand : AllHandOn passes many) (less : k + length legs < many) (P : (p : Passage) → IsPassage p → Type 0)
    → P (last_passage (passage passes k leg) (passages passes k legs))
    (last_is (passage passes k leg) (passages passes k legs) (way_of network passes many k leg legs route hand less))
    → P (passage passes (end_pass k legs) (last_leg leg legs)) (is_passage network passes (end_pass k legs) (last_leg leg legs) (last_leg_is leg legs route))
unfolding passages end_pass way_of
at_end network passes many k leg [] route hand less P h = h
at_end network passes many k leg (next ∷ legs) route hand less P h =
    at_end network passes many (suc k) next legs route.2 hand (omega arith) P h

-- the run and the entry at the end
last_world : (network : Network) (passes : Passes network) (k : ℕ) (leg : Leg) (legs : List Leg)
    → (last_passage (passage passes k leg) (passages passes k legs)).world ≡ passes.world (end_pass k legs) (last_leg leg legs).node
unfolding passages end_pass
last_world network passes k leg [] = refl
last_world network passes k leg (next ∷ legs) = last_world network passes (suc k) next legs

last_entry : (network : Network) (passes : Passes network) (k : ℕ) (leg : Leg) (legs : List Leg)
    → (last_passage (passage passes k leg) (passages passes k legs)).x ≡ (last_leg leg legs).x
unfolding passages
last_entry network passes k leg [] = refl
last_entry network passes k leg (next ∷ legs) = last_entry network passes (suc k) next legs

-- a way that ends in pass k begins so many passes before
ends_in : (k : ℕ) (legs : List Leg) → length legs ≤ k → end_pass (k - length legs) legs ≡ k
ends_in k legs enough = pass_is (k - length legs) legs ∙ (let e : k - length legs + length legs ≡ k = omega arith in e)

begins_before : (k n many : ℕ) → n ≤ k → k < many → k - n + n < many
begins_before k n many enough less = omega arith

same_entries : (network : Network) (passes : Passes network) (j k : ℕ) (legs : List Leg)
    → map (λ p. p.x) (passages passes j legs) ≡ map (λ p. p.x) (passages passes k legs)
unfolding passages
same_entries network passes j k [] = refl
same_entries network passes j k (leg ∷ legs) = ap (λ xs. leg.x ∷ xs) (same_entries network passes (suc j) (suc k) legs)

-- ---- what leaves at the end

pub leave_the_same : PassesLeaveTheSame
unfolding is_passage
leave_the_same network passes many first rest route hand given k l enough less enough_too less_too =
    let j = k - length rest in
    let i = l - length rest in
    let here = passage passes j first in
    let other = passage passes i first in
    let hops = passages passes j rest in
    let others = passages passes i rest in
    let below = begins_before k (length rest) many enough less in
    let below_too = begins_before l (length rest) many enough_too less_too in
    let way = way_of network passes many j first rest route hand below in
    let second = way_of network passes many i first rest route hand below_too in
    let last = last_leg first rest in
    let is = last_leg_is first rest route in
    let left = isolated here other hops others way second (ap (λ xs. first.x ∷ xs) (same_entries network passes j i rest))
    (given j i (omega arith) (omega arith)) in
    let far = last_passage other others in
    let far_is = last_is other others second in
    let one = at_end network passes many j first rest route hand below
    (λ p p_is. LeftAlike p.world far.world (written_by p p_is) (written_by far far_is) p.x) left in
    let both = at_end network passes many i first rest route hand below_too
    (λ p p_is. LeftAlike (passes.world (end_pass j rest) last.node) p.world (written_in passes (end_pass j rest) last is) (written_by p p_is) last.x) one in
    subst (λ n. LeftAlike (passes.world n last.node) (passes.world l last.node) (written_in passes n last is) (written_in passes l last is) last.x)
    (ends_in k rest enough)
    (subst (λ n. LeftAlike (passes.world (end_pass j rest) last.node) (passes.world n last.node) (written_in passes (end_pass j rest) last is)
    (written_in passes n last is) last.x) (ends_in l rest enough_too) both)

-- ---- what is delivered

as_many : (network : Network) (passes : Passes network) (k : ℕ) (legs : List Leg) → length (passages passes k legs) ≡ length legs
unfolding passages
as_many network passes k [] = refl
as_many network passes k (leg ∷ legs) = ap suc (as_many network passes (suc k) legs)

lived_in_step : (network : Network) (passes : Passes network) (many k : ℕ) (leg : Leg) (legs : List Leg) (route : IsRoute network leg legs)
    (hand : AllHandOn passes many) (less : k + length legs < many) → BeginTogether leg legs
    → HasLivedInStep (passage passes k leg) (passages passes k legs) (way_of network passes many k leg legs route hand less)
unfolding passages way_of brings
lived_in_step network passes many k leg [] route hand less together = tt
lived_in_step network passes many k leg (next ∷ legs) route hand less together = (
  (hand k leg next route.0 route.1 (omega arith)).lived,
  together.0,
  lived_in_step network passes many (suc k) next legs route.2 hand (omega arith) together.1,
)

pub deliver : PassesDeliver
unfolding is_passage
deliver network passes many first rest m n packets route hand together some from to offered given k enough less lived =
    let j = k - length rest in
    let here = passage passes j first in
    let hops = passages passes j rest in
    let below = begins_before k (length rest) many enough less in
    let way = way_of network passes many j first rest route hand below in
    let last = last_leg first rest in
    let is = last_leg_is first rest route in
    let count = as_many network passes j rest in
    let mine = given j (omega arith) in
    let there : (last_passage here hops).x.to ≡ to_end.Client n = ap (λ (x : Connection). x.to) (last_entry network passes j first rest) ∙ to in
    let ended = ends_in k rest enough in
    let end_lived : LivedIn (last_passage here hops).world (state_of_client n) = subst (λ (w : World). LivedIn w (state_of_client n))
    (sym (last_world network passes j first rest)) (subst (λ i. LivedIn (passes.world i last.node) (state_of_client n)) (sym ended) lived) in
    let text : (own : List (List ℕ)) (stop hops : ℕ) → List ℕ = λ own stop hops. hex_text (whole_packets own first.x.fcs
    (emitted_before first.x.pace (stop - first.x.start - 3 * hops))) in
    let came = delivered here hops m n way (lived_in_step network passes many j first rest route hand below together) (omega arith) from there end_lived
    (subst AreOffered (sym mine) offered) in
    let at = at_end network passes many j first rest route hand below
    (λ p p_is. (written_by p p_is).client n ≡ text ((passes.world j first.node).inputs.client m).packets p.x.stop (length hops)) came in
    subst (λ i. (written_in passes i last is).client n ≡ text packets last.x.stop (length rest)) ended
    (at ∙ ap (λ own. text own last.x.stop (length hops)) mine ∙ ap (text packets last.x.stop) count)

-- ---- what is written to a line

-- all of a line's file
record WholeFile (plan : Plan) (world : World) (b : ℕ) (bytes : List ℕ) : Type 0 where
  frames : List (List ℕ)
  file : IsLineFile plan world.inputs b (size_of (form_out plan b) * plan.turns) frames
  all : bytes ≡ through_mask (form_out plan b).scrambled (concat frames)

whole_file : (plan : Plan) (world : World) (x : Connection) (is : IsWorld world) → world.plan ≡ plan → Contains world.plan.connections x
    → (b port : ℕ) (slots : LineSlots) → x.to ≡ to_end.Line b port slots → LivedIn world (state_of_line b)
    → WholeFile plan world b ((bytes_out world is).line b)
whole_file plan world x is same has b port slots to lived =
    let bytes = (bytes_out world is).line b in
    let w = (left_through world x is has).line b port slots to in
    let all = through_mask (form_out world.plan b).scrambled (concat w.frames) in
    subst (λ plan. WholeFile plan world b bytes) same
    (record { frames = w.frames; file = w.file; all = all_of bytes w.front.rest all w.front.parts (w.front.whole lived) })

-- an entry with such a way is shown the same in both passes
shown_in : (network : Network) (passes : Passes network) (many most k l node : ℕ) (x : Connection) → AllHandOn passes many
    → HasAWay passes many most (record { node = node; x = x }) → most ≤ k → k < many → most ≤ l → l < many
    → ShownAlike (passes.world k node) (passes.world l node) x
shown_in network passes many most k l node x hand way enough less enough_too less_too =
    let rest = way.rest in
    let first = way.first in
    let few = way.few in
    let long : length rest ≤ k = omega arith in
    let long_too : length rest ≤ l = omega arith in
    let j = k - length rest in
    let i = l - length rest in
    let shown = shown_from (passage passes j first) (passage passes i first) (passages passes j rest) (passages passes i rest)
    (way_of network passes many j first rest way.route hand (begins_before k (length rest) many long less))
    (way_of network passes many i first rest way.route hand (begins_before l (length rest) many long_too less_too))
    (ap (λ xs. first.x ∷ xs) (same_entries network passes j i rest))
    (shown_alike first.x (passes.world j first.node) (passes.world i first.node) (way.given j i (omega arith) (omega arith))) in
    let end : Leg = record { node = node; x = x } in
    let mine : (last_passage (passage passes j first) (passages passes j rest)).world ≡ passes.world k node = last_world network passes j first rest
    ∙ ap (λ n. passes.world n (last_leg first rest).node) (ends_in k rest long) ∙ ap (λ (leg : Leg). passes.world k leg.node) way.ends in
    let theirs : (last_passage (passage passes i first) (passages passes i rest)).world ≡ passes.world l node = last_world network passes i first rest
    ∙ ap (λ n. passes.world n (last_leg first rest).node) (ends_in l rest long_too) ∙ ap (λ (leg : Leg). passes.world l leg.node) way.ends in
    let entry : (last_passage (passage passes j first) (passages passes j rest)).x ≡ x = last_entry network passes j first rest
    ∙ ap (λ (leg : Leg). leg.x) way.ends in
    subst (λ w. ShownAlike w (passes.world l node) x) mine
    (subst (λ w. ShownAlike (last_passage (passage passes j first) (passages passes j rest)).world w x) theirs
    (subst (λ y. ShownAlike (last_passage (passage passes j first) (passages passes j rest)).world
    (last_passage (passage passes i first) (passages passes i rest)).world y) entry shown))

pub settle : PassesSettle
settle network passes many most b leg is port slots hand to ways k l enough less enough_too less_too lived lived_too =
    let mine = passes.carries k leg.node is.plan is.known in
    let theirs = passes.carries l leg.node is.plan is.known in
    let one = passes.world k leg.node in
    let other = passes.world l leg.node in
    let in_plan : (world : World) → world.plan ≡ is.plan → (x : Connection) → Contains is.plan.connections x → Contains world.plan.connections x =
    λ world same x has. subst (λ (plan : Plan). Contains plan.connections x) (sym same) has in
    let file = whole_file is.plan one leg.x mine.1 mine.0 (in_plan one mine.0 leg.x is.has) b port slots to lived in
    let second = whole_file is.plan other leg.x theirs.1 theirs.0 (in_plan other theirs.0 leg.x is.has) b port slots to lived_too in
    let same : SameGotBy is.plan one.inputs other.inputs b = λ x number others has goes n le.
    (leaves_alike one other x mine.1 (in_plan one mine.0 x has)
    (shown_in network passes many most k l leg.node x hand (ways x number others has goes) enough less enough_too less_too)).got n le in
    let accepted : fault_in is.plan ≡ None = ap fault_in (sym mine.0) ∙ mine.1.accepted in
    let frames = same_file is.plan one.inputs other.inputs b (size_of (form_out is.plan b) * is.plan.turns) file.frames second.frames accepted same
    file.file second.file in
    file.all ∙ ap (λ fs. through_mask (form_out is.plan b).scrambled (concat fs)) frames ∙ sym second.all
