-- What leaves at the end of a way is the same over fibres that are damaged elsewhere.
use Rattle.std.proofs.Common.{◌≡◌, ◌<◌, ◌≤◌, ◌+◌, inl, ℕ, List, [], ◌∷◌, map, sym, ap, ◌∙◌, subst, arith}
use Rattle.std.specs.List.{Contains}
use Rattle.otn_base.specs.LineSlots.{LineSlots, slots_of}
use Rattle.odu_client.specs.ClientInput.{ClientInput}
use Rattle.plan_file.specs.declared.connection.Connection.{Connection}
use Rattle.plan_file.specs.declared.connection.FromEnd.{FromEnd}
use Rattle.plan_file.specs.declared.connection.FromEnd.TheVariants as from_end
use Rattle.plan_file.specs.declared.connection.ToEnd.TheVariants as to_end
use Rattle.tributary_model.specs.Places.{tributary_of}
use Rattle.device_model.specs.Entries.{first_turn}
use Rattle.device_model.specs.Numbers.{OutputBytes}
use Rattle.device_model.specs.Through.{Inputs, own_input}
use Rattle.connection_laws.specs.OneDamaged.{LeavesAlikeInItsTurns}
use Rattle.connection_laws.specs.TwoWorlds.{AgreeOnEnd}
use Rattle.connection_laws.specs.UpToTurn.{AgreeInTurn, AgreeUpTo}
use Rattle.connection_laws.proofs.UpToTurn.{looks_not_ahead, shows_the_same_up_to}
use Rattle.run_laws.specs.RunsAlike.{World, IsWorld, LeftAlike, bytes_out}
use Rattle.run_laws.specs.RunsThrough.{read_of}
use Rattle.run_laws.proofs.RunsAlike.{left_as_alike}
use Rattle.network_laws.specs.Ways.{HaveTurns}
use Rattle.network_laws.proofs.Isolation.{head_is, line_in_turn, tail_is}
use Rattle.damaged_ways.specs.DamagedWays.{Passage, BringsUnharmed, IsDamagedWay, DamagedWaysAreIsolated, entries, last_is, last_passage, written_by}
use Rattle.damaged_ways.proofs.Unharmed.{agree_back, agree_on, all_own, written_alike}

-- ---- a fibre

-- over these lines the tributary comes unharmed to an entry
record Unharmed (here next : World) (y : Connection) (written : OutputBytes) (b c port : ℕ) (slots : LineSlots) : Type 0 where
  enough : HaveTurns (slots_of slots.kind) y.stop (written.line b)
  same : (t : ℕ) → first_turn y ≤ t → t < y.stop → AgreeInTurn (tributary_of slots port) (read_of here written b) (next.inputs.line c) t

pub same_line : (a b p q : ℕ) (s t : LineSlots) → to_end.Line a p s ≡ to_end.Line b q t → a ≡ b
same_line a b p q s t e = cc

pub same_port : (a b p q : ℕ) (s t : LineSlots) → to_end.Line a p s ≡ to_end.Line b q t → p ≡ q
same_port a b p q s t e = cc

pub same_slots : (a b p q : ℕ) (s t : LineSlots) → to_end.Line a p s ≡ to_end.Line b q t → s ≡ t
same_slots a b p q s t e = cc

pub same_taken : (a b p q : ℕ) (s t : LineSlots) → from_end.Line a p s ≡ from_end.Line b q t → a ≡ b
same_taken a b p q s t e = cc

-- the fibre of a way by the same entries is over the same lines
over : (x y : Connection) (here next : Passage) (written : OutputBytes) (b c port : ℕ) (slots : LineSlots) → x.to ≡ to_end.Line b port slots
    → y.from ≡ from_end.Line c port slots → x ≡ here.x → y ≡ next.x → BringsUnharmed here next written
    → Unharmed here.world next.world y written b c port slots
over x y here next written b c port slots puts takes same next_same l =
    let to : to_end.Line l.b l.port l.slots ≡ to_end.Line b port slots = sym l.goes.puts ∙ sym (ap (λ (z : Connection). z.to) same) ∙ puts in
    let from : from_end.Line l.c l.port l.slots ≡ from_end.Line c port slots = sym l.goes.takes
    ∙ sym (ap (λ (z : Connection). z.from) next_same) ∙ takes in
    let it : Unharmed here.world next.world next.x written l.b l.c l.port l.slots = record { enough = l.enough; same = l.unharmed } in
    subst (λ k. Unharmed here.world next.world y written k c port slots) (same_line l.b b l.port port l.slots slots to)
    (subst (λ k. Unharmed here.world next.world y written l.b k port slots) (same_taken l.c c l.port port l.slots slots from)
    (subst (λ k. Unharmed here.world next.world y written l.b l.c k slots) (same_port l.b b l.port port l.slots slots to)
    (subst (λ k. Unharmed here.world next.world y written l.b l.c l.port k) (same_slots l.b b l.port port l.slots slots to)
    (subst (λ k. Unharmed here.world next.world k written l.b l.c l.port l.slots) (sym next_same) it))))

-- ---- from one node to the next

-- two nodes are shown the same of what a connection comes from, in all of its turns
pub record ShownAlike (one other : World) (x : Connection) : Type 0 where
  pub agree : AgreeUpTo x.from x (all_own x) one.inputs other.inputs
  pub client : (n : ℕ) → x.from ≡ from_end.Client n → one.inputs.client n ≡ other.inputs.client n

turn_alike : (one other next after : World) (x y : Connection) (first : IsWorld one) (second : IsWorld other) → Contains one.plan.connections x
    → Contains other.plan.connections x → AgreeUpTo x.from x (all_own x) one.inputs other.inputs → (b c port : ℕ) (slots : LineSlots)
    → x.to ≡ to_end.Line b port slots → x.start ≤ y.start → y.stop ≤ x.stop → Unharmed one next y (bytes_out one first) b c port slots
    → Unharmed other after y (bytes_out other second) b c port slots → (j : ℕ) → j < all_own y
    → AgreeInTurn (tributary_of slots port) (next.inputs.line c) (after.inputs.line c) (first_turn y + j)
turn_alike one other next after x y first second has has_too agree b c port slots to start stop l m j less =
    let t = first_turn y + j in
    let low : first_turn y ≤ t = omega arith in
    let high : t < y.stop = omega arith in
    let begun : x.start ≤ t + 1 = omega arith in
    let lasts : t + 1 ≤ x.stop = omega arith in
    let own = tributary_of slots port in
    let mine = read_of one (bytes_out one first) b in
    let theirs = read_of other (bytes_out other second) b in
    let alike = written_alike one other x first second has has_too agree b port t y.stop slots to (record { start = begun; stop = lasts }) high
    l.enough m.enough in
    agree_on own (next.inputs.line c) mine (after.inputs.line c) t (agree_back own mine (next.inputs.line c) t (l.same t low high))
    (agree_on own mine theirs (after.inputs.line c) t alike (m.same t low high))

next_alike : (one other next after : World) (x y : Connection) (first : IsWorld one) (second : IsWorld other) → Contains one.plan.connections x
    → Contains other.plan.connections x → ShownAlike one other x → (b c port : ℕ) (slots : LineSlots)
    → x.to ≡ to_end.Line b port slots → y.from ≡ from_end.Line c port slots → x.start ≤ y.start → y.stop ≤ x.stop
    → Unharmed one next y (bytes_out one first) b c port slots → Unharmed other after y (bytes_out other second) b c port slots
    → ShownAlike next after y
next_alike one other next after x y first second has has_too shown b c port slots to from start stop l m = record {
  agree = subst (λ e. AgreeUpTo e y (all_own y) next.inputs after.inputs) (sym from)
      (turn_alike one other next after x y first second has has_too shown.agree b c port slots to start stop l m);
  client = λ n e. absurd (let both : from_end.Line c port slots ≡ from_end.Client n = sym from ∙ e in cc);
}

-- ---- along the way

pub leaves_alike : (one other : World) (x : Connection) → IsWorld one → Contains one.plan.connections x → ShownAlike one other x
    → LeavesAlikeInItsTurns x (own_input one.inputs x) (own_input other.inputs x)
leaves_alike one other x first has shown =
    let alike = looks_not_ahead x (all_own x) (own_input one.inputs x) (own_input other.inputs x)
    (shows_the_same_up_to one.plan x (all_own x) one.inputs other.inputs first.accepted has shown.agree) in
    record {
      emitted = λ j less. alike.emitted j (omega arith);
      got = λ n le. alike.got n (omega arith);
      arrived = λ n le. alike.arrived n (omega arith);
      text = λ n le. alike.text n (omega arith);
      state = λ n le. alike.state n (omega arith);
    }

-- where the first nodes are shown the same, so are the last ones
pub shown_from : (here other : Passage) (rest others : List Passage) (way : IsDamagedWay here rest) (second : IsDamagedWay other others)
    → entries here rest ≡ entries other others → ShownAlike here.world other.world here.x
    → ShownAlike (last_passage here rest).world (last_passage other others).world (last_passage here rest).x
shown_from here other [] [] way second same shown = shown
shown_from here other [] (after ∷ others) way second same shown = absurd (cc)
shown_from here other (next ∷ rest) [] way second same shown = absurd (cc)
shown_from here other (next ∷ rest) (after ∷ others) way second same shown =
    let x_same = head_is here.x other.x (entries next rest) (entries after others) same in
    let rest_same = tail_is here.x other.x (entries next rest) (entries after others) same in
    let y_same = head_is next.x after.x (map (λ p. p.x) rest) (map (λ p. p.x) others) rest_same in
    let has_too : Contains other.world.plan.connections here.x = subst (λ z. Contains other.world.plan.connections z) (sym x_same) second.0.has in
    let l = way.1 in
    let written = written_by here way.0 in
    let mine : Unharmed here.world next.world next.x written l.b l.c l.port l.slots = record { enough = l.enough; same = l.unharmed } in
    let theirs = over here.x next.x other after (written_by other second.0) l.b l.c l.port l.slots l.goes.puts l.goes.takes x_same y_same second.1 in
    shown_from next after rest others way.2 second.2 rest_same
    (next_alike here.world other.world next.world after.world here.x next.x way.0.is second.0.is way.0.has has_too shown l.b l.c l.port l.slots
    l.goes.puts l.goes.takes l.goes.start l.goes.stop mine theirs)

-- the last entries are the same
pub last_same : (here other : Passage) (rest others : List Passage) → entries here rest ≡ entries other others
    → (last_passage here rest).x ≡ (last_passage other others).x
last_same here other [] [] same = head_is here.x other.x [] [] same
last_same here other [] (after ∷ others) same = absurd (cc)
last_same here other (next ∷ rest) [] same = absurd (cc)
last_same here other (next ∷ rest) (after ∷ others) same =
    last_same next after rest others (tail_is here.x other.x (entries next rest) (entries after others) same)

-- ---- the first node

so_far : (from : FromEnd) (x : Connection) (n : ℕ) (one other : Inputs) → AgreeOnEnd from one other → AgreeUpTo from x n one other
so_far (from_end.Line a port slots) x n one other agree =
    λ j less. line_in_turn (tributary_of slots port) (one.line a) (other.line a) (first_turn x + j) agree
so_far (from_end.Client m) x n one other agree = inl (ap (λ (input : ClientInput). input.packets) agree)
so_far (from_end.Signal signal) x n one other agree = tt

pub shown_alike : (x : Connection) (one other : World) → AgreeOnEnd x.from one.inputs other.inputs → ShownAlike one other x
shown_alike x one other agree = record {
  agree = so_far x.from x (all_own x) one.inputs other.inputs agree;
  client = λ n e. subst (λ from. AgreeOnEnd from one.inputs other.inputs) e agree;
}

-- where the first nodes are shown the same, the same leaves at the end
pub left_alike_from : (here other : Passage) (rest others : List Passage) (way : IsDamagedWay here rest) (second : IsDamagedWay other others)
    → entries here rest ≡ entries other others → ShownAlike here.world other.world here.x
    → LeftAlike (last_passage here rest).world (last_passage other others).world (written_by (last_passage here rest) (last_is here rest way))
    (written_by (last_passage other others) (last_is other others second)) (last_passage here rest).x
left_alike_from here other rest others way second same shown_first =
    let shown = shown_from here other rest others way second same shown_first in
    let last = last_passage here rest in
    let far = last_passage other others in
    let is = last_is here rest way in
    let is_too = last_is other others second in
    let has_too : Contains far.world.plan.connections last.x = subst (λ z. Contains far.world.plan.connections z)
    (sym (last_same here other rest others same)) is_too.has in
    left_as_alike last.world far.world last.x is.is is_too.is
    (record { first = is.has; second = has_too; alike = leaves_alike last.world far.world last.x is.is is.has shown; client = shown.client })

pub isolated : DamagedWaysAreIsolated
isolated here other rest others way second same agree =
    left_alike_from here other rest others way second same (shown_alike here.x here.world other.world agree)
