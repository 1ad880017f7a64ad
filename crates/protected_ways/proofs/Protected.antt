-- What leaves at the end of a way over protection is the same wherever what came to both its beginnings is.
use Rattle.std.proofs.Common.{◌≡◌, ◌<◌, ◌≤◌, ◌+◌, ◌*◌, ℕ, List, map, refl, sym, ap, ◌∙◌, subst, arith}
use Rattle.std.specs.List.{concat, Contains}
use Rattle.otn_base.specs.LineSlots.{LineSlots, slots_of}
use Rattle.plan_file.specs.declared.connection.Connection.{Connection}
use Rattle.plan_file.specs.declared.connection.FromEnd.TheVariants as from_end
use Rattle.plan_file.specs.declared.connection.ToEnd.TheVariants as to_end
use Rattle.tributary_model.specs.Laws.{IsTributary}
use Rattle.tributary_model.specs.Places.{Tributary, tributary_of}
use Rattle.tributary_model.proofs.OnLine.{is_tributary}
use Rattle.device_model.specs.Entries.{first_turn}
use Rattle.device_model.specs.Numbers.{OutputBytes}
use Rattle.connection_laws.specs.UpToTurn.{AgreeInTurn, AgreeUpTo}
use Rattle.connection_laws.proofs.WorldInputs.{sound_of}
use Rattle.run_laws.specs.RunsAlike.{World}
use Rattle.run_laws.specs.RunsThrough.{read_of}
use Rattle.network_laws.specs.Ways.{HaveTurns}
use Rattle.network_laws.proofs.Isolation.{head_is}
use Rattle.damaged_ways.specs.DamagedWays.{Passage, IsPassage, last_is, last_passage, written_by}
use Rattle.damaged_ways.proofs.Isolated.{ShownAlike, last_same, left_alike_from, same_line, shown_alike, shown_from}
use Rattle.damaged_ways.proofs.Unharmed.{agree_back, agree_on, all_own, written_alike}
use Rattle.protect_selector.specs.OfLines.{due_before}
use Rattle.tributary_line.specs.TributaryFile.{IsTributaryFile}
use Rattle.protected_ways.specs.ProtectedWays.{Branch, ProtectCall, ArrivesOn, ProtectedWay, IsProtectedWay, SameBranch, SameProtection, ProtectedWaysAreIsolated}
use Rattle.protected_ways.proofs.GivenOn.{ShowAlike, same_dues, same_file}

-- ---- what comes to a line of protection

-- over line b
record Arrived (here : World) (written : OutputBytes) (b port : ℕ) (slots : LineSlots) (turns : ℕ) (line : List ℕ) : Type 0 where
  enough : HaveTurns (slots_of slots.kind) turns (written.line b)
  same : (t : ℕ) → t < turns → AgreeInTurn (tributary_of slots port) (read_of here written b) line t

arrived_over : (x : Connection) (here : Passage) (written : OutputBytes) (b port : ℕ) (slots : LineSlots) (turns : ℕ) (line : List ℕ)
    → x.to ≡ to_end.Line b port slots → x ≡ here.x → ArrivesOn here written port slots turns line
    → Arrived here.world written b port slots turns line
arrived_over x here written b port slots turns line puts same a =
    let to : to_end.Line a.b port slots ≡ to_end.Line b port slots = sym a.puts ∙ sym (ap (λ (z : Connection). z.to) same) ∙ puts in
    let it : Arrived here.world written a.b port slots turns line = record { enough = a.enough; same = a.unharmed } in
    subst (λ k. Arrived here.world written k port slots turns line) (same_line a.b b port port slots slots to) it

-- both lines show the tributary alike
alike_at : (one other : Passage) (first : IsPassage one) (second : IsPassage other) (port turns : ℕ) (slots : LineSlots) (line others : List ℕ)
    → one.x ≡ other.x → ShownAlike one.world other.world one.x → ArrivesOn one (written_by one first) port slots turns line
    → ArrivesOn other (written_by other second) port slots turns others → ShowAlike (tributary_of slots port) turns line others
alike_at one other first second port turns slots line others same shown a m =
    λ t less.
    let own = tributary_of slots port in
    let theirs_there = arrived_over one.x other (written_by other second) a.b port slots turns others a.puts same m in
    let has_too : Contains other.world.plan.connections one.x = subst (λ z. Contains other.world.plan.connections z) (sym same) second.has in
    let begun = a.start in
    let lasts = a.stop in
    let mine = read_of one.world (written_by one first) a.b in
    let theirs = read_of other.world (written_by other second) a.b in
    let alike = written_alike one.world other.world one.x first.is second.is first.has has_too shown.agree a.b port t turns slots a.puts
    (record { start = omega arith; stop = omega arith }) less a.enough theirs_there.enough in
    agree_on own line mine others t (agree_back own mine line t (a.unharmed t less))
    (agree_on own mine theirs others t alike (theirs_there.same t less))

-- the tributary of a line that an entry goes to
proper : (here : Passage) (is : IsPassage here) (b port : ℕ) (slots : LineSlots) → here.x.to ≡ to_end.Line b port slots → IsTributary (tributary_of slots port)
proper here is b port slots to = is_tributary slots port ((sound_of here.world.plan here.x is.is.accepted is.has).to_line b port slots to).list

branch_alike : (one other : Branch) (port turns : ℕ) (slots : LineSlots) (line others : List ℕ) → (is : IsPassage (last_passage one.first one.rest))
    → (too : IsPassage (last_passage other.first other.rest)) → SameBranch one other
    → ShownAlike (last_passage one.first one.rest).world (last_passage other.first other.rest).world (last_passage one.first one.rest).x
    → ArrivesOn (last_passage one.first one.rest) (written_by (last_passage one.first one.rest) is) port slots turns line
    → ArrivesOn (last_passage other.first other.rest) (written_by (last_passage other.first other.rest) too) port slots turns others
    → ShowAlike (tributary_of slots port) turns line others
branch_alike one other port turns slots line others is too same shown a m =
    alike_at (last_passage one.first one.rest) (last_passage other.first other.rest) is too port turns slots line others
    (last_same one.first other.first one.rest other.rest same) shown a m

-- ---- what is given on

-- the same file is due to the output of both
same_frames : (own : Tributary) (turns wait : ℕ) (w v p q : List ℕ) (frames others : List (List ℕ)) → IsTributary own → ShowAlike own turns w v
    → ShowAlike own turns p q → IsTributaryFile 0 own (due_before own wait w p turns) (8 * turns) frames
    → IsTributaryFile 0 own (due_before own wait v q turns) (8 * turns) others → frames ≡ others
same_frames own turns wait w v p q frames others trib one two file second =
    let same = same_dues own wait turns turns w v p q trib one two (omega arith) in
    same_file 0 own (due_before own wait v q turns) (8 * turns) frames others
    (subst (λ dues. IsTributaryFile 0 own dues (8 * turns) frames) same file) second

turn_same : (own : Tributary) (frames others : List (List ℕ)) (t : ℕ) → frames ≡ others → AgreeInTurn own (concat frames) (concat others) t
turn_same own frames others t e = subst (λ fs. AgreeInTurn own (concat frames) (concat fs) t) e
    (record { lock = refl; bytes = λ at n row column k l is. refl })

-- the next entry is shown the same
behind_alike : (one other : World) (y : Connection) (c port : ℕ) (slots : LineSlots) (frames others : List (List ℕ)) → frames ≡ others
    → y.from ≡ from_end.Line c port slots
    → ((t : ℕ) → first_turn y ≤ t → t < y.stop → AgreeInTurn (tributary_of slots port) (concat frames) (one.inputs.line c) t)
    → ((t : ℕ) → first_turn y ≤ t → t < y.stop → AgreeInTurn (tributary_of slots port) (concat others) (other.inputs.line c) t)
    → ShownAlike one other y
behind_alike one other y c port slots frames others same from mine theirs = record {
  agree = subst (λ e. AgreeUpTo e y (all_own y) one.inputs other.inputs) (sym from)
      (λ j less.
      let own = tributary_of slots port in
      let t = first_turn y + j in
      let low : first_turn y ≤ t = omega arith in
      let high : t < y.stop = omega arith in
      agree_on own (one.inputs.line c) (concat frames) (other.inputs.line c) t (agree_back own (concat frames) (one.inputs.line c) t (mine t low high))
      (agree_on own (concat frames) (concat others) (other.inputs.line c) t (turn_same own frames others t same) (theirs t low high)));
  client = λ n e. absurd (let both : from_end.Line c port slots ≡ from_end.Client n = sym from ∙ e in cc);
}

-- ---- the whole

-- what is asked of such a way, of a tributary, so many turns and so many that are waited for
record Seen (it : ProtectedWay) (is : IsProtectedWay it) (port : ℕ) (slots : LineSlots) (turns wait : ℕ) : Type 0 where
  on_working : ArrivesOn (last_passage it.working.first it.working.rest)
      (written_by (last_passage it.working.first it.working.rest) (last_is it.working.first it.working.rest is.working))
      port slots turns it.call.working
  on_protection : ArrivesOn (last_passage it.protection.first it.protection.rest)
      (written_by (last_passage it.protection.first it.protection.rest) (last_is it.protection.first it.protection.rest is.protection))
      port slots turns it.call.protection
  frames : List (List ℕ)
  file : IsTributaryFile 0 (tributary_of slots port) (due_before (tributary_of slots port) wait it.call.working it.call.protection turns) (8 * turns) frames
  c : ℕ
  takes : it.behind.first.x.from ≡ from_end.Line c port slots
  shown : (t : ℕ) → first_turn it.behind.first.x ≤ t → t < it.behind.first.x.stop
      → AgreeInTurn (tributary_of slots port) (concat frames) (it.behind.first.world.inputs.line c) t

seen_of : (it : ProtectedWay) (is : IsProtectedWay it) → Seen it is it.call.port it.call.slots it.call.turns it.call.wait
seen_of it is = record {
  on_working = is.on_working;
  on_protection = is.on_protection;
  frames = is.done.output.frames;
  file = is.done.output.file;
  c = is.c;
  takes = is.takes;
  shown = is.shown;
}

-- by the same protection as another
seen_as : (call : ProtectCall) (it : ProtectedWay) (is : IsProtectedWay it) → SameProtection call it.call
    → Seen it is call.port call.slots call.turns call.wait
seen_as call it is same =
    subst (λ k. Seen it is k call.slots call.turns call.wait) (sym same.port)
    (subst (λ k. Seen it is it.call.port k call.turns call.wait) (sym same.slots)
    (subst (λ k. Seen it is it.call.port it.call.slots k call.wait) (sym same.turns)
    (subst (λ k. Seen it is it.call.port it.call.slots it.call.turns k) (sym same.wait) (seen_of it is))))

same_taken : (a b p q : ℕ) (s t : LineSlots) → from_end.Line a p s ≡ from_end.Line b q t → a ≡ b
same_taken a b p q s t e = cc

pub isolated : ProtectedWaysAreIsolated
isolated one other is is_too w_same p_same call b_same w_agree p_agree =
    let mine = seen_of one is in
    let theirs = seen_as one.call other is_too call in
    let port = one.call.port in
    let slots = one.call.slots in
    let turns = one.call.turns in
    let wait = one.call.wait in
    let own = tributary_of slots port in
    let w_last = last_is one.working.first one.working.rest is.working in
    let p_last = last_is one.protection.first one.protection.rest is.protection in
    let w_shown = shown_from one.working.first other.working.first one.working.rest other.working.rest is.working is_too.working w_same
    (shown_alike one.working.first.x one.working.first.world other.working.first.world w_agree) in
    let p_shown = shown_from one.protection.first other.protection.first one.protection.rest other.protection.rest is.protection is_too.protection p_same
    (shown_alike one.protection.first.x one.protection.first.world other.protection.first.world p_agree) in
    let working = branch_alike one.working other.working port turns slots one.call.working other.call.working w_last
    (last_is other.working.first other.working.rest is_too.working) w_same w_shown mine.on_working theirs.on_working in
    let protection = branch_alike one.protection other.protection port turns slots one.call.protection other.call.protection p_last
    (last_is other.protection.first other.protection.rest is_too.protection) p_same p_shown mine.on_protection theirs.on_protection in
    let trib = proper (last_passage one.working.first one.working.rest) w_last mine.on_working.b port slots mine.on_working.puts in
    let frames = same_frames own turns wait one.call.working other.call.working one.call.protection other.call.protection mine.frames theirs.frames trib
    working protection mine.file theirs.file in
    let y = one.behind.first.x in
    let y_same : y ≡ other.behind.first.x = head_is y other.behind.first.x (map (λ p. p.x) one.behind.rest) (map (λ p. p.x) other.behind.rest) b_same in
    let c_same : theirs.c ≡ mine.c = same_taken theirs.c mine.c port port slots slots
    (sym theirs.takes ∙ sym (ap (λ (z : Connection). z.from) y_same) ∙ mine.takes) in
    let shown : (t : ℕ) → first_turn y ≤ t → t < y.stop → AgreeInTurn own (concat theirs.frames) (other.behind.first.world.inputs.line mine.c) t =
    subst (λ (z : Connection). (t : ℕ) → first_turn z ≤ t → t < z.stop
    → AgreeInTurn own (concat theirs.frames) (other.behind.first.world.inputs.line mine.c) t) (sym y_same)
    (subst (λ c. (t : ℕ) → first_turn other.behind.first.x ≤ t → t < other.behind.first.x.stop
    → AgreeInTurn own (concat theirs.frames) (other.behind.first.world.inputs.line c) t) c_same theirs.shown) in
    left_alike_from one.behind.first other.behind.first one.behind.rest other.behind.rest is.behind is_too.behind b_same
    (behind_alike one.behind.first.world other.behind.first.world y mine.c port slots mine.frames theirs.frames frames mine.takes mine.shown shown)
