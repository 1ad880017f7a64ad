-- What a way delivers over fibres that are damaged elsewhere.
use Rattle.std.proofs.Common.{◌≡◌, ◌≤◌, ◌-◌, ◌*◌, ℕ, Bool, List, [], ◌∷◌, Option, length, sym, ap, ◌∙◌, subst, arith}
use Rattle.odu_client.specs.ClientFrames.{client_stream}
use Rattle.odu_client.specs.ClientInput.{emitted_before}
use Rattle.plan_file.specs.declared.connection.ToEnd.TheVariants as to_end
use Rattle.tributary_model.specs.Carriage.{Arrives}
use Rattle.tributary_model.specs.Carries.{sent}
use Rattle.tributary_model.specs.Places.{Tributary, View, IsWholeTurn, tributary_of}
use Rattle.tributary_model.proofs.OnLine.{is_tributary}
use Rattle.device_model.specs.Entries.{first_turn}
use Rattle.device_model.specs.LineViews.{view_at}
use Rattle.connection_laws.specs.Carried.{numbers_got}
use Rattle.connection_laws.specs.Delivery.{AreOffered}
use Rattle.connection_laws.proofs.UpToTurn.{same_turn_view}
use Rattle.connection_laws.proofs.WorldInputs.{sound_of}
use Rattle.run_laws.specs.RunsAlike.{state_of_client}
use Rattle.run_laws.specs.RunsThrough.{CarriedOn, LivedIn, read_of}
use Rattle.run_laws.proofs.RunsThrough.{carried_in}
use Rattle.network_laws.proofs.Delivery.{later_sent, sent_got, text_of}
use Rattle.damaged_ways.specs.DamagedWays.{Passage, IsPassage, BringsUnharmed, IsDamagedWay, HasLivedInStep, DamagedWaysDeliver, last_is, last_passage, written_by}

-- views that are the same carry the same
arrives_by : (own : Tributary) (bytes p : List ℕ) (views others : ℕ → Option View) (s u : ℕ)
    → ((t : ℕ) → s ≤ t → t ≤ u → views t ≡ others t) → Arrives own bytes p views s s s u → Arrives own bytes p others s s s u
arrives_by own bytes p views others s u same a = record {
  slots = a.slots;
  order = a.order;
  whole = λ t low high. subst (IsWholeTurn (length own.slots)) (same t low high) (a.whole t low high);
  carries = record {
    order = a.carries.order;
    numbers = a.carries.numbers;
    enough = a.carries.enough;
    fits = a.carries.fits;
    each = λ t low high. (let e = a.carries.each t low high in (e.0, (sym (same t low high) ∙ e.1.0, e.1.1)));
  };
  steady = a.steady;
}

-- an entry's line carries what the file of the node before does
read_on : (here next : Passage) (is : IsPassage here) (next_is : IsPassage next) (l : BringsUnharmed here next (written_by here is)) (bytes p : List ℕ)
    → next.x.start ≡ here.x.start
    → CarriedOn here.x l.port l.slots (read_of here.world (written_by here is) l.b) bytes p (next.x.stop - 1)
    → CarriedOn next.x l.port l.slots (next.world.inputs.line l.c) bytes p (next.x.stop - 1)
read_on here next is next_is l bytes p start carried =
    let own = tributary_of l.slots l.port in
    let sound = sound_of next.world.plan next.x next_is.is.accepted next_is.has in
    let low = sound.start in
    let span = sound.span in
    let right = is_tributary l.slots l.port (sound.from_line l.c l.port l.slots l.goes.takes).list in
    let line = read_of here.world (written_by here is) l.b in
    let brought = next.world.inputs.line l.c in
    let P : ℕ → Type 0 = λ s. Arrives own bytes p (view_at own line) (s - 1) (s - 1) (s - 1) (next.x.stop - 1) in
    arrives_by own bytes p (view_at own line) (view_at own brought) (first_turn next.x) (next.x.stop - 1)
    (λ t from to. same_turn_view own line brought t right (l.unharmed t from (omega arith))) (subst P (sym start) carried)

-- what is carried to the first fibre of a way comes out at its end
along : (here next : Passage) (rest : List Passage) (n k : ℕ) (sapi : List ℕ) (packets : List (List ℕ)) (fcs : Bool) (p : List ℕ)
    (way : IsDamagedWay here (next ∷ rest)) → HasLivedInStep here (next ∷ rest) way → (last_passage next rest).x.to ≡ to_end.Client n
    → LivedIn (last_passage next rest).world (state_of_client n) → AreOffered packets
    → CarriedOn here.x way.1.port way.1.slots (read_of here.world (written_by here way.0) way.1.b) (client_stream sapi packets fcs k) p (next.x.stop - 1)
    → (written_by (last_passage next rest) (last_is next rest way.2)).client n
    ≡ text_of packets fcs (sent p ((last_passage next rest).x.stop - here.x.start - 2 - 3 * length rest))
along here next [] n k sapi packets fcs p way lived to end_lived offered carried =
    let l = way.1 in
    let bytes = client_stream sapi packets fcs k in
    let there = read_on here next way.0 way.2 l bytes p lived.1 carried in
    let came = (carried_in next.world next.x way.2.is way.2.has).packets l.c l.port n (next.x.stop - 1) k l.slots sapi packets fcs p
    l.goes.takes to end_lived (omega arith) offered there in
    let start = lived.1 in
    let e : next.x.stop - next.x.start - 2 ≡ next.x.stop - here.x.start - 2 - 3 * 0 = omega arith in
    came ∙ ap (λ i. text_of packets fcs (sent p i)) e
along here next (after ∷ rest) n k sapi packets fcs p way lived to end_lived offered carried =
    let l = way.1 in
    let m = way.2.1 in
    let next_is : IsPassage next = way.2.0 in
    let bytes = client_stream sapi packets fcs k in
    let sound = sound_of next.world.plan next.x next_is.is.accepted next_is.has in
    let low = sound.start in
    let span = sound.span in
    let stop = m.goes.stop in
    let there = read_on here next way.0 next_is l bytes p lived.1 carried in
    let on = (carried_in next.world next.x next_is.is next_is.has).line l.c l.port m.b m.port (next.x.stop - 1) (after.x.stop - 1) l.slots m.slots
    bytes p l.goes.takes m.goes.puts lived.2.0 (omega arith) (omega arith) there in
    let ended = along next after rest n k sapi packets fcs (0 ∷ 0 ∷ 0 ∷ p) way.2 lived.2 to end_lived offered on in
    let start = lived.1 in
    let last = (last_passage after rest).x.stop in
    let e : last - next.x.start - 2 - 3 * length rest - 3 ≡ last - here.x.start - 2 - 3 * length (after ∷ rest) = omega arith in
    ended ∙ ap (text_of packets fcs) (later_sent p (last - next.x.start - 2 - 3 * length rest)) ∙ ap (λ i. text_of packets fcs (sent p i)) e

-- no entry lasts longer than the first
last_stop : (here : Passage) (rest : List Passage) (way : IsDamagedWay here rest) → (last_passage here rest).x.stop ≤ here.x.stop
last_stop here [] way = omega arith
last_stop here (next ∷ rest) way =
    let most = last_stop next rest way.2 in
    let stop = way.1.goes.stop in
    omega arith

pub delivered : DamagedWaysDeliver
delivered here [] m n way lived some from to end_lived offered = absurd (omega arith)
delivered here (next ∷ rest) m n way lived some from to end_lived offered =
    let l = way.1 in
    let x = here.x in
    let turns = x.stop in
    let packets = (here.world.inputs.client m).packets in
    let sound = sound_of here.world.plan x way.0.is.accepted way.0.has in
    let low = sound.start in
    let span = sound.span in
    let stop = l.goes.stop in
    let last = (last_passage next rest).x.stop in
    let most = last_stop here (next ∷ rest) way in
    let carried = (carried_in here.world x way.0.is way.0.has).client m l.b l.port (next.x.stop - 1) turns l.slots from l.goes.puts lived.0
    (omega arith) (omega arith) in
    let there = along here next rest n (emitted_before x.pace turns) x.trace packets x.fcs (numbers_got x.pace turns) way lived to end_lived offered
    carried in
    let k = last - x.start - 2 - 3 * length rest in
    let e : k - 1 ≡ last - x.start - 3 * length (next ∷ rest) = omega arith in
    there ∙ ap (text_of packets x.fcs) (sent_got x.pace turns k (omega arith)) ∙ ap (λ i. text_of packets x.fcs (emitted_before x.pace i)) e
