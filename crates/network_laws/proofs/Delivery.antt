-- What a way delivers.
use Rattle.std.proofs.Common.{◌≡◌, ◌≤◌, ◌+◌, ◌-◌, ◌*◌, ℕ, zero, suc, Bool, List, [], ◌∷◌, ◌++◌, length, map, append-nil, refl, sym, ap, ◌∙◌, subst, arith, add-one}
use Rattle.std.specs.List.{range_with_len}
use Rattle.std.proofs.lemmas.List.FromFn.{get_or-map-range_with_len, length-map-range_with_len}
use Rattle.packet_text.specs.PacketText.{hex_text}
use Rattle.line_side.specs.LineForm.{LineForm, through_mask}
use Rattle.odu_client.specs.ClientFrames.{client_stream}
use Rattle.odu_client.specs.ClientInput.{emitted_before, pace_of}
use Rattle.plan_file.specs.declared.connection.ToEnd.TheVariants as to_end
use Rattle.tributary_model.specs.Carriage.{Arrives}
use Rattle.tributary_model.specs.Carries.{sent}
use Rattle.tributary_model.specs.Places.{tributary_of}
use Rattle.tributary_model.proofs.Totals.{sent_next}
use Rattle.device_model.specs.Entries.{form_in}
use Rattle.device_model.specs.LineViews.{view_at}
use Rattle.device_model.specs.SoundPlans.{IsSoundEntry}
use Rattle.connection_laws.specs.Carried.{numbers_got}
use Rattle.connection_laws.specs.Delivery.{AreOffered, whole_packets}
use Rattle.connection_laws.proofs.WorldInputs.{sound_of}
use Rattle.run_laws.specs.RunsThrough.{CarriedOn}
use Rattle.run_laws.specs.SeenRuns.{LineGave, ClientGot, ClientLived, read_back}
use Rattle.run_laws.proofs.SeenRuns.{carries_over}
use Rattle.network_laws.specs.Delivery.{IsInStep, WaysDeliver}
use Rattle.network_laws.specs.Ways.{Hop, IsHop, LeadsOn, IsWay, IsWhole, IsWholeWay, last_hop}
use Rattle.network_laws.proofs.Isolation.{last_stop}

-- ---- totals

pub later_sent : (p : List ℕ) (i : ℕ) → sent (0 ∷ 0 ∷ 0 ∷ p) i ≡ sent p (i - 3)
later_sent p zero = refl
later_sent p (suc zero) = refl
later_sent p (suc (suc zero)) = refl
later_sent p (suc (suc (suc i))) = ap (sent p) (let e : i ≡ suc (suc (suc i)) - 3 = omega arith in e)

paces_next : (paces : List ℕ) (k : ℕ) → emitted_before paces (suc k) ≡ emitted_before paces k + pace_of paces k
unfolding emitted_before
paces_next paces k = refl

paces_none : (paces : List ℕ) → emitted_before paces zero ≡ 0
unfolding emitted_before
paces_none paces = refl

sent_paces : (paces : List ℕ) (n k : ℕ) → k ≤ n → sent (map (pace_of paces) (range_with_len 0 n)) k ≡ emitted_before paces k
sent_paces paces n zero le = sym (paces_none paces)
sent_paces paces n (suc k) le =
    let p = map (pace_of paces) (range_with_len 0 n) in
    let long = length-map-range_with_len (pace_of paces) 0 n in
    let here : sent p (k + 1) ≡ sent p k + pace_of paces k = sent_next p k (omega arith)
    ∙ ap (λ z. sent p k + z) (get_or-map-range_with_len (pace_of paces) 0 n k k 0 (omega arith) (omega arith)) in
    ap (sent p) (sym (add-one k)) ∙ here ∙ ap (λ z. z + pace_of paces k) (sent_paces paces n k (omega arith)) ∙ sym (paces_next paces k)

-- what the first entry took by then
pub sent_got : (paces : List ℕ) (n k : ℕ) → k ≤ n + 1 → sent (numbers_got paces n) k ≡ emitted_before paces (k - 1)
sent_got paces n zero le = sym (paces_none paces)
sent_got paces n (suc k) le =
    let first : sent (numbers_got paces n) (suc k) ≡ sent (map (pace_of paces) (range_with_len 0 n)) k = refl in
    first ∙ sent_paces paces n k (omega arith) ∙ ap (emitted_before paces) (let e : k ≡ suc k - 1 = omega arith in e)

-- ---- from one node to the next

-- what the first packets of a stream are, by so many of its bytes
abbrev pub text_of : (packets : List (List ℕ)) (fcs : Bool) (n : ℕ) → List ℕ
text_of packets fcs n = hex_text (whole_packets packets fcs n)

-- the next node's line carries what this one's file does
read_on : (here next : Hop) (l : LeadsOn here next) (bytes p : List ℕ) (u : ℕ) → IsWhole here.run l.b l.fibre.cut → next.x.start ≡ here.x.start
    → CarriedOn here.x l.port l.slots (read_back here.run l.b l.fibre.written) bytes p u
    → CarriedOn next.x l.port l.slots (through_mask (form_in next.run.plan l.c).scrambled l.fibre.brought) bytes p u
read_on here next l bytes p u whole start carried =
    let all : l.fibre.brought ≡ l.fibre.written = sym (ap (λ c. l.fibre.brought ++ c) whole.all ∙ append-nil l.fibre.brought) ∙ l.fibre.parts in
    let line : read_back here.run l.b l.fibre.written ≡ through_mask (form_in next.run.plan l.c).scrambled l.fibre.brought = ap
    (λ (form : LineForm). through_mask form.scrambled l.fibre.written) (sym l.fibre.form)
    ∙ ap (through_mask (form_in next.run.plan l.c).scrambled) (sym all) in
    let own = tributary_of l.slots l.port in
    let P : (start : ℕ) → List ℕ → Type 0 = λ start bits. Arrives own bytes p (view_at own bits) (start - 1) (start - 1) (start - 1) u in
    subst (λ s. P s (through_mask (form_in next.run.plan l.c).scrambled l.fibre.brought)) (sym start)
    (subst (P here.x.start) line carried)

next_gave : (here next : Hop) (l : LeadsOn here next) → LineGave next.run l.c (through_mask (form_in next.run.plan l.c).scrambled l.fibre.brought)
next_gave here next l = record { available = l.fibre.brought; had = l.fibre.came; frames = refl }

-- what is carried to the first fibre of a way comes out at its end
along : (here next : Hop) (hops : List Hop) (n u k : ℕ) (sapi : List ℕ) (packets : List (List ℕ)) (fcs : Bool) (p written : List ℕ)
    (way : IsWay here (next ∷ hops)) → IsWholeWay here (next ∷ hops) way → IsInStep here (next ∷ hops)
    → (last_hop next hops).x.to ≡ to_end.Client n → ClientGot (last_hop next hops).run n written → ClientLived (last_hop next hops).run n → AreOffered packets
    → here.x.stop ≤ u + 1
    → CarriedOn here.x way.1.port way.1.slots (read_back here.run way.1.b way.1.fibre.written) (client_stream sapi packets fcs k) p u
    → written ≡ text_of packets fcs (sent p ((last_hop next hops).x.stop - here.x.start - 2 - 3 * length hops))
along here next [] n u k sapi packets fcs p written way whole step to got lived offered most carried =
    let l = way.1 in
    let stop = l.goes.stop in
    let there = read_on here next l (client_stream sapi packets fcs k) p u whole.0 step.0 carried in
    let came = (carries_over next.run next.x way.2.is way.2.has).packets l.c l.port n u k l.slots sapi packets fcs
    (through_mask (form_in next.run.plan l.c).scrambled l.fibre.brought) written p l.goes.takes to (next_gave here next l) got lived
    (omega arith) offered there in
    let start = step.0 in
    let e : next.x.stop - next.x.start - 2 ≡ next.x.stop - here.x.start - 2 - 3 * 0 = omega arith in
    came ∙ ap (λ i. text_of packets fcs (sent p i)) e
along here next (after ∷ hops) n u k sapi packets fcs p written way whole step to got lived offered most carried =
    let l = way.1 in
    let m = way.2.1 in
    let bytes = client_stream sapi packets fcs k in
    let stop = l.goes.stop in
    let next_is : IsHop next = way.2.0 in
    let sound : IsSoundEntry next.run.plan next.x = sound_of next.run.plan next.x next_is.is.accepted next_is.has in
    let low = sound.start in
    let span = sound.span in
    let u_next = next.x.stop - 1 in
    let there = read_on here next l bytes p u whole.0 step.0 carried in
    let on = (carries_over next.run next.x next_is.is next_is.has).line l.c l.port m.b m.port u u_next l.slots m.slots
    (through_mask (form_in next.run.plan l.c).scrambled l.fibre.brought) m.fibre.written bytes p
    l.goes.takes m.goes.puts (next_gave here next l) m.fibre.went whole.1.0.lived (omega arith) (omega arith) there in
    let rest = along next after hops n u_next k sapi packets fcs (0 ∷ 0 ∷ 0 ∷ p) written way.2 whole.1 step.1 to got lived offered (omega arith) on in
    let start = step.0 in
    let last = (last_hop after hops).x.stop in
    let e : last - next.x.start - 2 - 3 * length hops - 3 ≡ last - here.x.start - 2 - 3 * length (after ∷ hops) = omega arith in
    rest ∙ ap (text_of packets fcs) (later_sent p (last - next.x.start - 2 - 3 * length hops)) ∙ ap (λ i. text_of packets fcs (sent p i)) e

pub delivered : WaysDeliver
delivered hop [] m n input written way whole step some from to gave got lived offered = absurd (omega arith)
delivered hop (next ∷ hops) m n input written way whole step some from to gave got lived offered =
    let l = way.1 in
    let x = hop.x in
    let turns = x.stop in
    let sound : IsSoundEntry hop.run.plan x = sound_of hop.run.plan x way.0.is.accepted way.0.has in
    let low = sound.start in
    let span = sound.span in
    let last = (last_hop next hops).x.stop in
    let most = last_stop hop (next ∷ hops) way in
    let bytes = client_stream x.trace input.packets x.fcs (emitted_before x.pace turns) in
    let carried = (carries_over hop.run x way.0.is way.0.has).client m l.b l.port
    (x.stop - 1) turns l.slots input l.fibre.written from l.goes.puts gave l.fibre.went whole.0.lived (omega arith) (omega arith) in
    let there = along hop next hops n (x.stop - 1) (emitted_before x.pace turns) x.trace input.packets x.fcs
    (numbers_got x.pace turns) written way whole step to got lived offered (omega arith) carried in
    let k = last - x.start - 2 - 3 * length hops in
    let e : k - 1 ≡ last - x.start - 3 * length (next ∷ hops) = omega arith in
    there ∙ ap (text_of input.packets x.fcs) (sent_got x.pace turns k (omega arith)) ∙ ap (λ i. text_of input.packets x.fcs (emitted_before x.pace i)) e
