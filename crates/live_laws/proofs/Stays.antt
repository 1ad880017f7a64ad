-- What a live node's outputs got by an earlier moment stays at the front of what they got by a later one.
use Rattle.std.proofs.Common.{◌≡◌, ◌<◌, ◌≤◌, ◌+◌, ◌-◌, ◌==◌, ◌⊎◌, ℕ, zero, suc, Bool, true, false, List}
use Rattle.std.proofs.Common.{[], ◌∷◌, ◌++◌, Option, Some, refl, sym, ap, ◌∙◌, subst, arith, inl, inr, append_assoc, append-nil}
use Rattle.std.specs.List.{Contains, concat}
use Rattle.std.proofs.lemmas.Bool.{cases_lt}
use Rattle.std.proofs.lemmas.Bool.Decides.{nat_tests}
use Rattle.otn_base.specs.declared.kind.PortName.TheVariants as port
use Rattle.port_base.specs.Places.{output_of}
use Rattle.port_base.specs.Sent.{IsSent}
use Rattle.port_base.specs.Views.{OutView, BaysView, line_out_at, client_out_at}
use Rattle.port_base.proofs.GivenLaws.{gained_none}
use Rattle.packet_text.specs.PacketText.{packet_line, hex_text}
use Rattle.odu_client.specs.ClientOutput.{arriving_packets, arriving_text}
use Rattle.odu_client.proofs.ArrivingText.{stays_delivered}
use Rattle.plan_file.specs.declared.connection.Connection.{Connection}
use Rattle.plan_file.specs.declared.connection.ToEnd.{ToEnd}
use Rattle.plan_file.specs.declared.connection.ToEnd.TheVariants as to_end
use Rattle.plan_file.specs.declared.plan.Plan.{Plan}
use Rattle.device_model.specs.Entries.{is_to_client}
use Rattle.device_model.specs.Moments.{uses, touches, turns_done, is_retired, client_due}
use Rattle.device_model.specs.Through.{OwnInput, own_input, got_in, got_by, arrived_by, text_by}
use Rattle.run_laws.proofs.GivenRuns.{some_passes}
use Rattle.node_moments.specs.NodeView.{NodeView}
use Rattle.node_moments.specs.Stands.{InputBytes}
use Rattle.live_laws.specs.Live.{telling, AreServed, LiveStands}
use Rattle.live_laws.specs.LivePairs.{HasGot}
use Rattle.live_laws.specs.LiveTurns.{inputs_of, turns_out}
use Rattle.live_laws.proofs.LivePairs.{not_emptied, entry, so_many, text_is_due}
use Rattle.live_laws.proofs.LiveTurns.{live_turns}

-- a list that goes on
pub record GoesOnFrom (few all : List ℕ) : Type 0 where
  pub more : List ℕ
  pub parts : all ≡ few ++ more

on_as_it_was : (l : List ℕ) → GoesOnFrom l l
on_as_it_was l = record { more = []; parts = sym (append-nil l) }

on_twice : (a b c : List ℕ) → GoesOnFrom a b → GoesOnFrom b c → GoesOnFrom a c
on_twice a b c one two = record {
  more = one.more ++ two.more;
  parts = two.parts ∙ ap (λ l. l ++ two.more) one.parts ∙ append_assoc a one.more two.more;
}

-- ---- texts

text_behind : (xs ys : List (List ℕ)) → hex_text (xs ++ ys) ≡ hex_text xs ++ hex_text ys
unfolding hex_text
text_behind [] ys = refl
text_behind (x ∷ xs) ys = ap (λ text. packet_line x ++ text) (text_behind xs ys) ∙ sym (append_assoc (packet_line x) (hex_text xs) (hex_text ys))

text_on : (bytes all : List ℕ) → GoesOnFrom bytes all → GoesOnFrom (arriving_text bytes) (arriving_text all)
unfolding arriving_text
text_on bytes all g =
    let d = stays_delivered bytes g.more in
    record {
      more = hex_text d.later;
      parts = ap (λ l. hex_text (arriving_packets l)) g.parts ∙ ap hex_text d.parts ∙ text_behind (arriving_packets bytes) d.later;
    }

concat_on : (ls : List (List ℕ)) (l : List ℕ) → concat (ls ++ l ∷ []) ≡ concat ls ++ l
concat_on [] l = append-nil l
concat_on (x ∷ ls) l = ap (λ rest. x ++ rest) (concat_on ls l) ∙ sym (append_assoc x (concat ls) l)

arrived_next : (x : Connection) (own : OwnInput) (k : ℕ) → GoesOnFrom (arrived_by x own k) (arrived_by x own (suc k))
unfolding got_by
arrived_next x own k = record { more = got_in x own k; parts = concat_on (got_by x own k) (got_in x own k) }

arrived_on : (x : Connection) (own : OwnInput) (k d : ℕ) → GoesOnFrom (arrived_by x own k) (arrived_by x own (d + k))
arrived_on x own k zero =
    subst (λ n. GoesOnFrom (arrived_by x own k) (arrived_by x own n)) (let e : k ≡ 0 + k = omega arith in e) (on_as_it_was (arrived_by x own k))
arrived_on x own k (suc d) =
    on_twice (arrived_by x own k) (arrived_by x own (d + k)) (arrived_by x own (suc d + k)) (arrived_on x own k d)
    (subst (λ n. GoesOnFrom (arrived_by x own (d + k)) (arrived_by x own n)) (let e : suc (d + k) ≡ suc d + k = omega arith in e) (arrived_next x own (d + k)))

text_later : (x : Connection) (own : OwnInput) (k n : ℕ) → k ≤ n → GoesOnFrom (text_by x own k) (text_by x own n)
text_later x own k n few =
    let sum : n - k + k ≡ n = omega arith in
    text_on (arrived_by x own k) (arrived_by x own n) (subst (λ m. GoesOnFrom (arrived_by x own k) (arrived_by x own m)) sum (arrived_on x own k (n - k)))

-- ---- the place of a client

some_same : {a b : List ℕ} → ◌≡◌ {A = Option (List ℕ)} (Some a) (Some b) → a ≡ b
some_same e = cc

pub nothing_yet : (now : OutView) (bytes : List ℕ) → now ≡ telling → HasGot now bytes → bytes ≡ []
nothing_yet now bytes is has = some_same (sym has.got ∙ ap (λ (v : OutView). v.got) is)

pub nothing_sent : (now : OutView) → now ≡ telling → IsSent telling [] now
nothing_sent now is =
    subst (IsSent telling []) (sym is) record { written = []; rest = []; parts = refl; gained = gained_none telling; whole = λ live. refl }

same_client : (n m : ℕ) → (m == n) ≡ true → m ≡ n
same_client n m e = grind (arith, nat_tests)

to_it : (n : ℕ) (to : ToEnd) → is_to_client n to ≡ true → to ≡ to_end.Client n
to_it n (to_end.Line b number slots) e = absurd (cc)
to_it n (to_end.Client m) e = ap to_end.Client (same_client n m e)

-- nothing has left to a client yet, or its connection has begun
abbrev pub ClientBy : Plan → NodeView → OutView → (n : ℕ) → Type 0
ClientBy plan node place n =
    (place ≡ telling) ⊎ ((x : Connection) × Contains plan.connections x × (x.to ≡ to_end.Client n) × (x.start ≤ node.past + 1))

pub client_by : (plan : Plan) (handed : InputBytes) (node : NodeView) (now : BaysView) (n : ℕ) → n < 16 → LiveStands plan handed node now
    → ClientBy plan node (client_out_at now n) n
client_by plan handed node now n few h = by_use (uses plan (port.ClientOut n)) refl
  where
    by_use : (used : Bool) → uses plan (port.ClientOut n) ≡ used → ClientBy plan node (client_out_at now n) n
    by_use false used = inl (ap output_of (h.stands.idle (port.ClientOut n) used) ∙ h.opens.client_out n few)
    by_use true used =
        let x = some_passes (touches (port.ClientOut n)) plan.connections used in
        elim (cases_lt (node.past + 1) x.0.start) [
          | inl waits ↦ inl (((h.stands.ports (port.ClientOut n)).waits x.1.0 x.0 (entry plan x.0 x.1) x.2 waits).0 ∙ h.opens.client_out n few)
          | inr begun ↦ inr (x.0, x.1, to_it n x.0.to x.2, begun)
        ]

-- what was due to a client's live place
pub client_sent : (plan : Plan) (handed : InputBytes) (node : NodeView) (now : BaysView) (n : ℕ) (bytes : List ℕ) → n < 16 → LiveStands plan handed node now
    → AreServed node → HasGot (client_out_at now n) bytes → (due : List ℕ) × IsSent telling due (client_out_at now n)
client_sent plan handed node now n bytes few h served has = elim (client_by plan handed node now n few h) [
  | inl fresh ↦ ([], nothing_sent (client_out_at now n) fresh)
  | inr b ↦
      let left = (live_turns plan handed node now h served).client b.1.0 n b.0 (entry plan b.0 b.1) b.2 b.3 in
      let due = client_due b.0 (own_input (inputs_of plan handed) b.0) (turns_out node) 0 in
      let same = not_emptied (is_retired b.0 node.past) left.was (client_out_at now n) left.place has.alive in
      (due, subst (IsSent telling due) (sym same) left.sent)
]

-- what it got goes on from what it had got
pub client_on : (plan : Plan) (handed : InputBytes) (old new : NodeView) (was is : BaysView) (n : ℕ) (bytes others : List ℕ) → n < 16
    → LiveStands plan handed old was → LiveStands plan handed new is → AreServed old → AreServed new → old.past ≤ new.past
    → HasGot (client_out_at was n) bytes → HasGot (client_out_at is n) others → GoesOnFrom bytes others
client_on plan handed old new was is n bytes others few h k served served_too later had has = elim (client_by plan handed old was n few h) [
  | inl fresh ↦ record { more = others; parts = ap (λ l. l ++ others) (sym (nothing_yet (client_out_at was n) bytes fresh had)) }
  | inr b ↦
      let own = own_input (inputs_of plan handed) b.0 in
      let one = text_is_due plan handed old was b.0 n bytes h served b.1 b.2 b.3 had in
      let two = text_is_due plan handed new is b.0 n others k served_too b.1 b.2 (let start = b.3 in omega arith) has in
      let p = h.stands.plan_stands.turns in
      let q = k.stands.plan_stands.turns in
      let few_turns : turns_done b.0 (turns_out old) 0 ≤ turns_done b.0 (turns_out new) 0 =
      (let e = so_many b.0 (turns_out old) in let f = so_many b.0 (turns_out new) in omega arith) in
      let t = text_later b.0 own (turns_done b.0 (turns_out old) 0) (turns_done b.0 (turns_out new) 0) few_turns in
      record { more = t.more; parts = two ∙ t.parts ∙ ap (λ l. l ++ t.more) (sym one) }
]

-- ---- the place of a line

pub line_sent : (plan : Plan) (handed : InputBytes) (node : NodeView) (now : BaysView) (b : ℕ) → b < 4 → LiveStands plan handed node now
    → AreServed node → (due : List ℕ) × IsSent telling due (line_out_at now b)
line_sent plan handed node now b few h served = by_use (uses plan (port.LineOut b)) refl
  where
    by_use : (used : Bool) → uses plan (port.LineOut b) ≡ used → (due : List ℕ) × IsSent telling due (line_out_at now b)
    by_use false used = ([], nothing_sent (line_out_at now b) (ap output_of (h.stands.idle (port.LineOut b) used) ∙ h.opens.line_out b few))
    by_use true used = (let left = (live_turns plan handed node now h served).line b used in (left.0, left.2))
