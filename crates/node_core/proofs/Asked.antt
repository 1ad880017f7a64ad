-- The lines of a node are asked for a byte, one after the other.
use Rattle.std.proofs.Common.{◌≡◌, ◌≢◌, ◌⊎◌, inl, inr, ◌<◌, ◌≤◌, ◌+◌, ◌∙◌, ◌==◌, ◌||◌, ℕ, Bool, true, false, if◌then◌else◌, List, [], length, Some, slice_get, get_or, refl, sym, ap, subst, arith}
use Rattle.std.proofs.lemmas.Bool.Decides.{eqb_tells}
use Rattle.std.specs.Prelude.{not}
use Rattle.std.proofs.lemmas.Option.{same_Some, slice_get_within, slice_get-get_or}
use Rattle.otn_base.specs.declared.kind.PortName.{PortName}
use Rattle.port_base.specs.InPlace.{in_view}
use Rattle.port_base.specs.OnePlace.{OnlyLineIn}
use Rattle.port_base.specs.Racks.{bays_view, line_ins, with_line_in}
use Rattle.port_base.specs.Views.{InView, BaysView, line_in_at}
use Rattle.port_base.specs.declared.bays.Rack.{Rack}
use Rattle.port_base.specs.declared.in_place.InPlaceOf.{InPlaceOf}
use Rattle.port_base.specs.declared.sink.Sink as sink
use Rattle.port_base.specs.declared.source.Source as source
use Rattle.port_base.proofs.BaysLaws.{line_in_seen, line_in_set, only_line_in}
use Rattle.line_side.specs.LineStands.{LineView}
use Rattle.port_base.specs.Asked.{has_come, ByteAsked, ByteAnswer}
use Rattle.node_core.specs.Asking.{asks_line}
use Rattle.node_core.specs.Steps.Asking.{LinesAnswer, is_cut, CutAnswer, OpenAnswer, OpensAnswer, SaysSpent}
use Rattle.turn_pieces.specs.Pieces.{PiecesView}
use Rattle.turn_pieces.specs.Ports.{index_of, port_at}
use Rattle.node_links.specs.declared.link.Link.{Link}
use Rattle.plan_file.specs.declared.connection.FromEnd.TheVariants as from_end
use Rattle.turn_pieces.proofs.PortNumbers.{port_at_index}

-- ---- lines

-- no line was asked yet
pub none_asked : (pieces : PiecesView) (lines : List LineView) (was : BaysView) → LinesAnswer 0 pieces lines was was false
none_asked pieces lines was = record {
  asked = record { further = λ a. []; each = λ a line less. absurd (omega arith); rest = λ a le. (refl, refl); line_out = refl; client_in = refl; client_out = refl };
  some = λ e. absurd (cc);
  none = λ e a. refl;
}

-- line a was asked, and no other place
ask_next : (a : ℕ) (pieces : PiecesView) (lines : List LineView) (line : LineView) (was mid is : BaysView) (more answer : Bool) → slice_get lines a ≡ Some line → OnlyLineIn a mid is
    → ByteAnswer (asks_line pieces a line) (line_in_at mid a) (line_in_at is a) answer → LinesAnswer a pieces lines was mid more → LinesAnswer (a + 1) pieces lines was is (more || answer)
ask_next a pieces lines line was mid is more answer known only h before = record {
  asked = record {
    further = further;
    each = λ m other less at. each m other at (eqb_tells m a) less;
    rest = λ m le. let less : m ≢ a = (λ e. absurd (omega (arith, le, e))) in (only.line_in m less ∙ (before.asked.rest m (omega (arith, le))).0, other_came m less ∙ (before.asked.rest m (omega (arith, le))).1);
    line_out = only.line_out ∙ before.asked.line_out;
    client_in = only.client_in ∙ before.asked.client_in;
    client_out = only.client_out ∙ before.asked.client_out;
  };
  some = λ e. some more refl e;
  none = λ e m. none m (eqb_tells m a) (or_parts more answer e);
}
  where
    further : ℕ → List ℕ
    further m = if m == a then h.further else before.asked.further m

    here_came : further a ≡ h.further
    here_came = elim (eqb_tells a a) [ inl t ↦ ap (λ b. if b then h.further else before.asked.further a) t.0 | inr t ↦ absurd (t.1 refl) ]

    other_came : (m : ℕ) → m ≢ a → further m ≡ before.asked.further m
    other_came m d = elim (eqb_tells m a) [ inl t ↦ absurd (d t.1) | inr t ↦ ap (λ b. if b then h.further else before.asked.further m) t.0 ]

    here : line_in_at mid a ≡ line_in_at was a
    here = (before.asked.rest a (omega arith)).0

    asked : ByteAsked (asks_line pieces a line) (line_in_at was a) (line_in_at is a) (further a)
    asked = subst (ByteAsked (asks_line pieces a line) (line_in_at was a) (line_in_at is a)) (sym here_came) (subst (λ v. ByteAsked (asks_line pieces a line) v (line_in_at is a) h.further) here h.asked)

    each : (m : ℕ) (other : LineView) → slice_get lines m ≡ Some other → (((m == a) ≡ true) × (m ≡ a)) ⊎ (((m == a) ≡ false) × (m ≢ a)) → m < a + 1
        → ByteAsked (asks_line pieces m other) (line_in_at was m) (line_in_at is m) (further m)
    each m other at (inl t) less =
        let same : line ≡ other = same_Some line other (sym known ∙ ap (slice_get lines) (sym t.1) ∙ at) in
        subst (λ k. ByteAsked (asks_line pieces k other) (line_in_at was k) (line_in_at is k) (further k)) (sym t.1)
        (subst (λ l. ByteAsked (asks_line pieces a l) (line_in_at was a) (line_in_at is a) (further a)) same asked)
    each m other at (inr t) less =
        let lower : m < a = let d = t.1 in omega (arith, d, less) in
        subst (ByteAsked (asks_line pieces m other) (line_in_at was m) (line_in_at is m)) (sym (other_came m t.1))
        (subst (λ v. ByteAsked (asks_line pieces m other) (line_in_at was m) v (before.asked.further m)) (sym (only.line_in m t.1)) (before.asked.each m other lower at))

    or_parts : (b c : Bool) → (b || c) ≡ false → (b ≡ false) × (c ≡ false)
    or_parts true c e = absurd (cc)
    or_parts false c e = (refl, e)

    some : (b : Bool) → more ≡ b → (b || answer) ≡ true → (m : ℕ) × (m < a + 1) × (has_come (further m) ≡ true)
    some true e t =
        let s = before.some e in
        let lower = s.1 in
        (s.0, omega (arith, lower), ap has_come (other_came s.0 (λ same. absurd (omega (arith, lower, same)))) ∙ s.2)
    some false e t = (a, omega arith, ap has_come here_came ∙ sym h.tells ∙ t)

    none : (m : ℕ) → (((m == a) ≡ true) × (m ≡ a)) ⊎ (((m == a) ≡ false) × (m ≢ a)) → (more ≡ false) × (answer ≡ false) → has_come (further m) ≡ false
    none m (inl t) p = ap (λ k. has_come (further k)) t.1 ∙ ap has_come here_came ∙ sym h.tells ∙ p.1
    none m (inr t) p = ap has_come (other_came m t.1) ∙ before.none p.0 m

pub asked_next : {P K : Type 0} (p : source.Ghosts P) (k : sink.Ghosts K) (rack : Rack P K) (x y : InPlaceOf P) (a : ℕ) (pieces : PiecesView) (lines : List LineView) (line : LineView) (was : BaysView) (asks more answer : Bool)
    → slice_get lines a ≡ Some line → slice_get (line_ins rack) a ≡ Some x → asks ≡ asks_line pieces a line → ByteAnswer asks (in_view p x) (in_view p y) answer
    → LinesAnswer a pieces lines was (bays_view p k rack) more → LinesAnswer (a + 1) pieces lines was (bays_view p k (with_line_in rack a y)) (more || answer)
asked_next p k rack x y a pieces lines line was asks more answer known at asks_is h before =
    let seen = line_in_seen p k rack a x at in
    let set = line_in_set p k rack a x y at in
    ask_next a pieces lines line was (bays_view p k rack) (bays_view p k (with_line_in rack a y)) more answer known (only_line_in p k rack a y)
    (subst (λ (v : InView). ByteAnswer (asks_line pieces a line) v (line_in_at (bays_view p k (with_line_in rack a y)) a) answer) (sym seen)
    (subst (λ (v : InView). ByteAnswer (asks_line pieces a line) (in_view p x) v answer) (sym set) (subst (λ b. ByteAnswer b (in_view p x) (in_view p y) answer) asks_is h)))
    before

-- ---- places

pub none_cut : (pieces : PiecesView) (bays : BaysView) (n : ℕ) → 40 ≤ n → ((i : ℕ) → i < n → is_cut pieces bays (port_at i) ≡ false) → CutAnswer pieces bays false
none_cut pieces bays n most before = record {
  some = λ e. absurd (cc);
  none = λ e name less. ap (is_cut pieces bays) (sym (port_at_index name less)) ∙ before (index_of name) (omega (arith, less, most));
}

pub cut_next : (pieces : PiecesView) (bays : BaysView) (n : ℕ) → is_cut pieces bays (port_at n) ≡ false → ((i : ℕ) → i < n → is_cut pieces bays (port_at i) ≡ false)
    → (i : ℕ) → i < n + 1 → is_cut pieces bays (port_at i) ≡ false
cut_next pieces bays n alive before i less = elim (eqb_tells i n) [
  | inl t ↦ ap (λ k. is_cut pieces bays (port_at k)) t.1 ∙ alive
  | inr t ↦ let d = t.1 in before i (omega (arith, d, less))
]

pub some_cut : (pieces : PiecesView) (bays : BaysView) (name : PortName) → is_cut pieces bays name ≡ true → CutAnswer pieces bays true
some_cut pieces bays name cut = record { some = λ e. (name, cut); none = λ e. absurd (cc) }

-- ---- clients

pub none_open : (links : List Link) (i : ℕ) → length links ≤ i → ((k n : ℕ) (link : Link) → k < i → slice_get links k ≡ Some link → link.entry.from ≡ from_end.Client n → SaysSpent link true) → OpensAnswer links false
none_open links i most before = record { some = λ e. absurd (cc); none = λ e k n link at from. before k n link (let within = slice_get_within links k link at in omega (arith, within, most)) at from }

pub some_open : (links : List Link) (i : ℕ) (d : Link) (answer : Bool) → i < length links → d ≡ get_or links i d → answer ≡ true → OpenAnswer d answer → OpensAnswer links true
some_open links i d answer less at is h = record {
  some = λ e. let c = h.from is in record { i = i; link = d; known = slice_get-get_or links i d less ∙ ap Some (sym at); n = c.0; from = c.1; unspent = subst (λ b. SaysSpent d (not b)) is (h.client c.0 c.1) };
  none = λ e. absurd (cc);
}

pub next_open : (links : List Link) (i : ℕ) (d : Link) (answer : Bool) → i < length links → d ≡ get_or links i d → answer ≡ false → OpenAnswer d answer
    → ((k n : ℕ) (link : Link) → k < i → slice_get links k ≡ Some link → link.entry.from ≡ from_end.Client n → SaysSpent link true)
    → (k n : ℕ) (link : Link) → k < i + 1 → slice_get links k ≡ Some link → link.entry.from ≡ from_end.Client n → SaysSpent link true
next_open links i d answer less at is h before k n link lower known from = elim (eqb_tells k i) [
  | inl t ↦
      let same : d ≡ link = same_Some d link (ap Some at ∙ sym (slice_get-get_or links i d less) ∙ ap (slice_get links) (sym t.1) ∙ known) in
      subst (λ l. SaysSpent l true) same (subst (λ b. SaysSpent d (not b)) is (h.client n (ap (λ (l : Link). l.entry.from) same ∙ from)))
  | inr t ↦ let d = t.1 in before k n link (omega (arith, d, lower)) known from
]

double_not : (b : Bool) → not (not b) ≡ b
double_not true = refl
double_not false = refl

pub open_answer : (link : Link) (m : ℕ) (says : Bool) → link.entry.from ≡ from_end.Client m → SaysSpent link says → OpenAnswer link (not says)
open_answer link m says from h = record { client = λ n e. subst (SaysSpent link) (sym (double_not says)) h; from = λ e. (m, from) }
