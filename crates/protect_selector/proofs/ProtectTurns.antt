-- A turn of the command, from what its parts do.
use Rattle.std.proofs.Common.{◌≡◌, ◌<◌, ◌≤◌, ◌+◌, ◌-◌, ℕ, suc, false, List, [], ◌∷◌, ◌++◌, length, take, drop, refl, ap, sym, subst, ◌∙◌, slice_range, length-take, length-drop, arith, add-one}
use Rattle.port_base.proofs.PortLaws.{sink_got_twice}
use Rattle.port_base.specs.OnePlace.{OnlyLineIn}
use Rattle.port_base.proofs.OneOutPlace.{OnlyLineOut}
use Rattle.port_base.specs.PortViews.{SinkGot, SinkWrites}
use Rattle.port_base.specs.Views.{InView, OutView, BaysView, line_in_at, line_out_at}
use Rattle.port_base.specs.declared.drain.Written.TheVariants as written
use Rattle.line_side.specs.MayBe.{MayBe}
use Rattle.tributary_model.specs.Laws.{IsTributary}
use Rattle.tributary_model.specs.Places.{Tributary}
use Rattle.tributary_model.specs.Stretches.{state_after}
use Rattle.tributary_model.specs.declared.turns.SinkState.{SinkState}
use Rattle.device_model.specs.LineViews.{views_until, emitted_at}
use Rattle.tributary_line.specs.TapTurn.{TapView, TapStands, TurnMoves}
use Rattle.tributary_line.specs.FeedTurn.{FeedView, FeedStands, Completes}
use Rattle.protect_selector.specs.declared.side.Choice.{Choice}
use Rattle.protect_selector.specs.declared.side.Side.{Side}
use Rattle.protect_selector.specs.declared.side.Side.TheVariants.{Working, Protection}
use Rattle.protect_selector.specs.declared.protecting.Protecting.{Protecting}
use Rattle.protect_selector.specs.Selected.{BothTurn, of_side, choice_in}
use Rattle.protect_selector.specs.Selector.{SelectorView, HasChosen}
use Rattle.protect_selector.specs.OfLines.{both_turn, turns_before, choice_at, bytes_of, due_at, due_before, switch_line, switch_text, switch_text_at}
use Rattle.protect_selector.specs.Protecting.{Ends, OnlyProtected}
use Rattle.protect_selector.specs.Steps.Protecting.{AgreesAfter, Stands, TurnGone}
use Rattle.protect_selector.proofs.OfLines.{turns_next, given_next, completes_on}

text_next : (own : Tributary) (n : ℕ) (w p : List ℕ) (t : ℕ) → switch_text own n w p (suc t) ≡ switch_text own n w p t ++ switch_text_at own n w p t
unfolding switch_text
text_next own n w p t = refl

-- how many bytes a range has
pub span : (bytes : List ℕ) (first last : ℕ) → first ≤ last → last ≤ length bytes → last - first ≡ length (slice_range bytes first last)
span bytes first last ordered within = sym (simp (length-take, length-drop) (omega arith))

-- ---- what is chosen

abbrev pub now_of : (w p : SinkState) → (wl pl : ℕ) → BothTurn
now_of w p wl pl = record { working = record { state = w; bytes = wl }; protection = record { state = p; bytes = pl } }

now_is : (w w' p p' : SinkState) (wl wl' pl pl' : ℕ) → w ≡ w' → p ≡ p' → wl ≡ wl' → pl ≡ pl' → now_of w p wl pl ≡ now_of w' p' wl' pl'
now_is w w' p p' wl wl' pl pl' a b c d = rw (a, b, c, d) refl

-- both sinks saw turn t + 1, and a choice was made
pub record TurnChosen (own : Tributary) (first : Ends) (is_w is_p : InView) (w p : List ℕ) (t : ℕ) (old : Protecting) (tap_w tap_p : TapView) (ew ep : List ℕ) (choice : Choice) (selector : SelectorView) : Type 0 where
  pub moves_w : TurnMoves own first.working is_w w t old.working tap_w ew
  pub moves_p : TurnMoves own first.protection is_p p t old.protection tap_p ep
  pub sw : SinkState
  pub sp : SinkState
  pub state_w : (available : List ℕ) → MayBe false tap_w.line.reader.ending (w ++ moves_w.further) available → sw ≡ state_after own (views_until own available (t + 1))
  pub state_p : (available : List ℕ) → MayBe false tap_p.line.reader.ending (p ++ moves_p.further) available → sp ≡ state_after own (views_until own available (t + 1))
  pub picks : (m n : ℕ) (past : List BothTurn) → HasChosen m n past old.selector
      → (choice ≡ choice_in m n (now_of sw sp (length ew) (length ep)) past) × HasChosen m n (now_of sw sp (length ew) (length ep) ∷ past) selector

-- from what the sinks and the selector say of their turns
pub turn_chosen : (own : Tributary) (first was is : Ends) (x y x' y' : InView) (w p : List ℕ) (t : ℕ) (old : Protecting) (tap_w tap_p : TapView) (ew ep : List ℕ) (sw sp : SinkState) (wl pl : ℕ) (choice : Choice) (selector : SelectorView)
    → was.working ≡ x → is.working ≡ x' → was.protection ≡ y → is.protection ≡ y'
    → TapStands own first.working was.working w t old.working → TapStands own first.protection was.protection p t old.protection
    → ((own : Tributary) (first : InView) (read : List ℕ) (t : ℕ) → TapStands own first x read t old.working → TurnMoves own first x' read t old.working tap_w ew)
    → ((own : Tributary) (first : InView) (read : List ℕ) (t : ℕ) → TapStands own first y read t old.protection → TurnMoves own first y' read t old.protection tap_p ep)
    → ((own : Tributary) (first now : InView) (read : List ℕ) (t : ℕ) → TapStands own first now read t tap_w
    → (available : List ℕ) → MayBe false tap_w.line.reader.ending read available → sw ≡ state_after own (views_until own available t))
    → ((own : Tributary) (first now : InView) (read : List ℕ) (t : ℕ) → TapStands own first now read t tap_p
    → (available : List ℕ) → MayBe false tap_p.line.reader.ending read available → sp ≡ state_after own (views_until own available t))
    → wl ≡ length ew → pl ≡ length ep
    → ((m n : ℕ) (past : List BothTurn) → HasChosen m n past old.selector → (choice ≡ choice_in m n (now_of sw sp wl pl) past) × HasChosen m n (now_of sw sp wl pl ∷ past) selector)
    → TurnChosen own first is.working is.protection w p t old tap_w tap_p ew ep choice selector
turn_chosen own first was is x y x' y' w p t old tap_w tap_p ew ep sw sp wl pl choice selector a b c d on_w on_p mw mp states_w states_p e f picks =
    let moves_w = mw own first.working w t (subst (λ v. TapStands own first.working v w t old.working) a on_w) in
    let moves_p = mp own first.protection p t (subst (λ v. TapStands own first.protection v p t old.protection) c on_p) in
    record {
      moves_w = subst (λ v. TurnMoves own first.working v w t old.working tap_w ew) (sym b) moves_w;
      moves_p = subst (λ v. TurnMoves own first.protection v p t old.protection tap_p ep) (sym d) moves_p;
      sw = sw;
      sp = sp;
      state_w = λ available may. states_w own first.working is.working _ (t + 1) (subst (λ v. TurnMoves own first.working v w t old.working tap_w ew) (sym b) moves_w).stands available may;
      state_p = λ available may. states_p own first.protection is.protection _ (t + 1) (subst (λ v. TurnMoves own first.protection v p t old.protection tap_p ep) (sym d) moves_p).stands available may;
      picks = subst (λ n. (m k : ℕ) (past : List BothTurn) → HasChosen m k past old.selector → (choice ≡ choice_in m k (now_of sw sp (length ew) n) past) × HasChosen m k (now_of sw sp (length ew) n ∷ past) selector) f
          (subst (λ n. (m k : ℕ) (past : List BothTurn) → HasChosen m k past old.selector → (choice ≡ choice_in m k (now_of sw sp n pl) past) × HasChosen m k (now_of sw sp n pl ∷ past) selector) e picks);
    }

-- it is the choice of that turn
record Chooses (own : Tributary) (n : ℕ) (w p : List ℕ) (t : ℕ) (ew ep : List ℕ) (choice : Choice) (selector : SelectorView) : Type 0 where
  pub choice_is : choice ≡ choice_at own n w p t
  pub chosen : HasChosen (length own.slots) n (turns_before own w p (suc t)) selector
  pub bytes : drop choice.skip (bytes_of choice.side ew ep) ≡ due_at own n w p t
  pub line : switch_line t choice.side choice.cause ≡ switch_text_at own n w p t

bytes_same : (side : Side) (x x' y y' : List ℕ) → x ≡ x' → y ≡ y' → bytes_of side x y ≡ bytes_of side x' y'
bytes_same Working x x' y y' e f = e
bytes_same Protection x x' y y' e f = f

emitted_of : (own : Tributary) (w p : List ℕ) (t : ℕ) (side : Side) → bytes_of side (emitted_at own w t) (emitted_at own p t) ≡ emitted_at own (bytes_of side w p) t
emitted_of own w p t Working = refl
emitted_of own w p t Protection = refl

chooses : (own : Tributary) (n : ℕ) (w p : List ℕ) (t : ℕ) (old selector : SelectorView) (sw sp : SinkState) (ew ep : List ℕ) (choice : Choice)
    → HasChosen (length own.slots) n (turns_before own w p t) old → ew ≡ emitted_at own w t → ep ≡ emitted_at own p t
    → sw ≡ state_after own (views_until own w (t + 1)) → sp ≡ state_after own (views_until own p (t + 1))
    → ((m n : ℕ) (past : List BothTurn) → HasChosen m n past old → (choice ≡ choice_in m n (now_of sw sp (length ew) (length ep)) past) × HasChosen m n (now_of sw sp (length ew) (length ep) ∷ past) selector)
    → Chooses own n w p t ew ep choice selector
unfolding choice_at due_at
chooses own n w p t old selector sw sp ew ep choice chosen e f g h picks =
    let past = turns_before own w p t in
    let now : now_of sw sp (length ew) (length ep) ≡ both_turn own w p t =
    now_is sw (state_after own (views_until own w (suc t))) sp (state_after own (views_until own p (suc t))) (length ew) (length (emitted_at own w t)) (length ep) (length (emitted_at own p t))
    (g ∙ ap (λ k. state_after own (views_until own w k)) (add-one t)) (h ∙ ap (λ k. state_after own (views_until own p k)) (add-one t)) (ap length e) (ap length f) in
    let picked = picks (length own.slots) n past chosen in
    let is : choice ≡ choice_in (length own.slots) n (both_turn own w p t) past = picked.0 ∙ ap (λ now. choice_in (length own.slots) n now past) now in
    record {
      choice_is = is;
      chosen = subst (λ turns. HasChosen (length own.slots) n turns selector) (ap (λ now. now ∷ past) now ∙ sym (turns_next own w p t)) picked.1;
      bytes = ap (drop choice.skip) (bytes_same choice.side ew (emitted_at own w t) ep (emitted_at own p t) e f ∙ emitted_of own w p t choice.side)
          ∙ ap (λ (c : Choice). drop c.skip (emitted_at own (bytes_of c.side w p) t)) is;
      line = ap (λ (c : Choice). switch_line t c.side c.cause) is;
    }

-- ---- a turn

chooses_of : (own : Tributary) (n : ℕ) (first was : Ends) (is_w is_p : InView) (w p : List ℕ) (t : ℕ) (old : Protecting) (tap_w tap_p : TapView) (ew ep : List ℕ) (choice : Choice) (selector : SelectorView)
    → (done : TurnChosen own first is_w is_p w p t old tap_w tap_p ew ep choice selector) → (gw gp : List ℕ) → AgreesAfter own n t first was gw gp old
    → MayBe false tap_w.line.reader.ending (w ++ done.moves_w.further) gw → MayBe false tap_p.line.reader.ending (p ++ done.moves_p.further) gp
    → Chooses own n gw gp t ew ep choice selector
chooses_of own n first was is_w is_p w p t old tap_w tap_p ew ep choice selector done gw gp agrees may_w may_p =
    chooses own n gw gp t old.selector selector done.sw done.sp ew ep choice agrees.chosen (done.moves_w.emits gw may_w) (done.moves_p.emits gp may_p) (done.state_w gw may_w) (done.state_p gp may_p) done.picks

-- with what it told, and what went on
pub whole_turn : (own : Tributary) (n : ℕ) (first was is : Ends) (w p : List ℕ) (t : ℕ) (old : Protecting) (tap_w tap_p : TapView) (ew ep : List ℕ) (choice : Choice) (selector : SelectorView) (feed : FeedView)
    → IsTributary own → Stands own n first was w p t old → TurnChosen own first is.working is.protection w p t old tap_w tap_p ew ep choice selector
    → SinkWrites written.Whole was.report (switch_line t choice.side choice.cause) is.report
    → ((turns : List (List ℕ)) → FeedStands own first.output was.output turns old.feed → Completes own turns (drop choice.skip (bytes_of choice.side ew ep))
    → FeedStands own first.output is.output (turns ++ drop choice.skip (bytes_of choice.side ew ep) ∷ []) feed)
    → TurnGone written.Whole own n first is w p t (record { working = tap_w; protection = tap_p; selector = selector; feed = feed })
whole_turn own n first was is w p t old tap_w tap_p ew ep choice selector feed trib stood done told fed = record {
  working_further = done.moves_w.further;
  protection_further = done.moves_p.further;
  left = record {
    on_working = subst (λ k. TapStands own first.working is.working (w ++ done.moves_w.further) k tap_w) (add-one t) done.moves_w.stands;
    on_protection = subst (λ k. TapStands own first.protection is.protection (p ++ done.moves_p.further) k tap_p) (add-one t) done.moves_p.stands;
    holds = λ gw gp may_w may_p.
        let agrees = stood.holds gw gp (done.moves_w.earlier gw may_w) (done.moves_p.earlier gp may_p) in
        let chosen = chooses_of own n first was is.working is.protection w p t old tap_w tap_p ew ep choice selector done gw gp agrees may_w may_p in
        let fits : Completes own (due_before own n gw gp t) (drop choice.skip (bytes_of choice.side ew ep)) =
        subst (Completes own (due_before own n gw gp t)) (sym chosen.bytes) (completes_on own n gw gp t trib) in
        let turns = ap (λ bytes. due_before own n gw gp t ++ bytes ∷ []) chosen.bytes ∙ sym (given_next own n gw gp t) in
        record {
          chosen = chosen.chosen;
          fed = subst (λ turns. FeedStands own first.output is.output turns feed) turns (fed (due_before own n gw gp t) agrees.fed fits);
          told = subst (λ text. SinkGot first.report text is.report) (ap (λ line. switch_text own n gw gp t ++ line) chosen.line ∙ sym (text_next own n gw gp t))
              (sink_got_twice first.report was.report is.report (switch_text own n gw gp t) (switch_line t choice.side choice.cause) agrees.told told.0);
        };
  };
}

-- with a report that failed
pub lost_turn : (own : Tributary) (n : ℕ) (first was is : Ends) (w p : List ℕ) (t : ℕ) (old : Protecting) (tap_w tap_p : TapView) (ew ep : List ℕ) (choice : Choice) (selector : SelectorView)
    → Stands own n first was w p t old → TurnChosen own first is.working is.protection w p t old tap_w tap_p ew ep choice selector → is.output ≡ was.output
    → SinkWrites written.Lost was.report (switch_line t choice.side choice.cause) is.report
    → TurnGone written.Lost own n first is w p t (record { working = tap_w; protection = tap_p; selector = selector; feed = old.feed })
lost_turn own n first was is w p t old tap_w tap_p ew ep choice selector stood done same told = record {
  working_further = done.moves_w.further;
  protection_further = done.moves_p.further;
  left = record {
    on_working = subst (λ k. TapStands own first.working is.working (w ++ done.moves_w.further) k tap_w) (add-one t) done.moves_w.stands;
    on_protection = subst (λ k. TapStands own first.protection is.protection (p ++ done.moves_p.further) k tap_p) (add-one t) done.moves_p.stands;
    holds = λ gw gp may_w may_p.
        let agrees = stood.holds gw gp (done.moves_w.earlier gw may_w) (done.moves_p.earlier gp may_p) in
        let chosen = chooses_of own n first was is.working is.protection w p t old tap_w tap_p ew ep choice selector done gw gp agrees may_w may_p in
        record {
          fed = subst (λ out. FeedStands own first.output out (due_before own n gw gp t) old.feed) (sym same) agrees.fed;
          sent = told.0;
          part = subst (λ text. told.0 < length text) chosen.line told.1;
          told = subst (λ text. SinkGot first.report (switch_text own n gw gp t ++ take told.0 text) is.report) chosen.line
              (sink_got_twice first.report was.report is.report (switch_text own n gw gp t) (take told.0 (switch_line t choice.side choice.cause)) agrees.told told.2);
        };
  };
}

-- ---- the other places

pub only_both : (was mid is : BaysView) → OnlyLineIn 0 was mid → OnlyLineIn 1 mid is → OnlyProtected was is
only_both was mid is one two = record {
  line_in = λ a zero one'. two.line_in a one' ∙ one.line_in a zero;
  line_out = λ b zero. ap (λ (bays : List OutView). line_out_at (record is { line_out = bays }) b) (two.line_out ∙ one.line_out);
  client_in = two.client_in ∙ one.client_in;
  client_out = two.client_out ∙ one.client_out;
}

pub only_all : (was mid is : BaysView) → OnlyProtected was mid → OnlyLineOut 0 mid is → OnlyProtected was is
only_all was mid is one two = record {
  line_in = λ a zero one'. ap (λ (bays : List InView). line_in_at (record is { line_in = bays }) a) two.line_in ∙ one.line_in a zero one';
  line_out = λ b zero. two.line_out b zero ∙ one.line_out b zero;
  client_in = two.client_in ∙ one.client_in;
  client_out = two.client_out ∙ one.client_out;
}

-- ---- the places as they are seen

pub record SeenOf (was mid is : BaysView) (x y x' y' : InView) : Type 0 where
  pub working_was : line_in_at was 0 ≡ x
  pub working_is : line_in_at is 0 ≡ x'
  pub protection_was : line_in_at was 1 ≡ y
  pub protection_is : line_in_at is 1 ≡ y'
  pub output : line_out_at is 0 ≡ line_out_at was 0

pub seen_of : (was mid is : BaysView) (x y x' y' : InView) → OnlyLineIn 0 was mid → OnlyLineIn 1 mid is → line_in_at was 0 ≡ x → line_in_at mid 0 ≡ x' → line_in_at mid 1 ≡ y → line_in_at is 1 ≡ y'
    → SeenOf was mid is x y x' y'
seen_of was mid is x y x' y' one two a b c d = record {
  working_was = a;
  working_is = two.line_in 0 (λ e. cc) ∙ b;
  protection_was = sym (one.line_in 1 (λ e. cc)) ∙ c;
  protection_is = d;
  output = ap (λ (bays : List OutView). line_out_at (record is { line_out = bays }) 0) (two.line_out ∙ one.line_out);
}

pub skip_within : (side : Side) (sw sp : SinkState) (wl pl : ℕ) (ew ep : List ℕ) (skip : ℕ) → wl ≡ length ew → pl ≡ length ep → skip ≤ (of_side side (now_of sw sp wl pl)).bytes → skip ≤ length (bytes_of side ew ep)
skip_within Working sw sp wl pl ew ep skip e f few = subst (λ k. skip ≤ k) e few
skip_within Protection sw sp wl pl ew ep skip e f few = subst (λ k. skip ≤ k) f few
