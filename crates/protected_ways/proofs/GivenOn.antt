-- What protection gives on, and the file that carries it, are fixed by what the turns of both lines show.
use Rattle.std.proofs.Common.{◌≡◌, ◌<◌, ◌≤◌, ◌+◌, ◌-◌, ◌/◌, ◌%◌, ℕ, zero, suc, List, [], ◌∷◌, ◌++◌, length, take, drop, get_or, refl, sym, ap, ◌∙◌, subst, arith}
use Rattle.std.specs.List.{Contains}
use Rattle.std.proofs.lemmas.List.{ext_get_or, take_all}
use Rattle.line_side.specs.LineOutput.{FramePut}
use Rattle.maintenance_signals.specs.Stream.{signal_byte}
use Rattle.maintenance_signals.specs.declared.signal.Signal.TheVariants.{Ais}
use Rattle.msi_table.specs.Psi.{port_at}
use Rattle.tributary_model.specs.Emission.{emission}
use Rattle.tributary_model.specs.Laws.{IsTributary}
use Rattle.tributary_model.specs.Places.{Tributary, byte_at}
use Rattle.tributary_model.specs.Puts.{IsSourcePlace}
use Rattle.device_model.specs.LineViews.{view_at, views_until, emitted_at}
use Rattle.device_model.proofs.MadeFrames.{many_frames}
use Rattle.connection_laws.specs.UpToTurn.{AgreeInTurn}
use Rattle.connection_laws.proofs.LineBytes.{Alike, same_frames}
use Rattle.connection_laws.proofs.UpToTurn.{same_turn_view}
use Rattle.tributary_line.specs.TributaryFile.{IsTributaryFrame, IsTributaryFile}
use Rattle.protect_selector.specs.declared.side.Choice.{Choice}
use Rattle.protect_selector.specs.declared.side.Side.{Side}
use Rattle.protect_selector.specs.declared.side.Side.TheVariants.{Working, Protection}
use Rattle.protect_selector.specs.Selected.{choice_in}
use Rattle.protect_selector.specs.OfLines.{both_turn, turns_before, choice_at, bytes_of, due_at, due_before}
use Rattle.damaged_ways.proofs.Puts.{same_source, unless_differ}

-- ---- what is given on

-- two lines show a tributary alike in the first turns, so many
abbrev pub ShowAlike : (own : Tributary) (turns : ℕ) (one other : List ℕ) → Type 0
ShowAlike own turns one other = (t : ℕ) → t < turns → AgreeInTurn own one other t

same_views : (own : Tributary) (turns t : ℕ) (one other : List ℕ) → IsTributary own → ShowAlike own turns one other → t ≤ turns
    → views_until own one t ≡ views_until own other t
unfolding views_until
same_views own turns zero one other trib alike le = refl
same_views own turns (suc t) one other trib alike le =
    ap (λ view. view ∷ views_until own one t) (same_turn_view own one other t trib (alike t (omega arith)))
    ∙ ap (λ views. view_at own other t ∷ views) (same_views own turns t one other trib alike (omega arith))

same_emitted : (own : Tributary) (turns t : ℕ) (one other : List ℕ) → IsTributary own → ShowAlike own turns one other → t < turns
    → emitted_at own one t ≡ emitted_at own other t
unfolding emitted_at
same_emitted own turns t one other trib alike less =
    ap (λ views. emission own (signal_byte Ais) views (view_at own one t)) (same_views own turns t one other trib alike (omega arith))
    ∙ ap (emission own (signal_byte Ais) (views_until own other t)) (same_turn_view own one other t trib (alike t less))

same_turn : (own : Tributary) (turns t : ℕ) (w v p q : List ℕ) → IsTributary own → ShowAlike own turns w v → ShowAlike own turns p q → t < turns
    → both_turn own w p t ≡ both_turn own v q t
same_turn own turns t w v p q trib one two less =
    rw (
      same_views own turns (suc t) w v trib one less,
      same_emitted own turns t w v trib one less,
      same_views own turns (suc t) p q trib two less,
      same_emitted own turns t p q trib two less,
    ) refl

same_turns : (own : Tributary) (turns t : ℕ) (w v p q : List ℕ) → IsTributary own → ShowAlike own turns w v → ShowAlike own turns p q → t ≤ turns
    → turns_before own w p t ≡ turns_before own v q t
unfolding turns_before
same_turns own turns zero w v p q trib one two le = refl
same_turns own turns (suc t) w v p q trib one two le =
    ap (λ now. now ∷ turns_before own w p t) (same_turn own turns t w v p q trib one two (omega arith))
    ∙ ap (λ past. both_turn own v q t ∷ past) (same_turns own turns t w v p q trib one two (omega arith))

same_choice : (own : Tributary) (n turns t : ℕ) (w v p q : List ℕ) → IsTributary own → ShowAlike own turns w v → ShowAlike own turns p q → t < turns
    → choice_at own n w p t ≡ choice_at own n v q t
unfolding choice_at
same_choice own n turns t w v p q trib one two less =
    ap (λ now. choice_in (length own.slots) n now (turns_before own w p t)) (same_turn own turns t w v p q trib one two less)
    ∙ ap (choice_in (length own.slots) n (both_turn own v q t)) (same_turns own turns t w v p q trib one two (omega arith))

same_side : (own : Tributary) (side : Side) (turns t : ℕ) (w v p q : List ℕ) → IsTributary own → ShowAlike own turns w v → ShowAlike own turns p q
    → t < turns → emitted_at own (bytes_of side w p) t ≡ emitted_at own (bytes_of side v q) t
same_side own Working turns t w v p q trib one two less = same_emitted own turns t w v trib one less
same_side own Protection turns t w v p q trib one two less = same_emitted own turns t p q trib two less

same_due : (own : Tributary) (n turns t : ℕ) (w v p q : List ℕ) → IsTributary own → ShowAlike own turns w v → ShowAlike own turns p q → t < turns
    → due_at own n w p t ≡ due_at own n v q t
unfolding due_at
same_due own n turns t w v p q trib one two less =
    ap (λ (c : Choice). drop c.skip (emitted_at own (bytes_of c.side w p) t)) (same_choice own n turns t w v p q trib one two less)
    ∙ ap (drop (choice_at own n v q t).skip) (same_side own (choice_at own n v q t).side turns t w v p q trib one two less)

-- the same is given on in the turns in which both lines show the same
pub same_dues : (own : Tributary) (n turns t : ℕ) (w v p q : List ℕ) → IsTributary own → ShowAlike own turns w v → ShowAlike own turns p q
    → t ≤ turns → due_before own n w p t ≡ due_before own n v q t
unfolding due_before
same_dues own n turns zero w v p q trib one two le = refl
same_dues own n turns (suc t) w v p q trib one two le =
    ap (λ dues. dues ++ due_at own n w p t ∷ []) (same_dues own n turns t w v p q trib one two (omega arith))
    ∙ ap (λ due. due_before own n v q t ++ due ∷ []) (same_due own n turns t w v p q trib one two (omega arith))

-- ---- its file

same_bytes : (own : Tributary) (turns : List (List ℕ)) (t n row column : ℕ) (p q : FramePut) → IsTributaryFrame own turns t n p
    → IsTributaryFrame own turns t n q → 1 ≤ row → row ≤ 4 → 15 ≤ column → column ≤ 3824 → byte_at p.bytes row column ≡ byte_at q.bytes row column
same_bytes own turns t n row column p q is too first last low high = unless_differ (byte_at p.bytes row column) (byte_at q.bytes row column) (λ differ.
    let none : IsSourcePlace own n row column → ⊥ = λ place.
    differ (same_source own (take (t + 1) turns) t n row column p.bytes q.bytes is.own_bytes too.own_bytes place) in
    differ (is.other row column first last low high none ∙ sym (too.other row column first last low high none)))

same_ports : (own : Tributary) (turns : List (List ℕ)) (t n slot : ℕ) (p q : FramePut) → IsTributaryFrame own turns t n p
    → IsTributaryFrame own turns t n q → 1 ≤ slot → port_at p.ports slot ≡ port_at q.ports slot
same_ports own turns t n slot p q is too low = unless_differ (port_at p.ports slot) (port_at q.ports slot) (λ differ.
    let none : Contains own.slots slot → ⊥ = λ has. differ (is.ports.used slot has ∙ sym (too.ports.used slot has)) in
    differ (is.ports.free slot low none ∙ sym (too.ports.free slot low none)))

alike : (own : Tributary) (turns : List (List ℕ)) (t n : ℕ) (p q : FramePut) → IsTributaryFrame own turns t n p → IsTributaryFrame own turns t n q
    → Alike p q
alike own turns t n p q is too = record {
  mfas = is.mfas ∙ sym too.mfas;
  ports = ext_get_or 0 p.ports q.ports (is.ports.many ∙ sym too.ports.many) (λ i within.
      let slot : i + 1 - 1 ≡ i = omega arith in
      subst (λ k. get_or p.ports k 0 ≡ get_or q.ports k 0) slot (same_ports own turns t n (i + 1) p q is too (omega arith)));
  bytes = λ row column first last low high. same_bytes own turns t n row column p q is too first last low high;
}

-- there is one file of what was given on
pub same_file : (b : ℕ) (own : Tributary) (turns : List (List ℕ)) (count : ℕ) (frames others : List (List ℕ))
    → IsTributaryFile b own turns count frames → IsTributaryFile b own turns count others → frames ≡ others
same_file b own turns count frames others file second =
    let many = file.are_put.many in
    let many_too = second.are_put.many in
    let front : frames ≡ take (length file.puts) others = same_frames b [] file.puts second.puts frames others (omega arith)
    (λ f p q e g. alike own turns (f / own.line_slots) (f % own.line_slots) p q (file.are_put.each f p e) (second.are_put.each f q g))
    file.are_frames second.are_frames in
    let long = many_frames b [] second.puts others second.are_frames in
    front ∙ take_all (length file.puts) others (omega arith)
