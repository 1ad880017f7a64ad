-- What is told of a tributary.
use Rattle.std.proofs.Common.{◌≡◌, ◌+◌, ◌-◌, ◌∙◌, ℕ, zero, suc, List, [], ◌∷◌, ◌++◌, Option, length, map, drop, refl, ap, sym, length-append}
use Rattle.std.specs.Prelude.{if◌then◌else◌}
use Rattle.std.specs.List.{concat, flat_map}
use Rattle.std.proofs.Math.Seq.{take-append_seam, drop-append_seam}
use Rattle.line_side.specs.LineFile.{mfas_of}
use Rattle.line_commands.specs.PullReport.{pull_report, tributary}
use Rattle.tributary_line.specs.TurnsDone.{turns_of}
use Rattle.tributary_model.specs.Carries.{past_of}
use Rattle.tributary_model.specs.Laws.{IsTributary}
use Rattle.tributary_model.specs.Places.{Tributary, View}
use Rattle.device_model.proofs.LineViews.{same_view}
use Rattle.device_model.specs.Agreements.{AgreeOnTributary}
use Rattle.device_model.specs.LineViews.{view_at, emitted_at}
use Rattle.line_view.specs.Laws.{bytes_told, each_told, pieces_of, TellsTheSame, TellsAllBytes, TellsWhatPullWrites}
use Rattle.line_view.specs.ViewText.{is_shown, told_of, told_at, tributary_line, views_from}
use Rattle.line_view.proofs.Begun.{views_all}

-- turns that show the same, from one turn on
same_past : (one other : ℕ → Option View) → ((t : ℕ) → one t ≡ other t) → (first n : ℕ) → past_of one first n ≡ past_of other first n
same_past one other same first zero = refl
same_past one other same first (suc n) =
    ap (λ v. v ∷ past_of one first n) (same (first + n)) ∙ ap (λ vs. other (first + n) ∷ vs) (same_past one other same first n)

same_told : (own : Tributary) (first : ℕ) (one other : List ℕ) (t : ℕ) → IsTributary own → AgreeOnTributary own one other → told_at own first one t ≡ told_at own first other t
unfolding told_at views_from
same_told own first one other t is agree =
    ap (λ past. told_of own past (view_at own one t)) (same_past (view_at own one) (view_at own other) (λ i. same_view own one other i is agree) first (t - first))
    ∙ ap (told_of own (past_of (view_at own other) first (t - first))) (same_view own one other t is agree)

pub tells_the_same : TellsTheSame
tells_the_same = λ x one other t is agree.
    ap (λ told. if is_shown x t then tributary_line x.name x.own.port x.own.slots told else []) (same_told x.own x.first one other t is agree)

told_bytes : (own : Tributary) (available : List ℕ) (t : ℕ) → (told_at own 0 available t).bytes ≡ length (emitted_at own available t)
unfolding told_at emitted_at
told_bytes own available t = ap (λ past. (told_of own past (view_at own available t)).bytes) (views_all own available t)

all_bytes : (own : Tributary) (available : List ℕ) (turns : List ℕ) → bytes_told own available turns ≡ length (flat_map (emitted_at own available) turns)
all_bytes own available [] = refl
all_bytes own available (t ∷ turns) =
    ap (λ n. n + bytes_told own available turns) (told_bytes own available t)
    ∙ ap (λ n. length (emitted_at own available t) + n) (all_bytes own available turns)
    ∙ sym (length-append (emitted_at own available t) (flat_map (emitted_at own available) turns))

pub tells_all_bytes : TellsAllBytes
tells_all_bytes = all_bytes

-- ---- what `pull` writes

-- the lengths of pieces cut what they are together into them
cut_back : (f : ℕ → List ℕ) (turns : List ℕ) → pieces_of (map (λ t. length (f t)) turns) (flat_map f turns) ≡ map f turns
cut_back f [] = refl
cut_back f (t ∷ turns) =
    ap (λ first. first ∷ pieces_of (map (λ i. length (f i)) turns) (drop (length (f t)) (f t ++ flat_map f turns))) (take-append_seam (f t) (flat_map f turns))
    ∙ ap (λ rest. f t ∷ pieces_of (map (λ i. length (f i)) turns) rest) (drop-append_seam (f t) (flat_map f turns))
    ∙ ap (λ pieces. f t ∷ pieces) (cut_back f turns)

joined : (f : ℕ → List ℕ) (turns : List ℕ) → concat (map f turns) ≡ flat_map f turns
joined f [] = refl
joined f (t ∷ turns) = ap (λ rest. f t ++ rest) (joined f turns)

each_length : (own : Tributary) (available : List ℕ) (turns : List ℕ) → map (λ t. (told_at own 0 available t).bytes) turns ≡ map (λ t. length (emitted_at own available t)) turns
each_length own available [] = refl
each_length own available (t ∷ turns) =
    ap (λ n. n ∷ map (λ i. (told_at own 0 available i).bytes) turns) (told_bytes own available t)
    ∙ ap (λ ns. length (emitted_at own available t) ∷ ns) (each_length own available turns)

-- the turns of `pull` are those of a view
pulled : (port : ℕ) (slots available : List ℕ)
    → pull_report (tributary port slots) available ≡ flat_map (emitted_at (tributary port slots) available) (turns_of 8 (mfas_of available))
unfolding pull_report
pulled port slots available = refl

tells_turns : (port : ℕ) (slots available : List ℕ)
    → pieces_of (each_told (tributary port slots) available) (pull_report (tributary port slots) available)
    ≡ map (emitted_at (tributary port slots) available) (turns_of 8 (mfas_of available))
tells_turns port slots available =
    let own = tributary port slots in
    let turns = turns_of 8 (mfas_of available) in
    ap (λ lengths. pieces_of lengths (pull_report own available)) (each_length own available turns)
    ∙ ap (pieces_of (map (λ t. length (emitted_at own available t)) turns)) (pulled port slots available)
    ∙ cut_back (emitted_at own available) turns

pub tells_what_pull_writes : TellsWhatPullWrites
tells_what_pull_writes = λ port slots available. record {
  turns = tells_turns port slots available;
  together = ap concat (tells_turns port slots available) ∙ joined (emitted_at (tributary port slots) available) (turns_of 8 (mfas_of available)) ∙ sym (pulled port slots available);
}
