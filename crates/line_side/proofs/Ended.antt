-- Between two turns a line knows that it has ended exactly where it has; and the frame in hand, and the MFAS that is
-- expected in it.
use Rattle.std.proofs.Common.{◌≡◌, ◌≤◌, ◌+◌, ◌-◌, ◌/◌, ◌%◌, ℕ, zero, suc, Bool, true, false, cond, ltb, leb, List, Option, Some, None, length, take, drop, arith, refl, sym, ap, ◌∙◌, subst}
use Rattle.std.specs.Prelude.{IfSome, ◌↔◌, ⊤}
use Rattle.std.proofs.lemmas.Bool.{ltb-false, le-ltb}
use Rattle.port_base.specs.Views.{InView}
use Rattle.multiframe.specs.LineTurns.{Lock, LineState, Hunting, Locked, Ended, CutShort, Lost, Whole, lock_of, outcome_of, after_outcome, after_hunt, after_turn, line_state, wrong_count}
use Rattle.multiframe.specs.Alignment.{Alignment, taken_of}
use Rattle.multiframe.specs.TurnPieces.{AlignedIn, aligned_by, ended_in, in_hand, hand_at}
use Rattle.line_side.specs.LineForm.{LineForm, size_of}
use Rattle.line_side.specs.LineFile.{frame_at, mfas_of}
use Rattle.line_side.specs.MayBe.{MayBe}
use Rattle.line_side.specs.LineStands.{LineView, LineStands}
use Rattle.line_side.proofs.TurnEnds.{line_state_suc, line_state_none}

-- a line is locked on a frame only where all frames before it are whole
abbrev Within : List ℕ → LineState → Type 0
Within ms (Hunting i) = ⊤
Within ms (Locked lock) = lock.frame ≤ length ms
Within ms Ended = ⊤

outcome_within : (size : ℕ) (ms : List ℕ) (lock : Lock) → Within ms (after_outcome size lock (outcome_of size ms lock))
outcome_within size ms lock = by_tests (ltb (length ms) (lock.frame + size)) (ltb (size / 2) (wrong_count lock.expected (take size (drop lock.frame ms)))) refl
  where
    by_tests : (cut wrong : Bool) → ltb (length ms) (lock.frame + size) ≡ cut → Within ms (after_outcome size lock (cond cut CutShort (cond wrong Lost Whole)))
    by_tests true wrong e = tt
    by_tests false true e = tt
    by_tests false false e = ltb-false _ _ e

hunt_within : (size : ℕ) (ms : List ℕ) (i : ℕ) (lock : Option Lock) → Within ms (after_hunt size ms i lock)
hunt_within size ms i (Some lock) = outcome_within size ms lock
hunt_within size ms i None = by_test (leb (i + size) (length ms))
  where
    by_test : (b : Bool) → Within ms (cond b (Hunting (i + size)) Ended)
    by_test true = tt
    by_test false = tt

turn_within : (size : ℕ) (ms : List ℕ) (st : LineState) → Within ms (after_turn size ms st)
turn_within size ms (Hunting i) = hunt_within size ms i (lock_of size ms (Hunting i))
turn_within size ms (Locked lock) = outcome_within size ms lock
turn_within size ms Ended = tt

line_state_within : (size : ℕ) (ms : List ℕ) (t : ℕ) → Within ms (line_state size ms t)
line_state_within size ms zero = subst (Within ms) (sym (line_state_none size ms)) tt
line_state_within size ms (suc t) = subst (Within ms) (sym (line_state_suc size ms t)) (turn_within size ms (line_state size ms t))

ended_now : (size : ℕ) (ms : List ℕ) (st : LineState) → Within ms st → (ended_in size ms st 0 ≡ true) ↔ (st ≡ Ended)
ended_now size ms (Hunting i) h = (λ e. cc, λ e. cc)
ended_now size ms (Locked lock) h = let no_more = le-ltb (length ms) (lock.frame + 0) (omega arith) in (λ e. absurd (let x : false ≡ true = sym no_more ∙ e in cc), λ e. cc)
ended_now size ms Ended h = (λ e. refl, λ e. refl)

-- a line that stands before turn t + 1 knows whether it has ended
pub ended_is : (form : LineForm) (first now : InView) (read available : List ℕ) (t : ℕ) (line : LineView) → line.pieces ≡ 0 → LineStands form first now read t line → MayBe form.scrambled line.reader.ending read available
    → (line.ended ≡ true) ↔ (line_state (size_of form) (mfas_of available) t ≡ Ended)
ended_is form first now read available t line none h may =
    let said : line.ended ≡ ended_in (size_of form) (mfas_of available) (line_state (size_of form) (mfas_of available) t) 0
    = (h.is_line available may).ended ∙ ap (ended_in (size_of form) (mfas_of available) (line_state (size_of form) (mfas_of available) t)) none in
    let x = ended_now (size_of form) (mfas_of available) (line_state (size_of form) (mfas_of available) t) (line_state_within (size_of form) (mfas_of available) t) in
    (λ e. x.0 (sym said ∙ e), λ e. said ∙ x.1 e)

-- the alignment of a turn that is locked
aligned : (size : ℕ) (ms : List ℕ) (st : LineState) (k : ℕ) (alignment : Option Alignment) → AlignedIn size ms st (suc k) alignment → IfSome (lock_of size ms st) (λ lock. alignment ≡ Some (taken_of (suc k) ms lock))
aligned size ms (Hunting i) k alignment h = by_lock (lock_of size ms (Hunting i)) h
  where
    by_lock : (lock : Option Lock) → aligned_by ms lock (suc k) alignment → IfSome lock (λ lock. alignment ≡ Some (taken_of (suc k) ms lock))
    by_lock None h = tt
    by_lock (Some lock) h = h
aligned size ms (Locked lock) k alignment h = h
aligned size ms Ended k alignment h = tt

expected_by : (ms : List ℕ) (lock : Option Lock) (k result : ℕ) (alignment : Option Alignment) → IfSome lock (λ lock. alignment ≡ Some (taken_of (suc k) ms lock))
    → IfSome alignment (λ a. result ≡ (a.expected + k) % 256) → IfSome (hand_at ms lock k) (λ member. result ≡ member.expected)
expected_by ms None k result alignment h e = tt
expected_by ms (Some lock) k result alignment h e =
    let P : Option Alignment → Type 0 = λ a. IfSome a (λ a. result ≡ (a.expected + k) % 256) in
    by_test (ltb (lock.frame + k) (length ms)) (subst P h e)
  where
    by_test : (b : Bool) → result ≡ (lock.expected + k) % 256 → IfSome {T = Lock} (cond b (Some (record { frame = lock.frame + k; expected = (lock.expected + k) % 256 })) None) (λ member. result ≡ member.expected)
    by_test true e = e
    by_test false e = tt

-- the frame in hand is the one to which the last piece came
pub hand_in : (form : LineForm) (first now : InView) (read available frame : List ℕ) (t : ℕ) (line : LineView) → frame ≡ line.reader.hand → LineStands form first now read t line
    → MayBe form.scrambled line.reader.ending read available
    → IfSome (in_hand (size_of form) (mfas_of available) (line_state (size_of form) (mfas_of available) t) line.pieces) (λ member. frame ≡ frame_at available member.frame)
hand_in form first now read available frame t line e h may =
    let P : List ℕ → Type 0 = λ f. IfSome (in_hand (size_of form) (mfas_of available) (line_state (size_of form) (mfas_of available) t) line.pieces) (λ member. f ≡ frame_at available member.frame) in
    subst P (sym e) (h.is_line available may).hand

-- the MFAS that is expected in hand is that of the alignment
pub expected_is : (form : LineForm) (first now : InView) (read available : List ℕ) (t k result : ℕ) (line : LineView) → line.pieces ≡ suc k → LineStands form first now read t line
    → MayBe form.scrambled line.reader.ending read available → IfSome line.alignment (λ a. result ≡ (a.expected + (line.pieces - 1)) % 256)
    → IfSome (in_hand (size_of form) (mfas_of available) (line_state (size_of form) (mfas_of available) t) line.pieces) (λ member. result ≡ member.expected)
expected_is form first now read available t k result line some h may e =
    let size = size_of form in
    let P : ℕ → Type 0 = λ k. AlignedIn size (mfas_of available) (line_state size (mfas_of available) t) k line.alignment in
    let Q : ℕ → Type 0 = λ k. IfSome (in_hand size (mfas_of available) (line_state size (mfas_of available) t) k) (λ member. result ≡ member.expected) in
    let R : ℕ → Type 0 = λ p. IfSome line.alignment (λ a. result ≡ (a.expected + p) % 256) in
    let one : line.pieces - 1 ≡ k = omega arith in
    subst Q (sym some) (expected_by (mfas_of available) (lock_of size (mfas_of available) (line_state size (mfas_of available) t)) k result line.alignment
    (aligned size (mfas_of available) (line_state size (mfas_of available) t) k line.alignment (subst P some (h.is_line available may).alignment)) (subst R one e))
