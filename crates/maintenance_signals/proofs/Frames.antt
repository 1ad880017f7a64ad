-- Which bytes of a signal's frames are of the alignment, which is FTFL, and which are of the pattern.
use Rattle.std.proofs.Common.{◌≡◌, ℕ, ◌+◌, ◌*◌, ◌/◌, ◌%◌, ◌<◌, ◌≤◌, true, false, inl, inr, refl, ap, sym, ◌∙◌, arith}
use Rattle.std.specs.Prelude.{◌&&◌}
use Rattle.std.proofs.Math.Dec.{eqb, leb}
use Rattle.std.proofs.lemmas.Bool.{cond-true, cond-false}
use Rattle.std.proofs.lemmas.Bool.Decides.{eqb_tells, leb_tells}
use Rattle.maintenance_signals.specs.declared.signal.Signal.{Signal}
use Rattle.maintenance_signals.specs.declared.signal.Signal.TheVariants.{Ais, Oci, Lck}
use Rattle.maintenance_signals.specs.Stream.{alignment, filling, pattern, frame_byte, signal_byte}

not_both_le : (a b c d : ℕ) → (a ≡ b → c ≤ d → ⊥) → (eqb a b && leb c d) ≡ false
not_both_le a b c d never =
    elim (eqb_tells a b) [
      | inl t ↦ elim (leb_tells c d) [ inl u ↦ absurd (never t.1 u.1) | inr u ↦ ap (λ x. x && leb c d) t.0 ∙ u.0 ]
      | inr t ↦ ap (λ x. x && leb c d) t.0
    ]

not_both : (a b c d : ℕ) → (a ≡ b → c ≡ d → ⊥) → (eqb a b && eqb c d) ≡ false
not_both a b c d never =
    elim (eqb_tells a b) [
      | inl t ↦ elim (eqb_tells c d) [ inl u ↦ absurd (never t.1 u.1) | inr u ↦ ap (λ x. x && eqb c d) t.0 ∙ u.0 ]
      | inr t ↦ ap (λ x. x && eqb c d) t.0
    ]

is_below : (a b : ℕ) → a ≤ b → leb a b ≡ true
is_below a b h = elim (leb_tells a b) [ inl t ↦ t.0 | inr t ↦ absurd (omega (arith, h, t.1)) ]

-- the byte so many places on in the same frame
pub in_frame : (signal : Signal) (place k : ℕ) → place % 15296 + k < 15296
    → signal_byte signal (place + k) ≡ frame_byte signal (place / 15296 % 256) ((place % 15296 + k) / 3824 + 1) ((place % 15296 + k) % 3824 + 1)
unfolding signal_byte
in_frame signal place k h =
    let place_in : (place + k) % 15296 ≡ place % 15296 + k = omega arith in
    let frame : (place + k) / 15296 ≡ place / 15296 = omega arith in
    ap (λ f. frame_byte signal (f % 256) ((place + k) % 15296 / 3824 + 1) ((place + k) % 15296 % 3824 + 1)) frame
    ∙ ap (λ p. frame_byte signal (place / 15296 % 256) (p / 3824 + 1) (p % 3824 + 1)) place_in

alignment_at : (signal : Signal) (mfas p : ℕ) → p < 14 → frame_byte signal mfas (p / 3824 + 1) (p % 3824 + 1) ≡ alignment mfas (p + 1)
alignment_at signal mfas p h =
    let row : p / 3824 ≡ 0 = omega arith in
    let column : p % 3824 ≡ p = omega arith in
    ap (λ r. frame_byte signal mfas (r + 1) (p % 3824 + 1)) row
    ∙ ap (λ c. frame_byte signal mfas 1 (c + 1)) column
    ∙ cond-true (leb (p + 1) 14) (alignment mfas (p + 1)) (pattern signal 1 (p + 1)) (is_below (p + 1) 14 (omega arith))

pattern_not_ftfl : (signal : Signal) (row column : ℕ) → (row ≡ 2 → column ≡ 14 → ⊥) → pattern signal row column ≡ filling signal
pattern_not_ftfl Ais row column never = cond-false (eqb row 2 && eqb column 14) 0 255 (not_both row 2 column 14 never)
pattern_not_ftfl Oci row column never = refl
pattern_not_ftfl Lck row column never = refl

pattern_at : (signal : Signal) (mfas p : ℕ) → 14 ≤ p → (p ≡ 3837 → ⊥) → p < 15296 → frame_byte signal mfas (p / 3824 + 1) (p % 3824 + 1) ≡ filling signal
pattern_at signal mfas p low other high =
    let row = p / 3824 + 1 in
    let column = p % 3824 + 1 in
    cond-false (eqb row 1 && leb column 14) (alignment mfas column) (pattern signal row column)
    (not_both_le row 1 column 14 (λ r c. let first : p < 14 = omega (arith, r, c) in omega (arith, low, first)))
    ∙ pattern_not_ftfl signal row column (λ r c. other (omega (arith, r, c)))

-- ---- what a run has, at each of its places

pub alignment_run : (signal : Signal) (place byte k : ℕ) → place < 3915776 → place % 15296 < 14 → byte ≡ alignment (place / 15296) (place % 15296 + 1) → k < 1
    → signal_byte signal (place + k) ≡ byte
alignment_run signal place byte k in_period first is only =
    let here : place % 15296 + k ≡ place % 15296 = omega arith in
    let mfas : place / 15296 % 256 ≡ place / 15296 = omega arith in
    in_frame signal place k (omega arith)
    ∙ ap (λ p. frame_byte signal (place / 15296 % 256) (p / 3824 + 1) (p % 3824 + 1)) here
    ∙ alignment_at signal (place / 15296 % 256) (place % 15296) first
    ∙ ap (λ m. alignment m (place % 15296 + 1)) mfas ∙ sym is

pub ftfl_run : (signal : Signal) (place byte k : ℕ) → place % 15296 ≡ 3837 → byte ≡ pattern signal 2 14 → k < 1 → signal_byte signal (place + k) ≡ byte
ftfl_run signal place byte k at is only =
    let here : place % 15296 + k ≡ 3837 = omega arith in
    in_frame signal place k (omega arith)
    ∙ ap (λ p. frame_byte signal (place / 15296 % 256) (p / 3824 + 1) (p % 3824 + 1)) here
    ∙ sym is

pub pattern_run : (signal : Signal) (place byte k : ℕ) → 14 ≤ place % 15296 → (place % 15296 + k ≡ 3837 → ⊥) → place % 15296 + k < 15296 → byte ≡ filling signal
    → signal_byte signal (place + k) ≡ byte
pattern_run signal place byte k low other high is =
    in_frame signal place k high
    ∙ pattern_at signal (place / 15296 % 256) (place % 15296 + k) (omega arith) other high
    ∙ sym is

-- the stream comes again after 256 frames
pub signal_byte-again : (signal : Signal) (place k : ℕ) → signal_byte signal (place % 3915776 + k) ≡ signal_byte signal (place + k)
unfolding signal_byte
signal_byte-again signal place k =
    let q = place / 3915776 in
    let rest = place % 3915776 + k in
    let all : place + k ≡ 15296 * (256 * q) + rest = omega arith in
    let place_in : (place + k) % 15296 ≡ rest % 15296 = omega (arith, all) in
    let frame : (place + k) / 15296 ≡ 256 * q + rest / 15296 = omega (arith, all) in
    let mfas : (place + k) / 15296 % 256 ≡ rest / 15296 % 256 = omega (arith, frame) in
    sym (ap (λ m. frame_byte signal m ((place + k) % 15296 / 3824 + 1) ((place + k) % 15296 % 3824 + 1)) mfas
    ∙ ap (λ p. frame_byte signal (rest / 15296 % 256) (p / 3824 + 1) (p % 3824 + 1)) place_in)
