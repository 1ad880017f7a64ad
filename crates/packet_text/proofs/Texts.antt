-- Laws of the lines of a text.
use Rattle.std.proofs.Common.{◌≡◌, ◌≢◌, ◌<◌, ◌≤◌, ◌+◌, ◌-◌, ◌*◌, ◌/◌, ◌%◌, ℕ, Bool, true, false, ◌==◌, ◌||◌, if◌then◌else◌, List, [], ◌∷◌, ◌++◌, length, take, drop, arith, refl, ap, ◌∙◌, length-append}
use Rattle.std.proofs.lemmas.List.{take_at, drop_at}
use Rattle.std.proofs.Math.Seq.{take-add}
use Rattle.packet_text.specs.TextLines.{has_lf, with_byte, lines_of, full_lines, whole_blocks}
use Rattle.packet_text.proofs.Lists.{or_false}

-- a line and its LF in front of a text
pub lines_of-line : (line rest : List ℕ) → has_lf line ≡ false → lines_of (line ++ 10 ∷ rest) ≡ line ∷ lines_of rest
unfolding lines_of with_byte has_lf
lines_of-line [] rest h = refl
lines_of-line (x ∷ xs) rest h =
    let parts = or_false (x == 10) (has_lf xs) h in
    rw (parts.0, lines_of-line xs rest parts.1) refl

-- what a text begins with that has no LF, with what is behind it
pub record LongLine (line : List ℕ) (lines : List (List ℕ)) : Type 0 where
  pub more : List ℕ
  pub later : List (List ℕ)
  pub parts : lines ≡ (line ++ more) ∷ later

with_more : (x : ℕ) (lines : List (List ℕ)) → LongLine (x ∷ []) (with_byte x lines)
unfolding with_byte
with_more x [] = record { more = []; later = []; parts = refl }
with_more x (line ∷ lines) = record { more = line; later = lines; parts = refl }

longer : (x : ℕ) (line : List ℕ) (lines : List (List ℕ)) → LongLine line lines → LongLine (x ∷ line) (with_byte x lines)
unfolding with_byte
longer x line lines h = record { more = h.more; later = h.later; parts = rw h.parts refl }

pub lines_of-long : (line rest : List ℕ) → has_lf line ≡ false → line ≢ [] → LongLine line (lines_of (line ++ rest))
unfolding lines_of has_lf
lines_of-long [] rest h some = absurd (some refl)
lines_of-long (x ∷ []) rest h some =
    let parts = or_false (x == 10) (has_lf []) h in
    rw parts.0 (with_more x (lines_of rest))
lines_of-long (x ∷ y ∷ ys) rest h some =
    let parts = or_false (x == 10) (has_lf (y ∷ ys)) h in
    rw parts.0 (longer x (y ∷ ys) (lines_of ((y ∷ ys) ++ rest)) (lines_of-long (y ∷ ys) rest parts.1 (λ e. cc)))

-- a last line with no LF
pub lines_of-last : (line : List ℕ) → has_lf line ≡ false → line ≢ [] → lines_of line ≡ line ∷ []
unfolding lines_of with_byte has_lf
lines_of-last [] h some = absurd (some refl)
lines_of-last (x ∷ []) h some =
    let parts = or_false (x == 10) (has_lf []) h in
    rw parts.0 refl
lines_of-last (x ∷ y ∷ ys) h some =
    let parts = or_false (x == 10) (has_lf (y ∷ ys)) h in
    let rest : lines_of (y ∷ ys) ≡ (y ∷ ys) ∷ [] = lines_of-last (y ∷ ys) parts.1 (λ e. cc) in
    rw parts.0 (ap (with_byte x) rest)

or_true : (b : Bool) → (b || true) ≡ true
or_true true = refl
or_true false = refl

has_lf-there : (line rest : List ℕ) → has_lf (line ++ 10 ∷ rest) ≡ true
unfolding has_lf
has_lf-there [] rest = refl
has_lf-there (x ∷ xs) rest = rw (has_lf-there xs rest) (or_true (x == 10))

pub full_lines-line : (line rest : List ℕ) → full_lines (line ++ 10 ∷ rest) ≡ (line ++ 10 ∷ []) ++ full_lines rest
unfolding full_lines
full_lines-line [] rest = rw (has_lf-there [] rest) refl
full_lines-line (x ∷ xs) rest = rw (has_lf-there (x ∷ xs) rest, full_lines-line xs rest) refl

pub full_lines-none : (line : List ℕ) → has_lf line ≡ false → full_lines line ≡ []
unfolding full_lines
full_lines-none [] h = refl
full_lines-none (x ∷ xs) h = rw h refl

-- a list begins with another
pub record Front (front all : List ℕ) : Type 0 where
  pub rest : List ℕ
  pub parts : all ≡ front ++ rest

front_if : (b : Bool) (x : ℕ) (xs front : List ℕ) → Front front xs → Front (if b then x ∷ front else []) (x ∷ xs)
front_if true x xs front h = record { rest = h.rest; parts = ap (λ bytes. x ∷ bytes) h.parts }
front_if false x xs front h = record { rest = x ∷ xs; parts = refl }

pub full_lines-front : (bytes : List ℕ) → Front (full_lines bytes) bytes
unfolding full_lines
full_lines-front [] = record { rest = []; parts = refl }
full_lines-front (x ∷ xs) = front_if (has_lf (x ∷ xs)) x xs (full_lines xs) (full_lines-front xs)

or_more : (a b c : Bool) → (b ≡ true → c ≡ true) → (a || b) ≡ true → (a || c) ≡ true
or_more true b c f h = refl
or_more false b c f h = f h

has_lf-more : (a b : List ℕ) → has_lf a ≡ true → has_lf (a ++ b) ≡ true
unfolding has_lf
has_lf-more [] b h = absurd (cc)
has_lf-more (x ∷ xs) b h = or_more (x == 10) (has_lf xs) (has_lf (xs ++ b)) (has_lf-more xs b) h

more_if : (a b : Bool) (x : ℕ) (front all : List ℕ) → (a ≡ true → b ≡ true) → Front front all → Front (if a then x ∷ front else []) (if b then x ∷ all else [])
more_if true b x front all f h = record { rest = h.rest; parts = rw (f refl) (ap (λ bytes. x ∷ bytes) h.parts) }
more_if false b x front all f h = record { rest = if b then x ∷ all else []; parts = refl }

pub full_lines-more : (a b : List ℕ) → Front (full_lines a) (full_lines (a ++ b))
unfolding full_lines
full_lines-more [] b = record { rest = full_lines b; parts = refl }
full_lines-more (x ∷ xs) b = more_if (has_lf (x ∷ xs)) (has_lf (x ∷ (xs ++ b))) x (full_lines xs) (full_lines (xs ++ b)) (has_lf-more (x ∷ xs) b) (full_lines-more xs b)

front_take : (whole further : List ℕ) (m : ℕ) → length whole ≤ m → Front whole (take m (whole ++ further))
front_take whole further m fits =
    let n = length whole in
    let all : m ≡ n + (m - n) = omega arith in
    record {
      rest = take (m - n) further;
      parts = ap (λ k. take k (whole ++ further)) all ∙ take-add n (m - n) (whole ++ further) ∙ ap (λ bytes. bytes ++ take (m - n) (drop n (whole ++ further))) (take_at whole further n refl)
          ∙ ap (λ bytes. whole ++ take (m - n) bytes) (drop_at whole further n refl);
    }

pub whole_blocks-more : (whole further : List ℕ) → length whole % 4096 ≡ 0 → Front whole (whole_blocks (whole ++ further))
unfolding whole_blocks
whole_blocks-more whole further blocks =
    let size : length (whole ++ further) ≡ length whole + length further = length-append whole further in
    front_take whole further (4096 * (length (whole ++ further) / 4096)) (rw size (omega arith))

pub whole_blocks-part : (whole part : List ℕ) → length whole % 4096 ≡ 0 → length part < 4096 → whole_blocks (whole ++ part) ≡ whole
unfolding whole_blocks
whole_blocks-part whole part blocks short =
    let n = length whole in
    let size : length (whole ++ part) ≡ n + length part = length-append whole part in
    let all : n ≡ 4096 * (length (whole ++ part) / 4096) = rw size (omega arith) in
    rw (← all) (take_at whole part n refl)
