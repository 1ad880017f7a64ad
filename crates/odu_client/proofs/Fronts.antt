-- The FAS at the front of a list, and what a frame there brings.
use Rattle.std.proofs.Common.{◌≡◌, ◌<◌, ◌≤◌, ◌+◌, ℕ, Bool, true, false, ◌&&◌, nat_lt, if◌then◌else◌, List, [], ◌∷◌, ◌++◌, length, take, drop, arith, refl, ap, ◌∙◌}
use Rattle.std.proofs.lemmas.Bool.Decides.{nat_tests}
use Rattle.odu_client.specs.AlignedRuns.{has_fas, misses_after, Arrival, Broken, arrival_of, whole_frame, next_frame, searching}
use Rattle.odu_client.specs.Aligner.{from_search, from_frame}
use Rattle.odu_client.proofs.Arriving.{search_step, frame_step}

pub short_test : (n m : ℕ) → n < m → nat_lt n m ≡ true
short_test n m h = grind (arith, nat_tests)

pub long_test : (n m : ℕ) → m ≤ n → nat_lt n m ≡ false
long_test n m h = grind (arith, nat_tests)

size_from : (n m : ℕ) → nat_lt n m ≡ false → m ≤ n
size_from n m h = grind (arith, nat_tests)

and_false : (b : Bool) → (b && false) ≡ false
and_false true = refl
and_false false = refl

pub short_has : (bytes : List ℕ) → length bytes < 6 → has_fas bytes ≡ false
unfolding has_fas
short_has [] h = refl
short_has (a ∷ []) h = and_false _
short_has (a ∷ b ∷ []) h = and_false _
short_has (a ∷ b ∷ c ∷ []) h = and_false _
short_has (a ∷ b ∷ c ∷ d ∷ []) h = and_false _
short_has (a ∷ b ∷ c ∷ d ∷ e ∷ []) h = and_false _
short_has (a ∷ b ∷ c ∷ d ∷ e ∷ f ∷ rest) h = absurd (omega arith)

-- what follows the six bytes makes no difference
pub has_fas-front : (front more : List ℕ) → 6 ≤ length front → has_fas (front ++ more) ≡ has_fas front
unfolding has_fas
has_fas-front [] more h = absurd (omega arith)
has_fas-front (a ∷ []) more h = absurd (omega arith)
has_fas-front (a ∷ b ∷ []) more h = absurd (omega arith)
has_fas-front (a ∷ b ∷ c ∷ []) more h = absurd (omega arith)
has_fas-front (a ∷ b ∷ c ∷ d ∷ []) more h = absurd (omega arith)
has_fas-front (a ∷ b ∷ c ∷ d ∷ e ∷ []) more h = absurd (omega arith)
has_fas-front (a ∷ b ∷ c ∷ d ∷ e ∷ f ∷ rest) more h = refl

pub misses-front : (misses : ℕ) (front more : List ℕ) → 6 ≤ length front → misses_after misses (front ++ more) ≡ misses_after misses front
misses-front misses front more h = ap (λ b. if b then 0 else misses + 1) (has_fas-front front more h)

-- no FAS in fewer than six bytes
pub short_none : (bytes : List ℕ) → length bytes < 6 → from_search bytes ≡ []
unfolding searching
short_none [] h = refl
short_none (x ∷ xs) h = search_step (x ∷ xs) ∙ ap (λ b. if b then whole_frame (x ∷ xs) (from_frame 0 (drop 15296 (x ∷ xs))) else from_search xs) (short_has (x ∷ xs) h) ∙ short_none xs (omega arith)

next_is : (misses : ℕ) (bytes : List ℕ) (whole anew : List Arrival) → 6 ≤ length bytes → misses_after misses bytes < 5 → next_frame misses bytes whole anew ≡ whole
next_is misses bytes whole anew six few =
    let a : nat_lt (length bytes) 6 ≡ false = long_test (length bytes) 6 six in
    let b : nat_lt (misses_after misses bytes) 5 ≡ true = short_test (misses_after misses bytes) 5 few in
    ap (λ t. if t then [] else if nat_lt (misses_after misses bytes) 5 then whole else Broken ∷ anew) a ∙ ap (λ t. if t then whole else Broken ∷ anew) b

next_broken : (misses : ℕ) (bytes : List ℕ) (whole anew : List Arrival) → 6 ≤ length bytes → 5 ≤ misses_after misses bytes → next_frame misses bytes whole anew ≡ Broken ∷ anew
next_broken misses bytes whole anew six many =
    let a : nat_lt (length bytes) 6 ≡ false = long_test (length bytes) 6 six in
    let b : nat_lt (misses_after misses bytes) 5 ≡ false = long_test (misses_after misses bytes) 5 many in
    ap (λ t. if t then [] else if nat_lt (misses_after misses bytes) 5 then whole else Broken ∷ anew) a ∙ ap (λ t. if t then whole else Broken ∷ anew) b

pub frame_meets : (misses : ℕ) (bytes : List ℕ) → 6 ≤ length bytes → misses_after misses bytes < 5 → from_frame misses bytes ≡ whole_frame bytes (from_frame (misses_after misses bytes) (drop 15296 bytes))
frame_meets misses bytes six few = frame_step misses bytes ∙ next_is misses bytes (whole_frame bytes (from_frame (misses_after misses bytes) (drop 15296 bytes))) (from_search (drop 6 bytes)) six few

pub frame_breaks : (misses : ℕ) (bytes : List ℕ) → 6 ≤ length bytes → 5 ≤ misses_after misses bytes → from_frame misses bytes ≡ Broken ∷ from_search (drop 6 bytes)
frame_breaks misses bytes six many = frame_step misses bytes ∙ next_broken misses bytes (whole_frame bytes (from_frame (misses_after misses bytes) (drop 15296 bytes))) (from_search (drop 6 bytes)) six many

pub short_frame : (bytes : List ℕ) (later : List Arrival) → length bytes < 15296 → whole_frame bytes later ≡ []
short_frame bytes later short = ap (λ t. if t then [] else arrival_of (take 15296 bytes) ∷ later) (short_test (length bytes) 15296 short)

pub long_frame : (bytes : List ℕ) (later : List Arrival) → 15296 ≤ length bytes → whole_frame bytes later ≡ arrival_of (take 15296 bytes) ∷ later
long_frame bytes later long = ap (λ t. if t then [] else arrival_of (take 15296 bytes) ∷ later) (long_test (length bytes) 15296 long)

-- a frame that is not whole brings nothing
pub frame_none : (misses : ℕ) (bytes : List ℕ) → length bytes < 15296 → (6 ≤ length bytes → misses_after misses bytes < 5) → from_frame misses bytes ≡ []
frame_none misses bytes short few = by_size (nat_lt (length bytes) 6) refl
  where
    by_size : (t : Bool) → nat_lt (length bytes) 6 ≡ t → from_frame misses bytes ≡ []
    by_size true e = frame_step misses bytes ∙ ap (λ t. if t then [] else if nat_lt (misses_after misses bytes) 5 then whole_frame bytes (from_frame (misses_after misses bytes) (drop 15296 bytes)) else Broken ∷ from_search (drop 6 bytes)) e
    by_size false e =
        let six : 6 ≤ length bytes = size_from (length bytes) 6 e in
        frame_meets misses bytes six (few six) ∙ short_frame bytes (from_frame (misses_after misses bytes) (drop 15296 bytes)) short
