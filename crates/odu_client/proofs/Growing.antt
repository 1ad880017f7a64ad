-- What arrived stays, whatever bytes come behind it.
use Rattle.std.proofs.Common.{◌≡◌, ◌<◌, ◌≤◌, ◌+◌, ◌-◌, ℕ, zero, suc, Bool, true, false, nat_lt, if◌then◌else◌, List, [], ◌∷◌, ◌++◌, length, take, drop, arith, refl, sym, ap, subst, ◌∙◌, inl, inr, append_assoc, append-nil, length-append}
use Rattle.std.proofs.lemmas.List.{take-append-le, drop-append-le}
use Rattle.std.proofs.lemmas.Bool.{cases_lt}
use Rattle.std.proofs.Math.Seq.{take-add}
use Rattle.odu_client.specs.AlignedRuns.{has_fas, misses_after, Arrival, Broken, arrival_of, whole_frame, next_frame, searching, framing, arrivals}
use Rattle.odu_client.specs.Aligner.{from_search}
use Rattle.odu_client.proofs.Arriving.{search_enough}
use Rattle.odu_client.proofs.Fronts.{short_has, short_test, long_test, has_fas-front, misses-front, long_frame, short_frame}

pub record Grows (front whole : List Arrival) : Type 0 where
  pub rest : List Arrival
  pub parts : whole ≡ front ++ rest

from_nothing : (front whole : List Arrival) → front ≡ [] → Grows front whole
from_nothing front whole e = record { rest = whole; parts = sym (ap (λ f. f ++ whole) e) }

behind_one : (a : Arrival) (front whole : List Arrival) → Grows front whole → Grows (a ∷ front) (a ∷ whole)
behind_one a front whole g = record { rest = g.rest; parts = ap (λ w. a ∷ w) g.parts }

same_grows : (f f' w w' : List Arrival) → f ≡ f' → w ≡ w' → Grows f' w' → Grows f w
same_grows f f' w w' e h g = record { rest = g.rest; parts = h ∙ g.parts ∙ ap (λ x. x ++ g.rest) (sym e) }

whole_grows : (xs ys : List ℕ) (later later' : List Arrival) → Grows later later' → Grows (whole_frame xs later) (whole_frame (xs ++ ys) later')
whole_grows xs ys later later' g = elim (cases_lt (length xs) 15296) [
  | inl short ↦ from_nothing (whole_frame xs later) (whole_frame (xs ++ ys) later') (short_frame xs later short)
  | inr long ↦
      let more : 15296 ≤ length (xs ++ ys) = (let e = length-append xs ys in omega arith) in
      let same : take 15296 (xs ++ ys) ≡ take 15296 xs = take-append-le 15296 xs ys long in
      same_grows (whole_frame xs later) (arrival_of (take 15296 xs) ∷ later) (whole_frame (xs ++ ys) later') (arrival_of (take 15296 xs) ∷ later') (long_frame xs later long)
      (long_frame (xs ++ ys) later' more ∙ ap (λ f. arrival_of f ∷ later') same) (behind_one (arrival_of (take 15296 xs)) later later' g)
]

short_search : (p : ℕ) (xs : List ℕ) → length xs < 6 → searching p xs ≡ []
unfolding searching
short_search zero xs short = refl
short_search (suc p) [] short = ap (λ b. if b then whole_frame [] (framing p 0 (drop 15296 [])) else searching p (drop 1 [])) (short_has [] short) ∙ short_search p [] short
short_search (suc p) (x ∷ xs) short = ap (λ b. if b then whole_frame (x ∷ xs) (framing p 0 (drop 15296 (x ∷ xs))) else searching p xs) (short_has (x ∷ xs) short) ∙ short_search p xs (omega arith)

record GrowsAt (p : ℕ) (xs ys : List ℕ) : Type 0 where
  search : Grows (searching p xs) (searching p (xs ++ ys))
  frame : (misses : ℕ) → Grows (framing p misses xs) (framing p misses (xs ++ ys))

-- a frame at the front
whole_on : (p misses : ℕ) (xs ys : List ℕ) → Grows (framing p misses (drop 15296 xs)) (framing p misses (drop 15296 xs ++ ys))
    → Grows (whole_frame xs (framing p misses (drop 15296 xs))) (whole_frame (xs ++ ys) (framing p misses (drop 15296 (xs ++ ys))))
whole_on p misses xs ys g = elim (cases_lt (length xs) 15296) [
  | inl short ↦ from_nothing (whole_frame xs (framing p misses (drop 15296 xs))) (whole_frame (xs ++ ys) (framing p misses (drop 15296 (xs ++ ys)))) (short_frame xs (framing p misses (drop 15296 xs)) short)
  | inr long ↦
      let P : List ℕ → Type 0 = λ l. Grows (whole_frame xs (framing p misses (drop 15296 xs))) (whole_frame (xs ++ ys) (framing p misses l)) in
      subst P (sym (drop-append-le 15296 xs ys long)) (whole_grows xs ys (framing p misses (drop 15296 xs)) (framing p misses (drop 15296 xs ++ ys)) g)
]

search_if : (b : Bool) (one one' two two' : List Arrival) → Grows one one' → Grows two two' → Grows (if b then one else two) (if b then one' else two')
search_if true one one' two two' g h = g
search_if false one one' two two' g h = h

frame_if : (b : Bool) (front whole two two' : List Arrival) → Grows front whole → Grows two two' → Grows (if b then front else Broken ∷ two) (if b then whole else Broken ∷ two')
frame_if true front whole two two' g h = g
frame_if false front whole two two' g h = behind_one Broken two two' h

next_is : (misses : ℕ) (bytes : List ℕ) (whole anew : List Arrival) → 6 ≤ length bytes → next_frame misses bytes whole anew ≡ (if nat_lt (misses_after misses bytes) 5 then whole else Broken ∷ anew)
next_is misses bytes whole anew six = ap (λ t. if t then [] else if nat_lt (misses_after misses bytes) 5 then whole else Broken ∷ anew) (long_test (length bytes) 6 six)

next_none : (misses : ℕ) (bytes : List ℕ) (whole anew : List Arrival) → length bytes < 6 → next_frame misses bytes whole anew ≡ []
next_none misses bytes whole anew short = ap (λ t. if t then [] else if nat_lt (misses_after misses bytes) 5 then whole else Broken ∷ anew) (short_test (length bytes) 6 short)

grows_at : (p : ℕ) (xs ys : List ℕ) → GrowsAt p xs ys
unfolding searching
grows_at zero xs ys = record { search = from_nothing [] [] refl; frame = λ misses. from_nothing [] [] refl }
grows_at (suc p) xs ys = elim (cases_lt (length xs) 6) [
  | inl short ↦ record {
    search = from_nothing (searching (suc p) xs) (searching (suc p) (xs ++ ys)) (short_search (suc p) xs short);
    frame = λ misses. from_nothing (framing (suc p) misses xs) (framing (suc p) misses (xs ++ ys))
        (next_none misses xs (whole_frame xs (framing p (misses_after misses xs) (drop 15296 xs))) (searching p (drop 6 xs)) short);
  }
  | inr six ↦
      let more : 6 ≤ length (xs ++ ys) = (let e = length-append xs ys in omega arith) in
      let one = grows_at p (drop 1 xs) ys in
      let far = grows_at p (drop 6 xs) ys in
      let next = grows_at p (drop 15296 xs) ys in
      let back : drop 1 (xs ++ ys) ≡ drop 1 xs ++ ys = drop-append-le 1 xs ys (omega arith) in
      let back6 : drop 6 (xs ++ ys) ≡ drop 6 xs ++ ys = drop-append-le 6 xs ys six in
      let fas = has_fas-front xs ys six in
      record {
        search = same_grows (searching (suc p) xs) (searching (suc p) xs) (searching (suc p) (xs ++ ys))
            (if has_fas xs then whole_frame (xs ++ ys) (framing p 0 (drop 15296 (xs ++ ys))) else searching p (drop 1 xs ++ ys)) refl
            (ap (λ b. if b then whole_frame (xs ++ ys) (framing p 0 (drop 15296 (xs ++ ys))) else searching p (drop 1 (xs ++ ys))) fas
            ∙ ap (λ l. if has_fas xs then whole_frame (xs ++ ys) (framing p 0 (drop 15296 (xs ++ ys))) else searching p l) back)
            (search_if (has_fas xs) (whole_frame xs (framing p 0 (drop 15296 xs))) (whole_frame (xs ++ ys) (framing p 0 (drop 15296 (xs ++ ys)))) (searching p (drop 1 xs)) (searching p (drop 1 xs ++ ys)) (whole_on p 0 xs ys (next.frame 0)) one.search);
        frame = λ misses.
            let m = misses-front misses xs ys six in
            same_grows (framing (suc p) misses xs) (if nat_lt (misses_after misses xs) 5 then whole_frame xs (framing p (misses_after misses xs) (drop 15296 xs)) else Broken ∷ searching p (drop 6 xs))
            (framing (suc p) misses (xs ++ ys)) (if nat_lt (misses_after misses xs) 5 then whole_frame (xs ++ ys) (framing p (misses_after misses xs) (drop 15296 (xs ++ ys))) else Broken ∷ searching p (drop 6 xs ++ ys))
            (next_is misses xs (whole_frame xs (framing p (misses_after misses xs) (drop 15296 xs))) (searching p (drop 6 xs)) six)
            (next_is misses (xs ++ ys) (whole_frame (xs ++ ys) (framing p (misses_after misses (xs ++ ys)) (drop 15296 (xs ++ ys)))) (searching p (drop 6 (xs ++ ys))) more
            ∙ ap (λ n. if nat_lt n 5 then whole_frame (xs ++ ys) (framing p n (drop 15296 (xs ++ ys))) else Broken ∷ searching p (drop 6 (xs ++ ys))) m
            ∙ ap (λ l. if nat_lt (misses_after misses xs) 5 then whole_frame (xs ++ ys) (framing p (misses_after misses xs) (drop 15296 (xs ++ ys))) else Broken ∷ searching p l) back6)
            (frame_if (nat_lt (misses_after misses xs) 5) (whole_frame xs (framing p (misses_after misses xs) (drop 15296 xs))) (whole_frame (xs ++ ys) (framing p (misses_after misses xs) (drop 15296 (xs ++ ys)))) (searching p (drop 6 xs)) (searching p (drop 6 xs ++ ys))
            (whole_on p (misses_after misses xs) xs ys (next.frame (misses_after misses xs))) far.search);
      }
]

-- what arrived stays
pub arrived_stays : (xs ys : List ℕ) → Grows (arrivals xs) (arrivals (xs ++ ys))
unfolding arrivals
arrived_stays xs ys =
    let n = length (xs ++ ys) in
    let size = length-append xs ys in
    let g = (grows_at n xs ys).search in
    same_grows (from_search xs) (searching n xs) (from_search (xs ++ ys)) (searching n (xs ++ ys)) (sym (search_enough n xs (omega arith))) refl g

no_rest : (a b c : List Arrival) → a ≡ (a ++ b) ++ c → b ≡ []
no_rest a b c e = nothing b (let n = ap length e in let f = length-append (a ++ b) c in let g = length-append a b in omega arith)
  where
    nothing : (b : List Arrival) → length b ≡ 0 → b ≡ []
    nothing [] h = refl
    nothing (x ∷ b) h = absurd (omega arith)

-- where nothing arrives with all of these bytes, nothing does with fewer
pub none_until : (read bytes : List ℕ) (done k : ℕ) → k ≤ done → arrivals (read ++ take done bytes) ≡ arrivals read → arrivals (read ++ take k bytes) ≡ arrivals read
none_until read bytes done k less e =
    let g = arrived_stays read (take k bytes) in
    let rest = take (done - k) (drop k bytes) in
    let all : take done bytes ≡ take k bytes ++ rest = ap (λ n. take n bytes) (let f : done ≡ k + (done - k) = omega arith in f) ∙ take-add k (done - k) bytes in
    let h = arrived_stays (read ++ take k bytes) rest in
    let whole : arrivals (read ++ take done bytes) ≡ arrivals ((read ++ take k bytes) ++ rest) = ap (λ b. arrivals (read ++ b)) all ∙ ap arrivals (sym (append_assoc read (take k bytes) rest)) in
    let both : arrivals read ≡ (arrivals read ++ g.rest) ++ h.rest = sym e ∙ whole ∙ h.parts ∙ ap (λ a. a ++ h.rest) g.parts in
    g.parts ∙ ap (λ r. arrivals read ++ r) (no_rest (arrivals read) g.rest h.rest both) ∙ append-nil (arrivals read)
