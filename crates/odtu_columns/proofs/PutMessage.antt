-- The six bytes of a message, written one by one.
use Rattle.std.proofs.Common.{◌≡◌, ◌≢◌, ℕ, ◌<◌, ◌≤◌, List, [], ◌∷◌, length, get_or, refl, ap, ◌∙◌, arith, get_or-set_same, get_or-set_other}
use Rattle.std.proofs.Math.ListN.{set}
use Rattle.std.proofs.lemmas.List.{length-set}
use Rattle.frame_geometry.specs.Places.{place_of}

other : (f g : List ℕ) (k b n : ℕ) → g ≡ set f k b → n ≢ k → get_or g n 0 ≡ get_or f n 0
other f g k b n e h = ap (λ xs. get_or xs n 0) e ∙ get_or-set_other f k n b 0 h

here : (f g : List ℕ) (k b : ℕ) → g ≡ set f k b → k < length f → get_or g k 0 ≡ b
here f g k b e h = ap (λ xs. get_or xs k 0) e ∙ get_or-set_same f k b 0 h

pub long : (f g : List ℕ) (k b : ℕ) → g ≡ set f k b → length g ≡ length f
long f g k b e = ap length e ∙ length-set f k b

pub six : (bytes : List ℕ) → length bytes ≡ 6 → (get_or bytes 0 0 ∷ get_or bytes 1 0 ∷ get_or bytes 2 0 ∷ get_or bytes 3 0 ∷ get_or bytes 4 0 ∷ get_or bytes 5 0 ∷ []) ≡ bytes
six [] e = absurd (omega arith)
six (a ∷ []) e = absurd (omega arith)
six (a ∷ b ∷ []) e = absurd (omega arith)
six (a ∷ b ∷ c ∷ []) e = absurd (omega arith)
six (a ∷ b ∷ c ∷ d ∷ []) e = absurd (omega arith)
six (a ∷ b ∷ c ∷ d ∷ f ∷ []) e = absurd (omega arith)
six (a ∷ b ∷ c ∷ d ∷ f ∷ g ∷ []) e = refl
six (a ∷ b ∷ c ∷ d ∷ f ∷ g ∷ h ∷ rest) e = absurd (omega arith)

pub message_put : (f0 f1 f2 f3 f4 f5 f6 bytes : List ℕ) → length f0 ≡ 16320 → length bytes ≡ 6
    → f1 ≡ set f0 15 (get_or bytes 0 0) → f2 ≡ set f1 4095 (get_or bytes 1 0) → f3 ≡ set f2 8175 (get_or bytes 2 0)
    → f4 ≡ set f3 14 (get_or bytes 3 0) → f5 ≡ set f4 4094 (get_or bytes 4 0) → f6 ≡ set f5 8174 (get_or bytes 5 0)
    → (get_or f6 15 0 ∷ get_or f6 4095 0 ∷ get_or f6 8175 0 ∷ get_or f6 14 0 ∷ get_or f6 4094 0 ∷ get_or f6 8174 0 ∷ []) ≡ bytes
message_put f0 f1 f2 f3 f4 f5 f6 bytes size many e1 e2 e3 e4 e5 e6 =
    let l1 = long f0 f1 15 _ e1 in
    let l2 = long f1 f2 4095 _ e2 in
    let l3 = long f2 f3 8175 _ e3 in
    let l4 = long f3 f4 14 _ e4 in
    let l5 = long f4 f5 4094 _ e5 in
    let a : get_or f6 15 0 ≡ get_or bytes 0 0 =
    other f5 f6 8174 _ 15 e6 (omega arith) ∙ other f4 f5 4094 _ 15 e5 (omega arith) ∙ other f3 f4 14 _ 15 e4 (omega arith) ∙ other f2 f3 8175 _ 15 e3 (omega arith) ∙ other f1 f2 4095 _ 15 e2 (omega arith) ∙ here f0 f1 15 _ e1 (omega arith) in
    let b : get_or f6 4095 0 ≡ get_or bytes 1 0 =
    other f5 f6 8174 _ 4095 e6 (omega arith) ∙ other f4 f5 4094 _ 4095 e5 (omega arith) ∙ other f3 f4 14 _ 4095 e4 (omega arith) ∙ other f2 f3 8175 _ 4095 e3 (omega arith) ∙ here f1 f2 4095 _ e2 (omega arith) in
    let c : get_or f6 8175 0 ≡ get_or bytes 2 0 =
    other f5 f6 8174 _ 8175 e6 (omega arith) ∙ other f4 f5 4094 _ 8175 e5 (omega arith) ∙ other f3 f4 14 _ 8175 e4 (omega arith) ∙ here f2 f3 8175 _ e3 (omega arith) in
    let d : get_or f6 14 0 ≡ get_or bytes 3 0 =
    other f5 f6 8174 _ 14 e6 (omega arith) ∙ other f4 f5 4094 _ 14 e5 (omega arith) ∙ here f3 f4 14 _ e4 (omega arith) in
    let e : get_or f6 4094 0 ≡ get_or bytes 4 0 = other f5 f6 8174 _ 4094 e6 (omega arith) ∙ here f4 f5 4094 _ e5 (omega arith) in
    let f : get_or f6 8174 0 ≡ get_or bytes 5 0 = here f5 f6 8174 _ e6 (omega arith) in
    let all = six bytes many in
    cc

pub message_kept : (f0 f1 f2 f3 f4 f5 f6 bytes : List ℕ) (place : ℕ)
    → f1 ≡ set f0 15 (get_or bytes 0 0) → f2 ≡ set f1 4095 (get_or bytes 1 0) → f3 ≡ set f2 8175 (get_or bytes 2 0)
    → f4 ≡ set f3 14 (get_or bytes 3 0) → f5 ≡ set f4 4094 (get_or bytes 4 0) → f6 ≡ set f5 8174 (get_or bytes 5 0)
    → ((row column : ℕ) → 1 ≤ row → row ≤ 3 → 15 ≤ column → column ≤ 16 → place ≡ place_of 4080 row column → ⊥)
    → get_or f6 place 0 ≡ get_or f0 place 0
message_kept f0 f1 f2 f3 f4 f5 f6 bytes place e1 e2 e3 e4 e5 e6 none =
    other f5 f6 8174 _ place e6 (none 3 15 (omega arith) (omega arith) (omega arith) (omega arith))
    ∙ other f4 f5 4094 _ place e5 (none 2 15 (omega arith) (omega arith) (omega arith) (omega arith))
    ∙ other f3 f4 14 _ place e4 (none 1 15 (omega arith) (omega arith) (omega arith) (omega arith))
    ∙ other f2 f3 8175 _ place e3 (none 3 16 (omega arith) (omega arith) (omega arith) (omega arith))
    ∙ other f1 f2 4095 _ place e2 (none 2 16 (omega arith) (omega arith) (omega arith) (omega arith))
    ∙ other f0 f1 15 _ place e1 (none 1 16 (omega arith) (omega arith) (omega arith) (omega arith))
