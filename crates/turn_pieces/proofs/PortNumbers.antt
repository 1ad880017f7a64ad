-- The numbers of ports, and sums over all ports by their numbers.
use Rattle.std.proofs.Common.{◌≡◌, ◌<◌, ◌≤◌, ◌+◌, ℕ, zero, suc, Bool, true, false, List, [], ◌∷◌, map, sum, nat_lt, arith, refl, ap}
use Rattle.std.proofs.lemmas.Bool.Decides.{nat_tests}
use Rattle.std.proofs.lemmas.List.Sums.{sum_by-cons}
use Rattle.std.specs.List.{range_with_len}
use Rattle.otn_base.specs.declared.kind.PortName.{PortName}
use Rattle.otn_base.specs.declared.kind.PortName.TheVariants.{LineIn, LineOut, ClientIn, ClientOut}
use Rattle.device_model.specs.Moments.{over_ports}
use Rattle.turn_pieces.specs.Ports.{index_of, port_at}
use Rattle.turn_pieces.specs.Pieces.{sum_below}
use Rattle.turn_pieces.proofs.Sums.{sum_zero, sum_suc}

-- ---- a port and its number

pub line_in_index : (n : ℕ) → index_of (LineIn n) < 40 → (n < 4) × (index_of (LineIn n) ≡ n)
line_in_index n h = (grind (arith, nat_tests), grind (arith, nat_tests))

pub line_out_index : (n : ℕ) → index_of (LineOut n) < 40 → (n < 4) × (index_of (LineOut n) ≡ 4 + n)
line_out_index n h = (grind (arith, nat_tests), grind (arith, nat_tests))

pub client_in_index : (n : ℕ) → index_of (ClientIn n) < 40 → (n < 16) × (index_of (ClientIn n) ≡ 8 + n)
client_in_index n h = (grind (arith, nat_tests), grind (arith, nat_tests))

pub client_out_index : (n : ℕ) → index_of (ClientOut n) < 40 → (n < 16) × (index_of (ClientOut n) ≡ 24 + n)
client_out_index n h = (grind (arith, nat_tests), grind (arith, nat_tests))

-- a port has a number of its own
pub one_port : (p r : PortName) → index_of p < 40 → index_of r < 40 → index_of p ≡ index_of r → p ≡ r
one_port (LineIn a) (LineIn b) h k e = let x = line_in_index a h in let y = line_in_index b k in let n : a ≡ b = omega arith in ap LineIn n
one_port (LineIn a) (LineOut b) h k e = let x = line_in_index a h in let y = line_out_index b k in absurd (omega arith)
one_port (LineIn a) (ClientIn b) h k e = let x = line_in_index a h in let y = client_in_index b k in absurd (omega arith)
one_port (LineIn a) (ClientOut b) h k e = let x = line_in_index a h in let y = client_out_index b k in absurd (omega arith)
one_port (LineOut a) (LineIn b) h k e = let x = line_out_index a h in let y = line_in_index b k in absurd (omega arith)
one_port (LineOut a) (LineOut b) h k e = let x = line_out_index a h in let y = line_out_index b k in let n : a ≡ b = omega arith in ap LineOut n
one_port (LineOut a) (ClientIn b) h k e = let x = line_out_index a h in let y = client_in_index b k in absurd (omega arith)
one_port (LineOut a) (ClientOut b) h k e = let x = line_out_index a h in let y = client_out_index b k in absurd (omega arith)
one_port (ClientIn a) (LineIn b) h k e = let x = client_in_index a h in let y = line_in_index b k in absurd (omega arith)
one_port (ClientIn a) (LineOut b) h k e = let x = client_in_index a h in let y = line_out_index b k in absurd (omega arith)
one_port (ClientIn a) (ClientIn b) h k e = let x = client_in_index a h in let y = client_in_index b k in let n : a ≡ b = omega arith in ap ClientIn n
one_port (ClientIn a) (ClientOut b) h k e = let x = client_in_index a h in let y = client_out_index b k in absurd (omega arith)
one_port (ClientOut a) (LineIn b) h k e = let x = client_out_index a h in let y = line_in_index b k in absurd (omega arith)
one_port (ClientOut a) (LineOut b) h k e = let x = client_out_index a h in let y = line_out_index b k in absurd (omega arith)
one_port (ClientOut a) (ClientIn b) h k e = let x = client_out_index a h in let y = client_in_index b k in absurd (omega arith)
one_port (ClientOut a) (ClientOut b) h k e = let x = client_out_index a h in let y = client_out_index b k in let n : a ≡ b = omega arith in ap ClientOut n

pub index_port_at : (i : ℕ) → i < 40 → index_of (port_at i) ≡ i
index_port_at i less = go (nat_lt i 4) refl (nat_lt i 8) refl (nat_lt i 24) refl
  where
    go : (a : Bool) → nat_lt i 4 ≡ a → (b : Bool) → nat_lt i 8 ≡ b → (c : Bool) → nat_lt i 24 ≡ c → index_of (port_at i) ≡ i
    go true e b f c g = let h : i < 4 = grind (arith, nat_tests) in rw e (rw e refl)
    go false e true f c g = let h : 4 ≤ i = grind (arith, nat_tests) in let k : i < 8 = grind (arith, nat_tests) in rw (e, f) (grind (arith, nat_tests))
    go false e false f true g = let h : 8 ≤ i = grind (arith, nat_tests) in let k : i < 24 = grind (arith, nat_tests) in rw (e, f, g) (grind (arith, nat_tests))
    go false e false f false g = let h : 24 ≤ i = grind (arith, nat_tests) in rw (e, f, g) (grind (arith, nat_tests))

pub port_at_index : (name : PortName) → index_of name < 40 → port_at (index_of name) ≡ name
port_at_index name lt = let same = index_port_at (index_of name) lt in one_port (port_at (index_of name)) name (rw same lt) lt same

-- ---- a number of each port, summed

sum_of : (n : ℕ) (ns : List ℕ) → sum (n ∷ ns) ≡ n + sum ns
sum_of n ns = sum_by-cons (λ m. m) n ns

-- n terms more of a sum, as a sum over a list of their places
block : (f g : ℕ → ℕ) (k a n : ℕ) → ((i : ℕ) → i < n → g (a + i) ≡ f (k + i)) → sum_below f k + sum (map g (range_with_len a n)) ≡ sum_below f (k + n)
block f g k a zero h = let none : k + 0 ≡ k = omega arith in rw none none'
  where
    none' : sum_below f k + 0 ≡ sum_below f k
    none' = omega arith
block f g k a (suc n) h =
    let rest : sum_below f (suc k) + sum (map g (range_with_len (a + 1) n)) ≡ sum_below f (suc k + n) = block f g (suc k) (a + 1) n (λ i lt.
    let e : g (a + suc i) ≡ f (k + suc i) = h (suc i) (omega arith) in
    let x : a + 1 + i ≡ a + suc i = omega arith in
    let y : suc k + i ≡ k + suc i = omega arith in
    rw (x, y) e) in
    let first : g a ≡ f k = (let e = h 0 (omega arith) in let x : a + 0 ≡ a = omega arith in let y : k + 0 ≡ k = omega arith in rw (x, y) at e) in
    let all : suc k + n ≡ k + suc n = omega arith in
    let last : sum_below f (suc k + n) ≡ sum_below f (k + suc n) = ap (sum_below f) all in
    omega (arith, sum_suc f k, sum_of (g a) (map g (range_with_len (a + 1) n)))

-- by number it is one sum
pub ports_by_number : (f : ℕ → ℕ) → over_ports (λ name. f (index_of name)) ≡ sum_below f 40
unfolding over_ports
ports_by_number f =
    let a = block f (λ i. f (index_of (LineIn i))) 0 0 4 (λ i lt. ap f (grind (arith, nat_tests))) in
    let b = block f (λ i. f (index_of (LineOut i))) 4 0 4 (λ i lt. ap f (grind (arith, nat_tests))) in
    let c = block f (λ i. f (index_of (ClientIn i))) 8 0 16 (λ i lt. ap f (grind (arith, nat_tests))) in
    let d = block f (λ i. f (index_of (ClientOut i))) 24 0 16 (λ i lt. ap f (grind (arith, nat_tests))) in
    omega (arith, sum_zero f)

map_same : (f g : ℕ → ℕ) → ((i : ℕ) → f i ≡ g i) → (xs : List ℕ) → sum (map f xs) ≡ sum (map g xs)
map_same f g h [] = refl
map_same f g h (x ∷ xs) = omega (arith, sum_of (f x) (map f xs), sum_of (g x) (map g xs), h x, map_same f g h xs)

-- the sums are the same where the numbers are
pub ports_same : (f g : PortName → ℕ) → ((name : PortName) → f name ≡ g name) → over_ports f ≡ over_ports g
unfolding over_ports
ports_same f g h =
    let a = map_same (λ i. f (LineIn i)) (λ i. g (LineIn i)) (λ i. h (LineIn i)) (range_with_len 0 4) in
    let b = map_same (λ i. f (LineOut i)) (λ i. g (LineOut i)) (λ i. h (LineOut i)) (range_with_len 0 4) in
    let c = map_same (λ i. f (ClientIn i)) (λ i. g (ClientIn i)) (λ i. h (ClientIn i)) (range_with_len 0 16) in
    let d = map_same (λ i. f (ClientOut i)) (λ i. g (ClientOut i)) (λ i. h (ClientOut i)) (range_with_len 0 16) in
    omega arith
