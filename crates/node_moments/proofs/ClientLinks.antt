-- Whether some connection passes a test; and how many of its own turns one is done with that is active, or is not.
use Rattle.std.proofs.Common.{◌≡◌, ◌⊎◌, ◌≤◌, ◌+◌, ℕ, suc, zero, min, Bool, true, false, ◌&&◌, nat_le, List, [], ◌∷◌, Some, slice_get, arith, refl, sym, ◌∙◌, inl, inr}
use Rattle.std.proofs.lemmas.Bool.Decides.{nat_tests}
use Rattle.plan_file.specs.declared.connection.Connection.{Connection}
use Rattle.device_model.specs.Entries.{own_turn, IsActive}
use Rattle.device_model.specs.Moments.{turns_done, is_retired}
use Rattle.node_links.specs.Links.{IsLinkOf, is_on}
use Rattle.node_links.specs.declared.link.Link.{Link}
use Rattle.node_links.proofs.LinkLaws.{on_as}
use Rattle.node_moments.proofs.Parts.{and_none}

-- ---- some connection or none

-- a connection for which the test holds
pub record HasSome (test : Link → Bool) (links : List Link) : Type 0 where
  pub i : ℕ
  pub link : Link
  pub known : slice_get links i ≡ Some link
  pub passes : test link ≡ true

none_more : (test : Link → Bool) (x : Link) (xs : List Link) → test x ≡ false → ((i : ℕ) (link : Link) → slice_get xs i ≡ Some link → test link ≡ false)
    → (i : ℕ) (link : Link) → slice_get (x ∷ xs) i ≡ Some link → test link ≡ false
none_more test x xs e none zero link known = let same : x ≡ link = cc in rw same at e
none_more test x xs e none (suc i) link known = none i link known

one_more : (test : Link → Bool) (x : Link) (xs : List Link) (b : Bool) → test x ≡ b → HasSome test xs ⊎ ((i : ℕ) (link : Link) → slice_get xs i ≡ Some link → test link ≡ false)
    → HasSome test (x ∷ xs) ⊎ ((i : ℕ) (link : Link) → slice_get (x ∷ xs) i ≡ Some link → test link ≡ false)
one_more test x xs true e rest = inl (record { i = 0; link = x; known = refl; passes = e })
one_more test x xs false e (inl s) = inl (record { i = suc s.i; link = s.link; known = s.known; passes = s.passes })
one_more test x xs false e (inr none) = inr (none_more test x xs e none)

pub one_or_none : (test : Link → Bool) (links : List Link) → HasSome test links ⊎ ((i : ℕ) (link : Link) → slice_get links i ≡ Some link → test link ≡ false)
one_or_none test [] = inr (λ i link known. cc)
one_or_none test (x ∷ xs) = one_more test x xs (test x) refl (one_or_none test xs)

-- ---- turns

pub left_off : (a b : Bool) → b ≡ true → (a && b) ≡ false → a ≡ false
left_off true b on off = cc
left_off false b on off = refl

span_of : (past start stop : ℕ) → (nat_le start (past + 1) && nat_le (past + 1) stop) ≡ true → (start ≤ past + 1) × (past + 1 ≤ stop)
span_of past start stop on = (grind (arith, nat_tests), grind (arith, nat_tests))

-- a connection is active where its link is
pub active_on : (x : Connection) (past : ℕ) (link : Link) → IsLinkOf x link → is_on past link ≡ true → IsActive x past
active_on x past link is on =
    let span = span_of past x.start x.stop (sym (on_as x past link is) ∙ on) in
    record { start = span.0; stop = span.1 }

-- the client of an active connection is not retired
pub active_retired : (x : Connection) (past : ℕ) → IsActive x past → is_retired x past ≡ false
active_retired x past active =
    let stop = active.stop in
    let late : nat_le x.stop past ≡ false = grind (arith, nat_tests) in
    and_none x.retire (nat_le x.stop past) late

-- how many of its own turns it has done in its own turn
pub active_turns : (x : Connection) (past k : ℕ) → IsActive x past → turns_done x past k ≡ own_turn x past + k
active_turns x past k active =
    let start = active.start in
    let stop = active.stop in
    let on : (nat_le x.start (past + 1) && nat_le (past + 1) x.stop) ≡ true = grind (arith, nat_tests) in
    let least : min past x.stop ≡ past = omega arith in
    rw (on, least) refl

-- a piece of a client whose connection is not active does nothing
pub idle_turns : (x : Connection) (past k m : ℕ) → (nat_le x.start (past + 1) && nat_le (past + 1) x.stop) ≡ false → turns_done x past k ≡ turns_done x past m
idle_turns x past k m off = rw off refl
