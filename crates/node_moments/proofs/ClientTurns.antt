-- A client's place, input or output, and its part of a connection, from one turn to the next.
use Rattle.std.proofs.Common.{◌≡◌, ◌<◌, ◌≤◌, ◌+◌, ◌-◌, min, ℕ, Bool, true, false, ◌&&◌, ◌||◌, ◌==◌, if◌then◌else◌, nat_le, arith, refl, sym, ap, subst, ◌∙◌}
use Rattle.std.proofs.lemmas.Bool.Decides.{nat_tests}
use Rattle.plan_file.specs.declared.connection.Connection.{Connection}
use Rattle.device_model.specs.Moments.{turns_done, is_retired}
use Rattle.node_moments.specs.Stands.{ClientAt}
use Rattle.node_moments.proofs.Retired.{retired_so_far, not_retired, not_ending}

-- ---- the turns of a client

pub done_next : (x : Connection) (past : ℕ) → 1 ≤ x.start → turns_done x (past + 1) 0 ≡ turns_done x past 1
done_next x past first = nothing (nat_le x.start (past + 1 + 1) && nat_le (past + 1 + 1) x.stop) ∙ go (nat_le x.start (past + 1)) refl (nat_le (past + 1) x.stop) refl
  where
    nothing : (b : Bool) → min (past + 1) x.stop - (x.start - 1) + (if b then 0 else 0) ≡ min (past + 1) x.stop - (x.start - 1) + 0
    nothing true = refl
    nothing false = refl

    go : (a : Bool) → nat_le x.start (past + 1) ≡ a → (b : Bool) → nat_le (past + 1) x.stop ≡ b
        → min (past + 1) x.stop - (x.start - 1) + 0 ≡ min past x.stop - (x.start - 1) + (if nat_le x.start (past + 1) && nat_le (past + 1) x.stop then 1 else 0)
    go true e true f = let h : x.start ≤ past + 1 = grind (arith, nat_tests) in let k : past + 1 ≤ x.stop = grind (arith, nat_tests) in rw (e, f) (omega arith)
    go true e false f = let k : x.stop < past + 1 = grind (arith, nat_tests) in rw (e, f) (omega arith)
    go false e b f = let h : past + 1 < x.start = grind (arith, nat_tests) in rw e (omega arith)

pub none_done : (x : Connection) (past : ℕ) → past < x.start → turns_done x past 0 ≡ 0
none_done x past late = go (nat_le x.start (past + 1) && nat_le (past + 1) x.stop)
  where
    go : (b : Bool) → min past x.stop - (x.start - 1) + (if b then 0 else 0) ≡ 0
    go true = omega arith
    go false = omega arith

-- ---- the place

-- after the end of a turn
place_next : {P : Type 0} (empties : Bool → P → P) (x : Connection) (past : ℕ) (retires : Bool) (was now later : P) → ((a b : Bool) (v : P) → empties (a || b) v ≡ empties b (empties a v))
    → retires ≡ (x.retire && (x.stop == past + 1)) → now ≡ empties (is_retired x past) was → later ≡ empties retires now → later ≡ empties (is_retired x (past + 1)) was
place_next empties x past retires was now later twice e place gone =
    gone ∙ ap (λ b. empties b now) e ∙ ap (empties (x.retire && (x.stop == past + 1))) place
    ∙ sym (twice (is_retired x past) (x.retire && (x.stop == past + 1)) was) ∙ ap (λ b. empties b was) (retired_so_far x past)

-- one whose connection ends later is as it was
pub place_kept : {P : Type 0} (empties : Bool → P → P) (x : Connection) (past : ℕ) (retires : Bool) (now later : P) → ((v : P) → empties false v ≡ v) → retires ≡ (x.retire && (x.stop == past + 1)) → past + 1 < x.stop
    → later ≡ empties retires now → later ≡ now
place_kept empties x past retires now later stays e late gone = gone ∙ ap (λ b. empties b now) (e ∙ not_ending x past late) ∙ stays now

-- ---- the place and the part of a connection

pub client_starts : {P : Type 0} (empties : Bool → P → P) (Part : P → ℕ → Type 0) (first was is : P) (past : ℕ) (x : Connection) (retires : Bool) → ((v : P) → empties false v ≡ v) → retires ≡ (x.retire && (x.stop == past + 1))
    → past + 1 < x.start → past + 1 < x.stop → was ≡ first → is ≡ empties retires was → Part first 0 → ClientAt empties Part is x (past + 1) 0
client_starts empties Part first was is past x retires stays e start stop same gone h = record {
  was = first;
  stands = subst (λ k. Part first k) (sym (none_done x (past + 1) start)) h;
  place = place_kept empties x past retires was is stays e stop gone ∙ same ∙ sym (ap (λ b. empties b first) (not_retired x (past + 1) stop) ∙ stays first);
}

pub client_goes_on : {P : Type 0} (empties : Bool → P → P) (Part Then : P → ℕ → Type 0) (was is : P) (past done : ℕ) (x : Connection) (retires : Bool) → ((a b : Bool) (v : P) → empties (a || b) v ≡ empties b (empties a v))
    → retires ≡ (x.retire && (x.stop == past + 1)) → 1 ≤ x.start → done ≡ 1 → is ≡ empties retires was → ((v : P) (k : ℕ) → Part v k → Then v k) → ClientAt empties Part was x past done → ClientAt empties Then is x (past + 1) 0
client_goes_on empties Part Then was is past done x retires twice e start one gone part h = record {
  was = h.was;
  stands = subst (λ k. Then h.was k) (ap (turns_done x past) one ∙ sym (done_next x past start)) (part h.was (turns_done x past done) h.stands);
  place = place_next empties x past retires h.was was is twice e h.place gone;
}
