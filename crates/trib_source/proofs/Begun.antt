-- A source with one turn more.
use Rattle.std.proofs.Common.{◌≡◌, ℕ, zero, suc, ◌+◌, ◌*◌, ◌/◌, ◌%◌, ◌-◌, ◌<◌, ◌≤◌, List, [], ◌∷◌, ◌++◌, length, drop, Option, Some, None, refl, ap, ◌∙◌, sym, subst, arith, append-nil, length-append}
use Rattle.std.specs.Prelude.{sum}
use Rattle.std.specs.Option.{ForSome}
use Rattle.std.specs.List.{concat}
use Rattle.std.proofs.lemmas.List.{length-drop, drop-drop, drop-append-le, take_all, take-append-le, map-append, length-map}
use Rattle.std.proofs.lemmas.List.Folds.{concat-append}
use Rattle.std.proofs.lemmas.List.Sums.{sum_by_push}
use Rattle.std.proofs.Math.Nat.{div-add-mod, mod-lt, mul-add-div, mul-add-mod_self_left, mul-le-mul_left, mul_comm}
use Rattle.circular_buffer.specs.Buffer.{keep_last}
use Rattle.gmp_rule.specs.DataRule.{data_count}
use Rattle.jc_codec.specs.Message.{says}
use Rattle.cnd_codec.specs.Remainder.{says_cnd}
use Rattle.tributary_model.specs.Places.{Tributary}
use Rattle.tributary_model.specs.Carries.{sent, cm_in, cnd_in, cm_before, former_of}
use Rattle.tributary_model.specs.Puts.{lengths_of, message_put}
use Rattle.tributary_model.proofs.Totals.{groups_next}
use Rattle.tributary_model.proofs.PutCarries.{sent_inside}
use Rattle.otn_base.specs.LineSlots.{slots_of}
use Rattle.tributary_model.proofs.OnLine.{evenly}
use Rattle.trib_source.specs.Backlog.{BacklogView}
use Rattle.trib_source.specs.Source.{Source, IsSource, AreLeft, StandsAfter, said_cm}
use Rattle.trib_source.proofs.Counts.{count_low}

-- ---- the bytes that are kept

-- so many frames have no more groups than a multiframe
pub frames_low : (line w n : ℕ) → line * w ≡ 3808 → n ≤ line → 4 * w * n ≤ 15232
frames_low line w n even low =
    let wide : w * n ≤ w * line = mul-le-mul_left w low in
    let turned = mul_comm w line in
    let one : 4 * w * n ≡ 4 * (w * n) = omega arith in
    omega arith

-- the turn's groups that were not put are at most all of them
put_low : (s : Source) (backlog : BacklogView) (scratch stored : ℕ) → IsSource s backlog scratch stored → length s.slots.list * data_count s.cm s.asked ≤ length s.slots.list * s.cm
put_low s backlog scratch stored h =
    let most = frames_low (slots_of s.slots.kind) (3808 / slots_of s.slots.kind) s.filled (evenly s.slots.kind) h.filled_high in
    let asked = h.asked_is in
    mul-le-mul_left (length s.slots.list) (count_low s.cm s.asked h.cm_high (omega arith))

-- so behind them are the bytes of the last turn's groups and those over
kept_long : (s : Source) (backlog : BacklogView) (scratch stored : ℕ) → IsSource s backlog scratch stored
    → length (keep_last (length s.slots.list * said_cm s.said + s.cnd) s.left) ≡ length s.slots.list * said_cm s.said + s.cnd
kept_long s backlog scratch stored h =
    let low = put_low s backlog scratch stored h in
    let is = h.left_is in
    let long = length-drop (length s.left - (length s.slots.list * said_cm s.said + s.cnd)) s.left in
    omega arith

said_low : (said : Option ℕ) → ForSome said (λ n. n ≤ 15232) → said_cm said ≤ 15232
said_low None h = omega arith
said_low (Some n) h = h n refl

-- ---- what holds of it

-- the source with a turn of these bytes more, for m slots
abbrev pub begun : (s : Source) (m : ℕ) (bytes : List ℕ) → Source
begun s m bytes = record {
  slots = s.slots;
  said = Some ((s.cnd + length bytes) / m);
  cm = said_cm s.said;
  asked = 0;
  left = keep_last (m * said_cm s.said + s.cnd) s.left ++ bytes;
  cnd = (s.cnd + length bytes) % m;
  message = says s.said ((s.cnd + length bytes) / m) ++ says_cnd ((s.cnd + length bytes) % m);
  filled = 0;
}

pub is_begun : (s : Source) (backlog now : BacklogView) (scratch stored m : ℕ) (bytes : List ℕ) → IsSource s backlog scratch stored → m ≡ length s.slots.list
    → (s.cnd + length bytes) / length s.slots.list ≤ 15232 → now.newest ≡ length bytes → now.slots ≡ backlog.slots → IsSource (begun s m bytes) now scratch (said_cm s.said)
is_begun s backlog now scratch stored m bytes h many fits newest slots =
    let some : 0 < length s.slots.list = (let low = h.cnd_high in omega arith) in
    let over = h.cnd_high in
    let low = said_low s.said h.said_high in
    let kept = kept_long s backlog scratch stored h in
    let long : length (keep_last (length s.slots.list * said_cm s.said + s.cnd) s.left ++ bytes) ≡ length s.slots.list * said_cm s.said + s.cnd + length bytes =
    length-append (keep_last (length s.slots.list * said_cm s.said + s.cnd) s.left) bytes ∙ ap (λ k. k + length bytes) kept in
    let split : length s.slots.list * ((s.cnd + length bytes) / length s.slots.list) + (s.cnd + length bytes) % length s.slots.list ≡ s.cnd + length bytes = div-add-mod (s.cnd + length bytes) (length s.slots.list) in
    let nothing_out : length s.slots.list * data_count (said_cm s.said) 0 ≡ 0 = omega arith in
    subst (λ k. IsSource (begun s k bytes) now scratch (said_cm s.said)) (sym many) (record {
      list = h.list;
      said_high = λ x e. (let same : (s.cnd + length bytes) / length s.slots.list ≡ x = ap said_cm e in omega arith);
      cm_high = low;
      filled_high = omega arith;
      asked_is = omega arith;
      cnd_high = mod-lt (s.cnd + length bytes) some;
      left_is = omega arith;
      slots_are = slots ∙ h.slots_are;
      newest_low = omega arith;
      newest_high = omega arith;
      scratch_is = h.scratch_is;
      kept_is = refl;
    })

-- ---- the totals with one turn more

lengths_more : (turns : List (List ℕ)) (bytes : List ℕ) → lengths_of (turns ++ bytes ∷ []) ≡ lengths_of turns ++ length bytes ∷ []
lengths_more turns bytes = map-append length turns (bytes ∷ [])

sent_same : (p : List ℕ) (b i : ℕ) → i ≤ length p → sent (p ++ b ∷ []) i ≡ sent p i
sent_same p b i h = ap (λ xs. sum xs) (take-append-le i p (b ∷ []) h)

sent_last : (p : List ℕ) (b n : ℕ) → n ≡ length p → sent (p ++ b ∷ []) (n + 1) ≡ sent p n + b
sent_last p b n e =
    let long = length-append p (b ∷ []) in
    ap (λ xs. sum xs) (take_all (n + 1) (p ++ b ∷ []) (omega arith))
    ∙ sum_by_push (λ k. k) p b
    ∙ ap (λ xs. sum xs + b) (sym (take_all n p (omega arith)))

-- the whole groups that a turn completes, by the bytes over of the turn before it alone: so its number fits where this
-- does
pub next_number : (m a b : ℕ) → 0 < m → (a % m + b) / m ≡ (a + b) / m - a / m
next_number m a b h =
    let split : m * (a / m) + a % m ≡ a = div-add-mod a m in
    let whole : (m * (a / m) + (a % m + b)) / m ≡ a / m + (a % m + b) / m = mul-add-div h (a / m) (a % m + b) in
    let same : (a + b) / m ≡ (m * (a / m) + (a % m + b)) / m = ap (λ k. k / m) (let e : a + b ≡ m * (a / m) + (a % m + b) = omega arith in e) in
    omega arith

next_rest : (m a b : ℕ) → (a % m + b) % m ≡ (a + b) % m
next_rest m a b =
    let split : m * (a / m) + a % m ≡ a = div-add-mod a m in
    sym (mul-add-mod_self_left m (a / m) (a % m + b)) ∙ ap (λ k. k % m) (let e : m * (a / m) + (a % m + b) ≡ a + b = omega arith in e)

-- the number before, and the former one
former_same : (m : ℕ) (p : List ℕ) (b n : ℕ) → n ≤ length p → former_of m (p ++ b ∷ []) n ≡ former_of m p n
former_same m p b zero h = refl
former_same m p b (suc i) h =
    ap (λ x. Some (x / m - sent (p ++ b ∷ []) i / m)) (sent_same p b (i + 1) (omega arith)) ∙ ap (λ x. Some (sent p (i + 1) / m - x / m)) (sent_same p b i (omega arith))

before_is : (m : ℕ) (p : List ℕ) (n : ℕ) → said_cm (former_of m p n) ≡ cm_before m p n
before_is m p zero = refl
before_is m p (suc i) = refl

-- the whole groups up to a turn
groups_at : (m : ℕ) (p : List ℕ) (t : ℕ) → 0 < m → t ≤ length p → sent p (t - 1) / m + cm_before m p t ≡ sent p t / m
groups_at m p zero h l = omega arith
groups_at m p (suc t) h l =
    ap (λ k. sent p k / m + cm_in m p t) (let e : suc t - 1 ≡ t = omega arith in e)
    ∙ groups_next m p t h (omega arith)
    ∙ ap (λ k. sent p k / m) (let e : t + 1 ≡ suc t = omega arith in e)

-- ---- the bytes that are left

left_begun : (s : Source) (backlog : BacklogView) (scratch stored : ℕ) (p bytes all : List ℕ) (t : ℕ) → IsSource s backlog scratch stored → t ≤ length p → s.cm ≡ cm_before (length s.slots.list) p t
    → AreLeft (length s.slots.list) s.cm (sent p (t - 1) / length s.slots.list) all s.asked s.left → sent p t ≤ length all
    → keep_last (length s.slots.list * said_cm s.said + s.cnd) s.left ++ bytes ≡ drop (length s.slots.list * (sent p t / length s.slots.list)) (all ++ bytes)
left_begun s backlog scratch stored p bytes all t h short cm left enough =
    let m = length s.slots.list in
    let some : 0 < m = (let low = h.cnd_high in omega arith) in
    let k = m * said_cm s.said + s.cnd in
    let q = sent p (t - 1) / m in
    let d = data_count s.cm s.asked in
    let is = h.left_is in
    let low = put_low s backlog scratch stored h in
    let groups : q + s.cm ≡ sent p t / m = ap (λ k. q + k) cm ∙ groups_at m p t some short in
    let wide : m * (q + s.cm) ≡ m * (sent p t / m) = ap (λ k. m * k) groups in
    let place : m * (q + d) + (length s.left - k) ≡ m * (sent p t / m) = omega arith in
    let split = div-add-mod (sent p t) m in
    let out : keep_last k s.left ≡ drop (m * (sent p t / m)) all =
    ap (drop (length s.left - k)) left ∙ drop-drop (length s.left - k) (m * (q + d)) all ∙ ap (λ n. drop n all) place in
    ap (λ y. y ++ bytes) out ∙ sym (drop-append-le (m * (sent p t / m)) all bytes (omega arith))

-- ---- how it stands

stands_of : (own : Tributary) (turns : List (List ℕ)) (filled : ℕ) (s : Source) (backlog : BacklogView) (scratch stored : ℕ) (bytes : List ℕ)
    → IsSource s backlog scratch stored → StandsAfter own turns filled s → StandsAfter own (turns ++ bytes ∷ []) 0 (begun s (length own.slots) bytes)
unfolding message_put
stands_of own turns filled s backlog scratch stored bytes h stands =
    let M = length own.slots in
    let p = lengths_of turns in
    let n = length turns in
    let b = length bytes in
    let new = turns ++ bytes ∷ [] in
    let some : 0 < M = stands.slots.taken in
    let long : n ≡ length p = sym (length-map turns length) in
    let lengths = lengths_more turns bytes in
    let turn : length new ≡ suc n = length-append turns (bytes ∷ []) ∙ omega arith in
    let last : length new - 1 ≡ n = omega arith in
    let before : sent (p ++ b ∷ []) n ≡ sent p n = sent_same p b n (omega arith) in
    let now : sent (p ++ b ∷ []) (n + 1) ≡ sent p n + b = sent_last p b n long in
    let next : (s.cnd + b) / M ≡ cm_in M (p ++ b ∷ []) n =
    ap (λ k. (k + b) / M) stands.cnd ∙ next_number M (sent p n) b some ∙ ap (λ x. x / M - sent p n / M) (sym now) ∙ ap (λ x. sent (p ++ b ∷ []) (n + 1) / M - x / M) (sym before) in
    let cnd : (s.cnd + b) % M ≡ cnd_in M (p ++ b ∷ []) n = ap (λ k. (k + b) % M) stands.cnd ∙ next_rest M (sent p n) b ∙ ap (λ x. x % M) (sym now) in
    let former : s.said ≡ former_of M (p ++ b ∷ []) n = stands.said ∙ sym (former_same M p b n (omega arith)) in
    let slots : length s.slots.list ≡ M = ap (λ (o : Tributary). length o.slots) (sym stands.own_is) in
    record {
      own_is = stands.own_is;
      slots = stands.slots;
      filled_is = refl;
      said = ap (λ k. Some k) next ∙ ap (λ q. Some (cm_in M q n)) (sym lengths) ∙ ap (former_of M (lengths_of new)) (sym turn);
      cm = ap said_cm former ∙ before_is M (p ++ b ∷ []) n ∙ ap (λ q. cm_before M q n) (sym lengths) ∙ ap (cm_before M (lengths_of new)) (sym last);
      cnd = cnd ∙ ap (λ k. sent (p ++ b ∷ []) k % M) (let e : n + 1 ≡ length new = omega arith in e) ∙ ap (λ q. sent q (length new) % M) (sym lengths);
      left =
          ap (λ k. keep_last (k * said_cm s.said + s.cnd) s.left ++ bytes) (sym slots)
          ∙ left_begun s backlog scratch stored p bytes (concat turns) (n - 1) h (omega arith)
          (stands.cm ∙ ap (λ k. cm_before k p (n - 1)) (sym slots))
          (subst (λ k. AreLeft k s.cm (sent p (n - 1 - 1) / k) (concat turns) s.asked s.left) (sym slots) stands.left) (sent_inside turns (n - 1))
          ∙ ap (λ k. drop (k * (sent p (n - 1) / k)) (concat turns ++ bytes)) slots
          ∙ ap (λ x. drop (M * (x / M)) (concat turns ++ bytes)) (sym (sent_same p b (n - 1) (omega arith)))
          ∙ ap (λ q. drop (M * (sent q (n - 1) / M)) (concat turns ++ bytes)) (sym lengths)
          ∙ ap (λ k. drop (M * (sent (lengths_of new) (k - 1) / M)) (concat turns ++ bytes)) (sym last)
          ∙ ap (λ k. drop (M * k) (concat turns ++ bytes)) (let e : sent (lengths_of new) (length new - 1 - 1) / M ≡ sent (lengths_of new) (length new - 1 - 1) / M + data_count (said_cm s.said) 0 = omega arith in e)
          ∙ ap (drop (M * (sent (lengths_of new) (length new - 1 - 1) / M + data_count (said_cm s.said) 0))) (ap (λ y. concat turns ++ y) (sym (append-nil bytes)) ∙ sym (concat-append turns (bytes ∷ [])));
      message = λ more.
          ap (λ o. says o ((s.cnd + b) / M) ++ says_cnd ((s.cnd + b) % M)) former
          ∙ ap (λ k. says (former_of M (p ++ b ∷ []) n) k ++ says_cnd ((s.cnd + b) % M)) next
          ∙ ap (λ k. says (former_of M (p ++ b ∷ []) n) (cm_in M (p ++ b ∷ []) n) ++ says_cnd k) cnd
          ∙ ap (λ q. says (former_of M q n) (cm_in M q n) ++ says_cnd (cnd_in M q n)) (sym lengths)
          ∙ ap (message_put M new) (sym last);
    }

pub stands_begun : (own : Tributary) (turns : List (List ℕ)) (filled : ℕ) (s : Source) (backlog : BacklogView) (scratch stored m : ℕ) (bytes : List ℕ)
    → IsSource s backlog scratch stored → m ≡ length s.slots.list → StandsAfter own turns filled s → StandsAfter own (turns ++ bytes ∷ []) 0 (begun s m bytes)
stands_begun own turns filled s backlog scratch stored m bytes h many stands =
    subst (λ k. StandsAfter own (turns ++ bytes ∷ []) 0 (begun s k bytes)) (sym (many ∙ ap (λ (o : Tributary). length o.slots) (sym stands.own_is)))
    (stands_of own turns filled s backlog scratch stored bytes h stands)
