-- Lists of channels, one by one, and parts of lists.
use Rattle.std.proofs.Common.{◌≡◌, ◌≢◌, ◌⊎◌, inl, inr, ◌<◌, ◌≤◌, ◌+◌, ◌-◌, ℕ, zero, suc, Bool, true, false, List, [], ◌∷◌, ◌++◌, Some, length, take, drop, get_or, refl, sym, ap, subst, ◌∙◌, append-nil, append_assoc, length-append, length-drop, add-one, arith, slice_get, slice_range}
use Rattle.std.proofs.Math.Seq.{take-append-add, take-append_seam, take-length}
use Rattle.std.proofs.lemmas.List.{drop-drop, length-take-le, take-append-drop, take-append-le}
use Rattle.std.proofs.lemmas.Bool.Decides.{eqb_tells}
use Rattle.std.proofs.lemmas.Option.{same_Some, slice_get_read, slice_get_within}
use Rattle.port_base.proofs.PortLaws.{sink_got_none, sink_got_twice}
use Rattle.port_base.specs.Bytes.{HasFailed}
use Rattle.port_base.specs.PortViews.{SinkGot, SinkView, SinkWrites}
use Rattle.port_base.specs.Views.{is_dead, InView, BaysView, client_in_at}
use Rattle.port_base.specs.declared.drain.Written.TheVariants as written
use Rattle.bundle_command.specs.Steps.Channels.{AreFresh, ChannelStands, HasChannel}
use Rattle.bundle_command.specs.Steps.Settled.{AllEnded, DeadClients, line_of, lines_of}
use Rattle.bundle_command.specs.declared.channel.Channel.{Channel}
use Rattle.bundle_command.specs.declared.channel.Standing.TheVariants as standing

-- what holds of the channels before one and of it holds of one more
pub one_more : (P : ℕ → Channel → Type 0) (channels : List Channel) (i : ℕ) (item : Channel) → HasChannel channels i item → P i item
    → ((k : ℕ) (channel : Channel) → k < i → HasChannel channels k channel → P k channel) → (k : ℕ) (channel : Channel) → k < i + 1 → HasChannel channels k channel → P k channel
one_more P channels i item known h before k channel less at = elim (eqb_tells k i) [
  | inl t ↦
      let same : item ≡ channel = same_Some item channel (sym known ∙ ap (slice_get channels) (sym t.1) ∙ at) in
      subst (λ j. P j channel) (sym t.1) (subst (P i) same h)
  | inr t ↦ let d = t.1 in before k channel (omega (arith, d, less)) at
]

pub known_item : (channels : List Channel) (i : ℕ) (item : Channel) → i < length channels → item ≡ get_or channels i item → HasChannel channels i item
known_item channels i item less is = slice_get_read channels (length channels) i item refl less is

pub all_ended : (channels : List Channel) (i : ℕ) → length channels ≤ i → ((k : ℕ) (channel : Channel) → k < i → HasChannel channels k channel → channel.standing ≡ standing.Ended) → AllEnded channels true
all_ended channels i most before = record {
  all = λ e k channel at. before k channel (let within = slice_get_within channels k channel at in omega (arith, within, most)) at;
  some = λ e. absurd (cc);
}

pub some_open : (channels : List Channel) (i : ℕ) (item : Channel) → HasChannel channels i item → item.standing ≢ standing.Ended → AllEnded channels false
some_open channels i item known other = record { all = λ e. absurd (cc); some = λ e. (i, item, known, other) }

pub none_dead : (channels : List Channel) (bays : BaysView) (i : ℕ) → length channels ≤ i
    → ((k : ℕ) (channel : Channel) → k < i → HasChannel channels k channel → is_dead (client_in_at bays channel.client).state ≡ false) → DeadClients channels bays false
none_dead channels bays i most before = record {
  some = λ e. absurd (cc);
  none = λ e k channel at. before k channel (let within = slice_get_within channels k channel at in omega (arith, within, most)) at;
}

pub some_dead : (channels : List Channel) (bays : BaysView) (i : ℕ) (item : Channel) → HasChannel channels i item → is_dead (client_in_at bays item.client).state ≡ true → DeadClients channels bays true
some_dead channels bays i item known dead = record { some = λ e. (i, item, known, dead); none = λ e. absurd (cc) }

-- ---- the lines of the report

lines-append : (xs ys : List Channel) (bays : BaysView) → lines_of (xs ++ ys) bays ≡ lines_of xs bays ++ lines_of ys bays
unfolding lines_of
lines-append [] ys bays = refl
lines-append (x ∷ xs) ys bays = ap (λ t. line_of x bays ++ t) (lines-append xs ys bays) ∙ sym (append_assoc (line_of x bays) (lines_of xs bays) (lines_of ys bays))

take_on : (xs : List Channel) (i : ℕ) (x : Channel) → slice_get xs i ≡ Some x → take (i + 1) xs ≡ take i xs ++ x ∷ []
take_on [] i x known = absurd (let less = slice_get_within [] i x known in omega arith)
take_on (y ∷ xs) zero x known = ap (λ z. z ∷ []) (same_Some y x known)
take_on (y ∷ xs) (suc i) x known = ap (λ n. take n (y ∷ xs)) (let e : suc i + 1 ≡ suc (i + 1) = omega arith in e) ∙ ap (λ t. y ∷ t) (take_on xs i x known)

one_line : (x : Channel) (bays : BaysView) → lines_of (x ∷ []) bays ≡ line_of x bays
unfolding lines_of
one_line x bays = append-nil (line_of x bays)

no_lines : (bays : BaysView) → lines_of [] bays ≡ []
unfolding lines_of
no_lines bays = refl

pub lines_on : (xs : List Channel) (bays : BaysView) (i : ℕ) (x : Channel) → slice_get xs i ≡ Some x → lines_of (take (i + 1) xs) bays ≡ lines_of (take i xs) bays ++ line_of x bays
lines_on xs bays i x known = ap (λ t. lines_of t bays) (take_on xs i x known) ∙ lines-append (take i xs) (x ∷ []) bays ∙ ap (λ t. lines_of (take i xs) bays ++ t) (one_line x bays)

-- the lines of the first channels were written
pub record Wrote (channels : List Channel) (bays : BaysView) (i : ℕ) (first now : SinkView) : Type 0 where
  pub got : SinkGot first (lines_of (take i channels) bays) now
  pub well : now.faults ≡ first.faults

pub wrote_none : (channels : List Channel) (bays : BaysView) (first : SinkView) → Wrote channels bays 0 first first
wrote_none channels bays first = record { got = subst (λ t. SinkGot first t first) (sym (no_lines bays)) (sink_got_none first); well = refl }

pub wrote_one : (channels : List Channel) (bays : BaysView) (i : ℕ) (x : Channel) (first was is : SinkView) → slice_get channels i ≡ Some x → Wrote channels bays i first was → SinkWrites written.Whole was (line_of x bays) is → Wrote channels bays (i + 1) first is
wrote_one channels bays i x first was is known h w = record {
  got = subst (λ t. SinkGot first t is) (sym (lines_on channels bays i x known)) (sink_got_twice first was is (lines_of (take i channels) bays) (line_of x bays) h.got w.0);
  well = w.1 ∙ h.well;
}

pub wrote_all : (channels : List Channel) (bays : BaysView) (i : ℕ) (first now : SinkView) → length channels ≤ i → i ≤ length channels → Wrote channels bays i first now → SinkWrites written.Whole first (lines_of channels bays) now
wrote_all channels bays i first now most least h =
    let all : take i channels ≡ channels = ap (λ n. take n channels) (let e : i ≡ length channels = omega arith in e) ∙ take-length channels in
    (subst (λ cs. SinkGot first (lines_of cs bays) now) all h.got, h.well)

pub wrote_lost : (channels : List Channel) (bays : BaysView) (i : ℕ) (x : Channel) (first was is : SinkView) → slice_get channels i ≡ Some x → Wrote channels bays i first was → SinkWrites written.Lost was (line_of x bays) is
    → SinkWrites written.Lost first (lines_of channels bays) is
wrote_lost channels bays i x first was is known h (m, less, got, failed) =
    let front = lines_of (take i channels) bays in
    let line = line_of x bays in
    let back = lines_of (drop (i + 1) channels) bays in
    let all : lines_of channels bays ≡ front ++ (line ++ back) =
    ap (λ cs. lines_of cs bays) (sym (take-append-drop (i + 1) channels)) ∙ lines-append (take (i + 1) channels) (drop (i + 1) channels) bays ∙ ap (λ t. t ++ back) (lines_on channels bays i x known)
    ∙ append_assoc front line back in
    let part : take (length front + m) (lines_of channels bays) ≡ front ++ take m line =
    ap (take (length front + m)) all ∙ take-append-add front (line ++ back) m ∙ ap (λ t. front ++ t) (take-append-le m line back (omega (arith, less))) in (
      length front + m,
      (let l = ap length all in let a = length-append front (line ++ back) in let b = length-append line back in omega (arith, less)),
      subst (λ t. SinkGot first t is) (sym part) (sink_got_twice first was is front (take m line) h.got got),
      subst (λ n. HasFailed n is.faults) h.well failed,
    )

-- ---- channels that are made one by one

pub record Made (clients : List ℕ) (channels : List Channel) (n : ℕ) : Type 0 where
  pub many : length channels ≡ n
  pub each : (c : ℕ) (channel : Channel) → HasChannel channels c channel
      → ((first : InView) → ChannelStands first first [] [] channel) × (channel.client ≡ get_or clients c 0) × (channel.standing ≡ standing.Fresh)

last_or : (xs : List Channel) (x y : Channel) (i : ℕ) → slice_get (xs ++ x ∷ []) i ≡ Some y → (slice_get xs i ≡ Some y) ⊎ ((i ≡ length xs) × (y ≡ x))
last_or [] x y zero e = inr (refl, sym (same_Some x y e))
last_or [] x y (suc i) e = absurd (let less = slice_get_within [] i y e in omega arith)
last_or (z ∷ zs) x y zero e = inl e
last_or (z ∷ zs) x y (suc i) e = elim (last_or zs x y i e) [
  | inl t ↦ inl t
  | inr t ↦ inr (ap suc t.0, t.1)
]

pub made_none : (clients : List ℕ) → Made clients [] 0
made_none clients = record { many = refl; each = λ c channel known. absurd (let less = slice_get_within [] c channel known in omega arith) }

pub made_one : (clients : List ℕ) (channels : List Channel) (n : ℕ) (x : Channel) → ((first : InView) → ChannelStands first first [] [] x) → x.client ≡ get_or clients n 0 → x.standing ≡ standing.Fresh
    → Made clients channels n → Made clients (channels ++ x ∷ []) (n + 1)
made_one clients channels n x stands client fresh h = record {
  many = (let m = h.many in let l = length-append channels (x ∷ []) in omega arith);
  each = λ c channel known. elim (last_or channels x channel c known) [
    | inl e ↦ h.each c channel e
    | inr e ↦
        let at : c ≡ n = e.0 ∙ h.many in
        subst (λ (ch : Channel). ((first : InView) → ChannelStands first first [] [] ch) × (ch.client ≡ get_or clients c 0) × (ch.standing ≡ standing.Fresh)) (sym e.1)
        (stands, client ∙ ap (λ k. get_or clients k 0) (sym at), fresh)
  ];
}

pub made_all : (clients : List ℕ) (channels : List Channel) (n : ℕ) → length clients ≤ n → n ≤ length clients → Made clients channels n → AreFresh clients channels
made_all clients channels n least most h = record { many = (let m = h.many in omega arith); each = h.each }

-- ---- bytes that are given from the front

pub given_front : (frame bytes into out : List ℕ) (at count n k : ℕ) → bytes ≡ frame → out ≡ take n (drop at bytes) ++ drop k into → n ≡ count → at + count ≤ length frame → drop at frame ≡ take count out ++ drop (at + count) frame
given_front frame bytes into out at count n k same is size fits =
    let front : List ℕ = take count (drop at frame) in
    let long : length front ≡ count = length-take-le count (drop at frame) (let d = length-drop at frame in omega arith) in
    let out_is : out ≡ front ++ drop k into = is ∙ ap (λ b. take n (drop at b) ++ drop k into) same ∙ ap (λ m. take m (drop at frame) ++ drop k into) size in
    let here : take count out ≡ front = ap (take count) out_is ∙ ap (λ m. take m (front ++ drop k into)) (sym long) ∙ take-append_seam front (drop k into) in
    sym (take-append-drop count (drop at frame)) ∙ ap (λ b. b ++ drop count (drop at frame)) (sym here) ∙ ap (λ b. take count out ++ b) (drop-drop count at frame)

-- the first bytes of a buffer that was written whole
pub front_range : (into rest : List ℕ) (len n : ℕ) → length into ≡ len → slice_range (take len (into ++ rest)) 0 n ≡ take n into
front_range into rest len n size =
    let all : n - 0 ≡ n = omega arith in
    let whole : take len (into ++ rest) ≡ into = ap (λ k. take k (into ++ rest)) (sym size) ∙ take-append_seam into rest in
    ap (λ k. take k (take len (into ++ rest))) all ∙ ap (take n) whole
