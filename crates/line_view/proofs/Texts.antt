-- The text of a view, as it is written.
use Rattle.std.proofs.Common.{◌≡◌, ◌<◌, ◌≤◌, ◌+◌, ◌∙◌, ℕ, zero, suc, Bool, true, false, List, [], ◌∷◌, ◌++◌, Some, length, take, drop, get_or, slice_get, refl, sym, ap, subst, arith, append-nil, length-append, add-one}
use Rattle.std.specs.Prelude.{map, nat_lt, ◌&&◌, if◌then◌else◌}
use Rattle.std.specs.List.{flat_map, range_with_len}
use Rattle.std.proofs.Math.Seq.{take-append-add, take-length}
use Rattle.std.proofs.lemmas.Grind.{flat_map-append}
use Rattle.std.proofs.lemmas.List.{take-append-drop, take-append-le}
use Rattle.std.proofs.lemmas.Option.{same_Some, slice_get_read, slice_get_within}
use Rattle.port_base.proofs.PortLaws.{sink_got_none, sink_got_twice}
use Rattle.port_base.specs.Bytes.{HasFailed}
use Rattle.port_base.specs.PortViews.{SinkGot, SinkView, SinkWrites}
use Rattle.port_base.specs.declared.drain.Written.{Written}
use Rattle.port_base.specs.declared.drain.Written.TheVariants as written
use Rattle.line_side.specs.LineForm.{LineForm}
use Rattle.line_view.specs.Steps.ViewRuns.{lines_of, watched_line}
use Rattle.line_view.specs.ViewText.{is_shown, msi_at_turn, msi_line, seen_at, showing_text, told_at, turn_line, tributary_line, turn_text}
use Rattle.line_view.specs.Steps.Watching.{begun, own_of, showing_of}
use Rattle.line_view.specs.declared.told.TurnSeen.{TurnSeen}
use Rattle.line_view.specs.declared.watched.Watched.{Watched}

-- ---- writes one after another

pub writes_none : (port : SinkView) → SinkWrites written.Whole port [] port
writes_none port = (sink_got_none port, refl)

-- all of these bytes, and then all or a part of those
pub writes_twice : (result : Written) (first was is : SinkView) (xs ys : List ℕ) → SinkWrites written.Whole first xs was → SinkWrites result was ys is → SinkWrites result first (xs ++ ys) is
writes_twice written.Whole first was is xs ys h k = (sink_got_twice first was is xs ys h.0 k.0, k.1 ∙ h.1)
writes_twice written.Lost first was is xs ys h (n, less, got, failed) =
    let part : take (length xs + n) (xs ++ ys) ≡ xs ++ take n ys = take-append-add xs ys n in (
      length xs + n,
      (let long = length-append xs ys in omega (arith, less, long)),
      subst (λ t. SinkGot first t is) (sym part) (sink_got_twice first was is xs (take n ys) h.0 got),
      subst (λ f. HasFailed f is.faults) h.1 failed,
    )

-- a part of these bytes is a part of more
pub part_of_more : (first is : SinkView) (xs ys : List ℕ) → SinkWrites written.Lost first xs is → SinkWrites written.Lost first (xs ++ ys) is
part_of_more first is xs ys (n, less, got, failed) =
    let part : take n (xs ++ ys) ≡ take n xs = take-append-le n xs ys (omega (arith, less)) in (
      n,
      (let long = length-append xs ys in omega (arith, less, long)),
      subst (λ t. SinkGot first t is) (sym part) got,
      failed,
    )

-- ---- the lines of tributaries

take_on : {A : Type 0} (xs : List A) (i : ℕ) (x : A) → slice_get xs i ≡ Some x → take (i + 1) xs ≡ take i xs ++ x ∷ []
take_on [] i x known = absurd (let less = slice_get_within [] i x known in omega arith)
take_on (y ∷ xs) zero x known = ap (λ z. z ∷ []) (same_Some y x known)
take_on (y ∷ xs) (suc i) x known = ap (λ n. take n (y ∷ xs)) (let e : suc i + 1 ≡ suc (i + 1) = omega arith in e) ∙ ap (λ t. y ∷ t) (take_on xs i x known)

pub flat_on : {A : Type 0} (f : A → List ℕ) (xs : List A) (i : ℕ) (x : A) → slice_get xs i ≡ Some x → flat_map f (take (i + 1) xs) ≡ flat_map f (take i xs) ++ f x
flat_on f xs i x known =
    ap (flat_map f) (take_on xs i x known) ∙ flat_map-append f (take i xs) (x ∷ []) ∙ ap (λ t. flat_map f (take i xs) ++ t) (append-nil (f x))

-- all, where no more are left
pub flat_all : {A : Type 0} (f : A → List ℕ) (xs : List A) (i : ℕ) → length xs ≤ i → i ≤ length xs → flat_map f (take i xs) ≡ flat_map f xs
flat_all f xs i most least = ap (flat_map f) (ap (λ n. take n xs) (let e : i ≡ length xs = omega arith in e) ∙ take-length xs)

-- those of the first ones, the next, and the others
pub flat_parts : {A : Type 0} (f : A → List ℕ) (xs : List A) (i : ℕ) (x : A) → slice_get xs i ≡ Some x
    → flat_map f xs ≡ (flat_map f (take i xs) ++ f x) ++ flat_map f (drop (i + 1) xs)
flat_parts f xs i x known =
    ap (flat_map f) (sym (take-append-drop (i + 1) xs)) ∙ flat_map-append f (take (i + 1) xs) (drop (i + 1) xs)
    ∙ ap (λ t. t ++ flat_map f (drop (i + 1) xs)) (flat_on f xs i x known)

pub known_item : {A : Type 0} (xs : List A) (i : ℕ) (item : A) → i < length xs → item ≡ get_or xs i item → slice_get xs i ≡ Some item
known_item xs i item less is = slice_get_read xs (length xs) i item refl less is

-- ---- the lines of a turn

-- that of one tributary
one_line : (available : List ℕ) (t : ℕ) (one : Watched) → (begun one t ≡ true → one.told ≡ told_at (own_of one) one.first available t) → one.port ≡ one.sink.port
    → watched_line t one ≡ showing_text available t (showing_of one)
one_line available t one told port = by_turn (begun one t) refl
  where
    by_turn : (b : Bool) → begun one t ≡ b → watched_line t one ≡ showing_text available t (showing_of one)
    by_turn true on =
        ap (λ p. if is_shown (showing_of one) t then tributary_line one.name.bytes p one.sink.slots.list one.told else []) port
        ∙ ap (λ x. if is_shown (showing_of one) t then tributary_line one.name.bytes one.sink.port one.sink.slots.list x else []) (told on)
    by_turn false off =
        let none : is_shown (showing_of one) t ≡ false = ap (λ b. b && nat_lt t one.stop) off in
        ap (λ b. if b then tributary_line one.name.bytes one.port one.sink.slots.list one.told else []) none
        ∙ sym (ap (λ b. if b then tributary_line one.name.bytes one.sink.port one.sink.slots.list (told_at (own_of one) one.first available t) else []) none)

each_line : (available : List ℕ) (t : ℕ) (watched : List Watched)
    → ((i : ℕ) (one : Watched) → slice_get watched i ≡ Some one → begun one t ≡ true → one.told ≡ told_at (own_of one) one.first available t)
    → ((i : ℕ) (one : Watched) → slice_get watched i ≡ Some one → one.port ≡ one.sink.port)
    → flat_map (watched_line t) watched ≡ flat_map (showing_text available t) (map showing_of watched)
each_line available t [] told ports = refl
each_line available t (one ∷ watched) told ports =
    ap (λ xs. xs ++ flat_map (watched_line t) watched) (one_line available t one (told 0 one refl) (ports 0 one refl))
    ∙ ap (λ xs. showing_text available t (showing_of one) ++ xs) (each_line available t watched (λ i x at. told (suc i) x at) (λ i x at. ports (suc i) x at))

-- they are what the definition says
pub lines_are : (form : LineForm) (available : List ℕ) (t : ℕ) (watched : List Watched) (seen : TurnSeen) (msi : List (ℕ × ℕ)) → seen ≡ seen_at form available t → msi ≡ msi_at_turn form available t
    → ((i : ℕ) (one : Watched) → slice_get watched i ≡ Some one → begun one t ≡ true → one.told ≡ told_at (own_of one) one.first available t)
    → ((i : ℕ) (one : Watched) → slice_get watched i ≡ Some one → one.port ≡ one.sink.port)
    → lines_of t seen msi watched ≡ turn_text form (map showing_of watched) available t
unfolding lines_of turn_text
lines_are form available t watched seen msi same further told ports =
    ap (λ s. turn_line (t + 1) s ++ (flat_map msi_line msi ++ flat_map (watched_line t) watched)) same
    ∙ ap (λ m. turn_line (t + 1) (seen_at form available t) ++ (flat_map msi_line m ++ flat_map (watched_line t) watched)) further
    ∙ ap (λ xs. turn_line (t + 1) (seen_at form available t) ++ (flat_map msi_line (msi_at_turn form available t) ++ xs)) (each_line available t watched told ports)

-- ---- turns one after another

range-more : (a n : ℕ) → range_with_len a (suc n) ≡ range_with_len a n ++ (a + n) ∷ []
range-more a zero = ap (λ x. x ∷ []) (omega arith)
range-more a (suc n) =
    let next : a + 1 + n ≡ a + suc n = omega arith in
    ap (λ xs. a ∷ xs) (range-more (a + 1) n ∙ ap (λ x. range_with_len (a + 1) n ++ x ∷ []) next)

pub turns-more : (f : ℕ → List ℕ) (n : ℕ) → flat_map f (range_with_len 0 (n + 1)) ≡ flat_map f (range_with_len 0 n) ++ f n
turns-more f n =
    let last : 0 + n ≡ n = omega arith in
    ap (λ k. flat_map f (range_with_len 0 k)) (add-one n) ∙ ap (flat_map f) (range-more 0 n)
    ∙ flat_map-append f (range_with_len 0 n) ((0 + n) ∷ []) ∙ ap (λ xs. flat_map f (range_with_len 0 n) ++ xs) (append-nil (f (0 + n)))
    ∙ ap (λ k. flat_map f (range_with_len 0 n) ++ f k) last
