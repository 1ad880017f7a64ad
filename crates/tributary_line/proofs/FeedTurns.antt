-- The frames of a source on a line, one by one and turn by turn.
use Rattle.std.proofs.Common.{◌≡◌, ◌⊎◌, inl, inr, ◌<◌, ◌≤◌, ◌+◌, ◌-◌, ◌*◌, ◌/◌, ◌%◌, ℕ, zero, suc, List, [], ◌∷◌, ◌++◌, Some, length, take, refl, sym, ap, subst, ◌∙◌, arith}
use Rattle.std.specs.Prelude.{slice_get}
use Rattle.std.proofs.lemmas.List.{length-append, take-append-le, take_all}
use Rattle.std.proofs.lemmas.Nat.{div-mul-add, mod-mul-add}
use Rattle.std.proofs.lemmas.Option.{slice_get_within}
use Rattle.std.proofs.Math.Nat.{div-lt_iff_lt-mul, mul-le-mul_left, mul-add}
use Rattle.std.specs.List.{concat}
use Rattle.port_base.specs.Sent.{IsSent}
use Rattle.port_base.specs.Views.{OutView}
use Rattle.line_side.specs.LineForm.{LineForm, plain_otu2}
use Rattle.line_side.specs.LineOutput.{FramePut, LineMade, LineOutView}
use Rattle.line_side.proofs.Made.{all_due}
use Rattle.tributary_model.specs.Places.{Tributary}
use Rattle.tributary_model.specs.Puts.{IsPut, IsSourcePlace}
use Rattle.trib_source.specs.Source.{Source, StandsAfter}
use Rattle.tributary_line.specs.TributaryFile.{AreItsPorts, IsTributaryFrame, AreTributaryFrames}
use Rattle.tributary_line.specs.FeedTurn.{FeedView, FeedStands}
use Rattle.tributary_line.specs.Steps.FeedTurn.{FeedIn, IsFilled}

-- what a line has made does not speak of the frame to come
made_on : {b : ℕ} {form : LineForm} {first now : OutView} {puts : List FramePut} {line : LineOutView} (frame : List ℕ) → LineMade b form first now puts line
    → LineMade b form first now puts (record line { frame = frame })
made_on frame h = record {
  is_form = h.is_form;
  made = h.made;
  are_frames = h.are_frames;
  due = h.due;
  parts = h.parts;
  over = h.over;
  sent = h.sent;
  frames = h.frames;
  sapi = h.sapi;
  section = h.section;
  path = h.path;
}

-- ---- one frame more

-- an element of a list with one more at its end
last_or : (xs : List FramePut) (x y : FramePut) (i : ℕ) → slice_get (xs ++ x ∷ []) i ≡ Some y → (slice_get xs i ≡ Some y) ⊎ ((i ≡ length xs) × (y ≡ x))
last_or [] x y zero e = inr (refl, cc)
last_or [] x y (suc i) e = cc
last_or (z ∷ zs) x y zero e = inl e
last_or (z ∷ zs) x y (suc i) e = elim (last_or zs x y i e) [
  | inl t ↦ inl t
  | inr t ↦ inr (ap suc t.0, t.1)
]

frame_more : (own : Tributary) (turns : List (List ℕ)) (t n count : ℕ) (puts : List FramePut) (put : FramePut) → own.line_slots ≡ 8 → n < 8 → count ≡ t * 8 + n
    → AreTributaryFrames own turns count puts → IsTributaryFrame own turns t n put → AreTributaryFrames own turns (count + 1) (puts ++ put ∷ [])
frame_more own turns t n count puts put size less is h frame = record {
  many = (let many = h.many in omega (arith, length-append puts (put ∷ [])));
  each = λ f y known. elim (last_or puts put y f known) [
    | inl e ↦ h.each f y e
    | inr e ↦
        let at_f : f ≡ t * 8 + n = (let many = h.many in omega (arith, e.0)) in
        let turn : f / own.line_slots ≡ t = ap (λ m. f / m) size ∙ ap (λ f. f / 8) at_f ∙ div-mul-add t 8 n less in
        let place : f % own.line_slots ≡ n = ap (λ m. f % m) size ∙ ap (λ f. f % 8) at_f ∙ mod-mul-add t 8 n less in
        rw (turn, place, e.1) frame
  ];
}

-- ---- one turn more

turn_more : (own : Tributary) (turns : List (List ℕ)) (bytes : List ℕ) (puts : List FramePut) → own.line_slots ≡ 8 → AreTributaryFrames own turns (8 * length turns) puts
    → AreTributaryFrames own (turns ++ bytes ∷ []) (8 * length turns) puts
turn_more own turns bytes puts size h = record {
  many = h.many;
  each = λ f put known.
      let frame = h.each f put known in
      let inside : f < length turns * 8 = (let within = slice_get_within puts f put known in let many = h.many in omega arith) in
      let less : f / own.line_slots < length turns = ap_less size inside in
      let same : take (f / own.line_slots + 1) (turns ++ bytes ∷ []) ≡ take (f / own.line_slots + 1) turns = take-append-le (f / own.line_slots + 1) turns (bytes ∷ []) (omega arith) in
      record {
        mfas = frame.mfas;
        ports = frame.ports;
        size = frame.size;
        own_bytes = subst (λ ts. IsPut own ts (f / own.line_slots) (f % own.line_slots) put.bytes) (sym same) frame.own_bytes;
        other = frame.other;
      };
}
  where
    ap_less : {m f k : ℕ} → m ≡ 8 → f < k * 8 → f / m < k
    ap_less {m} {f} {k} e l = rw e ((div-lt_iff_lt-mul (let some : 0 < 8 = omega arith in some)).1 l)

pub begins_turn : (own : Tributary) (first now : OutView) (turns : List (List ℕ)) (bytes : List ℕ) (feed : FeedView) (source : Source) → FeedStands own first now turns feed
    → StandsAfter own (turns ++ bytes ∷ []) 0 source → FeedIn own first now (turns ++ bytes ∷ []) 0 (record feed { source = source })
begins_turn own first now turns bytes feed source h stands =
    let has = h.has in
    let long : length (turns ++ bytes ∷ []) ≡ length turns + 1 = length-append turns (bytes ∷ []) in
    let count : 8 * length turns ≡ 8 * (length (turns ++ bytes ∷ []) - 1) + 0 = omega arith in
    record {
      some = omega arith;
      source = stands;
      has = record {
        size = has.size;
        ports = has.ports;
        mfas = has.mfas ∙ ap (λ k. k % 256) count;
        puts = has.puts;
        made = has.made;
        are_put = subst (λ k. AreTributaryFrames own (turns ++ bytes ∷ []) k has.puts) count (turn_more own turns bytes has.puts has.size has.are_put);
      };
    }

-- ---- a frame of a turn

pub frame_goes : (own : Tributary) (first was is : OutView) (turns : List (List ℕ)) (n : ℕ) (old new : FeedView) (frame : List ℕ) → n < 8
    → IsFilled n old.source frame → ((form : LineForm) (puts : List FramePut) → LineMade 0 form first was puts (record old.line { frame = frame })
    → LineMade 0 form first is (puts ++ record { mfas = old.mfas; ports = old.ports; bytes = frame } ∷ []) new.line)
    → new.ports ≡ old.ports → new.mfas ≡ (old.mfas + 1) % 256 → StandsAfter own turns (n + 1) new.source
    → FeedIn own first was turns n old → FeedIn own first is turns (n + 1) new
frame_goes own first was is turns n old new frame less filled makes ports mfas stands h =
    let has = h.has in
    let t = length turns - 1 in
    let some = h.some in
    let whole : take (t + 1) turns ≡ turns = take_all (t + 1) turns (omega arith) in
    let put : FramePut = record { mfas = old.mfas; ports = old.ports; bytes = frame } in
    let own_is = h.source.own_is in
    let of_turn : IsTributaryFrame own turns t n put = record {
      mfas = has.mfas ∙ ap (λ m. (m * t + n) % 256) (sym has.size);
      ports = has.ports;
      size = filled.size;
      own_bytes = subst (λ ts. IsPut own ts t n frame) (sym whole) (filled.put own turns h.source);
      other = λ row column low high left right none. filled.other own.port row column low high (omega arith) (omega arith) (λ o. none (subst (λ (x : Tributary). IsSourcePlace x n row column) (sym own_is) o));
    } in
    let count : 8 * t + n + 1 ≡ 8 * t + (n + 1) = omega arith in
    record {
      some = h.some;
      source = stands;
      has = record {
        size = has.size;
        ports = subst (AreItsPorts own) (sym ports) has.ports;
        mfas = (let before = has.mfas in omega arith);
        puts = has.puts ++ put ∷ [];
        made = makes plain_otu2 has.puts (made_on frame has.made);
        are_put = subst (λ k. AreTributaryFrames own turns k (has.puts ++ put ∷ [])) count
            (frame_more own turns t n (8 * t + n) has.puts put has.size less (omega arith) has.are_put of_turn);
      };
    }

-- all frames of a turn
pub ends_turn : (own : Tributary) (first now : OutView) (turns : List (List ℕ)) (feed : FeedView) → FeedIn own first now turns 8 feed → FeedStands own first now turns feed
ends_turn own first now turns feed h =
    let has = h.has in
    let some = h.some in
    let count : 8 * (length turns - 1) + 8 ≡ 8 * length turns = omega arith in
    record {
      filled = 8;
      source = h.source;
      has = record {
        size = has.size;
        ports = has.ports;
        mfas = has.mfas ∙ ap (λ k. k % 256) count;
        puts = has.puts;
        made = has.made;
        are_put = subst (λ k. AreTributaryFrames own turns k has.puts) count has.are_put;
      };
    }

-- behind whole turns the whole file was due
pub file_sent : (own : Tributary) (first now : OutView) (turns : List (List ℕ)) (feed : FeedView) → (h : FeedStands own first now turns feed) → IsSent first (concat h.has.made.made) now
file_sent own first now turns feed h =
    let has = h.has in
    let whole : length has.puts % 8 ≡ 0 = (let many = has.are_put.many in omega arith) in
    subst (λ due. IsSent first due now) (all_due 0 plain_otu2 first now has.puts feed.line has.made whole) has.made.sent

-- ---- before the first turn

pub feed_begins : (own : Tributary) (feed : FeedView) → own.line_slots ≡ 8 → ((first : OutView) → LineMade 0 plain_otu2 first first [] feed.line)
    → StandsAfter own [] 0 feed.source → AreItsPorts own feed.ports → feed.mfas ≡ 0 → (first : OutView) → FeedStands own first first [] feed
feed_begins own feed size line source ports mfas first = record {
  filled = 0;
  source = source;
  has = record {
    size = size;
    ports = ports;
    mfas = mfas;
    puts = [];
    made = line first;
    are_put = record { many = refl; each = λ f put known. absurd (cc) };
  };
}

-- ---- how many bytes a turn takes

pub all_taken : (m before more room rest : ℕ) → room + rest + 1 ≡ m * 15233 → rest ≡ before % m → (before + more) / m ≤ before / m + 15232 → more ≤ room
all_taken m before more room rest e over few =
    let some : 0 < m = omega arith in
    let step : m * ((before + more) / m) ≤ m * (before / m + 15232) = mul-le-mul_left m few in
    let split : m * (before / m + 15232) ≡ m * (before / m) + m * 15232 = mul-add m (before / m) 15232 in
    omega arith
