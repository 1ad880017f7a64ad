-- Runs of payload bytes, as frames and breaks come, and what arrives on channels in them.
use Rattle.std.proofs.Common.{◌≡◌, ℕ, ◌+◌, ◌-◌, ◌<◌, ◌≤◌, List, [], ◌∷◌, ◌++◌, length, take, drop, arith, refl, sym, ap, subst, ◌∙◌, append_assoc, append-nil, length-drop}
use Rattle.std.specs.Prelude.{flat_map}
use Rattle.std.proofs.lemmas.Grind.{flat_map-append}
use Rattle.std.proofs.lemmas.List.{take_rest}
use Rattle.std.proofs.Math.Seq.{take-add, take-length}
use Rattle.frame_geometry.specs.Places.{payload_row_of}
use Rattle.gfp_frames.specs.Delivered.{plain_areas}
use Rattle.gfp_frames.specs.Delineation.{sync_areas, hunting}
use Rattle.gfp_frames.specs.Reader.{ReaderState, HasRead}
use Rattle.gfp_linear.specs.ChannelArrivals.{ChannelArrival, channel_arrivals}
use Rattle.odu_client.proofs.PuttingOut.{handed_behind, broken_behind}
use Rattle.odu_client.specs.AlignedRuns.{Arrival, Handed, Broken, searching, arrivals, payload_of, with_payload, runs_of}
use Rattle.odu_client.specs.Aligner.{AlignerState, HasAligned, news, AlignsBy}
use Rattle.odu_client.specs.declared.aligned.Aligned.{Aligned}
use Rattle.port_base.specs.Views.{BaysView}
use Rattle.unbundle_command.specs.Unbundled.{client_arrivals}
use Rattle.unbundle_command.specs.Receiving.{OutputsView}
use Rattle.unbundle_command.specs.Steps.Receiving.{OutputsStand, last_run, RunRead, AllRead, HoldsAfter}

-- all runs but the last
abbrev pub front_runs : List (List ℕ) → List (List ℕ)
front_runs [] = []
front_runs (run ∷ []) = []
front_runs (run ∷ next ∷ runs) = run ∷ front_runs (next ∷ runs)

-- there is a run always
record SomeRun (runs : List (List ℕ)) : Type 0 where
  first : List ℕ
  rest : List (List ℕ)
  parts : runs ≡ first ∷ rest

some_run : (xs : List Arrival) → SomeRun (runs_of xs)
unfolding runs_of
some_run [] = record { first = []; rest = []; parts = refl }
some_run (Handed frame ∷ xs) = let s = some_run xs in record { first = payload_of frame ++ s.first; rest = s.rest; parts = ap (with_payload (payload_of frame)) s.parts }
some_run (Broken ∷ xs) = record { first = []; rest = runs_of xs; parts = refl }

with_last : (run : List ℕ) (runs : List (List ℕ)) → run ∷ runs ≡ front_runs (run ∷ runs) ++ last_run (run ∷ runs) ∷ []
with_last run [] = refl
with_last run (next ∷ runs) = ap (λ rs. run ∷ rs) (with_last next runs)

-- the runs before the open one, and the open one
abbrev pub before : List Arrival → List (List ℕ)
before xs = front_runs (runs_of xs)

abbrev pub open_run : List Arrival → List ℕ
open_run xs = last_run (runs_of xs)

runs-same : (xs : List Arrival) → runs_of xs ≡ before xs ++ open_run xs ∷ []
runs-same xs = let s = some_run xs in rw s.parts (with_last s.first s.rest)

runs-handed : (xs : List Arrival) (frame : List ℕ) → runs_of (xs ++ Handed frame ∷ []) ≡ before xs ++ (open_run xs ++ payload_of frame) ∷ []
runs-handed xs frame = handed_behind xs frame (before xs) (open_run xs) (runs-same xs)

runs-broken : (xs : List Arrival) → runs_of (xs ++ Broken ∷ []) ≡ (before xs ++ open_run xs ∷ []) ++ [] ∷ []
runs-broken xs = broken_behind xs (before xs) (open_run xs) (runs-same xs)

last-append : (runs : List (List ℕ)) (run : List ℕ) → last_run (runs ++ run ∷ []) ≡ run
last-append [] run = refl
last-append (r ∷ []) run = refl
last-append (r ∷ s ∷ runs) run = last-append (s ∷ runs) run

-- no bytes deliver nothing
arrived-none : channel_arrivals [] ≡ []
unfolding channel_arrivals plain_areas sync_areas hunting
arrived-none = refl

arrived-runs : (runs : List (List ℕ)) (run : List ℕ) → flat_map channel_arrivals (runs ++ run ∷ []) ≡ flat_map channel_arrivals runs ++ channel_arrivals run
arrived-runs runs run = flat_map-append channel_arrivals runs (run ∷ []) ∙ ap (λ ps. flat_map channel_arrivals runs ++ ps) (append-nil (channel_arrivals run))

arrived-same : (xs : List Arrival) → flat_map channel_arrivals (runs_of xs) ≡ flat_map channel_arrivals (before xs) ++ channel_arrivals (open_run xs)
arrived-same xs = ap (flat_map channel_arrivals) (runs-same xs) ∙ arrived-runs (before xs) (open_run xs)

arrived-handed : (xs : List Arrival) (frame : List ℕ) → flat_map channel_arrivals (runs_of (xs ++ Handed frame ∷ [])) ≡ flat_map channel_arrivals (before xs) ++ channel_arrivals (open_run xs ++ payload_of frame)
arrived-handed xs frame = ap (flat_map channel_arrivals) (runs-handed xs frame) ∙ arrived-runs (before xs) (open_run xs ++ payload_of frame)

arrived-broken : (xs : List Arrival) → flat_map channel_arrivals (runs_of (xs ++ Broken ∷ [])) ≡ flat_map channel_arrivals (runs_of xs)
arrived-broken xs =
    let runs = before xs ++ open_run xs ∷ [] in
    ap (flat_map channel_arrivals) (runs-broken xs) ∙ arrived-runs runs [] ∙ ap (λ ps. flat_map channel_arrivals runs ++ ps) arrived-none ∙ append-nil (flat_map channel_arrivals runs) ∙ ap (flat_map channel_arrivals) (sym (runs-same xs))

-- ---- steps

same_held : (first now : BaysView) (xs ys : List ChannelArrival) (outputs : OutputsView) → xs ≡ ys → OutputsStand first now xs outputs → OutputsStand first now ys outputs
same_held first now xs ys outputs e h = let P : List ChannelArrival → Type 0 = λ x. OutputsStand first now x outputs in subst P e h

same_read : (xs ys : List ℕ) (reader : ReaderState) → xs ≡ ys → HasRead xs reader → HasRead ys reader
same_read xs ys reader e h = let P : List ℕ → Type 0 = λ x. HasRead x reader in subst P e h

-- the run that is open is read on
pub goes_on : (first now : BaysView) (arrived : List Arrival) (reader : ReaderState) (outputs : OutputsView) → AllRead first now arrived reader outputs
    → RunRead first now (flat_map channel_arrivals (before arrived)) (open_run arrived) reader outputs
goes_on first now arrived reader outputs h = record {
  has_read = h.has_read;
  held = same_held first now (flat_map channel_arrivals (runs_of arrived)) (flat_map channel_arrivals (before arrived) ++ channel_arrivals (open_run arrived)) outputs (arrived-same arrived) h.held;
}

pub whole_read : (first now : BaysView) (arrived : List Arrival) (frame : List ℕ) (reader : ReaderState) (outputs : OutputsView)
    → RunRead first now (flat_map channel_arrivals (before arrived)) (open_run arrived ++ payload_of frame) reader outputs → AllRead first now (arrived ++ Handed frame ∷ []) reader outputs
whole_read first now arrived frame reader outputs h = record {
  has_read =
      same_read (open_run arrived ++ payload_of frame) (last_run (runs_of (arrived ++ Handed frame ∷ []))) reader
      (sym (ap last_run (runs-handed arrived frame) ∙ last-append (before arrived) (open_run arrived ++ payload_of frame))) h.has_read;
  held =
      same_held first now (flat_map channel_arrivals (before arrived) ++ channel_arrivals (open_run arrived ++ payload_of frame)) (flat_map channel_arrivals (runs_of (arrived ++ Handed frame ∷ []))) outputs
      (sym (arrived-handed arrived frame)) h.held;
}

-- a break begins a run
pub break_read : (first now : BaysView) (arrived : List Arrival) (old new : ReaderState) (outputs : OutputsView) → HasRead [] new → AllRead first now arrived old outputs → AllRead first now (arrived ++ Broken ∷ []) new outputs
break_read first now arrived old new outputs fresh h = record {
  has_read =
      same_read [] (last_run (runs_of (arrived ++ Broken ∷ []))) new
      (sym (ap last_run (runs-broken arrived) ∙ last-append (before arrived ++ open_run arrived ∷ []) [])) fresh;
  held = same_held first now (flat_map channel_arrivals (runs_of arrived)) (flat_map channel_arrivals (runs_of (arrived ++ Broken ∷ []))) outputs (sym (arrived-broken arrived)) h.held;
}

pub nothing_read : (first now : BaysView) (arrived : List Arrival) (reader : ReaderState) (outputs : OutputsView) → AllRead first now arrived reader outputs → AllRead first now (arrived ++ []) reader outputs
nothing_read first now arrived reader outputs h = let P : List Arrival → Type 0 = λ x. AllRead first now x reader outputs in subst P (sym (append-nil arrived)) h

pub none_more : (first now : BaysView) (arrived : List ChannelArrival) (outputs : OutputsView) → OutputsStand first now arrived outputs → OutputsStand first now (arrived ++ []) outputs
none_more first now arrived outputs = same_held first now arrived (arrived ++ []) outputs (sym (append-nil arrived))

-- some bytes more of a run, in which this arrives
pub run_more : (first old new : BaysView) (earlier : List ChannelArrival) (read further : List ℕ) (more : List ChannelArrival) (was is : ReaderState) (outputs next : OutputsView)
    → channel_arrivals (read ++ further) ≡ channel_arrivals read ++ more → HasRead (read ++ further) is
    → (OutputsStand first old (earlier ++ channel_arrivals read) outputs → OutputsStand first new ((earlier ++ channel_arrivals read) ++ more) next)
    → RunRead first old earlier read was outputs → RunRead first new earlier (read ++ further) is next
run_more first old new earlier read further more was is outputs next e has_read goes h = record {
  has_read = has_read;
  held =
      same_held first new ((earlier ++ channel_arrivals read) ++ more) (earlier ++ channel_arrivals (read ++ further)) next
      (append_assoc earlier (channel_arrivals read) more ∙ ap (λ ps. earlier ++ ps) (sym e)) (goes h.held);
}

pub run_same : (first now : BaysView) (earlier : List ChannelArrival) (read others : List ℕ) (reader : ReaderState) (outputs : OutputsView) → read ≡ others → RunRead first now earlier read reader outputs
    → RunRead first now earlier others reader outputs
run_same first now earlier read others reader outputs e h = let P : List ℕ → Type 0 = λ x. RunRead first now earlier x reader outputs in subst P e h

-- ---- pieces of bytes, and rows of a frame

pub more_taken : (front bytes : List ℕ) (done k : ℕ) → (front ++ take done bytes) ++ take k (take (length bytes - done) (drop done bytes)) ≡ front ++ take (done + k) bytes
more_taken front bytes done k =
    append_assoc front (take done bytes) (take k (take (length bytes - done) (drop done bytes)))
    ∙ ap (λ bs. front ++ bs) (ap (λ rest. take done bytes ++ take k rest) (take_rest bytes done) ∙ sym (take-add done k bytes))

pub all_taken : (front bytes : List ℕ) (done : ℕ) → done ≤ length bytes → ¬ (done < length bytes) → front ++ take done bytes ≡ front ++ bytes
all_taken front bytes done within over = let e : done ≡ length bytes = omega arith in ap (λ bs. front ++ bs) (ap (λ n. take n bytes) e ∙ take-length bytes)

-- a piece of what is left was taken, and not more
pub piece_within : (bytes : List ℕ) (done k : ℕ) → done ≤ length bytes → k ≤ length (take (length bytes - done) (drop done bytes)) → done + k ≤ length bytes
piece_within bytes done k within h = let e = ap length (take_rest bytes done) in let f = length-drop done bytes in omega arith

four_rows : (read a b c d : List ℕ) → read ++ a ++ b ++ c ++ d ≡ read ++ (a ++ b ++ c ++ d)
four_rows read a b c d = ap (λ x. x ++ d) (ap (λ x. x ++ c) (append_assoc read a b) ∙ append_assoc read (a ++ b) c) ∙ append_assoc read (a ++ b ++ c) d

pub frame_read : (first now : BaysView) (earlier : List ChannelArrival) (read frame a b c d : List ℕ) (reader : ReaderState) (outputs : OutputsView) → a ≡ payload_row_of 3824 1 frame → b ≡ payload_row_of 3824 2 frame
    → c ≡ payload_row_of 3824 3 frame → d ≡ payload_row_of 3824 4 frame → RunRead first now earlier (read ++ a ++ b ++ c ++ d) reader outputs → RunRead first now earlier (read ++ payload_of frame) reader outputs
frame_read first now earlier read frame a b c d reader outputs ea eb ec ed h =
    run_same first now earlier (read ++ a ++ b ++ c ++ d) (read ++ payload_of frame) reader outputs (four_rows read a b c d ∙ rw (ea, eb, ec, ed) refl) h

-- ---- what the aligner takes

-- nothing has arrived
arrivals-none : arrivals [] ≡ []
unfolding arrivals searching
arrivals-none = refl

client-none : client_arrivals [] ≡ []
unfolding client_arrivals runs_of
client-none = ap (λ xs. flat_map channel_arrivals (runs_of xs)) arrivals-none ∙ append-nil (channel_arrivals []) ∙ arrived-none

run-none : last_run (runs_of (arrivals [])) ≡ []
unfolding runs_of
run-none = ap (λ xs. last_run (runs_of xs)) arrivals-none

pub holds_none : (first now : BaysView) (aligner : AlignerState) (reader : ReaderState) (outputs : OutputsView) → HasAligned [] aligner → HasRead [] reader → OutputsStand first now [] outputs
    → HoldsAfter first now [] aligner reader outputs
holds_none first now aligner reader outputs aligned has_read held = record {
  aligned = aligned;
  has_read = same_read [] (last_run (runs_of (arrivals []))) reader (sym run-none) has_read;
  held = same_held first now [] (client_arrivals []) outputs (sym client-none) held;
}

-- what was read of some bytes, without the aligner
pub all_read : (first now : BaysView) (read : List ℕ) (aligner : AlignerState) (reader : ReaderState) (outputs : OutputsView) → HoldsAfter first now read aligner reader outputs
    → AllRead first now (arrivals read) reader outputs
unfolding client_arrivals
all_read first now read aligner reader outputs h = record { has_read = h.has_read; held = h.held }

-- bytes came, and what they have was read
pub holds_more : (first old now : BaysView) (read further frame : List ℕ) (r : Aligned) (was is : AlignerState) (reader next : ReaderState) (outputs kept : OutputsView) → AlignsBy read further r frame is
    → AllRead first now (arrivals read ++ news r frame) next kept → HoldsAfter first old read was reader outputs → HoldsAfter first now (read ++ further) is next kept
unfolding client_arrivals
holds_more first old now read further frame r was is reader next outputs kept aligns all h =
    let P : List Arrival → Type 0 = λ xs. AllRead first now xs next kept in
    let all_read = subst P (sym aligns.arrived) all in
    record { aligned = aligns.aligned; has_read = all_read.has_read; held = all_read.held }

pub holds_same : (first now : BaysView) (read others : List ℕ) (aligner : AlignerState) (reader : ReaderState) (outputs : OutputsView) → read ≡ others → HoldsAfter first now read aligner reader outputs
    → HoldsAfter first now others aligner reader outputs
holds_same first now read others aligner reader outputs e h = let P : List ℕ → Type 0 = λ x. HoldsAfter first now x aligner reader outputs in subst P e h
