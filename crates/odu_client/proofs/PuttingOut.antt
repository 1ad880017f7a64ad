-- A client's output, step by step.
use Rattle.std.proofs.Common.{◌≡◌, ◌+◌, ℕ, List, [], ◌∷◌, ◌++◌, length, arith, refl, sym, ap, subst, ◌∙◌, append_assoc, append-nil, length-append}
use Rattle.std.specs.Prelude.{flat_map}
use Rattle.std.proofs.lemmas.Grind.{flat_map-append}
use Rattle.gfp_frames.specs.Delivered.{delivered}
use Rattle.gfp_frames.specs.Reader.{ReaderState, HasRead}
use Rattle.gfp_frames.proofs.Reading.{nothing_delivered}
use Rattle.otn_base.specs.Counts.{saturated}
use Rattle.packet_text.specs.PacketText.{packet_line, hex_text}
use Rattle.odu_client.specs.AlignedRuns.{Arrival, Handed, Broken, arrivals, searching, payload_of, with_payload, runs_of}
use Rattle.odu_client.specs.Aligner.{AlignsBy, news}
use Rattle.odu_client.specs.ClientOutput.{arriving_packets, arriving_text, handed_count, arriving_frames}
use Rattle.odu_client.specs.OutputSteps.{HasPutOut, ReaderDoes, output_after, OutputStarts, OutputGoesOn, OutputGoesOnByByte, OutputTextGoesOn, FramesGoOn}
use Rattle.odu_client.specs.View.{frames_after}
use Rattle.odu_client.specs.declared.aligned.Aligned.{Aligned}
use Rattle.odu_client.specs.declared.aligned.Aligned.TheVariants as aligned
use Rattle.odu_client.proofs.Aligning.{by_byte}

-- the last run, with which others go on
record Split (xs : List Arrival) : Type 0 where
  front : List (List ℕ)
  last : List ℕ
  was : runs_of xs ≡ front ++ last ∷ []
  on : (ys : List Arrival) → runs_of (xs ++ ys) ≡ front ++ with_payload last (runs_of ys)

payload_twice : (a b : List ℕ) (runs : List (List ℕ)) → with_payload a (with_payload b runs) ≡ with_payload (a ++ b) runs
payload_twice a b [] = refl
payload_twice a b (run ∷ runs) = ap (λ r. r ∷ runs) (sym (append_assoc a b run))

payload_first : (frame : List ℕ) (xs : List Arrival) → Split xs → Split (Handed frame ∷ xs)
unfolding runs_of
payload_first frame xs s = by_front s.front s.was s.on
  where
    payload : List ℕ
    payload = payload_of frame

    by_front : (front : List (List ℕ)) → runs_of xs ≡ front ++ s.last ∷ [] → ((ys : List Arrival) → runs_of (xs ++ ys) ≡ front ++ with_payload s.last (runs_of ys)) → Split (Handed frame ∷ xs)
    by_front [] was on = record {
      front = [];
      last = payload ++ s.last;
      was = ap (with_payload payload) was;
      on = λ ys. ap (with_payload payload) (on ys) ∙ payload_twice payload s.last (runs_of ys);
    }
    by_front (run ∷ front) was on = record {
      front = (payload ++ run) ∷ front;
      last = s.last;
      was = ap (with_payload payload) was;
      on = λ ys. ap (with_payload payload) (on ys);
    }

split : (xs : List Arrival) → Split xs
unfolding runs_of
split [] = record { front = []; last = []; was = refl; on = λ ys. some_first ys }
  where
    some_first : (ys : List Arrival) → runs_of ys ≡ with_payload [] (runs_of ys)
    some_first [] = refl
    some_first (Handed frame ∷ ys) = sym (payload_twice [] (payload_of frame) (runs_of ys))
    some_first (Broken ∷ ys) = refl
split (Handed frame ∷ xs) = payload_first frame xs (split xs)
split (Broken ∷ xs) = let s = split xs in record { front = [] ∷ s.front; last = s.last; was = ap (λ r. [] ∷ r) s.was; on = λ ys. ap (λ r. [] ∷ r) (s.on ys) }

-- a list has one last member
record SameEnd (a b : List (List ℕ)) (x y : List ℕ) : Type 0 where
  front : a ≡ b
  last : x ≡ y

same_end : (a b : List (List ℕ)) (x y : List ℕ) → a ++ x ∷ [] ≡ b ++ y ∷ [] → SameEnd a b x y
same_end [] [] x y e = record { front = refl; last = cc }
same_end [] (c ∷ b) x y e = absurd (let n = ap length e in let m = length-append b (y ∷ []) in omega arith)
same_end (c ∷ a) [] x y e = absurd (let n = ap length e in let m = length-append a (x ∷ []) in omega arith)
same_end (c ∷ a) (d ∷ b) x y e =
    let head : c ≡ d = cc in
    let tail : a ++ x ∷ [] ≡ b ++ y ∷ [] = cc in
    let s = same_end a b x y tail in
    record { front = rw (head, s.front) refl; last = s.last }

-- what goes on behind the last run
goes_behind : (xs ys : List Arrival) (ended : List (List ℕ)) (run : List ℕ) → runs_of xs ≡ ended ++ run ∷ [] → runs_of (xs ++ ys) ≡ ended ++ with_payload run (runs_of ys)
goes_behind xs ys ended run e =
    let s = split xs in
    let same = same_end s.front ended s.last run (sym s.was ∙ e) in
    s.on ys ∙ ap (λ f. f ++ with_payload s.last (runs_of ys)) same.front ∙ ap (λ l. ended ++ with_payload l (runs_of ys)) same.last

pub handed_behind : (xs : List Arrival) (frame : List ℕ) (ended : List (List ℕ)) (run : List ℕ) → runs_of xs ≡ ended ++ run ∷ [] → runs_of (xs ++ Handed frame ∷ []) ≡ ended ++ (run ++ payload_of frame) ∷ []
unfolding runs_of
handed_behind xs frame ended run e = goes_behind xs (Handed frame ∷ []) ended run e ∙ ap (λ p. ended ++ (run ++ p) ∷ []) (append-nil (payload_of frame))

pub broken_behind : (xs : List Arrival) (ended : List (List ℕ)) (run : List ℕ) → runs_of xs ≡ ended ++ run ∷ [] → runs_of (xs ++ Broken ∷ []) ≡ (ended ++ run ∷ []) ++ [] ∷ []
unfolding runs_of
broken_behind xs ended run e = goes_behind xs (Broken ∷ []) ended run e ∙ ap (λ p. ended ++ p ∷ [] ∷ []) (append-nil run) ∙ sym (append_assoc ended (run ∷ []) ([] ∷ []))

-- the packets of all runs
packets_of_runs : (ended : List (List ℕ)) (run : List ℕ) → flat_map delivered (ended ++ run ∷ []) ≡ flat_map delivered ended ++ delivered run
packets_of_runs ended run = flat_map-append delivered ended (run ∷ []) ∙ ap (λ ps. flat_map delivered ended ++ ps) (append-nil (delivered run))

pub output_starts : OutputStarts
unfolding arriving_packets arrivals searching runs_of
output_starts aligner reader aligned read = record {
  ended = [];
  run = [];
  runs = refl;
  aligned = aligned;
  read = read;
  all = sym (ap (λ ps. ps ++ []) nothing_delivered);
}

pub output_goes_on : OutputGoesOn
unfolding arriving_packets
output_goes_on output step h a r = by_answer step.answer a r
  where
    before : List Arrival
    before = arrivals output.arrived

    now : List ℕ
    now = output.arrived ++ step.bytes

    all_of : (ended : List (List ℕ)) (run : List ℕ) → runs_of (arrivals now) ≡ ended ++ run ∷ [] → output.packets ++ step.packets ≡ flat_map delivered ended ++ delivered run
        → output.packets ++ step.packets ≡ arriving_packets now
    all_of ended run runs e = e ∙ sym (packets_of_runs ended run) ∙ sym (ap (flat_map delivered) runs)

    so_far : output.packets ≡ flat_map delivered h.ended ++ delivered h.run
    so_far = h.all ∙ ap (flat_map delivered) h.runs ∙ packets_of_runs h.ended h.run

    by_answer : (answer : Aligned) → AlignsBy output.arrived step.bytes answer step.frame step.aligner → ReaderDoes answer step.frame step.packets output.reader step.reader → HasPutOut (output_after output step)
    by_answer aligned.Nothing b does =
        let runs : runs_of (arrivals now) ≡ h.ended ++ h.run ∷ [] = ap runs_of (b.arrived ∙ append-nil before) ∙ h.runs in
        record {
          ended = h.ended;
          run = h.run;
          runs = runs;
          aligned = b.aligned;
          read = (let P : ReaderState → Type 0 = λ reader. HasRead h.run reader in subst P (sym does.1) h.read);
          all = all_of h.ended h.run runs (ap (λ ps. output.packets ++ ps) does.0 ∙ append-nil output.packets ∙ so_far);
        }
    by_answer aligned.Whole b does =
        let took = does h.run h.read in
        let runs : runs_of (arrivals now) ≡ h.ended ++ (h.run ++ payload_of step.frame) ∷ [] = ap runs_of b.arrived ∙ handed_behind before step.frame h.ended h.run h.runs in
        record {
          ended = h.ended;
          run = h.run ++ payload_of step.frame;
          runs = runs;
          aligned = b.aligned;
          read = took.0;
          all = all_of h.ended (h.run ++ payload_of step.frame) runs
              (ap (λ ps. ps ++ step.packets) so_far ∙ append_assoc (flat_map delivered h.ended) (delivered h.run) step.packets ∙ ap (λ ps. flat_map delivered h.ended ++ ps) (sym took.1));
        }
    by_answer aligned.Break b does =
        let runs : runs_of (arrivals now) ≡ (h.ended ++ h.run ∷ []) ++ [] ∷ [] = ap runs_of b.arrived ∙ broken_behind before h.ended h.run h.runs in
        record {
          ended = h.ended ++ h.run ∷ [];
          run = [];
          runs = runs;
          aligned = b.aligned;
          read = does.1;
          all = all_of (h.ended ++ h.run ∷ []) [] runs
              (ap (λ ps. output.packets ++ ps) does.0 ∙ append-nil output.packets ∙ so_far ∙ sym (packets_of_runs h.ended h.run)
              ∙ sym (ap (λ ps. flat_map delivered (h.ended ++ h.run ∷ []) ++ ps) nothing_delivered ∙ append-nil (flat_map delivered (h.ended ++ h.run ∷ []))));
        }

pub output_goes_on_by_byte : OutputGoesOnByByte
output_goes_on_by_byte output step byte one h a r =
    let P : List ℕ → Type 0 = λ bytes. AlignsBy output.arrived bytes step.answer step.frame step.aligner in
    output_goes_on output step h (subst P (sym one) (by_byte output.arrived byte step.answer step.frame step.aligner a)) r

-- ---- the text

text_behind : (xs ys : List (List ℕ)) → hex_text (xs ++ ys) ≡ hex_text xs ++ hex_text ys
unfolding hex_text
text_behind [] ys = refl
text_behind (x ∷ xs) ys = ap (λ text. packet_line x ++ text) (text_behind xs ys) ∙ sym (append_assoc (packet_line x) (hex_text xs) (hex_text ys))

pub output_text_goes_on : OutputTextGoesOn
unfolding arriving_text
output_text_goes_on output step h k =
    sym (ap hex_text k.all) ∙ text_behind output.packets step.packets ∙ ap (λ ps. hex_text ps ++ hex_text step.packets) h.all

-- ---- how many whole frames

count_behind : (xs ys : List Arrival) → handed_count (xs ++ ys) ≡ handed_count xs + handed_count ys
unfolding handed_count
count_behind [] ys = omega arith
count_behind (Handed frame ∷ xs) ys = let e = count_behind xs ys in omega (arith, e)
count_behind (Broken ∷ xs) ys = count_behind xs ys

count_news : (n frames : ℕ) (answer : Aligned) (frame : List ℕ) → frames ≡ saturated n → frames_after frames answer ≡ saturated (n + handed_count (news answer frame))
unfolding handed_count
count_news n frames aligned.Nothing frame e = omega (arith, e)
count_news n frames aligned.Whole frame e = omega (arith, e)
count_news n frames aligned.Break frame e = omega (arith, e)

pub frames_go_on : FramesGoOn
frames_go_on output step frames a e =
    count_news (arriving_frames output.arrived) frames step.answer step.frame e ∙ ap saturated (sym (ap handed_count a.arrived ∙ count_behind (arrivals output.arrived) (news step.answer step.frame)))
