-- What a client's output writes grows with the bytes that arrive.
use Rattle.std.proofs.Common.{◌≡◌, ℕ, List, [], ◌∷◌, ◌++◌, refl, sym, ap, ◌∙◌, append_assoc, append-nil}
use Rattle.std.specs.Prelude.{flat_map}
use Rattle.std.proofs.lemmas.Grind.{flat_map-append}
use Rattle.gfp_frames.specs.Delivered.{delivered}
use Rattle.gfp_frames.proofs.Grows.{delivered_grows}
use Rattle.odu_client.specs.AlignedRuns.{Arrival, Handed, Broken, arrivals, payload_of, with_payload, runs_of}
use Rattle.odu_client.specs.ClientOutput.{arriving_packets}
use Rattle.odu_client.specs.Laws.{StaysDelivered}
use Rattle.odu_client.proofs.Growing.{arrived_stays}

-- of what arrives the last run goes on, and others follow
record RunsGrow (few all : List (List ℕ)) : Type 0 where
  front : List (List ℕ)
  last : List ℕ
  more : List ℕ
  rest : List (List ℕ)
  was : few ≡ front ++ last ∷ []
  is : all ≡ front ++ (last ++ more) ∷ rest

record SomeRun (runs : List (List ℕ)) : Type 0 where
  first : List ℕ
  rest : List (List ℕ)
  parts : runs ≡ first ∷ rest

with_some : (payload : List ℕ) (runs : List (List ℕ)) → SomeRun runs → SomeRun (with_payload payload runs)
with_some payload runs s = record { first = payload ++ s.first; rest = s.rest; parts = ap (with_payload payload) s.parts }

some_run : (xs : List Arrival) → SomeRun (runs_of xs)
unfolding runs_of
some_run [] = record { first = []; rest = []; parts = refl }
some_run (Handed frame ∷ xs) = with_some (payload_of frame) (runs_of xs) (some_run xs)
some_run (Broken ∷ xs) = record { first = []; rest = runs_of xs; parts = refl }

payload_grows : (payload : List ℕ) (few all : List (List ℕ)) → RunsGrow few all → RunsGrow (with_payload payload few) (with_payload payload all)
payload_grows payload few all g = by_front g.front g.was g.is
  where
    by_front : (front : List (List ℕ)) → few ≡ front ++ g.last ∷ [] → all ≡ front ++ (g.last ++ g.more) ∷ g.rest → RunsGrow (with_payload payload few) (with_payload payload all)
    by_front [] was is = record {
      front = [];
      last = payload ++ g.last;
      more = g.more;
      rest = g.rest;
      was = ap (with_payload payload) was;
      is = ap (with_payload payload) is ∙ ap (λ r. r ∷ g.rest) (sym (append_assoc payload g.last g.more));
    }
    by_front (run ∷ front) was is = record {
      front = (payload ++ run) ∷ front;
      last = g.last;
      more = g.more;
      rest = g.rest;
      was = ap (with_payload payload) was;
      is = ap (with_payload payload) is;
    }

runs_grow : (xs ys : List Arrival) → RunsGrow (runs_of xs) (runs_of (xs ++ ys))
unfolding runs_of
runs_grow [] ys = let s = some_run ys in record { front = []; last = []; more = s.first; rest = s.rest; was = refl; is = s.parts }
runs_grow (Handed frame ∷ xs) ys = payload_grows (payload_of frame) (runs_of xs) (runs_of (xs ++ ys)) (runs_grow xs ys)
runs_grow (Broken ∷ xs) ys = let g = runs_grow xs ys in record { front = [] ∷ g.front; last = g.last; more = g.more; rest = g.rest; was = ap (λ r. [] ∷ r) g.was; is = ap (λ r. [] ∷ r) g.is }

pub stays_delivered : (bytes more : List ℕ) → StaysDelivered bytes more
unfolding arriving_packets
stays_delivered bytes more =
    let a = arrived_stays bytes more in
    let g = runs_grow (arrivals bytes) a.rest in
    let d = delivered_grows g.last g.more in
    record {
      later = d.0 ++ flat_map delivered g.rest;
      parts =
          ap (λ xs. flat_map delivered (runs_of xs)) a.parts ∙ ap (flat_map delivered) g.is
          ∙ flat_map-append delivered g.front ((g.last ++ g.more) ∷ g.rest)
          ∙ ap (λ ps. flat_map delivered g.front ++ (ps ++ flat_map delivered g.rest)) d.1
          ∙ ap (λ ps. flat_map delivered g.front ++ ps) (append_assoc (delivered g.last) d.0 (flat_map delivered g.rest))
          ∙ sym (append_assoc (flat_map delivered g.front) (delivered g.last) (d.0 ++ flat_map delivered g.rest))
          ∙ ap (λ ps. ps ++ (d.0 ++ flat_map delivered g.rest)) (sym (flat_map-append delivered g.front (g.last ∷ []) ∙ ap (λ ps. flat_map delivered g.front ++ ps) (append-nil (delivered g.last))) ∙ ap (flat_map delivered) (sym g.was));
    }
