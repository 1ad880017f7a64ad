-- Places that are filled one after another.
use Rattle.std.proofs.Common.{◌≡◌, ◌≢◌, ◌≤◌, ◌<◌, ◌+◌, ◌⊎◌, inl, inr, ℕ, List, [], length, get_or, Some, sym, ap, ◌∙◌, subst, arith}
use Rattle.std.specs.Prelude.{slice_get}
use Rattle.std.proofs.lemmas.Bool.{cases_lt}
use Rattle.std.proofs.lemmas.Option.{slice_get-get_or}
use Rattle.port_base.specs.InPlace.{in_view}
use Rattle.port_base.specs.OutPlace.{out_view}
use Rattle.port_base.specs.Racks.{with_line_in, with_line_out, with_client_in, with_client_out}
use Rattle.port_base.specs.Views.{BaysView, no_input, no_output, line_in_at, line_out_at, client_in_at, client_out_at}
use Rattle.port_base.specs.declared.bays.Rack.{Rack}
use Rattle.port_base.specs.declared.in_place.InPlaceOf.{InPlaceOf}
use Rattle.port_base.specs.declared.in_place.InPlaceOf.TheVariants as input
use Rattle.port_base.specs.declared.out_place.OutPlaceOf.{OutPlaceOf}
use Rattle.port_base.specs.declared.out_place.OutPlaceOf.TheVariants as output
use Rattle.port_base.proofs.BaysLaws.{line_in_set, only_line_in, line_out_set, only_line_out, client_in_set, only_client_in, client_out_set, only_client_out}
use Rattle.filled_ports.specs.contracts.sink.FilledSinkSink.TheImpl as sink
use Rattle.filled_ports.specs.contracts.source.FilledSourceSource.TheImpl as source
use Rattle.filled_ports.specs.declared.sink.FilledSink.{FilledSink}
use Rattle.filled_ports.specs.declared.source.FilledSource.{FilledSource}
use Rattle.node_moments.specs.Stands.{no_bytes}
use Rattle.live_laws.specs.Live.{holding, telling, OpensWith}
use Rattle.live_node.specs.Places.{places, LinesUpTo, ClientsUpTo}

below_or_same : (m n : ℕ) → m < n + 1 → (m < n) ⊎ (m ≡ n)
below_or_same m n h = by_size (cases_lt m n)
  where
    by_size : (m < n) ⊎ (n ≤ m) → (m < n) ⊎ (m ≡ n)
    by_size (inl less) = inl less
    by_size (inr more) = inr (omega arith)

-- a fact of each number below n, and of n
pub extended : (P : ℕ → Type 0) (n : ℕ) → ((m : ℕ) → m < n → P m) → P n → (m : ℕ) → m < n + 1 → P m
extended P n before at m h = by_place (below_or_same m n h)
  where
    by_place : (m < n) ⊎ (m ≡ n) → P m
    by_place (inl less) = before m less
    by_place (inr same) = subst P (sym same) at

pub apart_below : (m n : ℕ) → m < n → m ≢ n
apart_below m n less = omega arith

some_place : {A : Type 0} (l : List A) (n : ℕ) (d : A) → n < length l → slice_get l n ≡ Some (get_or l n d)
some_place l n d h = slice_get-get_or l n d h

pub next_line : (first : BaysView) (rack mid new : Rack FilledSource FilledSink) (n : ℕ) (place : InPlaceOf FilledSource) (out : OutPlaceOf FilledSink)
    → n < 4 → LinesUpTo n first (places rack)
    → in_view source.ghosts place ≡ holding [] → out_view sink.ghosts out ≡ telling
    → mid ≡ with_line_in rack n place → new ≡ with_line_out mid n out → LinesUpTo (n + 1) first (places new)
next_line first rack mid new n place out few before is got one two =
    let in_room : n < length rack.line_in.items = (let all = rack.all in let ok = rack.line_in.ok in omega arith) in
    let out_room : n < length rack.line_out.items = (let all = rack.all in let ok = rack.line_out.ok in omega arith) in
    subst (λ r. LinesUpTo (n + 1) first (places r)) (sym (two ∙ ap (λ r. with_line_out r n out) one)) record {
      line_in = extended (λ a. line_in_at (places (with_line_in rack n place)) a ≡ holding []) n
          (λ a less. (only_line_in source.ghosts sink.ghosts rack n place).line_in a (apart_below a n less) ∙ before.line_in a less)
          (line_in_set source.ghosts sink.ghosts rack n (get_or rack.line_in.items n input.Empty) place (some_place rack.line_in.items n input.Empty in_room) ∙ is);
      line_out = extended (λ b. line_out_at (places (with_line_out (with_line_in rack n place) n out)) b ≡ telling) n
          (λ b less. (only_line_out source.ghosts sink.ghosts (with_line_in rack n place) n out).line_out b (apart_below b n less) ∙ before.line_out b less)
          (line_out_set source.ghosts sink.ghosts (with_line_in rack n place) n (get_or rack.line_out.items n output.Empty) out (some_place rack.line_out.items n output.Empty out_room) ∙ got);
      client_in = before.client_in;
      client_out = before.client_out;
    }

pub next_client : (first : BaysView) (rack mid new : Rack FilledSource FilledSink) (n : ℕ) (place : InPlaceOf FilledSource) (out : OutPlaceOf FilledSink)
    → n < 16 → ClientsUpTo n first (places rack)
    → in_view source.ghosts place ≡ holding [] → out_view sink.ghosts out ≡ telling
    → mid ≡ with_client_in rack n place → new ≡ with_client_out mid n out → ClientsUpTo (n + 1) first (places new)
next_client first rack mid new n place out few before is got one two =
    let in_room : n < length rack.client_in.items = (let all = rack.all in let ok = rack.client_in.ok in omega arith) in
    let out_room : n < length rack.client_out.items = (let all = rack.all in let ok = rack.client_out.ok in omega arith) in
    subst (λ r. ClientsUpTo (n + 1) first (places r)) (sym (two ∙ ap (λ r. with_client_out r n out) one)) record {
      client_in = extended (λ a. client_in_at (places (with_client_in rack n place)) a ≡ holding []) n
          (λ a less. (only_client_in source.ghosts sink.ghosts rack n place).client_in a (apart_below a n less) ∙ before.client_in a less)
          (client_in_set source.ghosts sink.ghosts rack n (get_or rack.client_in.items n input.Empty) place (some_place rack.client_in.items n input.Empty in_room) ∙ is);
      client_out = extended (λ b. client_out_at (places (with_client_out (with_client_in rack n place) n out)) b ≡ telling) n
          (λ b less. (only_client_out source.ghosts sink.ghosts (with_client_in rack n place) n out).client_out b (apart_below b n less) ∙ before.client_out b less)
          (client_out_set source.ghosts sink.ghosts (with_client_in rack n place) n (get_or rack.client_out.items n output.Empty) out (some_place rack.client_out.items n output.Empty out_room) ∙ got);
      line_in = before.line_in;
      line_out = before.line_out;
    }

-- all lines, and then all clients
pub opened : (first mid last : BaysView) → LinesUpTo 4 first mid → ClientsUpTo 16 mid last → OpensWith no_bytes last
opened first mid last lines clients = record {
  line_in = λ a h. ap (λ l. get_or l a no_input) clients.line_in ∙ lines.line_in a h;
  line_out = λ b h. ap (λ l. get_or l b no_output) clients.line_out ∙ lines.line_out b h;
  client_in = clients.client_in;
  client_out = clients.client_out;
}
