-- Places that are filled one after another.
use Rattle.std.proofs.Common.{◌≡◌, ◌≢◌, ◌≤◌, ◌<◌, ◌+◌, ◌-◌, ◌⊎◌, inl, inr, ℕ, List, length, get_or, Some, sym, ap, ◌∙◌, subst, arith}
use Rattle.std.specs.Prelude.{slice_get}
use Rattle.std.proofs.lemmas.Bool.{cases_lt}
use Rattle.std.proofs.lemmas.Option.{slice_get-get_or}
use Rattle.port_base.specs.InPlace.{in_view}
use Rattle.port_base.specs.OutPlace.{out_view}
use Rattle.port_base.specs.Racks.{bays_view, with_line_in, with_line_out, with_client_in, with_client_out}
use Rattle.port_base.specs.Views.{BaysView, no_input, no_output, line_in_at, line_out_at, client_in_at, client_out_at}
use Rattle.otn_c.specs.contracts.slice_source.SliceSourceSource.TheImpl as source
use Rattle.port_base.specs.declared.bays.Rack.{Rack}
use Rattle.port_base.specs.declared.in_place.InPlaceOf.{InPlaceOf}
use Rattle.port_base.specs.declared.in_place.InPlaceOf.TheVariants as input
use Rattle.otn_c.specs.declared.slice_source.SliceSource.{SliceSource}
use Rattle.port_base.specs.declared.out_place.OutPlaceOf.{OutPlaceOf}
use Rattle.port_base.specs.declared.out_place.OutPlaceOf.TheVariants as output
use Rattle.port_base.proofs.BaysLaws.{line_in_set, only_line_in, line_out_set, only_line_out, client_in_set, only_client_in, client_out_set, only_client_out}
use Rattle.line_tool.specs.TrialRuns.{waiting}
use Rattle.otn_c.specs.Blocks.{IsNoPart}
use Rattle.otn_c.specs.Places.{OpensWith, HasNoPart, LinesUpTo, ClientsUpTo, input_at}
use Rattle.otn_c.specs.contracts.growing_sink.GrowingSinkSink.TheImpl as sink
use Rattle.otn_c.specs.declared.growing_sink.GrowingSink.{GrowingSink}

abbrev pub view : Rack SliceSource GrowingSink → BaysView
view rack = bays_view source.ghosts sink.ghosts rack

below_or_same : (m n : ℕ) → m < n + 1 → (m < n) ⊎ (m ≡ n)
below_or_same m n h = by_size (cases_lt m n)
  where
    by_size : (m < n) ⊎ (n ≤ m) → (m < n) ⊎ (m ≡ n)
    by_size (inl less) = inl less
    by_size (inr more) = inr (omega arith)

some_place : {A : Type 0} (l : List A) (n : ℕ) (d : A) → n < length l → slice_get l n ≡ Some (get_or l n d)
some_place l n d h = slice_get-get_or l n d h

-- a fact of each place below n, and of place n
pub extended : (P : ℕ → Type 0) (n : ℕ) → ((m : ℕ) → m < n → P m) → P n → (m : ℕ) → m < n + 1 → P m
extended P n before at m h = by_place (below_or_same m n h)
  where
    by_place : (m < n) ⊎ (m ≡ n) → P m
    by_place (inl less) = before m less
    by_place (inr same) = subst P (sym same) at

pub next_line : (present block ends : List ℕ) (first : BaysView) (rack mid new : Rack SliceSource GrowingSink) (n : ℕ) (place : InPlaceOf SliceSource) (out : OutPlaceOf GrowingSink)
    → n < 4 → LinesUpTo present block ends n first (view rack)
    → in_view source.ghosts place ≡ input_at present block ends n → (IsNoPart block ends n → ⊥) → out_view sink.ghosts out ≡ waiting
    → mid ≡ with_line_in rack n place → new ≡ with_line_out mid n out → LinesUpTo present block ends (n + 1) first (view new)
next_line present block ends first rack mid new n place out few before is whole got one two =
    subst (λ r. LinesUpTo present block ends (n + 1) first (view r)) (sym (two ∙ ap (λ r. with_line_out r n out) one)) record {
      line_in = extended (λ a. line_in_at (view (with_line_in rack n place)) a ≡ input_at present block ends a) n
          (λ a less. (only_line_in source.ghosts sink.ghosts rack n place).line_in a (let other : a ≢ n = omega arith in other) ∙ before.line_in a less)
          (line_in_set source.ghosts sink.ghosts rack n (get_or rack.line_in.items n input.Empty) place (some_place rack.line_in.items n input.Empty (let all = rack.all in let ok = rack.line_in.ok in omega arith)) ∙ is);
      line_out = extended (λ b. line_out_at (view (with_line_out (with_line_in rack n place) n out)) b ≡ waiting) n
          (λ b less. (only_line_out source.ghosts sink.ghosts (with_line_in rack n place) n out).line_out b (let other : b ≢ n = omega arith in other) ∙ before.line_out b less)
          (line_out_set source.ghosts sink.ghosts (with_line_in rack n place) n (get_or rack.line_out.items n output.Empty) out (some_place rack.line_out.items n output.Empty (let all = rack.all in let ok = rack.line_out.ok in omega arith)) ∙ got);
      parts = extended (λ a. IsNoPart block ends a → ⊥) n before.parts whole;
      client_in = before.client_in;
      client_out = before.client_out;
    }

pub next_client : (present block ends : List ℕ) (first : BaysView) (rack mid new : Rack SliceSource GrowingSink) (n : ℕ) (place : InPlaceOf SliceSource) (out : OutPlaceOf GrowingSink)
    → n < 16 → ClientsUpTo present block ends n first (view rack)
    → in_view source.ghosts place ≡ input_at present block ends (4 + n) → (IsNoPart block ends (4 + n) → ⊥) → out_view sink.ghosts out ≡ waiting
    → mid ≡ with_client_in rack n place → new ≡ with_client_out mid n out → ClientsUpTo present block ends (n + 1) first (view new)
next_client present block ends first rack mid new n place out few before is whole got one two =
    subst (λ r. ClientsUpTo present block ends (n + 1) first (view r)) (sym (two ∙ ap (λ r. with_client_out r n out) one)) record {
      client_in = extended (λ a. client_in_at (view (with_client_in rack n place)) a ≡ input_at present block ends (4 + a)) n
          (λ a less. (only_client_in source.ghosts sink.ghosts rack n place).client_in a (let other : a ≢ n = omega arith in other) ∙ before.client_in a less)
          (client_in_set source.ghosts sink.ghosts rack n (get_or rack.client_in.items n input.Empty) place (some_place rack.client_in.items n input.Empty (let all = rack.all in let ok = rack.client_in.ok in omega arith)) ∙ is);
      client_out = extended (λ b. client_out_at (view (with_client_out (with_client_in rack n place) n out)) b ≡ waiting) n
          (λ b less. (only_client_out source.ghosts sink.ghosts (with_client_in rack n place) n out).client_out b (let other : b ≢ n = omega arith in other) ∙ before.client_out b less)
          (client_out_set source.ghosts sink.ghosts (with_client_in rack n place) n (get_or rack.client_out.items n output.Empty) out (some_place rack.client_out.items n output.Empty (let all = rack.all in let ok = rack.client_out.ok in omega arith)) ∙ got);
      parts = extended (λ m. IsNoPart block ends (4 + m) → ⊥) n before.parts whole;
      line_in = before.line_in;
      line_out = before.line_out;
    }

-- every input is a part
pub all_parts : (present block ends : List ℕ) (first mid last : BaysView) → LinesUpTo present block ends 4 first mid → ClientsUpTo present block ends 16 mid last → HasNoPart block ends → ⊥
all_parts present block ends first mid last lines clients (n, few, none) = by_size (cases_lt n 4)
  where
    by_size : (n < 4) ⊎ (4 ≤ n) → ⊥
    by_size (inl less) = lines.parts n less none
    by_size (inr more) = clients.parts (n - 4) (omega arith) (subst (λ m. IsNoPart block ends m) (let same : n ≡ 4 + (n - 4) = omega arith in same) none)

-- all lines, and then all clients
pub opened : (present block ends : List ℕ) (first mid last : BaysView) → LinesUpTo present block ends 4 first mid → ClientsUpTo present block ends 16 mid last
    → OpensWith present block ends last
opened present block ends first mid last lines clients = record {
  line_in = λ a h. ap (λ l. get_or l a no_input) clients.line_in ∙ lines.line_in a h;
  line_out = λ b h. ap (λ l. get_or l b no_output) clients.line_out ∙ lines.line_out b h;
  client_in = clients.client_in;
  client_out = clients.client_out;
}
