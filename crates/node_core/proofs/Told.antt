-- What a node tells port by port it tells of the whole.
use Rattle.std.proofs.Common.{◌≡◌, ◌<◌, ◌+◌, ℕ, None, List, length, get_or, set, arith, inl, inr}
use Rattle.std.proofs.lemmas.List.{get_or-set_same, get_or-set_other}
use Rattle.std.proofs.lemmas.Option.{slice_get_within}
use Rattle.std.proofs.lemmas.Bool.Decides.{eqb_tells}
use Rattle.line_side.specs.declared.counts.LineCounts.{LineCounts}
use Rattle.plan_file.specs.declared.plan.Plan.{Plan}
use Rattle.device_model.proofs.SoundPlans.{sound_plan}
use Rattle.node_moments.specs.NodeView.{NodeView}
use Rattle.device_model.specs.RunNumbers.{client_in_numbers, client_out_numbers, no_client_in, no_client_out, no_counts, numbers_of_run}
use Rattle.node_core.specs.Settling.{IsLineCounts, IsFrameCount, IsClientInCount, IsClientOutCount, IsLastState, ToldBy}
use Rattle.device_model.specs.declared.numbers.RunNumbers.{RunNumbers}
use Rattle.node_core.proofs.NodeReads.{entry_of}

-- one more of a list is told
pub told_more : {A : Type 0} (Told : ℕ → A → Type 0) (xs : List A) (i : ℕ) (x d : A) → i < length xs → ((m : ℕ) → m < i → Told m (get_or xs m d)) → Told i x
    → (m : ℕ) → m < i + 1 → Told m (get_or (set xs i x) m d)
told_more Told xs i x d within before here m less = elim (eqb_tells m i) [
  | inl t ↦ rw (t.1, get_or-set_same xs i x d within) here
  | inr t ↦ rw (get_or-set_other xs i m x d t.1) (before m (let differ = t.1 in grind arith))
]

lines_told : (node : NodeView) (a : ℕ) (counts : LineCounts) → length node.lines_in ≡ 4 → (a < 4 → IsLineCounts node a counts) → IsLineCounts node a counts
lines_told node a counts four h plan first read now inputs line stands may used has =
    let within : a < 4 = (let less = slice_get_within node.lines_in a line has in omega (arith, four)) in
    h within plan first read now inputs line stands may used has

frames_told : (node : NodeView) (b frames : ℕ) → length node.lines_out ≡ 4 → (b < 4 → IsFrameCount node b frames) → IsFrameCount node b frames
frames_told node b frames four h line has = h (let less = slice_get_within node.lines_out b line has in omega (arith, four)) line has

-- of a client of an accepted plan, whose number is one
pub all_told : (plan : Plan) (node : NodeView) (run : RunNumbers) → length node.lines_in ≡ 4 → length node.lines_out ≡ 4
    → ((a : ℕ) → a < 4 → IsLineCounts node a (get_or run.lines_in a no_counts))
    → ((b : ℕ) → b < 4 → IsFrameCount node b (get_or run.lines_out b 0))
    → ((n : ℕ) → n < 16 → IsClientInCount node n (client_in_numbers (get_or run.clients_in n no_client_in)))
    → ((n : ℕ) → n < 16 → IsClientOutCount node n (client_out_numbers (get_or run.clients_out n no_client_out)))
    → ((i : ℕ) → i < length node.links → i < 48 → IsLastState node i (get_or run.from i None))
    → ToldBy plan node (numbers_of_run run)
all_told plan node run lines outs line_in line_out client_in client_out from = record {
  line_in = λ a used. lines_told node a (get_or run.lines_in a no_counts) lines (line_in a);
  line_out = λ b used. frames_told node b (get_or run.lines_out b 0) outs (line_out b);
  client_in = λ n used. λ plan first read now inputs x stands may is_of comes.
      let p = stands.plan_stands in
      client_in n (((sound_plan plan p.accepted).entries is_of.0 x (entry_of plan x is_of)).from_client n comes) plan first read now inputs x stands may is_of comes;
  client_out = λ n used. λ plan first read now i x link stands at has goes.
      let p = stands.plan_stands in
      client_out n (((sound_plan plan p.accepted).entries i x at).to_client n goes) plan first read now i x link stands at has goes;
  from = λ i x at. λ plan first read now inputs y stands may known.
      let p = stands.plan_stands in
      let within : i < length plan.connections = slice_get_within plan.connections i y known in
      let few = (sound_plan plan p.accepted).few in
      from i (rw p.count within) (omega (arith, few)) plan first read now inputs y stands may known;
}
