-- Pieces of lines out, one after another.
use Rattle.std.proofs.Common.{◌≡◌, ◌≢◌, ◌≤◌, ◌<◌, ◌+◌, ◌⊎◌, inl, inr, ◌&&◌, ℕ, true, false, refl, sym, ap, ◌∙◌, subst, arith}
use Rattle.std.specs.Prelude.{nat_lt}
use Rattle.std.proofs.lemmas.Bool.{cases_lt}
use Rattle.otn_base.specs.declared.kind.PortName.{PortName}
use Rattle.otn_base.specs.declared.kind.PortName.TheVariants as port
use Rattle.port_base.specs.Places.{OnlyPort, input_of, output_of}
use Rattle.port_base.specs.Views.{BaysView}
use Rattle.turn_pieces.specs.Ports.{index_of}
use Rattle.turn_pieces.specs.Pieces.{done_of, wanted_of, IsCounted}
use Rattle.turn_pieces.proofs.PieceCounts.{opened, done_same, wants_same}
use Rattle.node_moments.specs.NodeView.{NodeView, is_ready}
use Rattle.node_moments.proofs.Later.{ready_open}
use Rattle.network_run.specs.Serving.{Unasked, StaysShut}

-- ---- ports without a piece left

as_ready : (past past' turns turns' i done done' wants wants' : ℕ) → past' ≡ past → turns' ≡ turns → done' ≡ done → wants' ≡ wants
    → (nat_lt past' turns' && (nat_lt i 40 && nat_lt done' wants')) ≡ (nat_lt past turns && (nat_lt i 40 && nat_lt done wants))
as_ready past past' turns turns' i done done' wants wants' one two three four = cc

still_shut : (name other : PortName) (old new : NodeView) → is_ready old name ≡ true → IsCounted name old.pieces new.pieces → new.turns ≡ old.turns
    → new.past ≡ old.past
    → is_ready old other ≡ false → is_ready new other ≡ false
still_shut name other old new ready counted turns past shut =
    let apart : other ≢ name = λ e. (let same = ap (is_ready old) e in cc) in
    let o = opened old.pieces name (ready_open old name ready) in
    as_ready old.past new.past old.turns new.turns (index_of other) (done_of old.pieces other) (done_of new.pieces other) (wanted_of old.pieces other)
    (wanted_of new.pieces other)
    past turns (done_same name old.pieces new.pieces other counted o.within apart) (wants_same name old.pieces new.pieces other counted)
    ∙ shut

pub shut_step : (first old new : NodeView) (name : PortName) → StaysShut first old → is_ready old name ≡ true → IsCounted name old.pieces new.pieces
    → new.turns ≡ old.turns → new.past ≡ old.past
    → StaysShut first new
shut_step first old new name before ready counted turns past other shut = still_shut name other old new ready counted turns past (before other shut)

pub shut_none : (node : NodeView) → StaysShut node node
shut_none node name shut = shut

-- ---- places that are not asked

pub unasked_none : (bays : BaysView) → Unasked bays bays
unasked_none bays = record { line_in = λ a. refl; client_in = λ n. refl; client_out = λ n. refl }

pub unasked_twice : (first was is : BaysView) → Unasked first was → Unasked was is → Unasked first is
unasked_twice first was is one two = record {
  line_in = λ a. two.line_in a ∙ one.line_in a;
  client_in = λ n. two.client_in n ∙ one.client_in n;
  client_out = λ n. two.client_out n ∙ one.client_out n;
}

pub unasked_step : (b : ℕ) (old new : BaysView) → OnlyPort (port.LineOut b) old new → Unasked old new
unasked_step b old new only = record {
  line_in = λ a. ap input_of (only.others (port.LineIn a) (λ e. cc));
  client_in = λ n. ap input_of (only.others (port.ClientIn n) (λ e. cc));
  client_out = λ n. ap output_of (only.others (port.ClientOut n) (λ e. cc));
}

-- ---- a fact of each number below n, and of n

below_or_same : (m n : ℕ) → m < n + 1 → (m < n) ⊎ (m ≡ n)
below_or_same m n h = by_size (cases_lt m n)
  where
    by_size : (m < n) ⊎ (n ≤ m) → (m < n) ⊎ (m ≡ n)
    by_size (inl less) = inl less
    by_size (inr more) = inr (omega arith)

pub extended : (P : ℕ → Type 0) (n : ℕ) → ((m : ℕ) → m < n → P m) → P n → (m : ℕ) → m < n + 1 → P m
extended P n before at m h = by_place (below_or_same m n h)
  where
    by_place : (m < n) ⊎ (m ≡ n) → P m
    by_place (inl less) = before m less
    by_place (inr same) = subst P (sym same) at
