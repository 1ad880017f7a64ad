-- Which places are emptied at the end of a turn.
use Rattle.std.proofs.Common.{◌≡◌, ◌<◌, ◌≤◌, ◌+◌, ℕ, zero, suc, Bool, true, false, ◌&&◌, ◌||◌, ◌==◌, nat_le, List, [], ◌∷◌, Some, length, slice_get, arith, refl, sym, ap, ◌∙◌}
use Rattle.std.proofs.lemmas.Bool.Decides.{nat_tests}
use Rattle.std.specs.List.{list_any}
use Rattle.otn_base.specs.declared.kind.PortName.{PortName}
use Rattle.plan_file.specs.declared.connection.Connection.{Connection}
use Rattle.plan_file.specs.declared.plan.Plan.{Plan}
use Rattle.device_model.specs.Moments.{touches, uses, is_retired}
use Rattle.node_links.specs.Links.{IsLinkOf, joins}
use Rattle.node_links.specs.Retiring.{ends_here}
use Rattle.node_moments.specs.NodeView.{NodeView, HasLink}
use Rattle.node_moments.specs.Stands.{PlanStands}
use Rattle.node_links.specs.declared.link.Link.{Link}
use Rattle.device_model.proofs.ConnectionPorts.{uses_none}
use Rattle.node_moments.proofs.LinkPorts.{is_client_port, joins_as, sole}

-- ---- some connection of a list, which ends and passes a test

and_false : (b : Bool) → (b && false) ≡ false
and_false true = refl
and_false false = refl

and_true : (b : Bool) → (b && true) ≡ b
and_true true = refl
and_true false = refl

or_false : (b : Bool) → (b || false) ≡ b
or_false true = refl
or_false false = refl

abbrev pub some_passes : (ends passes : Link → Bool) → List Link → Bool
some_passes ends passes links = list_any (λ link. ends link && passes link) links

none_passes : (ends passes : Link → Bool) (links : List Link) → ((i : ℕ) (link : Link) → slice_get links i ≡ Some link → passes link ≡ false) → some_passes ends passes links ≡ false
none_passes ends passes [] h = refl
none_passes ends passes (link ∷ links) h =
    ap (λ b. (ends link && b) || some_passes ends passes links) (h 0 link refl)
    ∙ ap (λ b. b || some_passes ends passes links) (and_false (ends link))
    ∙ none_passes ends passes links (λ i other at. h (suc i) other at)

fails : (b : Bool) → (b ≡ true → false ≡ true) → b ≡ false
fails false h = refl
fails true h = sym (h refl)

zero_or : (i : ℕ) → suc i ≡ 0 → false ≡ true
zero_or i e = absurd (omega arith)

pub one_passes : (ends passes : Link → Bool) (links : List Link) (i : ℕ) (link : Link) → slice_get links i ≡ Some link → passes link ≡ true
    → ((j : ℕ) (other : Link) → slice_get links j ≡ Some other → passes other ≡ true → j ≡ i) → some_passes ends passes links ≡ ends link
one_passes ends passes [] i link at is alone = absurd (cc)
one_passes ends passes (x ∷ links) zero link at is alone =
    let same : x ≡ link = cc in
    let rest : some_passes ends passes links ≡ false = none_passes ends passes links (λ j other e. fails (passes other) (λ t. zero_or j (alone (suc j) other e t))) in
    ap (λ b. (ends x && passes x) || b) rest ∙ or_false (ends x && passes x) ∙ ap (λ l. ends l && passes l) same ∙ ap (λ b. ends link && b) is ∙ and_true (ends link)
one_passes ends passes (x ∷ links) (suc i) link at is alone =
    let head : passes x ≡ false = fails (passes x) (λ t. zero_or i (sym (alone 0 x refl t))) in
    ap (λ b. (ends x && b) || some_passes ends passes links) head
    ∙ ap (λ b. b || some_passes ends passes links) (and_false (ends x))
    ∙ one_passes ends passes links i link at is (λ j other e t. let s = alone (suc j) other e t in omega arith)

-- ---- the links of a plan

-- where one list is as long as another it has an element at each place of the other
pub known_at : {A B : Type 0} (xs : List A) (ys : List B) (i : ℕ) (x : A) → length xs ≡ length ys → slice_get xs i ≡ Some x → (y : B) × (slice_get ys i ≡ Some y)
known_at [] ys i x len at = absurd (cc)
known_at (a ∷ xs) [] i x len at = absurd (omega arith)
known_at (a ∷ xs) (b ∷ ys) zero x len at = (b, refl)
known_at (a ∷ xs) (b ∷ ys) (suc i) x len at = known_at xs ys i x (omega arith) at

-- of the entry of a link
pub entry_at : (plan : Plan) (node : NodeView) (i : ℕ) (link : Link) → PlanStands plan node → HasLink node i link → (x : Connection) × ((slice_get plan.connections i ≡ Some x) × IsLinkOf x link)
entry_at plan node i link p at = let x = known_at node.links plan.connections i link p.count at in (x.0, (x.1, p.links i x.0 link x.1 at))

ends_as : (past : ℕ) (x : Connection) (link : Link) → IsLinkOf x link → ends_here past link ≡ (x.retire && (x.stop == past + 1))
ends_as past x link is = ap (λ (y : Connection). y.retire && (y.stop == past + 1)) is.entry

-- what is so of some connection at a client is so of the one that the plan has there
pub sole_passes : (ends : Link → Bool) (plan : Plan) (node : NodeView) (name : PortName) (i : ℕ) (x : Connection) (link : Link) → is_client_port name ≡ true → PlanStands plan node → slice_get plan.connections i ≡ Some x
    → HasLink node i link → touches name x ≡ true → some_passes ends (joins name) node.links ≡ ends link
sole_passes ends plan node name i x link client p at has touched =
    one_passes ends (joins name) node.links i link has (joins_as name x link (p.links i x link at has) ∙ touched) (λ j other there t.
    let e = entry_at plan node j other p there in
    sole plan name j i e.0 x p.accepted client e.1.0 at (sym (joins_as name e.0 other e.1.1) ∙ t) touched)

-- and of none where the plan has none
pub idle_passes : (ends : Link → Bool) (plan : Plan) (node : NodeView) (name : PortName) → PlanStands plan node → uses plan name ≡ false → some_passes ends (joins name) node.links ≡ false
idle_passes ends plan node name p unused = none_passes ends (joins name) node.links (λ i link has.
    let e = entry_at plan node i link p has in
    joins_as name e.0 link e.1.1 ∙ uses_none plan name i e.0 e.1.0 unused)

-- A client's connection alone empties its place.
pub client_retires : (plan : Plan) (node : NodeView) (name : PortName) (i : ℕ) (x : Connection) (link : Link) → is_client_port name ≡ true → PlanStands plan node → slice_get plan.connections i ≡ Some x → HasLink node i link
    → touches name x ≡ true → some_passes (ends_here node.past) (joins name) node.links ≡ (x.retire && (x.stop == node.past + 1))
client_retires plan node name i x link client p at has touched = sole_passes (ends_here node.past) plan node name i x link client p at has touched ∙ ends_as node.past x link (p.links i x link at has)

-- ---- turn by turn

-- in one of the turns that are past, or in this one
pub retired_so_far : (x : Connection) (past : ℕ) → (is_retired x past || (x.retire && (x.stop == past + 1))) ≡ is_retired x (past + 1)
retired_so_far x past = go x.retire
  where
    stops : (nat_le x.stop past || (x.stop == past + 1)) ≡ nat_le x.stop (past + 1)
    stops = grind (arith, nat_tests)

    go : (b : Bool) → ((b && nat_le x.stop past) || (b && (x.stop == past + 1))) ≡ (b && nat_le x.stop (past + 1))
    go true = stops
    go false = refl

-- not before its stop
pub not_retired : (x : Connection) (past : ℕ) → past < x.stop → is_retired x past ≡ false
not_retired x past h = let late : nat_le x.stop past ≡ false = grind (arith, nat_tests) in rw late (and_false x.retire)

pub not_ending : (x : Connection) (past : ℕ) → past + 1 < x.stop → (x.retire && (x.stop == past + 1)) ≡ false
not_ending x past h = let late : (x.stop == past + 1) ≡ false = grind (arith, nat_tests) in rw late (and_false x.retire)

-- and from then on where it says so
pub at_stop : (x : Connection) (past : ℕ) → x.stop ≤ past → is_retired x past ≡ x.retire
at_stop x past over = let late : nat_le x.stop past ≡ true = grind (arith, nat_tests) in rw late (and_true x.retire)
