-- What is carried through several nodes in a row.
use Rattle.std.proofs.Common.{rules, ◌≡◌, ◌≤◌, ◌-◌, ℕ, zero, suc, List, [], ◌∷◌, length, refl, sym, ap, ◌∙◌, subst, arith}
use Rattle.std.specs.List.{concat}
use Rattle.line_side.specs.LineForm.{LineForm, through_mask}
use Rattle.line_side.proofs.LineFiles.{twice}
use Rattle.otn_base.specs.LineSlots.{LineSlots}
use Rattle.tributary_model.specs.Carriage.{Arrives}
use Rattle.tributary_model.specs.Passing.{later}
use Rattle.tributary_model.specs.Places.{tributary_of}
use Rattle.connection_laws.specs.Chains.{Hop, own_in, own_out, views_in, views_out, last_turn, IsHop, ReadsOn, AreInARow, last_hop}
use Rattle.device_model.specs.Entries.{first_turn, form_out}
use Rattle.device_model.specs.LineViews.{view_at}
use Rattle.connection_laws.proofs.Carried.{carries_on}

-- the file of a node carries what its input does
one_hop : (hop : Hop) (bytes p : List ℕ) (u : ℕ) → IsHop hop → last_turn hop.x ≤ u → Arrives (own_in hop) bytes p (views_in hop) (first_turn hop.x) (first_turn hop.x) (first_turn hop.x) u
    → Arrives (own_out hop) bytes (0 ∷ 0 ∷ 0 ∷ p) (views_out hop) (first_turn hop.x) (first_turn hop.x) (first_turn hop.x) (last_turn hop.x)
one_hop hop bytes p u is high arrives =
    carries_on hop.plan hop.inputs hop.x hop.line_in hop.port_in hop.line_out hop.port_out u (last_turn hop.x) hop.slots_in hop.slots_out hop.frames bytes p is.from is.to is.same is.made high arrives

-- the next one's input is that file
read_as_made : (hop next : Hop) → ReadsOn hop next → next.inputs.line next.line_in ≡ concat hop.frames
read_as_made hop next reads =
    reads.file
    ∙ ap (λ (form : LineForm). through_mask form.scrambled (through_mask (form_out hop.plan hop.line_out).scrambled (concat hop.frames))) reads.form
    ∙ twice (form_out hop.plan hop.line_out).scrambled (concat hop.frames)

read_on : (hop next : Hop) (bytes p : List ℕ) (u : ℕ) → ReadsOn hop next → Arrives (own_out hop) bytes p (views_out hop) (first_turn hop.x) (first_turn hop.x) (first_turn hop.x) u
    → Arrives (own_in next) bytes p (views_in next) (first_turn next.x) (first_turn next.x) (first_turn next.x) u
read_on hop next bytes p u reads arrives =
    let P : LineSlots → ℕ → List ℕ → ℕ → Type 0 = λ slots port available start. Arrives (tributary_of slots port) bytes p (view_at (tributary_of slots port) available) (start - 1) (start - 1) (start - 1) u in
    subst (λ slots. P slots next.port_in (next.inputs.line next.line_in) next.x.start) (sym reads.slots)
    (subst (λ port. P hop.slots_out port (next.inputs.line next.line_in) next.x.start) (sym reads.port)
    (subst (λ available. P hop.slots_out hop.port_out available next.x.start) (sym (read_as_made hop next reads))
    (subst (λ start. P hop.slots_out hop.port_out (concat hop.frames) start) (sym reads.start) arrives)))

no_later : (hop next : Hop) → ReadsOn hop next → next.x.stop ≤ hop.x.stop
no_later hop next reads = search rules

later_first : (k : ℕ) (p : List ℕ) → later k (0 ∷ 0 ∷ 0 ∷ p) ≡ later (suc k) p
later_first zero p = refl
later_first (suc k) p = ap (λ q. 0 ∷ 0 ∷ 0 ∷ q) (later_first k p)

through_all : (hop : Hop) (hops : List Hop) (bytes p : List ℕ) (u : ℕ) → AreInARow hop hops → last_turn hop.x ≤ u
    → Arrives (own_in hop) bytes p (views_in hop) (first_turn hop.x) (first_turn hop.x) (first_turn hop.x) u
    → Arrives (own_out (last_hop hop hops)) bytes (later (suc (length hops)) p) (views_out (last_hop hop hops)) (first_turn (last_hop hop hops).x) (first_turn (last_hop hop hops).x) (first_turn (last_hop hop hops).x) (last_turn (last_hop hop hops).x)
through_all hop [] bytes p u is high arrives = one_hop hop bytes p u is high arrives
through_all hop (next ∷ hops) bytes p u row high arrives =
    let (is, reads, rest) = row in
    let stop = no_later hop next reads in
    let last = last_hop next hops in
    let here = read_on hop next bytes (0 ∷ 0 ∷ 0 ∷ p) (last_turn hop.x) reads (one_hop hop bytes p u is high arrives) in
    subst (λ q. Arrives (own_out last) bytes q (views_out last) (first_turn last.x) (first_turn last.x) (first_turn last.x) (last_turn last.x)) (later_first (suc (length hops)) p)
    (through_all next hops bytes (0 ∷ 0 ∷ 0 ∷ p) (last_turn hop.x) rest (omega arith) here)

pub carries_through_all : (hop : Hop) (hops : List Hop) (bytes p : List ℕ) → AreInARow hop hops
    → Arrives (own_in hop) bytes p (views_in hop) (first_turn hop.x) (first_turn hop.x) (first_turn hop.x) (last_turn hop.x)
    → Arrives (own_out (last_hop hop hops)) bytes (later (suc (length hops)) p) (views_out (last_hop hop hops)) (first_turn (last_hop hop hops).x) (first_turn (last_hop hop hops).x) (first_turn (last_hop hop hops).x) (last_turn (last_hop hop hops).x)
carries_through_all hop hops bytes p row arrives = through_all hop hops bytes p (last_turn hop.x) row (omega arith) arrives
