-- What follows of a link and its entry, and links that a call leaves as they were.
use Rattle.std.proofs.Common.{◌≡◌, ◌≤◌, ◌+◌, ◌∙◌, ◌&&◌, ℕ, Bool, true, false, refl, sym, ap, subst, arith, true≢false}
use Rattle.std.specs.Prelude.{nat_le}
use Rattle.std.proofs.lemmas.Bool.Decides.{nat_tests}
use Rattle.std.proofs.Math.Logic.{∥∥₁_elim, ∥∥₁_map}
use Rattle.std.specs.Coded.{Unit-prop, le_prop}
use mathlib.Core.HLevel.{⊥_prop}
use Rattle.otn_base.specs.declared.kind.PortName.TheVariants as port
use Rattle.plan_file.specs.declared.connection.Connection.{Connection}
use Rattle.plan_file.specs.declared.connection.FromEnd.{FromEnd}
use Rattle.plan_file.specs.declared.connection.FromEnd.TheVariants as from_end
use Rattle.plan_file.specs.declared.connection.ToEnd.{ToEnd}
use Rattle.plan_file.specs.declared.connection.ToEnd.TheVariants as to_end
use Rattle.tributary_model.specs.Places.{Taken}
use Rattle.device_model.specs.Entries.{first_turn, own_turn, is_from_client, is_to_client}
use Rattle.cross_matrix.specs.Parts.{TakesFrom, GivesTo, IsOfClient, IsToClient}
use Rattle.cross_matrix.specs.Pipes.{PipeView, IsPipeOf}
use Rattle.cross_matrix.specs.declared.taking.TakingPart.{TakingPart}
use Rattle.cross_matrix.specs.declared.taking.TakingPart.TheVariants as taking
use Rattle.cross_matrix.specs.declared.giving.GivingPart.{GivingPart}
use Rattle.cross_matrix.specs.declared.giving.GivingPart.TheVariants as giving
use Rattle.node_links.specs.Links.{IsLinkOf, SameEntry, is_on, joins}
use Rattle.node_links.specs.Moves.{TookFrame}
use Rattle.node_links.specs.declared.link.Link.{Link}

pub both_left : (a b : Bool) → (a && b) ≡ true → a ≡ true
both_left true b h = refl
both_left false b h = h

pub both_right : (a b : Bool) → (a && b) ≡ true → b ≡ true
both_right true b h = h
both_right false b h = cc

pub same_entry : (link : Link) → SameEntry link link
same_entry link = record { entry = refl; pipe = λ x h. h }

pub still_link : (x : Connection) (old new : Link) → SameEntry old new → IsLinkOf x old → IsLinkOf x new
still_link x old new s h = record { entry = s.entry ∙ h.entry; first = h.first; pipe = s.pipe x h.pipe }

-- what it keeps of the entry
pub from_as : (x : Connection) (link : Link) → IsLinkOf x link → link.entry.from ≡ x.from
from_as x link is = ap (λ (y : Connection). y.from) is.entry

pub to_as : (x : Connection) (link : Link) → IsLinkOf x link → link.entry.to ≡ x.to
to_as x link is = ap (λ (y : Connection). y.to) is.entry

pub start_as : (x : Connection) (link : Link) → IsLinkOf x link → link.entry.start ≡ x.start
start_as x link is = ap (λ (y : Connection). y.start) is.entry

-- it is active where its entry is
pub on_as : (x : Connection) (past : ℕ) (link : Link) → IsLinkOf x link → is_on past link ≡ (nat_le x.start (past + 1) && nat_le (past + 1) x.stop)
on_as x past link is = ap (λ (y : Connection). nat_le y.start (past + 1) && nat_le (past + 1) y.stop) is.entry

on_from : (past start stop : ℕ) → (nat_le start (past + 1) && nat_le (past + 1) stop) ≡ true → start ≤ past + 1
on_from past start stop h = grind (arith, nat_tests)

-- turn past + 1 is the own turn behind the start
pub own_turn_is : (x : Connection) (link : Link) (past : ℕ) → IsLinkOf x link → is_on past link ≡ true → past + 1 ≡ x.start + own_turn x past
own_turn_is x link past h on =
    let from : link.entry.start ≤ past + 1 = on_from past link.entry.start link.entry.stop on in
    omega (arith, h.first, start_as x link h)

pub turn_is : (x : Connection) (link : Link) (past : ℕ) → IsLinkOf x link → is_on past link ≡ true → first_turn x + own_turn x past ≡ past
turn_is x link past h on =
    let from : link.entry.start ≤ past + 1 = on_from past link.entry.start link.entry.stop on in
    omega (arith, h.first, start_as x link h)

-- a test that says both
pub both : {A : Type 0} (b : Bool) → b ≡ true → b ≡ false → A
both b t f = absurd (true≢false (sym t ∙ f))

pub frame_passed : (takes : Bool) (frame : Taken) (link : Link) → takes ≡ false → TookFrame takes frame link link
frame_passed takes frame link off = record { same = same_entry link; other = λ e. refl; giving = refl; took = λ on. both takes on off }

-- ---- the calls that a link may make of its pipe

-- the parts of the pipe of an entry
pub from_client : (n : ℕ) (from : FromEnd) → is_from_client n from ≡ true → from ≡ from_end.Client n
from_client n (from_end.Line a number slots) h = absurd (cc)
from_client n (from_end.Client m) h = let e : m ≡ n = grind (arith, nat_tests) in ap from_end.Client e
from_client n (from_end.Signal signal) h = absurd (cc)

pub to_client : (n : ℕ) (to : ToEnd) → is_to_client n to ≡ true → to ≡ to_end.Client n
to_client n (to_end.Line b number slots) h = absurd (cc)
to_client n (to_end.Client m) h = let e : m ≡ n = grind (arith, nat_tests) in ap to_end.Client e

pub takes_text : (x : Connection) (n : ℕ) (pipe : PipeView) → IsPipeOf x pipe → x.from ≡ from_end.Client n → IsOfClient pipe.taking
takes_text x n pipe h e = on pipe.taking (subst (λ from. TakesFrom from x pipe.taking) e h.taking)
  where
    on : (part : TakingPart) → TakesFrom (from_end.Client n) x part → IsOfClient part
    on (taking.Line sink) of = absurd of
    on (taking.Client client) of = tt
    on (taking.Signal stream) of = absurd of

pub gives_text : (x : Connection) (n : ℕ) (pipe : PipeView) → IsPipeOf x pipe → x.to ≡ to_end.Client n → IsToClient pipe.giving
gives_text x n pipe h e = on pipe.giving (subst (λ to. GivesTo to pipe.giving) e h.giving)
  where
    on : (part : GivingPart) → GivesTo (to_end.Client n) part → IsToClient part
    on (giving.Line source) of = absurd of
    on (giving.Client receiver) of = tt

-- where its pipe goes on, a link has the one of its entry
pub still_its : (link : Link) (new : PipeView) → ((x : Connection) → IsPipeOf x link.pipe → IsPipeOf x new) → ∥ IsPipeOf link.entry new ∥₁
still_its link new on = ∥∥₁_map link.of_entry (on link.entry)

of_client_prop : (part : TakingPart) → IsProp (IsOfClient part)
of_client_prop (taking.Line sink) = ⊥_prop
of_client_prop (taking.Client client) = Unit-prop
of_client_prop (taking.Signal stream) = ⊥_prop

to_client_prop : (part : GivingPart) → IsProp (IsToClient part)
to_client_prop (giving.Line source) = ⊥_prop
to_client_prop (giving.Client receiver) = Unit-prop

pub takes_from_client : (link : Link) (n : ℕ) → joins (port.ClientIn n) link ≡ true → IsOfClient link.pipe.taking
takes_from_client link n h = ∥∥₁_elim link.of_entry (of_client_prop link.pipe.taking) (λ is. takes_text link.entry n link.pipe is (from_client n link.entry.from h))

pub gives_to_client : (link : Link) (n : ℕ) → joins (port.ClientOut n) link ≡ true → IsToClient link.pipe.giving
gives_to_client link n h = ∥∥₁_elim link.of_entry (to_client_prop link.pipe.giving) (λ is. gives_text link.entry n link.pipe is (to_client n link.entry.to h))

pub has_started : (link : Link) (past : ℕ) → is_on past link ≡ true → link.pipe.start ≤ past + 1
has_started link past on = ∥∥₁_elim link.of_entry le_prop (λ is. let own = is.start in let from = on_from past link.entry.start link.entry.stop on in omega arith)
