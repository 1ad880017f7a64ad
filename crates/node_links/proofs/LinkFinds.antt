-- The first of some connections that meets a test.
use Rattle.std.proofs.Common.{◌≡◌, inl, inr, ◌<◌, ◌≤◌, ◌+◌, ◌∙◌, ◌&&◌, ℕ, Bool, true, false, List, Some, None, length, slice_get, get_or, refl, sym, ap, subst, arith}
use Rattle.std.proofs.lemmas.Option.{same_Some, slice_get_within, slice_get-get_or}
use Rattle.otn_base.specs.declared.kind.PortName.TheVariants as port
use Rattle.tributary_model.specs.Places.{Taken}
use Rattle.node_links.specs.Links.{takes_part}
use Rattle.node_links.specs.Steps.LinkMoves.{FirstOf}
use Rattle.node_links.specs.Moves.{EachLink, TookFrame}
use Rattle.node_links.specs.declared.link.Link.{Link}
use Rattle.node_links.proofs.LinkLaws.{frame_passed}
use Rattle.node_links.proofs.LinkSteps.{below_or_here}

pub found_here : (test : Link → Bool) (links : List Link) (i : ℕ) (d : Link) → i < length links → d ≡ get_or links i d → test d ≡ true → FirstOf test links (Some i)
found_here test links i d less at t =
    record { is = (less, λ link e. subst (λ l. test l ≡ true) (same_Some d link (ap Some at ∙ sym (slice_get-get_or links i d less) ∙ e)) t) }

pub none_next : (test : Link → Bool) (links : List Link) (i : ℕ) (d : Link) → i < length links → d ≡ get_or links i d → test d ≡ false
    → ((k : ℕ) (link : Link) → k < i → slice_get links k ≡ Some link → test link ≡ false) → (k : ℕ) (link : Link) → k < i + 1 → slice_get links k ≡ Some link → test link ≡ false
none_next test links i d less at f before k link lt e = elim (below_or_here k i lt) [
  | inl l ↦ before k link l e
  | inr s ↦ subst (λ l. test l ≡ false) (same_Some d link (ap Some at ∙ sym (slice_get-get_or links i d less) ∙ ap (slice_get links) (sym s) ∙ e)) f
]

pub none_at_all : (test : Link → Bool) (links : List Link) (i : ℕ) → length links ≤ i → ((k : ℕ) (link : Link) → k < i → slice_get links k ≡ Some link → test link ≡ false) → FirstOf test links None
none_at_all test links i most before = record { is = λ k link e. before k link (let within = slice_get_within links k link e in omega arith) e }

-- a piece that came to no frame of a multiframe leaves every connection as it was
pub none_took : (past a : ℕ) (has_frame : Bool) (frame : Taken) (links : List Link) → has_frame ≡ false → EachLink (λ link then. TookFrame (has_frame && takes_part past (port.LineIn a) link) frame link then) links links
none_took past a has_frame frame links off = record {
  count = refl;
  each = λ i old new at_old at_new. subst (λ then. TookFrame (has_frame && takes_part past (port.LineIn a) old) frame old then) (same_Some old new (sym at_old ∙ at_new))
      (subst (λ m. TookFrame (m && takes_part past (port.LineIn a) old) frame old old) (sym off) (frame_passed false frame old refl));
}

pub all_took : (past a : ℕ) (has_frame : Bool) (frame : Taken) (links next : List Link) → has_frame ≡ true → EachLink (λ link then. TookFrame (takes_part past (port.LineIn a) link) frame link then) links next
    → EachLink (λ link then. TookFrame (has_frame && takes_part past (port.LineIn a) link) frame link then) links next
all_took past a has_frame frame links next on h =
    subst (λ (m : Bool). EachLink (λ link then. TookFrame (m && takes_part past (port.LineIn a) link) frame link then) links next) (sym on) h
