-- What is gone of what was due to a place: one whole write, and one move after the other.
use Rattle.std.proofs.Common.{◌≡◌, ◌≢◌, ℕ, List, [], ◌++◌, length, take, drop, refl, sym, ap, ◌∙◌, append_assoc, append-nil, inr}
use Rattle.std.proofs.lemmas.List.{take-append-drop}
use Rattle.port_base.specs.Bytes.{HasFailed}
use Rattle.port_base.specs.Sent.{IsSent}
use Rattle.port_base.specs.Views.{State, Empty, Live, Dead, OutView}
use Rattle.port_base.specs.Writes.{Sends, Writes, IsWriting, state_after_write}
use Rattle.port_base.specs.declared.drain.Written.{Written}
use Rattle.port_base.specs.declared.drain.Written.TheVariants as written
use Rattle.port_base.proofs.GivenLaws.{GainedBy, gained_none, gained_twice, write_gained, empty_not_live, dead_not_live}

-- nothing was due, and nothing is gone
pub sent_none : (place : OutView) → IsSent place [] place
sent_none place = record { written = []; rest = []; parts = refl; gained = gained_none place; whole = λ _. refl }

-- of what is due to a place that is live, all is gone
went_all : (first now : OutView) (due : List ℕ) (h : IsSent first due now) → now.state ≡ Live → h.written ≡ due
went_all first now due h live = sym (append-nil h.written) ∙ ap (λ r. h.written ++ r) (sym (h.whole live)) ∙ h.parts

-- a place that is not live takes nothing more
pub idle_sent : (first now : OutView) (due bytes : List ℕ) → now.state ≢ Live → IsSent first due now → IsSent first (due ++ bytes) now
idle_sent first now due bytes idle h = record {
  written = h.written;
  rest = h.rest ++ bytes;
  parts = sym (append_assoc h.written h.rest bytes) ∙ ap (λ x. x ++ bytes) h.parts;
  gained = h.gained;
  whole = λ alive. absurd (idle alive);
}

-- what went in two moves, one after the other
pub sent_twice : (first old new : OutView) (due bytes : List ℕ) → IsSent first due old → IsSent old bytes new → IsSent first (due ++ bytes) new
sent_twice first old new due bytes h k = by_state old.state refl
  where
    dull : old.state ≢ Live → IsSent first (due ++ bytes) new
    dull idle = rw (k.gained.idle idle).0 (idle_sent first old due bytes idle h)

    by_state : (s : State) → old.state ≡ s → IsSent first (due ++ bytes) new
    by_state Live e = record {
      written = h.written ++ k.written;
      rest = k.rest;
      parts = append_assoc h.written k.written k.rest ∙ rw (k.parts, went_all first old due h e) refl;
      gained = gained_twice first old new h.written k.written h.gained k.gained;
      whole = k.whole;
    }
    by_state Empty e = dull (λ l. empty_not_live (sym e ∙ l))
    by_state Dead e = dull (λ l. dead_not_live (sym e ∙ l))

-- a live place takes what it is given, or a part of it and dies
live_sent : (result : Written) (old new : OutView) (bytes : List ℕ) → old.state ≡ Live → new.state ≡ state_after_write Live result → GainedBy result old bytes new → IsSent old bytes new
live_sent written.Whole old new bytes live state (sent, gained, all) = record {
  written = sent;
  rest = [];
  parts = append-nil sent ∙ all live;
  gained = gained;
  whole = λ _. refl;
}
live_sent written.Lost old new bytes live state (n, less, gained) = record {
  written = take n bytes;
  rest = drop n bytes;
  parts = take-append-drop n bytes;
  gained = gained;
  whole = λ alive. absurd (dead_not_live (sym state ∙ alive));
}

idle_write_sent : (result : Written) (old new : OutView) (bytes : List ℕ) → old.state ≢ Live → GainedBy result old bytes new → IsSent old bytes new
idle_write_sent written.Whole old new bytes idle (sent, gained, all) = rw (gained.idle idle).0 (idle_sent old old [] bytes idle (sent_none old))
idle_write_sent written.Lost old new bytes idle (n, less, gained) = rw (gained.idle idle).0 (idle_sent old old [] bytes idle (sent_none old))

-- from what a whole write ensures: what of its bytes is gone
pub write_sent : (result : Written) (old new : OutView) (bytes : List ℕ) → new.state ≡ state_after_write old.state result → (old.state ≡ Live → Writes result old bytes new)
    → (old.state ≢ Live → (new ≡ old) × (result ≡ written.Whole)) → IsSent old bytes new
write_sent result old new bytes state live idle = by_state old.state refl
  where
    gained : GainedBy result old bytes new
    gained = write_gained result old new bytes state live idle

    by_state : (s : State) → old.state ≡ s → IsSent old bytes new
    by_state Live e = live_sent result old new bytes e (state ∙ ap (λ s. state_after_write s result) e) gained
    by_state Empty e = idle_write_sent result old new bytes (λ l. empty_not_live (sym e ∙ l)) gained
    by_state Dead e = idle_write_sent result old new bytes (λ l. dead_not_live (sym e ∙ l)) gained

-- a live place of which a write was lost, and which was then made dead
pub lost_sent : (old mid new : OutView) (bytes : List ℕ) → old.state ≡ Live → Writes written.Lost old bytes mid → new ≡ record mid { state = Dead } → IsSent old bytes new
lost_sent old mid new bytes live (n, less, sends, failed) e = rw e (record {
  written = take n bytes;
  rest = drop n bytes;
  parts = take-append-drop n bytes;
  gained = record {
    sends = record { boxed = sends.boxed; got = sends.got; keeps = sends.keeps; faults = sends.faults; number = sends.number };
    state = inr (live, refl, failed);
    idle = λ no. absurd (no live);
  };
  whole = λ alive. absurd (dead_not_live alive);
})

-- a part of lines that went, where the write of all was lost
pub part_lost : (old mid : OutView) (bytes : List ℕ) (r : Written) (n : ℕ) → r ≡ written.Lost → Sends old (take n bytes) mid → IsWriting r n (length bytes) → (r ≡ written.Lost → HasFailed old.faults mid.faults) → Writes written.Lost old bytes mid
part_lost old mid bytes written.Whole n e sends less failed = absurd (cc)
part_lost old mid bytes written.Lost n e sends less failed = (n, less, sends, failed e)

-- and the place was then made dead
pub lost_writes : (old mid new : OutView) (bytes : List ℕ) → Writes written.Lost old bytes mid → new ≡ record mid { state = Dead } → Writes written.Lost old bytes new
lost_writes old mid new bytes (n, less, sends, failed) e = rw e (n, less, record { boxed = sends.boxed; got = sends.got; keeps = sends.keeps; faults = sends.faults; number = sends.number }, failed)
