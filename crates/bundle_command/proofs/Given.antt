-- Bytes of the stream, frame by frame.
use Rattle.std.proofs.Common.{◌≡◌, ◌≢◌, ◌<◌, ◌≤◌, ◌+◌, ◌-◌, ◌*◌, ℕ, zero, suc, List, [], ◌∷◌, ◌++◌, Some, length, get_or, min, take, drop, refl, sym, ap, subst, ◌∙◌, append-nil, append_assoc, length-append, arith}
use Rattle.std.specs.Prelude.{slice_get}
use Rattle.std.specs.List.{Contains}
use Rattle.std.proofs.lemmas.List.{length-take-le}
use Rattle.std.proofs.lemmas.Option.{slice_get_within}
use Rattle.otn_base.specs.Counts.{saturated}
use Rattle.port_base.specs.Views.{BaysView}
use Rattle.gfp_frames.proofs.Lists.{some_length}
use Rattle.gfp_linear.specs.Weave.{IdleFrame}
use Rattle.gfp_linear.specs.Weaver.{WeaverState, HasWoven, IsWeave, woven_first}
use Rattle.gfp_linear.proofs.Streams.{weave_starts}
use Rattle.gfp_linear.proofs.Weaving.{some_cids}
use Rattle.client_list.specs.ClientLists.{IsClientList}
use Rattle.bundle_command.specs.ChannelInput.{texts_of}
use Rattle.bundle_command.specs.BundleLeft.{place_of}
use Rattle.bundle_command.specs.Steps.Channels.{AreFresh, ChannelAt, HasChannel, IsUnasked, OnlyClients, WeavingHas, WeavingReady, WeavingStands, GoesRound, IsReady, left_to_ask, woven_bytes}
use Rattle.bundle_command.specs.Steps.Framed.{OnlyInputs}
use Rattle.bundle_command.specs.declared.channel.Channel.{Channel}
use Rattle.bundle_command.specs.declared.channel.Standing.TheVariants as standing
use Rattle.bundle_command.specs.declared.weaving.Weaving.{Weaving}
use Rattle.bundle_command.proofs.Asked.{texts_many}
use Rattle.bundle_command.proofs.AskedTurns.{none_first}
use Rattle.bundle_command.proofs.Sizes.{bytes-none, bytes-push, end_first}

pub stands_ready : (clients : List ℕ) (first now : BaysView) (emitted : List ℕ) (weaving : Weaving) → WeavingStands clients first now emitted weaving → WeavingReady clients first now emitted weaving
stands_ready clients first now emitted weaving h = record { read = h.read; at = h.at; has = h.has; unsettled = h.unsettled; begun = (let b = h.begun in omega arith); told = λ hand. h.told }

pub sat_sum : (g k : ℕ) → saturated (saturated g + k) ≡ saturated (g + k)
sat_sum g k = omega arith

-- some bytes of the frame in hand
pub gives : (clients : List ℕ) (first now : BaysView) (emitted bytes : List ℕ) (count : ℕ) (old new : Weaving) → old.maker.maker.hand ≢ [] → 1 ≤ count → count ≡ length bytes
    → ((cids : List ℕ) (at : _) (emitted : List ℕ) → HasWoven cids at emitted old.maker → HasWoven cids at (emitted ++ bytes) new.maker)
    → new.channels ≡ old.channels → new.end ≡ old.end → new.emitted ≡ saturated (old.emitted + count)
    → WeavingReady clients first now emitted old → WeavingStands clients first now (emitted ++ bytes) new
gives clients first now emitted bytes count old new hand some size woven channels end count_is h = record {
  read = h.read;
  at = h.at;
  has = record {
    list = h.has.list;
    woven = woven clients h.at emitted h.has.woven;
    going = h.has.going;
    many = ap (λ (cs : _). length cs.items) channels ∙ h.has.many;
    end = h.has.end;
    ends = h.has.ends;
    each = λ c channel known. h.has.each c channel (ap (λ (cs : _). slice_get cs.items c) (sym channels) ∙ known);
    weave = λ inputs may. h.has.weave inputs (λ c channel known. may c channel (ap (λ (cs : _). slice_get cs.items c) channels ∙ known));
    only = h.has.only;
    emitted_is = count_is ∙ ap (λ x. saturated (x + count)) h.has.emitted_is ∙ sat_sum (length emitted) count ∙ ap saturated (ap (λ k. length emitted + k) size ∙ sym (length-append emitted bytes));
    end_is = end ∙ h.has.end_is;
  };
  unsettled = λ c channel known. h.unsettled c channel (ap (λ (cs : _). slice_get cs.items c) (sym channels) ∙ known);
  begun = (let b = h.begun in let l = length-append emitted bytes in omega arith);
  told = h.told hand;
}

-- before the first byte
pub weaving_begins : (clients : List ℕ) (weaving : Weaving) → IsClientList clients → HasWoven clients woven_first [] weaving.maker → AreFresh clients weaving.channels.items → weaving.emitted ≡ 0 → weaving.end ≡ 0
    → (first : BaysView) → WeavingStands clients first first [] weaving
weaving_begins clients weaving list woven fresh emitted end first = record {
  read = λ c. [];
  at = woven_first;
  has = record {
    list = list;
    woven = woven;
    going = record { few = some_cids clients list.cids; some = λ e. (let h : IdleFrame ∷ [] ≡ [] = e in cc) };
    many = fresh.many;
    end = 0;
    ends = end_first clients;
    each = λ c channel known.
        let f = fresh.each c channel known in
        record {
          stands = f.0 (place_of clients first c);
          client = f.1;
          unasked = λ e. record { low = omega arith; most = idle; late = idle; none = none_first (length clients) c };
          untouched = λ e. refl;
          asked = λ other. absurd (other f.2);
        };
    weave = λ inputs may. weave_starts (texts_of (length clients) inputs) (let many = texts_many (length clients) inputs in let some = some_cids clients list.cids in omega arith);
    only = record { client_in = λ n none. refl };
    emitted_is = emitted;
    end_is = end;
  };
  unsettled = λ c channel known more. not_more (sym (fresh.each c channel known).2 ∙ more);
  begun = (let e = bytes-none clients in omega arith);
  told = refl;
}
  where
    not_more : standing.Fresh ≢ standing.More
    not_more e = cc

    idle : woven_bytes clients (IdleFrame ∷ []) ≤ 4
    idle = (let e = bytes-push clients [] IdleFrame in let n = bytes-none clients in omega arith)

-- ---- what stands of some channels

pub ready_on : (was is : BaysView) (old new : Weaving) → ((clients : List ℕ) (first : BaysView) (emitted : List ℕ) → WeavingReady clients first was emitted old → WeavingReady clients first is emitted new) → IsReady was old → IsReady is new
ready_on was is old new goes h = record { clients = h.clients; first = h.first; emitted = h.emitted; ready = goes h.clients h.first h.emitted h.ready }

pub only_none : (bays : BaysView) → OnlyInputs bays bays
only_none bays = record { line_in = refl; line_out = refl; client_out = refl }

pub only_twice : (first mid last : BaysView) → OnlyInputs first mid → OnlyInputs mid last → OnlyInputs first last
only_twice first mid last one two = record { line_in = two.line_in ∙ one.line_in; line_out = two.line_out ∙ one.line_out; client_out = two.client_out ∙ one.client_out }

-- while no frame is in hand one more channel was asked
pub goes_round : (old new : WeaverState) → old.maker.hand ≡ [] → GoesRound old new → left_to_ask new.maker.hand (length new.cids) new.asked < left_to_ask old.maker.hand (length old.cids) old.asked
goes_round old new none round = subst (λ h. left_to_ask new.maker.hand (length new.cids) new.asked < left_to_ask h (length old.cids) old.asked) (sym none) (by_hand new.maker.hand refl)
  where
    by_hand : (hand : List ℕ) → new.maker.hand ≡ hand → left_to_ask hand (length new.cids) new.asked < suc (length old.cids - old.asked)
    by_hand [] e = (let r = round e in let one = r.0 in let less = r.1 in let same = ap length r.2 in omega arith)
    by_hand (byte ∷ hand) e = omega arith

-- how many bytes of the frame in hand are given
pub given_some : (hand into : List ℕ) (count : ℕ) → hand ≢ [] → 1 ≤ length into → count ≡ min (length hand) (length into) → 1 ≤ count
given_some hand into count some room e = (let h = some_length hand some in omega arith)

pub given_long : (hand into out : List ℕ) (count : ℕ) → length out ≡ length into → count ≡ min (length hand) (length into) → count ≡ length (take count out)
given_long hand into out count same e = sym (length-take-le count out (omega arith))

pub four_rows : (emitted p1 p2 p3 p4 all : List ℕ) → ((p1 ++ p2) ++ p3) ++ p4 ≡ all → (((emitted ++ p1) ++ p2) ++ p3) ++ p4 ≡ emitted ++ all
four_rows emitted p1 p2 p3 p4 all e =
    ap (λ x. (x ++ p3) ++ p4) (append_assoc emitted p1 p2) ∙ ap (λ x. x ++ p4) (append_assoc emitted (p1 ++ p2) p3) ∙ append_assoc emitted ((p1 ++ p2) ++ p3) p4 ∙ ap (λ x. emitted ++ x) e
