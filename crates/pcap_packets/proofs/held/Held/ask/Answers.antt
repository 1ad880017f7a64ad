use Rattle.std.proofs.Common.{◌≡◌, ◌≤◌, ◌+◌, [], ◌∙◌, ap, sym, take, drop, length, arith, refl, append-nil}
use Rattle.std.proofs.lemmas.List.{with_items_is}
use Rattle.pcap_packets.specs.HeldBytes.{held}
use Rattle.pcap_packets.proofs.Windows.{asked_held, asked_none, came_parts, before_came, length-further}
use Rattle.pcap_packets.proofs.held.Held.ask.Goals as goal

pub returns-in-Ok-clause-more : goal.returns-in-Ok-clause-more
returns-in-Ok-clause-more g c =
    let h = c.to_front.new.self in
    let ys = c.ask_behind.new.buffer in
    let n = c.in-Ok.count in
    let size : length ys ≡ h.bytes.len = c.ask_behind.auto.buffer ∙ c.deref_mut.ensures.len in
    let bound : h.end + n ≤ length ys = omega (arith, c.in-Ok.ensures.bound, c.ask_behind.auto.buffer) in
    let front : take h.end ys ≡ take h.end h.bytes.items = c.ask_behind.ensures.front ∙ ap (take h.end) c.deref_mut.ensures.value in
    came_parts _ _ (take n (drop h.end ys)) (asked_held c.args.self.now h _ ys n c.to_front.ensures.same (with_items_is h.bytes ys size) refl refl bound front)

pub returns-in-Ok-clause-bytes : goal.returns-in-Ok-clause-bytes
returns-in-Ok-clause-bytes g c =
    let h = c.to_front.new.self in
    let ys = c.ask_behind.new.buffer in
    let n = c.in-Ok.count in
    let size : length ys ≡ h.bytes.len = c.ask_behind.auto.buffer ∙ c.deref_mut.ensures.len in
    let bound : h.end + n ≤ length ys = omega (arith, c.in-Ok.ensures.bound, c.ask_behind.auto.buffer) in
    let front : take h.end ys ≡ take h.end h.bytes.items = c.ask_behind.ensures.front ∙ ap (take h.end) c.deref_mut.ensures.value in
    before_came _ _ _ (take n (drop h.end ys)) _ (asked_held c.args.self.now h _ ys n c.to_front.ensures.same (with_items_is h.bytes ys size) refl refl bound front) c.in-Ok.ensures.bytes

pub returns-in-Ok-clause-size : goal.returns-in-Ok-clause-size
returns-in-Ok-clause-size g c =
    let h = c.to_front.new.self in
    let ys = c.ask_behind.new.buffer in
    let n = c.in-Ok.count in
    let size : length ys ≡ h.bytes.len = c.ask_behind.auto.buffer ∙ c.deref_mut.ensures.len in
    let bound : h.end + n ≤ length ys = omega (arith, c.in-Ok.ensures.bound, c.ask_behind.auto.buffer) in
    let front : take h.end ys ≡ take h.end h.bytes.items = c.ask_behind.ensures.front ∙ ap (take h.end) c.deref_mut.ensures.value in
    length-further _ _ ys h.end n bound (asked_held c.args.self.now h _ ys n c.to_front.ensures.same (with_items_is h.bytes ys size) refl refl bound front)

pub returns-in-Err-clause-none : goal.returns-in-Err-clause-none
returns-in-Err-clause-none g c =
    let h = c.to_front.new.self in
    let ys = c.ask_behind.new.buffer in
    let size : length ys ≡ h.bytes.len = c.ask_behind.auto.buffer ∙ c.deref_mut.ensures.len in
    let long : length ys ≡ length h.bytes.items = c.ask_behind.auto.buffer ∙ ap length c.deref_mut.ensures.value in
    let front : take h.end ys ≡ take h.end h.bytes.items = c.ask_behind.ensures.front ∙ ap (take h.end) c.deref_mut.ensures.value in
    asked_none c.args.self.now h _ ys c.to_front.ensures.same (with_items_is h.bytes ys size) refl refl long front

pub returns-in-Err-clause-more : goal.returns-in-Err-clause-more
returns-in-Err-clause-more g c =
    let h = c.to_front.new.self in
    let ys = c.ask_behind.new.buffer in
    let size : length ys ≡ h.bytes.len = c.ask_behind.auto.buffer ∙ c.deref_mut.ensures.len in
    let long : length ys ≡ length h.bytes.items = c.ask_behind.auto.buffer ∙ ap length c.deref_mut.ensures.value in
    let front : take h.end ys ≡ take h.end h.bytes.items = c.ask_behind.ensures.front ∙ ap (take h.end) c.deref_mut.ensures.value in
    came_parts _ _ [] (asked_none c.args.self.now h _ ys c.to_front.ensures.same (with_items_is h.bytes ys size) refl refl long front ∙ sym (append-nil (held c.args.self.now)))

pub returns-in-Err-clause-bytes : goal.returns-in-Err-clause-bytes
returns-in-Err-clause-bytes g c =
    let h = c.to_front.new.self in
    let ys = c.ask_behind.new.buffer in
    let size : length ys ≡ h.bytes.len = c.ask_behind.auto.buffer ∙ c.deref_mut.ensures.len in
    let long : length ys ≡ length h.bytes.items = c.ask_behind.auto.buffer ∙ ap length c.deref_mut.ensures.value in
    let front : take h.end ys ≡ take h.end h.bytes.items = c.ask_behind.ensures.front ∙ ap (take h.end) c.deref_mut.ensures.value in
    before_came _ _ _ [] _ (asked_none c.args.self.now h _ ys c.to_front.ensures.same (with_items_is h.bytes ys size) refl refl long front ∙ sym (append-nil (held c.args.self.now))) c.in-Err.ensures.bytes
