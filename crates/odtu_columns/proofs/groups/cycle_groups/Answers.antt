use Rattle.std.proofs.Common.{◌≡◌, ◌+◌, ◌-◌, ◌*◌, length, take, drop, ap, sym, ◌∙◌, arith}
use Rattle.otn_base.specs.LineSlots.{slots_of}
use Rattle.odtu_columns.specs.Payload.{run_groups}
use Rattle.odtu_columns.proofs.RunGroups.{gathered}
use Rattle.odtu_columns.proofs.groups.cycle_groups.Goals as goal

pub returns : goal.returns
returns c =
    let payload = c.args.payload.now in
    let first = c.args.first in
    let count = c.args.count in
    let kind = c.kind-kind.result in
    let line = slots_of kind in
    let columns = c.slots-columns.result in
    let slots = c.as_slice.result.now in
    let size : length c.gather.new.into ≡ length slots * count =
    c.gather.auto.into ∙ c.requires.size ∙ sym (ap (λ xs. length xs * count) c.as_slice.ensures.bytes) in
    let same : take (columns * first + columns * count - columns * first) (drop (columns * first) payload) ≡ take (line * count) (drop (line * first) payload) =
    ap (λ s. take (s * first + s * count - s * first) (drop (s * first) payload)) c.slots-columns.ensures.slots
    ∙ ap (λ n. take n (drop (line * first) payload)) (let e : line * first + line * count - line * first ≡ line * count = omega arith in e) in
    gathered line payload (take (columns * first + columns * count - columns * first) (drop (columns * first) payload)) slots c.gather.new.into first count
    (rw c.as_slice.ensures.bytes c.kind-kind.ensures.list) size same c.gather.ensures
    ∙ ap (λ k. run_groups (slots_of k) payload slots first count) c.kind-kind.ensures.kind
    ∙ ap (λ xs. run_groups (slots_of c.args.slots.now.kind) payload xs first count) c.as_slice.ensures.bytes
