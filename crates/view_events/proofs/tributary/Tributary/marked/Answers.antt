use Rattle.std.proofs.Common.{◌∙◌, ap}
use Rattle.std.specs.List.{find}
use Rattle.view_events.specs.SlotEvents.{msi_bytes, is_wrong_twice}
use Rattle.view_events.proofs.tributary.Tributary.marked.Goals as goal

pub returns : goal.returns
returns c bytes past seen stands = c.marked.ensures bytes seen
    ∙ ap (λ first. find (λ slot. is_wrong_twice (msi_bytes slot bytes) first c.args.right) c.args.slots.now) stands.first
