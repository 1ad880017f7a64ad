use Rattle.serde_json.specs.View.{view}
use Rattle.std.proofs.Common.{refl}
use Rattle.network_json.proofs.Added.{pushed}
use Rattle.network_json.proofs.lists.add.Goals as goal

pub returns : goal.returns
returns c = pushed c.args.list.now.items c.push.new.self.items c.args.value (view c.args.value) c.in_ok-push.ensures.items refl
