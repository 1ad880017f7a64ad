use Rattle.std.proofs.Common.{append_assoc}
use Rattle.unbundle_command.specs.Unbundled.{other_text}
use Rattle.unbundle_command.proofs.Telling.{whole_report}
use Rattle.unbundle_command.proofs.report.put_report.Goals as goal

pub returns : goal.returns
unfolding other_text
returns c = λ first now arrived h few.
    whole_report first now arrived c.args.outputs.now c.args.text.now.bytes c.put_channels.new.text.bytes c.push_str.new.self.bytes c.other.result h few c.requires.empty (c.put_channels.ensures.text first now arrived h few) c.other.ensures
    (rw (c.push_str.ensures.bytes, c.put_number.ensures.text) (simp append_assoc))
