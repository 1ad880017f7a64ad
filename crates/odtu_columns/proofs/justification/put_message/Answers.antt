use Rattle.std.proofs.Common.{◌≡◌, length, sym, ◌∙◌, rules}
use Rattle.odtu_columns.proofs.PutMessage.{long, message_put, message_kept}
use Rattle.odtu_columns.proofs.justification.put_message.Goals as goal

pub returns-clause-message : goal.returns-clause-message
returns-clause-message c =
    let size : length c.args.frame.now ≡ 16320 = sym (long c.args.frame.now c.set.new.self 15 _ c.set.ensures.written) ∙ c.set.ensures.size in
    message_put c.args.frame.now c.set.new.self c.set-2.new.self c.set-3.new.self c.set-4.new.self c.set-5.new.self c.set-6.new.self c.args.bytes size (search rules)
    c.set.ensures.written c.set-2.ensures.written c.set-3.ensures.written c.set-4.ensures.written c.set-5.ensures.written c.set-6.ensures.written

pub returns-clause-kept : goal.returns-clause-kept
returns-clause-kept c = λ place none.
    message_kept c.args.frame.now c.set.new.self c.set-2.new.self c.set-3.new.self c.set-4.new.self c.set-5.new.self c.set-6.new.self c.args.bytes place
    c.set.ensures.written c.set-2.ensures.written c.set-3.ensures.written c.set-4.ensures.written c.set-5.ensures.written c.set-6.ensures.written none
