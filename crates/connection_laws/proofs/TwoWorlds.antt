-- What leaves on a connection that two runs share is the same in both.
use Rattle.std.proofs.Common.{rules}
use Rattle.plan_file.specs.declared.connection.Connection.{Connection}
use Rattle.device_model.specs.Through.{own_input}
use Rattle.connection_laws.specs.TwoWorlds.{SameInput, AgreeOnEnd, FiledRun, IsSameInBoth, ShareIt}
use Rattle.connection_laws.proofs.OwnBytes.{sends_the_same, writes_the_same}
use Rattle.connection_laws.proofs.WorldInputs.{gives_the_same_input, owes_the_same, reports_the_same}

agreed_end : (one other : FiledRun) (x : Connection) → ShareIt one other x → AgreeOnEnd x.from one.inputs other.inputs
agreed_end one other x share = search rules

shared_input : (one other : FiledRun) (x : Connection) → ShareIt one other x → SameInput (own_input one.inputs x) (own_input other.inputs x)
shared_input one other x share = gives_the_same_input one.plan x one.inputs other.inputs share.first.0 share.first.1 (agreed_end one other x share)

pub same_where_shared : (one other : FiledRun) (x : Connection) → ShareIt one other x → IsSameInBoth one other x
same_where_shared one other x share =
    let same = shared_input one other x share in
    record {
      due = λ past pieces. search (rules, owes_the_same);
      report = λ turns. search (rules, reports_the_same);
      places = λ b port past n row column slots have. search (rules, sends_the_same);
      file = λ b port past n row column slots have mask. search (rules, writes_the_same);
    }
