use Rattle.trib_sink.proofs.follower.Follower.take_frame.Goals as goal

pub returns : goal.returns
returns g c = rw (c.take_frame.ensures, ← c.self.view_is)
