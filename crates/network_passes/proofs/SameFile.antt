-- A line's file is fixed by what the connections that go to it get in their turns.
use Rattle.std.proofs.Common.{◌≡◌, ◌≤◌, ◌+◌, ◌-◌, ◌/◌, ◌%◌, ℕ, List, [], None, length, take, get_or, sym, ◌∙◌, subst, arith}
use Rattle.std.specs.List.{Contains}
use Rattle.std.proofs.lemmas.List.{ext_get_or, take_all}
use Rattle.otn_base.specs.LineSlots.{LineSlots}
use Rattle.line_side.specs.LineForm.{size_of}
use Rattle.line_side.specs.LineOutput.{FramePut}
use Rattle.msi_table.specs.Psi.{port_at}
use Rattle.plan_file.specs.Answer.{fault_in}
use Rattle.plan_file.specs.declared.connection.Connection.{Connection}
use Rattle.plan_file.specs.declared.connection.ToEnd.TheVariants as to_end
use Rattle.plan_file.specs.declared.plan.Plan.{Plan}
use Rattle.tributary_model.specs.Places.{tributary_of, byte_at}
use Rattle.tributary_model.specs.Puts.{IsPut, IsSourcePlace}
use Rattle.device_model.specs.Entries.{first_turn, form_out, own_turn, IsSentOn}
use Rattle.device_model.specs.LineFiles.{IsFrameOf, IsLineFile}
use Rattle.device_model.specs.Through.{Inputs, own_input, got_by}
use Rattle.connection_laws.proofs.LineBytes.{Alike, same_frames}
use Rattle.damaged_ways.proofs.Puts.{same_source, unless_differ}
use Rattle.connection_laws.proofs.WorldInputs.{sound_of}
use Rattle.device_model.proofs.MadeFrames.{many_frames}

-- each connection of the plan that goes to line b gets the same in its turns
abbrev pub SameGotBy : (plan : Plan) (one other : Inputs) (b : ℕ) → Type 0
SameGotBy plan one other b = (x : Connection) (port : ℕ) (slots : LineSlots) → Contains plan.connections x → x.to ≡ to_end.Line b port slots
    → (n : ℕ) → first_turn x + n ≤ x.stop → got_by x (own_input one x) n ≡ got_by x (own_input other x) n

-- what a connection that is sent in the turn got by it
got_so_far : (plan : Plan) (one other : Inputs) (b past port : ℕ) (x : Connection) (slots : LineSlots) → fault_in plan ≡ None
    → SameGotBy plan one other b → IsSentOn plan b past x port slots
    → got_by x (own_input one x) (own_turn x past + 1) ≡ got_by x (own_input other x) (own_turn x past + 1)
got_so_far plan one other b past port x slots accepted same sends =
    let low = (sound_of plan x accepted sends.is_of).start in
    let start = sends.active.start in
    let stop = sends.active.stop in
    same x port slots sends.is_of sends.to (own_turn x past + 1) (omega arith)

same_bytes : (plan : Plan) (one other : Inputs) (b past n row column : ℕ) (p q : FramePut) → fault_in plan ≡ None → SameGotBy plan one other b
    → IsFrameOf plan one b past n p → IsFrameOf plan other b past n q → 1 ≤ row → row ≤ 4 → 15 ≤ column → column ≤ 3824
    → byte_at p.bytes row column ≡ byte_at q.bytes row column
same_bytes plan one other b past n row column p q accepted same is too first last low high =
    unless_differ (byte_at p.bytes row column) (byte_at q.bytes row column) (λ differ.
    let none : (x : Connection) (port : ℕ) (slots : LineSlots) → IsSentOn plan b past x port slots
    → IsSourcePlace (tributary_of slots port) n row column → ⊥ = λ x port slots sends place.
    let turns = got_so_far plan one other b past port x slots accepted same sends in
    differ (same_source (tributary_of slots port) (got_by x (own_input other x) (own_turn x past + 1)) (own_turn x past) n row column p.bytes q.bytes
    (subst (λ g. IsPut (tributary_of slots port) g (own_turn x past) n p.bytes) turns (is.own x port slots sends)) (too.own x port slots sends) place) in
    differ (is.other row column first last low high none ∙ sym (too.other row column first last low high none)))

same_port : (plan : Plan) (one other : Inputs) (b past n slot : ℕ) (p q : FramePut) → IsFrameOf plan one b past n p → IsFrameOf plan other b past n q
    → 1 ≤ slot → slot ≤ size_of (form_out plan b) → port_at p.ports slot ≡ port_at q.ports slot
same_port plan one other b past n slot p q is too low high = unless_differ (port_at p.ports slot) (port_at q.ports slot) (λ differ.
    let none : (x : Connection) (port : ℕ) (slots : LineSlots) → IsSentOn plan b past x port slots → Contains slots.list slot → ⊥ =
    λ x port slots sends has. differ (is.used x port slots slot sends has ∙ sym (too.used x port slots slot sends has)) in
    differ (is.free slot low high none ∙ sym (too.free slot low high none)))

alike : (plan : Plan) (one other : Inputs) (b past n : ℕ) (p q : FramePut) → fault_in plan ≡ None → SameGotBy plan one other b
    → IsFrameOf plan one b past n p → IsFrameOf plan other b past n q → Alike p q
alike plan one other b past n p q accepted same is too =
    let many = is.many in
    record {
      mfas = is.mfas ∙ sym too.mfas;
      ports = ext_get_or 0 p.ports q.ports (is.many ∙ sym too.many) (λ i within.
          let slot : i + 1 - 1 ≡ i = omega arith in
          subst (λ k. get_or p.ports k 0 ≡ get_or q.ports k 0) slot (same_port plan one other b past n (i + 1) p q is too (omega arith) (omega arith)));
      bytes = λ row column first last low high. same_bytes plan one other b past n row column p q accepted same is too first last low high;
    }

pub same_file : (plan : Plan) (one other : Inputs) (b count : ℕ) (frames others : List (List ℕ)) → fault_in plan ≡ None
    → SameGotBy plan one other b → IsLineFile plan one b count frames → IsLineFile plan other b count others → frames ≡ others
same_file plan one other b count frames others accepted same file second =
    let size = size_of (form_out plan b) in
    let many = file.are_put.many in
    let many_too = second.are_put.many in
    let front : frames ≡ take (length file.puts) others = same_frames b [] file.puts second.puts frames others (omega arith)
    (λ f p q e g. alike plan one other b (f / size) (f % size) p q accepted same (file.are_put.each f p e) (second.are_put.each f q g))
    file.are_frames second.are_frames in
    let long = many_frames b [] second.puts others second.are_frames in
    front ∙ take_all (length file.puts) others (omega arith)
