-- The frame that the connections of a node make is the one of the plan.
use Rattle.std.proofs.Common.{◌≡◌, inl, inr, ◌<◌, ◌≤◌, ◌+◌, ◌*◌, ◌%◌, ◌-◌, ℕ, suc, true, false, List, Some, None, length, slice_get, slice_index, sym, ap, ◌∙◌, subst, arith, add-one}
use Rattle.std.proofs.lemmas.List.{get_or_default}
use Rattle.std.proofs.lemmas.Option.{same_Some, slice_get_within}
use Rattle.std.specs.List.{Contains}
use borrow.Author.Count.{below_more}
use Rattle.otn_base.specs.LineSlots.{LineSlots, slots_of}
use Rattle.otn_base.specs.declared.kind.PortName.TheVariants as port_name
use Rattle.otn_base.specs.declared.line_kind.LineKind.{LineKind}
use Rattle.otn_base.specs.declared.limits.TheConstants.{LINE_COLUMNS, LINE_FRAME_BYTES}
use Rattle.frame_geometry.specs.Places.{place_of}
use Rattle.msi_table.specs.Psi.{IsGiven, port_at}
use Rattle.line_side.specs.LineForm.{LineForm}
use Rattle.line_side.specs.LineOutput.{FramePut, LineMade, LineOutView}
use Rattle.port_base.specs.Views.{OutView}
use Rattle.plan_file.specs.Answer.{fault_in}
use Rattle.plan_file.specs.declared.connection.Connection.{Connection}
use Rattle.plan_file.specs.declared.connection.ToEnd.TheVariants as to_end
use Rattle.plan_file.specs.declared.plan.Plan.{Plan}
use Rattle.tributary_model.specs.Places.{tributary_of, byte_at}
use Rattle.tributary_model.specs.Puts.{IsPut, IsSourcePlace, WasPut}
use Rattle.tributary_model.specs.Sending.{StandApart}
use Rattle.tributary_model.proofs.OnLine.{is_tributary}
use Rattle.tributary_model.proofs.PutApart.{stays_apart}
use Rattle.device_model.specs.Entries.{form_out, own_turn, IsActive}
use Rattle.device_model.specs.LineFiles.{IsFrameOf}
use Rattle.device_model.specs.SoundPlans.{IsSoundPlan, IsSender}
use Rattle.device_model.specs.Through.{Inputs, own_input, got_by}
use Rattle.device_model.proofs.SoundPlans.{sound_plan}
use Rattle.node_links.specs.Links.{IsLinkOf, takes_part}
use Rattle.node_links.specs.Steps.LineFrames.{PutsOwn, AllotsOwn, FromBlank}
use Rattle.node_links.specs.Moves.{FillLine}
use Rattle.node_links.specs.declared.link.Link.{Link}
use Rattle.node_links.proofs.LinkLaws.{to_as}
use Rattle.node_links.proofs.LinkSteps.{after_all}
use Rattle.node_links.proofs.Senders.{either, sender_gives, giver_sends, sender_of, sends_on, element_at}

-- ---- ends of a sound plan

end_at : (plan : Plan) (i b port : ℕ) (x : Connection) (slots : LineSlots) → IsSoundPlan plan → slice_get plan.connections i ≡ Some x → x.to ≡ to_end.Line b port slots
    → (slots.kind ≡ (form_out plan b).kind) × (1 ≤ port) × (port ≤ slots_of slots.kind)
end_at plan i b port x slots sound known to =
    let end = (sound.entries i x known).to_line b port slots to in
    (end.kind, end.port_least, end.port_most)

-- a slot of one of them is a slot of a line
slot_least : (plan : Plan) (i b port slot : ℕ) (x : Connection) (slots : LineSlots) → IsSoundPlan plan → slice_get plan.connections i ≡ Some x → x.to ≡ to_end.Line b port slots
    → Contains slots.list slot → 1 ≤ slot
slot_least plan i b port slot x slots sound known to has =
    let end = (sound.entries i x known).to_line b port slots to in
    let low : 1 ≤ slice_index slots.list has.0 = end.list.low has.0 has.1 in
    let is : slice_index slots.list has.0 ≡ slot = get_or_default slots.list has.0 0 slot has.1 ∙ has.2 in
    omega arith

-- two connections that send on the line have no slot in common
stand_apart : (plan : Plan) (b past i j port other : ℕ) (slots others : LineSlots) → IsSoundPlan plan → IsSender plan b past i port slots → IsSender plan b past j other others → i < j
    → StandApart (tributary_of slots port) (tributary_of others other)
stand_apart plan b past i j port other slots others sound one two less =
    let k = (end_at plan i b port one.x slots sound one.known one.to).0 in
    let l = (end_at plan j b other two.x others sound two.known two.to).0 in
    record {
      line = ap slots_of (k ∙ sym l);
      none = λ slot has has'. let same = sound.slots_apart i j b past port other slot slots others one two has has' in omega arith;
    }

-- ---- the bytes

-- each of the first k connections that sends on the line has put its own into the frame, in which every other byte is 0
record Placed (plan : Plan) (inputs : Inputs) (b past n k : ℕ) (frame : List ℕ) : Type 0 where
  own : (i : ℕ) → i < k → (port : ℕ) (slots : LineSlots) (s : IsSender plan b past i port slots)
      → IsPut (tributary_of slots port) (got_by s.x (own_input inputs s.x) (own_turn s.x past + 1)) (own_turn s.x past) n frame
  other : (row column : ℕ) → 1 ≤ row → row ≤ 4 → 1 ≤ column → column ≤ LINE_COLUMNS
      → ((i : ℕ) → i < k → (port : ℕ) (slots : LineSlots) → IsSender plan b past i port slots → IsSourcePlace (tributary_of slots port) n row column → ⊥)
      → byte_at frame row column ≡ 0

-- a connection that sends nothing on the line leaves it so
placed_same : (plan : Plan) (inputs : Inputs) (b past n k : ℕ) (x : Connection) (link : Link) (before now : List ℕ) → slice_get plan.connections k ≡ Some x → IsLinkOf x link
    → takes_part past (port_name.LineOut b) link ≡ false → now ≡ before → Placed plan inputs b past n k before → Placed plan inputs b past n (k + 1) now
placed_same plan inputs b past n k x link before now known is gives same h = subst (Placed plan inputs b past n (k + 1)) (sym same) record {
  own = below_more (λ i. (port : ℕ) (slots : LineSlots) (s : IsSender plan b past i port slots)
      → IsPut (tributary_of slots port) (got_by s.x (own_input inputs s.x) (own_turn s.x past + 1)) (own_turn s.x past) n before) k h.own
      (λ port slots s.
      let one : s.x ≡ x = same_Some s.x x (sym s.known ∙ known) in
      let to = ap (λ (y : Connection). y.to) (sym one) ∙ s.to in
      let active = subst (λ y. IsActive y past) one s.active in
      let yes = sender_gives x b past port slots link is to active in
      cc);
  other = λ row column r1 r4 c1 c4 none. h.other row column r1 r4 c1 c4 (λ i less. none i (omega arith));
}

-- one that sends puts its own where the others have none of theirs
placed_more : (plan : Plan) (inputs : Inputs) (b past n k : ℕ) (links : List Link) (x : Connection) (link : Link) (before now : List ℕ) → IsSoundPlan plan → n < slots_of (form_out plan b).kind
    → FillLine plan inputs b past n links → slice_get plan.connections k ≡ Some x → slice_get links k ≡ Some link
    → takes_part past (port_name.LineOut b) link ≡ true → PutsOwn (takes_part past (port_name.LineOut b) link) link before now → Placed plan inputs b past n k before → Placed plan inputs b past n (k + 1) now
placed_more plan inputs b past n k links x link before now sound less fill known here gives puts h =
    let is = fill.of_plan k x link known here in
    let sends = giver_sends x b past link is gives in
    let number = sends.port in
    let read = sends.slots in
    let me : IsSender plan b past k number read = record { x = x; known = known; to = sends.to; active = sends.active } in
    let end = end_at plan k b number x read sound known sends.to in
    let within : n < slots_of read.kind = subst (λ kind. n < slots_of kind) (sym end.0) less in
    let stand = fill.stand k number read x link known here sends.to sends.active in
    let was : WasPut (tributary_of read number) (got_by x (own_input inputs x) (suc (own_turn x past))) (own_turn x past) n before now =
    puts.put gives x b number read (own_input inputs x) (own_turn x past) n stand.0 stand.1.0 sends.to within stand.1.1 in
    let mine = is_tributary read number ((sound.entries k x known).to_line b number read sends.to).list in
    record {
      own = below_more (λ i. (port : ℕ) (slots : LineSlots) (s : IsSender plan b past i port slots)
          → IsPut (tributary_of slots port) (got_by s.x (own_input inputs s.x) (own_turn s.x past + 1)) (own_turn s.x past) n now) k
          (λ i lt port slots s.
          stays_apart (tributary_of slots port) (tributary_of read number) (got_by s.x (own_input inputs s.x) (own_turn s.x past + 1)) (got_by x (own_input inputs x) (suc (own_turn x past)))
          (own_turn s.x past) (own_turn x past) n before now (is_tributary slots port ((sound.entries i s.x s.known).to_line b port slots s.to).list) mine
          (stand_apart plan b past i k port number slots read sound s me lt) (h.own i lt port slots s) was)
          (λ port slots s. own_put port slots s.x (same_Some x s.x (sym known ∙ s.known)) s.to (put_again (own_turn x past) number read was.put) sends.to);
      other = λ row column r1 r4 c1 c4 none.
          was.kept row column r1 r4 c1 c4 (none k (omega arith) number read me)
          ∙ h.other row column r1 r4 c1 c4 (λ i lt. none i (omega arith));
    }
  where
    put_again : (j port : ℕ) (slots : LineSlots) → IsPut (tributary_of slots port) (got_by x (own_input inputs x) (suc j)) j n now → IsPut (tributary_of slots port) (got_by x (own_input inputs x) (j + 1)) j n now
    put_again j port slots put = subst (λ m. IsPut (tributary_of slots port) (got_by x (own_input inputs x) m) j n now) (sym (add-one j)) put

    own_put : (port : ℕ) (slots : LineSlots) (y : Connection) → x ≡ y → y.to ≡ to_end.Line b port slots → {number : ℕ} {read : LineSlots}
        → IsPut (tributary_of read number) (got_by x (own_input inputs x) (own_turn x past + 1)) (own_turn x past) n now → x.to ≡ to_end.Line b number read
        → IsPut (tributary_of slots port) (got_by y (own_input inputs y) (own_turn y past + 1)) (own_turn y past) n now
    own_put port slots y one to {number} {read} put is_to =
        let ends : to_end.Line b number read ≡ to_end.Line b port slots = sym is_to ∙ ap (λ (z : Connection). z.to) one ∙ to in
        let ports : number ≡ port = cc in
        let lists : read ≡ slots = cc in
        subst (λ z. IsPut (tributary_of slots port) (got_by z (own_input inputs z) (own_turn z past + 1)) (own_turn z past) n now) one
        (subst (λ p. IsPut (tributary_of slots p) (got_by x (own_input inputs x) (own_turn x past + 1)) (own_turn x past) n now) ports
        (subst (λ s. IsPut (tributary_of s number) (got_by x (own_input inputs x) (own_turn x past + 1)) (own_turn x past) n now) lists put))

placed_next : (plan : Plan) (inputs : Inputs) (b past n : ℕ) (links : List Link) → IsSoundPlan plan → n < slots_of (form_out plan b).kind → FillLine plan inputs b past n links
    → (k : ℕ) (link : Link) (before now : List ℕ) → slice_get links k ≡ Some link → PutsOwn (takes_part past (port_name.LineOut b) link) link before now
    → Placed plan inputs b past n k before → Placed plan inputs b past n (k + 1) now
placed_next plan inputs b past n links sound less fill k link before now here puts h =
    let at = element_at plan.connections k (let in_links = slice_get_within links k link here in let count = fill.count in omega arith) in
    elim (either (takes_part past (port_name.LineOut b) link)) [
      | inl gives ↦ placed_more plan inputs b past n k links at.0 link before now sound less fill at.1 here gives puts h
      | inr gives ↦ placed_same plan inputs b past n k at.0 link before now at.1 (fill.of_plan k at.0 link at.1 here) gives (puts.other gives) h
    ]

placed_all : (plan : Plan) (inputs : Inputs) (b past n : ℕ) (links : List Link) (frame : List ℕ) → IsSoundPlan plan → n < slots_of (form_out plan b).kind → FillLine plan inputs b past n links
    → FromBlank (λ link. PutsOwn (takes_part past (port_name.LineOut b) link) link) links frame → Placed plan inputs b past n (length links) frame
placed_all plan inputs b past n links frame sound less fill from =
    after_all (λ link. PutsOwn (takes_part past (port_name.LineOut b) link) link) (Placed plan inputs b past n) links from.first frame (placed_next plan inputs b past n links sound less fill) from.steps
    record {
      own = λ i lt. absurd (omega arith);
      other = λ row column r1 r4 c1 c4 none. from.blank.zero (place_of LINE_COLUMNS row column);
    }

-- ---- the ports

-- each of the first k connections that sends on the line has its port at its slots, and every other slot is free
record Allotted (plan : Plan) (b past k : ℕ) (ports : List ℕ) : Type 0 where
  own : (i : ℕ) → i < k → (port : ℕ) (slots : LineSlots) → IsSender plan b past i port slots → (slot : ℕ) → Contains slots.list slot → port_at ports slot ≡ port
  other : (slot : ℕ) → 1 ≤ slot → ((i : ℕ) → i < k → (port : ℕ) (slots : LineSlots) → IsSender plan b past i port slots → Contains slots.list slot → ⊥) → port_at ports slot ≡ 0

allotted_same : (plan : Plan) (b past k : ℕ) (x : Connection) (link : Link) (before now : List ℕ) → slice_get plan.connections k ≡ Some x → IsLinkOf x link
    → takes_part past (port_name.LineOut b) link ≡ false → now ≡ before → Allotted plan b past k before → Allotted plan b past (k + 1) now
allotted_same plan b past k x link before now known is gives same h = subst (Allotted plan b past (k + 1)) (sym same) record {
  own = below_more (λ i. (port : ℕ) (slots : LineSlots) → IsSender plan b past i port slots → (slot : ℕ) → Contains slots.list slot → port_at before slot ≡ port) k h.own
      (λ port slots s slot has.
      let one : s.x ≡ x = same_Some s.x x (sym s.known ∙ known) in
      let to = ap (λ (y : Connection). y.to) (sym one) ∙ s.to in
      let active = subst (λ y. IsActive y past) one s.active in
      let yes = sender_gives x b past port slots link is to active in
      cc);
  other = λ slot least none. h.other slot least (λ i less. none i (omega arith));
}

allotted_more : (plan : Plan) (inputs : Inputs) (b past n k : ℕ) (links : List Link) (x : Connection) (link : Link) (before now : List ℕ) → IsSoundPlan plan
    → FillLine plan inputs b past n links → slice_get plan.connections k ≡ Some x → slice_get links k ≡ Some link
    → takes_part past (port_name.LineOut b) link ≡ true → AllotsOwn (form_out plan b).kind (takes_part past (port_name.LineOut b) link) link before now → Allotted plan b past k before → Allotted plan b past (k + 1) now
allotted_more plan inputs b past n k links x link before now sound fill known here gives allots h =
    let is = fill.of_plan k x link known here in
    let sends = giver_sends x b past link is gives in
    let number = sends.port in
    let read = sends.slots in
    let me : IsSender plan b past k number read = record { x = x; known = known; to = sends.to; active = sends.active } in
    let end = end_at plan k b number x read sound known sends.to in
    let given : IsGiven read.list number before now =
    allots.given gives b number read (to_as x link is ∙ sends.to) end.0 end.1 (subst (λ kind. number ≤ slots_of kind) end.0 end.2) in
    record {
      own = below_more (λ i. (port : ℕ) (slots : LineSlots) → IsSender plan b past i port slots → (slot : ℕ) → Contains slots.list slot → port_at now slot ≡ port) k
          (λ i lt port slots s slot has.
          given.others slot (slot_least plan i b port slot s.x slots sound s.known s.to has)
          (λ mine. let same = sound.slots_apart i k b past port number slot slots read s me has mine in omega arith)
          ∙ h.own i lt port slots s slot has)
          (λ port slots s slot has.
          let one : x ≡ s.x = same_Some x s.x (sym known ∙ s.known) in
          let ends : to_end.Line b number read ≡ to_end.Line b port slots = sym sends.to ∙ ap (λ (z : Connection). z.to) one ∙ s.to in
          let ports : number ≡ port = cc in
          let lists : slots ≡ read = cc in
          given.given slot (subst (λ (l : LineSlots). Contains l.list slot) lists has) ∙ ports);
      other = λ slot least none. given.others slot least (none k (omega arith) number read me) ∙ h.other slot least (λ i lt. none i (omega arith));
    }

allotted_next : (plan : Plan) (inputs : Inputs) (b past n : ℕ) (links : List Link) → IsSoundPlan plan → FillLine plan inputs b past n links
    → (k : ℕ) (link : Link) (before now : List ℕ) → slice_get links k ≡ Some link → AllotsOwn (form_out plan b).kind (takes_part past (port_name.LineOut b) link) link before now
    → Allotted plan b past k before → Allotted plan b past (k + 1) now
allotted_next plan inputs b past n links sound fill k link before now here allots h =
    let at = element_at plan.connections k (let in_links = slice_get_within links k link here in let count = fill.count in omega arith) in
    elim (either (takes_part past (port_name.LineOut b) link)) [
      | inl gives ↦ allotted_more plan inputs b past n k links at.0 link before now sound fill at.1 here gives allots h
      | inr gives ↦ allotted_same plan b past k at.0 link before now at.1 (fill.of_plan k at.0 link at.1 here) gives (allots.other gives) h
    ]

allotted_all : (plan : Plan) (inputs : Inputs) (b past n : ℕ) (links : List Link) (ports : List ℕ) → IsSoundPlan plan → FillLine plan inputs b past n links
    → FromBlank (λ link. AllotsOwn (form_out plan b).kind (takes_part past (port_name.LineOut b) link) link) links ports → Allotted plan b past (length links) ports
allotted_all plan inputs b past n links ports sound fill from =
    after_all (λ link. AllotsOwn (form_out plan b).kind (takes_part past (port_name.LineOut b) link) link) (Allotted plan b past) links from.first ports (allotted_next plan inputs b past n links sound fill) from.steps
    record {
      own = λ i lt. absurd (omega arith);
      other = λ slot least none. from.blank.zero (slot - 1);
    }

-- ---- the frame

pub frame_due : (plan : Plan) (inputs : Inputs) (b past n : ℕ) (links : List Link) (kind : LineKind) (put : FramePut) → fault_in plan ≡ None → kind ≡ (form_out plan b).kind
    → n < slots_of kind → FillLine plan inputs b past n links → put.mfas ≡ (slots_of kind * past + n) % 256
    → length put.ports ≡ slots_of kind → FromBlank (λ link. AllotsOwn kind (takes_part past (port_name.LineOut b) link) link) links put.ports
    → length put.bytes ≡ LINE_FRAME_BYTES → FromBlank (λ link. PutsOwn (takes_part past (port_name.LineOut b) link) link) links put.bytes → IsFrameOf plan inputs b past n put
frame_due plan inputs b past n links kind put accepted kind_is less fill mfas many allots size puts =
    let sound = sound_plan plan accepted in
    let placed = placed_all plan inputs b past n links put.bytes sound (subst (λ k. n < slots_of k) kind_is less) fill puts in
    let allotted = allotted_all plan inputs b past n links put.ports sound fill (subst (λ k. FromBlank (λ link. AllotsOwn k (takes_part past (port_name.LineOut b) link) link) links put.ports) kind_is allots) in
    let count = fill.count in
    record {
      mfas = subst (λ k. put.mfas ≡ (slots_of k * past + n) % 256) kind_is mfas;
      many = subst (λ k. length put.ports ≡ slots_of k) kind_is many;
      used = λ x port slots slot s has.
          allotted.own s.is_of.0 (let within = s.is_of.1 in omega arith) port slots (record { x = x; known = sender_of plan b past x port slots s; to = s.to; active = s.active }) slot has;
      free = λ slot least most none. allotted.other slot least (λ i lt port slots s. none s.x port slots (sends_on plan b past i port slots s));
      size = size;
      own = λ x port slots s.
          placed.own s.is_of.0 (let within = s.is_of.1 in omega arith) port slots (record { x = x; known = sender_of plan b past x port slots s; to = s.to; active = s.active });
      other = λ row column r1 r4 c1 c4 none.
          placed.other row column r1 r4 (omega arith) (omega arith) (λ i lt port slots s. none s.x port slots (sends_on plan b past i port slots s));
    }

-- what a line has made does not hang on the frame that it gives to be filled
pub made_on : {b : ℕ} {form : LineForm} {first now : OutView} {puts : List FramePut} {line : LineOutView} (frame : List ℕ) → LineMade b form first now puts line
    → LineMade b form first now puts (record line { frame = frame })
made_on frame h = record {
  is_form = h.is_form;
  made = h.made;
  are_frames = h.are_frames;
  due = h.due;
  parts = h.parts;
  over = h.over;
  sent = h.sent;
  frames = h.frames;
  sapi = h.sapi;
  section = h.section;
  path = h.path;
}
