-- Believed: the headline of any two calls of the library, by the bytes that they were handed and those that they handed
-- out: no connection touches another.
use Rattle.std.specs.Prelude.{◌≡◌, ◌≢◌, ◌+◌, ◌*◌, ◌⊎◌, ℕ, zero, suc, false, List, [], get_or, Ok, ⊤}
use Rattle.std.specs.List.{Contains}
use Rattle.otn_base.specs.LineSlots.{LineSlots, slots_of}
use Rattle.line_side.specs.LineForm.{through_mask}
use Rattle.odu_client.specs.ClientInput.{ClientInput, input_given}
use Rattle.plan_file.specs.Answer.{plan_of_text}
use Rattle.plan_file.specs.declared.connection.Connection.{Connection}
use Rattle.plan_file.specs.declared.connection.FromEnd.{FromEnd}
use Rattle.plan_file.specs.declared.connection.FromEnd.TheVariants as from_end
use Rattle.plan_file.specs.declared.connection.ToEnd.TheVariants as to_end
use Rattle.plan_file.specs.declared.plan.Plan.{Plan}
use Rattle.tributary_model.specs.Places.{tributary_of}
use Rattle.device_model.specs.Agreements.{AgreeOnTributary}
use Rattle.device_model.specs.Entries.{form_in, form_out}
use Rattle.connection_laws.specs.TwoWorlds.{HaveSameByte}
use Rattle.run_laws.specs.RunsAlike.{IsFrontOfOther, HasPlace, HasGone}
use Rattle.run_laws.specs.SeenRuns.{Run, LineGave, ClientGave, LineGot, ClientGot, LineLived, ClientLived}
use Rattle.run_command.specs.Headline.{Ran}
use Rattle.otn_c.specs.Blocks.{part_of, words_said}
use Rattle.otn_c.specs.Calls.{Called, IsRunForm, no_call, no_memory}
use Rattle.otn_c.specs.declared.answer.Answer.{Answer}

-- ---- calls

-- a call: what it was handed, the plan that its text means, what it answered, and what it handed out
pub record Call : Type 0 where
  pub words : List ℕ
  pub text : List ℕ
  pub plan : Plan
  pub inputs : List ℕ
  pub ends : List ℕ
  pub present : List ℕ
  pub code : ℕ
  pub told : Answer
  pub outputs : List ℕ
  pub output_ends : List ℕ
  pub report : List ℕ

-- the clause `called` of `otn_run`, of this call
abbrev pub WasCalled : Call → Type 0
WasCalled call = call.code ≢ no_memory → call.code ≢ no_call
    → Called call.words call.text call.inputs call.ends call.present call.code call.told call.outputs call.output_ends
    call.report

-- Done or Unfinished: every output is whole
abbrev pub IsWhole : (code : ℕ) → Type 0
IsWhole code = (code ≡ 0) ⊎ (code ≡ 1)

-- the answers after which a plan was carried: these, ReportFault and Cut
abbrev pub HasCarried : (code : ℕ) → Type 0
HasCarried code = (code ≡ 0) ⊎ (code ≡ 1) ⊎ (code ≡ 5) ⊎ (code ≡ 6)

-- A call of `run` that carried the plan of its text.
pub record CarriedPlan (call : Call) : Type 0 where
  pub called : WasCalled call
  pub form : IsRunForm (words_said call.words)
  pub carried : HasCarried call.code
  pub is_plan : plan_of_text call.text ≡ Ok call.plan

-- ---- its bytes

-- the bytes of an input with this flag: none where it is 0
abbrev pub bytes_by : (flag : ℕ) → List ℕ → List ℕ
bytes_by zero bytes = []
bytes_by (suc n) bytes = bytes

-- what it was handed as input n, and what it handed out of output n: lines 0 to 3, then clients 0 to 15
abbrev pub input_of : Call → ℕ → List ℕ
input_of call n = bytes_by (get_or call.present n 0) (part_of call.inputs call.ends n)

abbrev pub output_of : Call → ℕ → List ℕ
output_of call n = part_of call.outputs call.output_ends n

-- line a, through the mask that its plan says
abbrev pub line_handed : Call → (a : ℕ) → List ℕ
line_handed call a = through_mask (form_in call.plan a).scrambled (input_of call a)

-- the packets of client n, and how they end
abbrev pub client_handed : Call → (n : ℕ) → ClientInput
client_handed call n = input_given false (input_of call (4 + n))

-- ---- the call as a run

-- What a call of `run` is: a run over places, whose ports gave the very bytes that were handed in, and got those that
-- were handed out. All places of the outputs have lived where the answer is Done or Unfinished.
pub record IsRunOf (call : Call) (run : Run) : Type 0 where
  pub ran : Ran run
  pub carries : run.plan ≡ call.plan
  pub line_in : (x : Connection) (a port : ℕ) (slots : LineSlots) → Contains call.plan.connections x
      → x.from ≡ from_end.Line a port slots → LineGave run a (line_handed call a)
  pub client_in : (x : Connection) (n : ℕ) → Contains call.plan.connections x → x.from ≡ from_end.Client n
      → ClientGave run n (client_handed call n)
  pub line_out : (x : Connection) (b port : ℕ) (slots : LineSlots) → Contains call.plan.connections x
      → x.to ≡ to_end.Line b port slots → LineGot run b (output_of call b)
  pub client_out : (x : Connection) (n : ℕ) → Contains call.plan.connections x → x.to ≡ to_end.Client n
      → ClientGot run n (output_of call (4 + n))
  pub line_lived : (x : Connection) (b port : ℕ) (slots : LineSlots) → IsWhole call.code
      → Contains call.plan.connections x → x.to ≡ to_end.Line b port slots → LineLived run b
  pub client_lived : (x : Connection) (n : ℕ) → IsWhole call.code → Contains call.plan.connections x
      → x.to ≡ to_end.Client n → ClientLived run n

-- ---- two calls

-- Two calls agree on what an end comes from: its line, each read through its own plan's mask, has as many whole frames
-- in both, with the same MFAS bytes, and the same bytes at the own places of its tributary; its client has the same
-- packets, which end in the same way.
abbrev pub AgreeOnHanded : FromEnd → (one other : Call) → Type 0
AgreeOnHanded (from_end.Line a port slots) one other = AgreeOnTributary (tributary_of slots port) (line_handed one a)
    (line_handed other a)
AgreeOnHanded (from_end.Client n) one other = client_handed one n ≡ client_handed other n
AgreeOnHanded (from_end.Signal signal) one other = ⊤

-- both plans have the connection, and the calls agree on what it comes from
pub record ShareHanded (one other : Call) (x : Connection) : Type 0 where
  pub first : Contains one.plan.connections x
  pub second : Contains other.plan.connections x
  pub agree : AgreeOnHanded x.from one other

-- What was handed out of a connection is the same in both. To its client: of the two texts one begins with the other,
-- and they are one where both calls answered Done or Unfinished. On its line: at each own place whose byte was handed
-- out in both, and so in each of its turns where both answered Done or Unfinished, stands the same byte, where both
-- lines are scrambled, or neither is.
pub record SameHandedOut (one other : Call) (x : Connection) : Type 0 where
  pub text : (n : ℕ) → x.to ≡ to_end.Client n
      → IsFrontOfOther (output_of one (4 + n)) (output_of other (4 + n))
  pub whole_text : (n : ℕ) → x.to ≡ to_end.Client n → IsWhole one.code → IsWhole other.code
      → output_of one (4 + n) ≡ output_of other (4 + n)
  pub places : (b port past n row column : ℕ) (slots : LineSlots) → HasPlace x b port past n row column slots
      → (form_out one.plan b).scrambled ≡ (form_out other.plan b).scrambled
      → HasGone (output_of one b) (slots_of slots.kind * past + n) row column
      → HasGone (output_of other b) (slots_of slots.kind * past + n) row column
      → HaveSameByte (output_of one b) (output_of other b) (slots_of slots.kind * past + n) row column
  pub all_places : (b port past n row column : ℕ) (slots : LineSlots) → HasPlace x b port past n row column slots
      → (form_out one.plan b).scrambled ≡ (form_out other.plan b).scrambled
      → IsWhole one.code → IsWhole other.code
      → HaveSameByte (output_of one b) (output_of other b) (slots_of slots.kind * past + n) row column

-- ---- the laws

-- Each call of `otn_run` with the words of `run` that answered Done, Unfinished, ReportFault or Cut carried a plan:
-- that of its text.
abbrev pub CallsCarryPlans : Type 0
CallsCarryPlans = (call : Call) → WasCalled call → IsRunForm (words_said call.words) → HasCarried call.code
    → (plan : Plan) × CarriedPlan (record call { plan = plan })

-- Each such call is a run over its very bytes. So all that `headline` says of runs is said of it.
abbrev pub CallsAreRuns : Type 0
CallsAreRuns = (call : Call) → CarriedPlan call → (run : Run) × IsRunOf call run

-- Isolated: where two calls share a connection, and agree on what it comes from, the same is handed out of it, whatever
-- other connections, slots, ports, bytes, orders and want of memory there are.
abbrev pub CallsAreIsolated : Type 0
CallsAreIsolated = (one other : Call) (x : Connection) → CarriedPlan one → CarriedPlan other → ShareHanded one other x
    → SameHandedOut one other x
