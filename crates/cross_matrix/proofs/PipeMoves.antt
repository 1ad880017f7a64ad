-- The moves of a pipe, where it stands.
use Rattle.std.proofs.Common.{◌≡◌, ◌≤◌, ◌+◌, ◌-◌, ◌/◌, ◌∙◌, ℕ, suc, Bool, true, false, List, [], ◌∷◌, ◌++◌, length, Option, refl, sym, ap, subst, arith}
use Rattle.otn_base.specs.LineSlots.{LineSlots}
use Rattle.port_base.specs.Views.{InView, OutView}
use Rattle.odu_client.specs.ClientInput.{ClientInput, input_emits, pace_of}
use Rattle.plan_file.specs.declared.connection.Connection.{Connection}
use Rattle.plan_file.specs.declared.connection.FromEnd.{FromEnd}
use Rattle.plan_file.specs.declared.connection.FromEnd.TheVariants as from_end
use Rattle.plan_file.specs.declared.connection.ToEnd.{ToEnd}
use Rattle.plan_file.specs.declared.connection.ToEnd.TheVariants as to_end
use Rattle.trib_source.specs.Source.{StandsAfter as SourceStands}
use Rattle.tributary_model.specs.Places.{Tributary, Taken, View, tributary_of}
use Rattle.tributary_model.specs.Puts.{WasPut}
use Rattle.device_model.specs.Through.{OwnInput, of_line, of_client, of_signal, emits, emits_by, got_in, got_by, arrived_by}
use Rattle.cross_matrix.specs.Receiving.{ReceiverStands}
use Rattle.cross_matrix.specs.Parts.{TakesFrom, GivesTo, OnSource, OnReceiver, IsToClient, IsOfClient, TakingStands, GivingStands, ClientOutStands, MayShow}
use Rattle.cross_matrix.specs.Steps.Parts.{TextTook}
use Rattle.cross_matrix.specs.Pipes.{PipeView, IsPipeOf, PipeStands, ClientTook}
use Rattle.cross_matrix.specs.declared.taking.TakingPart.{TakingPart}
use Rattle.cross_matrix.specs.declared.taking.TakingPart.TheVariants as taking
use Rattle.cross_matrix.specs.declared.giving.GivingPart.{GivingPart}
use Rattle.cross_matrix.specs.declared.giving.GivingPart.TheVariants as giving
use Rattle.cross_matrix.proofs.TurnTotals.{emits_is, got_next, got_size, arrived_next, arrived_none, in_all, turn_fits}

-- the pipe of an entry with other parts of the same kind
pub parts_of : (x : Connection) (old : PipeView) (part : TakingPart) (to : GivingPart) (incoming outgoing : List ℕ) → IsPipeOf x old → TakesFrom x.from x part → GivesTo x.to to
    → IsPipeOf x (record { taking = part; giving = to; paces = old.paces; start = old.start; slots = old.slots; incoming = incoming; outgoing = outgoing })
parts_of x old part to incoming outgoing h from other = record { taking = from; giving = other; paces = h.paces; start = h.start; slots = h.slots; given = h.given; fit = h.fit }

pub line_over : (x : Connection) (a port : ℕ) (slots : LineSlots) (shows : ℕ → Option View) (j filled : ℕ) (frames : List Taken) (old : PipeView) (part : TakingPart) (bytes : List ℕ)
    → x.from ≡ from_end.Line a port slots
    → (TakingStands (from_end.Line a port slots) x (of_line shows) j frames false old.taking → TakingStands (from_end.Line a port slots) x (of_line shows) j [] true part)
    → (TakingStands (from_end.Line a port slots) x (of_line shows) j frames false old.taking → bytes ≡ emits_by (from_end.Line a port slots) x (of_line shows) j)
    → (TakesFrom x.from x old.taking → TakesFrom x.from x part)
    → PipeStands x (of_line shows) j frames false filled old
    → PipeStands x (of_line shows) j [] true filled (record { taking = part; giving = old.giving; paces = old.paces; start = old.start; slots = old.slots; incoming = bytes; outgoing = old.outgoing })
line_over x a port slots shows j filled frames old part bytes e stands incoming from h =
    let before : TakingStands (from_end.Line a port slots) x (of_line shows) j frames false old.taking = subst (λ from. TakingStands from x (of_line shows) j frames false old.taking) e h.taking in
    record {
      entry = parts_of x old part old.giving bytes old.outgoing h.entry (from h.entry.taking) h.entry.giving;
      taking = subst (λ from. TakingStands from x (of_line shows) j [] true part) (sym e) (stands before);
      incoming = λ _. incoming before ∙ ap (λ from. emits_by from x (of_line shows) j) (sym e) ∙ sym (emits_is x (of_line shows) j);
      outgoing = h.outgoing;
      giving = h.giving;
    }

-- the pace of own turn j
pub own_pace : (x : Connection) (pipe : PipeView) (turn j count : ℕ) → IsPipeOf x pipe → turn ≡ x.start + j → count ≡ pace_of pipe.paces (turn - pipe.start) → count ≡ pace_of x.pace j
own_pace x pipe turn j count h at e =
    let same : turn - pipe.start ≡ j = (let s = h.start in omega arith) in
    e ∙ ap (pace_of pipe.paces) same ∙ ap (λ paces. pace_of paces j) h.paces

-- ---- a client was taken

pub client_took : (x : Connection) (first now : InView) (read : List ℕ) (j : ℕ) (old : PipeView) (part : TakingPart) (bytes : List ℕ) → IsOfClient old.taking → IsPipeOf x old
    → (TakesFrom x.from x old.taking → TakesFrom x.from x part) → TextTook x first now read j old.taking part bytes
    → ClientTook x first now read j old (record { taking = part; giving = old.giving; paces = old.paces; start = old.start; slots = old.slots; incoming = bytes; outgoing = old.outgoing })
client_took x first now read j old part bytes client entry from took = record {
  more = took.more;
  stands = took.stands;
  earlier = took.earlier;
  pipe = λ input frames filled may h. record {
    entry = parts_of x old part old.giving bytes old.outgoing entry (from entry.taking) entry.giving;
    taking = (given x.from old.taking part input frames refl client (from entry.taking) h.taking (λ i. took.emitted i) may).0;
    incoming = λ _. (given x.from old.taking part input frames refl client (from entry.taking) h.taking (λ i. took.emitted i) may).1 ∙ sym (emits_is x input j);
    outgoing = h.outgoing;
    giving = h.giving;
  };
}
  where
    given : (from : FromEnd) (was is : TakingPart) (input : OwnInput) (frames : List Taken) → x.from ≡ from → IsOfClient was → TakesFrom from x is → TakingStands from x input j frames false was
        → ((i : ClientInput) → MayShow is (read ++ took.more) (of_client i) → bytes ≡ input_emits x.trace x.fcs x.pace i j) → MayShow is (read ++ took.more) input
        → TakingStands from x input j frames true is × (bytes ≡ emits_by from x input j)
    given from (taking.Line sink) is input frames e client takes h emitted may = absurd client
    given from (taking.Signal stream) is input frames e client takes h emitted may = absurd client
    given (from_end.Line a port slots) (taking.Client text) is (of_line shows) frames e client takes h emitted may = absurd h
    given (from_end.Line a port slots) (taking.Client text) is (of_client i) frames e client takes h emitted may = absurd h
    given (from_end.Line a port slots) (taking.Client text) is of_signal frames e client takes h emitted may = absurd h
    given (from_end.Client n) (taking.Client text) (taking.Line sink) input frames e client takes h emitted may = absurd takes
    given (from_end.Client n) (taking.Client text) (taking.Signal stream) input frames e client takes h emitted may = absurd takes
    given (from_end.Client n) (taking.Client text) (taking.Client new) (of_line shows) frames e client takes h emitted may = absurd h
    given (from_end.Client n) (taking.Client text) (taking.Client new) (of_client i) frames e client takes h emitted may = (tt, emitted i may)
    given (from_end.Client n) (taking.Client text) (taking.Client new) of_signal frames e client takes h emitted may = absurd h
    given (from_end.Signal signal) (taking.Client text) is (of_line shows) frames e client takes h emitted may = absurd h
    given (from_end.Signal signal) (taking.Client text) is (of_client i) frames e client takes h emitted may = absurd h
    given (from_end.Signal signal) (taking.Client text) is of_signal frames e client takes h emitted may = absurd h

-- ---- to a line

pub was_put : (x : Connection) (b port : ℕ) (slots : LineSlots) (input : OwnInput) (j n : ℕ) (part : GivingPart) (old new : List ℕ) → x.to ≡ to_end.Line b port slots → GivingStands x.to x input j n part
    → ((own : Tributary) (turns : List (List ℕ)) → OnSource part (SourceStands own turns n) → WasPut own turns (length turns - 1) n old new)
    → WasPut (tributary_of slots port) (got_by x input (suc j)) j n old new
was_put x b port slots input j n part old new e h put =
    let last : length (got_by x input (suc j)) - 1 ≡ j = (let all = got_size x input (suc j) in omega arith) in
    subst (λ t. WasPut (tributary_of slots port) (got_by x input (suc j)) t n old new) last
    (put (tributary_of slots port) (got_by x input (suc j)) (on part (subst (λ to. GivingStands to x input j n part) e h)))
  where
    on : (part : GivingPart) → GivingStands (to_end.Line b port slots) x input j n part → OnSource part (SourceStands (tributary_of slots port) (got_by x input (suc j)) n)
    on (giving.Line source) h = h
    on (giving.Client receiver) h = h

pub filled_on : (to : ToEnd) (x : Connection) (input : OwnInput) (j n m : ℕ) (old new : GivingPart)
    → ((own : Tributary) (turns : List (List ℕ)) → OnSource old (SourceStands own turns n) → OnSource new (SourceStands own turns m))
    → GivesTo to new → GivingStands to x input j n old → GivingStands to x input j m new
filled_on (to_end.Line b port slots) x input j n m (giving.Line source) (giving.Line next) step to h = step (tributary_of slots port) (got_by x input (suc j)) h
filled_on (to_end.Line b port slots) x input j n m (giving.Line source) (giving.Client receiver) step to h = absurd to
filled_on (to_end.Line b port slots) x input j n m (giving.Client receiver) new step to h = absurd h
filled_on (to_end.Client c) x input j n m old (giving.Line next) step to h = absurd to
filled_on (to_end.Client c) x input j n m old (giving.Client receiver) step to h = tt

-- a turn of the output begins, which gives what came
pub begun_on : (to : ToEnd) (x : Connection) (input : OwnInput) (j filled : ℕ) (old new : GivingPart) (bytes : List ℕ) → bytes ≡ emits x input j
    → ((own : Tributary) (turns : List (List ℕ)) (filled : ℕ) → OnSource old (SourceStands own turns filled)
    → (in_all turns + length bytes) / length own.slots ≤ in_all turns / length own.slots + 15232 → OnSource new (SourceStands own (turns ++ bytes ∷ []) 0))
    → ((b port : ℕ) (slots : LineSlots) → to ≡ to_end.Line b port slots
    → (in_all (got_by x input (suc j)) + length (emits x input j)) / length slots.list ≤ in_all (got_by x input (suc j)) / length slots.list + 15232)
    → GivesTo to new → GivingStands to x input j filled old → GivingStands to x input (suc j) 0 new
begun_on (to_end.Line b port slots) x input j filled (giving.Line source) (giving.Line next) bytes e step fits to h =
    let few : (in_all (got_by x input (suc j)) + length bytes) / length slots.list ≤ in_all (got_by x input (suc j)) / length slots.list + 15232 =
    subst (λ (bs : List ℕ). (in_all (got_by x input (suc j)) + length bs) / length slots.list ≤ in_all (got_by x input (suc j)) / length slots.list + 15232) (sym e) (fits b port slots refl) in
    subst (λ turns. SourceStands (tributary_of slots port) turns 0 next) (ap (λ (bs : List ℕ). got_by x input (suc j) ++ bs ∷ []) e ∙ sym (got_next x input (suc j)))
    (step (tributary_of slots port) (got_by x input (suc j)) filled h few)
begun_on (to_end.Line b port slots) x input j filled (giving.Line source) (giving.Client receiver) bytes e step fits to h = absurd to
begun_on (to_end.Line b port slots) x input j filled (giving.Client receiver) new bytes e step fits to h = absurd h
begun_on (to_end.Client n) x input j filled old (giving.Line source) bytes e step fits to h = absurd to
begun_on (to_end.Client n) x input j filled old (giving.Client receiver) bytes e step fits to h = tt

-- ---- to a client

pub client_gave : (x : Connection) (input : OwnInput) (first was now : OutView) (j : ℕ) (old new : GivingPart) (bytes : List ℕ) → bytes ≡ got_in x input j
    → ((arrived : List ℕ) → OnReceiver old (ReceiverStands first was arrived) → OnReceiver new (ReceiverStands first now (arrived ++ bytes)))
    → ClientOutStands x input first was j old → ClientOutStands x input first now (suc j) new
client_gave x input first was now j old new bytes e step h =
    subst (λ (arrived : List ℕ). OnReceiver new (ReceiverStands first now arrived)) (ap (λ bs. arrived_by x input j ++ bs) e ∙ sym (arrived_next x input j)) (step (arrived_by x input j) h)

-- two parts of one end: one gives to a client where the other does
pub client_too : (to : ToEnd) (old new : GivingPart) → GivesTo to old → GivesTo to new → IsToClient new → IsToClient old
client_too (to_end.Line b port slots) old (giving.Line source) h h' client = absurd client
client_too (to_end.Line b port slots) old (giving.Client receiver) h h' client = absurd h'
client_too (to_end.Client n) (giving.Line source) new h h' client = absurd h
client_too (to_end.Client n) (giving.Client receiver) new h h' client = tt

-- ---- the end of a turn

pub fenced : (x : Connection) (input : OwnInput) (j filled : ℕ) (ended : Bool) (old : PipeView) (part : TakingPart) (to : GivingPart) (incoming outgoing bytes : List ℕ)
    → (TakingStands x.from x input j [] ended old.taking → TakingStands x.from x input (suc j) [] false part)
    → (TakingStands x.from x input j [] ended old.taking → (ended ≡ true → old.incoming ≡ emits_by x.from x input j) → bytes ≡ emits_by x.from x input j)
    → (TakesFrom x.from x old.taking → TakesFrom x.from x part) → (GivesTo x.to old.giving → GivesTo x.to to) → (IsToClient to → outgoing ≡ bytes)
    → ((own : Tributary) (turns : List (List ℕ)) (filled : ℕ) → OnSource old.giving (SourceStands own turns filled)
    → (in_all turns + length bytes) / length own.slots ≤ in_all turns / length own.slots + 15232 → OnSource to (SourceStands own (turns ++ bytes ∷ []) 0))
    → PipeStands x input j [] ended filled old
    → PipeStands x input (suc j) [] false 0 (record { taking = part; giving = to; paces = old.paces; start = old.start; slots = old.slots; incoming = incoming; outgoing = outgoing })
fenced x input j filled ended old part to incoming outgoing bytes stands emitted takes entry kept step h =
    let now : TakingStands x.from x input (suc j) [] false part = stands h.taking in
    let is : bytes ≡ emits x input j = emitted h.taking (λ e. h.incoming e ∙ emits_is x input j) ∙ sym (emits_is x input j) in
    record {
      entry = parts_of x old part to incoming outgoing h.entry (takes h.entry.taking) (entry h.entry.giving);
      taking = now;
      incoming = λ e. cc;
      outgoing = λ client. kept client ∙ is;
      giving = begun_on x.to x input j filled old.giving to bytes is step
          (λ b port slots e. turn_fits x input j (length slots.list) part (h.entry.given b port slots e) h.entry.fit now)
          (entry h.entry.giving) h.giving;
    }

-- ---- the start

pub out_fresh : (x : Connection) (n : ℕ) (input : OwnInput) (first : OutView) (old new : GivingPart) → x.to ≡ to_end.Client n → GivesTo x.to old → (IsToClient old → OnReceiver new (ReceiverStands first first []))
    → ClientOutStands x input first first 0 new
out_fresh x n input first old new e to fresh =
    subst (λ (arrived : List ℕ). OnReceiver new (ReceiverStands first first arrived)) (sym (arrived_none x input)) (fresh (is_client old (subst (λ end. GivesTo end old) e to)))
  where
    is_client : (part : GivingPart) → GivesTo (to_end.Client n) part → IsToClient part
    is_client (giving.Line source) h = h
    is_client (giving.Client receiver) h = tt
