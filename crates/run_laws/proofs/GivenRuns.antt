-- A run whose inputs tell their bytes is that of what they gave.
use Rattle.std.proofs.Common.{◌≡◌, inl, inr, ℕ, suc, Bool, true, false, ◌||◌, List, [], ◌∷◌, ◌++◌, Option, Some, None, refl, sym, ap, ◌∙◌, subst, arith, append-nil}
use Rattle.std.specs.List.{Contains, list_any}
use Rattle.std.proofs.lemmas.Bool.Decides.{eqb_tells}
use Rattle.std.proofs.lemmas.List.{append_cancel_right}
use Rattle.otn_base.specs.declared.kind.PortName.TheVariants as port
use Rattle.port_base.specs.Bytes.{before}
use Rattle.port_base.specs.Given.{Took, given_between, HadToGive}
use Rattle.port_base.specs.Reads.{HasEnded}
use Rattle.port_base.specs.Retiring.{retired_in, retired_in_as}
use Rattle.port_base.specs.Views.{State, Empty, Live, Dead, BaysView, InView, no_input, line_in_at, client_in_at}
use Rattle.plan_file.specs.declared.connection.Connection.{Connection}
use Rattle.plan_file.specs.declared.connection.FromEnd.{FromEnd}
use Rattle.plan_file.specs.declared.connection.FromEnd.TheVariants as from_end
use Rattle.plan_file.specs.declared.plan.Plan.{Plan}
use Rattle.device_model.specs.Entries.{is_from_client}
use Rattle.device_model.specs.Inputs.{AreInputs}
use Rattle.device_model.specs.Moments.{touches, uses}
use Rattle.device_model.specs.Report.{Numbers}
use Rattle.device_model.specs.Through.{Inputs}
use Rattle.run_laws.specs.GivenRuns.{TellsAvailable}
use Rattle.device_model.specs.LineAsked.{MayHave, InputLeft}
use Rattle.device_model.specs.RunLeft.{Takings, MayBeInputs, RunLeft, RunOf}
use Rattle.device_model.specs.RetiredPlaces.{after_retire}

-- ---- the connection of a port

-- a test that some element passes
pub some_passes : (test : Connection → Bool) (xs : List Connection) → list_any test xs ≡ true → (x : Connection) × Contains xs x × (test x ≡ true)
some_passes test [] h = absurd (cc)
some_passes test (y ∷ ys) h = go (test y) refl (some_passes test ys)
  where
    go : (b : Bool) → test y ≡ b → (list_any test ys ≡ true → (x : Connection) × Contains ys x × (test x ≡ true)) → (x : Connection) × Contains (y ∷ ys) x × (test x ≡ true)
    go true e later = (y, (0, omega arith, refl), e)
    go false e later =
        let r = later (sym (ap (λ c. c || list_any test ys) e) ∙ h) in
        (r.0, (suc r.1.0, omega (arith, r.1.1), r.1.2), r.2)

is_client : (n : ℕ) (from : FromEnd) → is_from_client n from ≡ true → from ≡ from_end.Client n
is_client n (from_end.Line a number slots) h = absurd (cc)
is_client n (from_end.Signal signal) h = absurd (cc)
is_client n (from_end.Client m) h = elim (eqb_tells m n) [ inl t ↦ ap from_end.Client t.1 | inr t ↦ absurd (cc (t.0, h)) ]

-- a client that the plan reads is that of one of its connections
pub client_read : (plan : Plan) (n : ℕ) → uses plan (port.ClientIn n) ≡ true → (x : Connection) × Contains plan.connections x × (x.from ≡ from_end.Client n)
client_read plan n used =
    let r = some_passes (touches (port.ClientIn n)) plan.connections used in
    (r.0, r.1, is_client n r.0.from r.2)

-- ---- what one place gave

parts_of : (xs ys : List ℕ) → Some xs ≡ Some ys → xs ≡ ys
parts_of xs ys e = cc

-- nothing was given where nothing was taken of a place that was not live
none_follows : (more : Bool) (read available : List ℕ) → read ≡ [] → available ≡ [] → MayHave more read available
none_follows more read available t g = record { rest = []; over = λ e. refl; parts = g ∙ sym t ∙ sym (append-nil read) }

-- of one that died what was taken
died_follows : (more : Bool) (read available : List ℕ) (first now : Option (List ℕ)) → Took first now available → first ≡ before read now → MayHave more read available
died_follows more read available first now took left =
    let e : Some (available ++ took.rest) ≡ Some (read ++ took.rest) = sym took.had ∙ left ∙ ap (before read) took.has in
    record { rest = []; over = λ e. refl; parts = append_cancel_right available read took.rest (parts_of (available ++ took.rest) (read ++ took.rest) e) ∙ sym (append-nil read) }

-- of one that is live what was taken and what is left
live_follows : (more : Bool) (read available : List ℕ) (first now : Option (List ℕ)) (answered : Bool) → first ≡ Some available → first ≡ before read now → (more ≡ false → HasEnded now answered) → MayHave more read available
live_follows more read available first None answered told left ended = absurd (cc)
live_follows more read available first (Some rest) answered told left ended =
    record { rest = rest; over = λ m. (ended m).nothing; parts = parts_of available (read ++ rest) (sym told ∙ left) }

-- a place that was in this state, and is in that
follows_by : (first last : InView) (read : List ℕ) (more : Bool) (available : List ℕ) (was is : State) → first.state ≡ was → last.state ≡ is → InputLeft first last read more
    → given_between was is first.left last.left available → MayHave more read available
follows_by first last read more available Live Dead f l left told = died_follows more read available first.left last.left told left.gave.takes.left
follows_by first last read more available Live Live f l left told = live_follows more read available first.left last.left last.ended told left.gave.takes.left (λ m. left.over m l)
follows_by first last read more available Live Empty f l left told = elim left.gave.state [ inl t ↦ absurd (cc (t.0, f, l)) | inr t ↦ absurd (cc (t.1, l)) ]
follows_by first last read more available Empty is f l left told = none_follows more read available (left.gave.idle (λ e. cc)).1 told
follows_by first last read more available Dead is f l left told = none_follows more read available (left.gave.idle (λ e. cc)).1 told

pub follows : (first last : InView) (read : List ℕ) (more : Bool) (available : List ℕ) → InputLeft first last read more → HadToGive first last available → MayHave more read available
follows first last read more available left told = follows_by first last read more available first.state last.state refl refl left told

-- ---- a client's place, which may be emptied at the end

-- a live place that was emptied told the same
emptied_told : (first was : InView) (read : List ℕ) (more : Bool) (available : List ℕ) (state : State) → was.state ≡ state → InputLeft first was read more
    → given_between first.state (retired_in_as state was).state first.left (retired_in_as state was).left available → given_between first.state state first.left was.left available
emptied_told first was read more available Dead e left told = subst (λ s. given_between first.state s first.left was.left available) e told
emptied_told first was read more available Empty e left told = subst (λ s. given_between first.state s first.left was.left available) e told
emptied_told first was read more available Live e left told = go first.state refl told
  where
    go : (s : State) → first.state ≡ s → given_between s Empty first.left no_input.left available → given_between s Live first.left was.left available
    go Live f t = t
    go Empty f t = t
    go Dead f t = t

was_given : (retires : Bool) (first was last : InView) (read : List ℕ) (more : Bool) (available : List ℕ) → InputLeft first was read more → last ≡ after_retire retires was → HadToGive first last available → HadToGive first was available
was_given false first was last read more available left place told = subst (λ v. HadToGive first v available) place told
was_given true first was last read more available left place told =
    let t : HadToGive first (retired_in was) available = subst (λ v. HadToGive first v available) place told in
    emptied_told first was read more available was.state refl left t

-- ---- all inputs

-- what a line had to give may have been what its bytes were taken of
pub line_had : (plan : Plan) (first last : BaysView) (takings : Takings) (numbers : Numbers) (a : ℕ) (available : List ℕ) → RunLeft plan first last takings numbers → uses plan (port.LineIn a) ≡ true
    → HadToGive (line_in_at first a) (line_in_at last a) available → MayHave (takings.line_more a) (takings.line a) available
line_had plan first last takings numbers a available left used had =
    follows (line_in_at first a) (line_in_at last a) (takings.line a) (takings.line_more a) available (left.line_in a used) had

-- so of a client of a connection
pub client_had : (plan : Plan) (first last : BaysView) (takings : Takings) (numbers : Numbers) (x : Connection) (n : ℕ) (available : List ℕ) → RunLeft plan first last takings numbers
    → Contains plan.connections x → x.from ≡ from_end.Client n → HadToGive (client_in_at first n) (client_in_at last n) available → MayHave (takings.client_more n) (takings.client n) available
client_had plan first last takings numbers x n available left has from had =
    let l = left.client_in x n has from in
    follows (client_in_at first n) l.was (takings.client n) (takings.client_more n) available l.left
    (was_given x.retire (client_in_at first n) l.was (client_in_at last n) (takings.client n) (takings.client_more n) available l.left l.place had)

pub given_inputs : (plan : Plan) (first last : BaysView) (takings : Takings) (numbers : Numbers) (inputs : Inputs) → RunLeft plan first last takings numbers → TellsAvailable plan first last
    → AreInputs plan first last inputs → MayBeInputs plan first last takings inputs
given_inputs plan first last takings numbers inputs left has are = record {
  line = λ a used.
      let g = has.line a used in
      (g.0, line_had plan first last takings numbers a g.0 left used g.1, are.line a g.0 used g.1);
  client = λ n used.
      let g = has.client n used in
      let x = client_read plan n used in
      (g.0, client_had plan first last takings numbers x.0 n g.0 left x.1 x.2 g.1, are.client n g.0 used g.1);
}

pub of_given : (plan : Plan) (first last : BaysView) (takings : Takings) (numbers : Numbers) (inputs : Inputs) → RunLeft plan first last takings numbers → TellsAvailable plan first last
    → AreInputs plan first last inputs → RunOf plan first last takings numbers inputs
of_given plan first last takings numbers inputs left has are = left.of_inputs inputs (given_inputs plan first last takings numbers inputs left has are)
