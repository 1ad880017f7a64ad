-- The calls of a turn, one after another.
use Rattle.std.proofs.Common.{◌≡◌, ◌≢◌, ◌≤◌, ◌<◌, ◌+◌, ◌⊎◌, inl, inr, ℕ, true, false, List, Option, Some, length, set, get_or, refl, sym, ap, ◌∙◌, subst, arith}
use Rattle.std.specs.Prelude.{slice_get}
use Rattle.std.proofs.lemmas.Bool.Decides.{eqb_tells}
use Rattle.std.proofs.lemmas.List.{length-set}
use Rattle.std.proofs.lemmas.Option.{same_Some, slice_get_within}
use Rattle.port_base.specs.Views.{OutView, BaysView, no_output, line_out_at}
use Rattle.port_base.specs.declared.sink.Sink as sink
use Rattle.port_base.specs.declared.source.Source as source
use Rattle.otn_base.specs.declared.kind.PortName.TheVariants as port
use Rattle.node_moments.specs.NodeView.{NodeView, is_ready}
use Rattle.network_laws.specs.Networks.{Network, IsNetwork}
use Rattle.network_run.specs.Fibres.{HandedTo, FilledUp, LeftUnfilled, IsFilled}
use Rattle.network_run.specs.Going.{SameFibre, AreFibres, Going, GoesOnThen, KeepsGoing, IsFull}
use Rattle.network_run.specs.Sites.{EachOne, SiteWent, SiteTurned, SiteStill, SameMoment, SameNode, IsTurned, AllSent, site_view}
use Rattle.network_run.specs.declared.fibres.Filling.{Filling}
use Rattle.network_run.specs.declared.site.Site.{Site}
use Rattle.network_run.proofs.Each.{set_here, set_apart, below_or_here}
use Rattle.network_run.proofs.Going.{GoesOn, some_at, all_go_on, all_still, fibre_filled, fibres_same}

-- ---- lists of sites

pub each_as : {A : Type 0} (One Other : A → A → Type 0) (olds news : List A) → ((old new : A) → One old new → Other old new) → EachOne One olds news
    → EachOne Other olds news
each_as One Other olds news as_other h = record { count = h.count; each = λ i old new was is. as_other old new (h.each i old new was is) }

pub each_none : {A : Type 0} (Goes : A → A → Type 0) (all : List A) → ((one : A) → Goes one one) → EachOne Goes all all
each_none Goes all stays = record {
  count = refl;
  each = λ i old new was is. subst (Goes old) (same_Some old new (sym was ∙ is)) (stays old);
}

pub each_twice : {A : Type 0} (One Two Both : A → A → Type 0) (olds mids news : List A) → ((old mid new : A) → One old mid → Two mid new → Both old new)
    → EachOne One olds mids → EachOne Two mids news → EachOne Both olds news
each_twice One Two Both olds mids news both one two = record {
  count = two.count ∙ one.count;
  each = λ i old new was is. (
      let mid = some_at mids i (let within = slice_get_within olds i old was in let count = one.count in omega arith) in
      both old mid.0 new (one.each i old mid.0 was mid.1) (two.each i mid.0 new mid.1 is));
}

module _ {P K : Type 0} (p : source.Ghosts P) (k : sink.Ghosts K) where
  -- ---- one call after another

  all_same : (fillings : List Filling) → EachOne SameFibre fillings fillings
  all_same fillings = each_none SameFibre fillings (λ one. refl)

  pub keeps_none : (sites : List (Site P K)) (fillings : List Filling) → KeepsGoing p k sites fillings sites fillings
  keeps_none sites fillings = record { nodes = refl; fibres = all_same fillings; goes = λ network first net h. h }

  pub keeps_twice : (olds mids news : List (Site P K)) (was then is : List Filling) → KeepsGoing p k olds was mids then → KeepsGoing p k mids then news is
      → KeepsGoing p k olds was news is
  keeps_twice olds mids news was then is one two = record {
    nodes = two.nodes ∙ one.nodes;
    fibres = each_twice SameFibre SameFibre SameFibre was then is (λ old mid new a b. b ∙ a) one.fibres two.fibres;
    goes = λ network first net h. two.goes network first net (one.goes network first net h);
  }

  pub keeps_went : (olds news : List (Site P K)) (fillings : List Filling) → EachOne (SiteWent p k) olds news → KeepsGoing p k olds fillings news fillings
  keeps_went olds news fillings each = record {
    nodes = each.count;
    fibres = all_same fillings;
    goes = λ network first net h. record {
      fibres = h.fibres;
      going = all_go_on p k network first olds news fillings net h.fibres
          (each_as (SiteWent p k) (GoesOn p k) olds news (λ old new e. record { stands = e.stands; grows = e.grows }) each) h.going;
    };
  }

  pub keeps_turned : (olds news : List (Site P K)) (fillings : List Filling) → EachOne (SiteTurned p k) olds news
      → KeepsGoing p k olds fillings news fillings
  keeps_turned olds news fillings each = record {
    nodes = each.count;
    fibres = all_same fillings;
    goes = λ network first net h. record {
      fibres = h.fibres;
      going = all_go_on p k network first olds news fillings net h.fibres
          (each_as (SiteTurned p k) (GoesOn p k) olds news (λ old new e. record { stands = e.stands; grows = e.grows }) each) h.going;
    };
  }

  pub keeps_still : (olds news : List (Site P K)) (fillings : List Filling) → EachOne (SiteStill p k) olds news → KeepsGoing p k olds fillings news fillings
  keeps_still olds news fillings each = record {
    nodes = each.count;
    fibres = all_same fillings;
    goes = λ network first net h. record { fibres = h.fibres; going = all_still p k network first olds news fillings each h.going };
  }

  -- ---- a fibre that is filled

  same_span : (was is : Filling) (olds news : List (Site P K)) → IsFilled p k was is olds news → is.span ≡ was.span
  same_span was is olds news (inl up) = up.span
  same_span was is olds news (inr left) = left.span

  -- what is seen of its line outputs is as it was, and so is its node
  record OutsKept (old new : Site P K) : Type 0 where
    node : new.node ≡ old.node
    outs : (site_view p k new).line_out ≡ (site_view p k old).line_out

  outs_handed : (olds news : List (Site P K)) (there into : ℕ) (bytes : List ℕ) → HandedTo p k there into bytes olds news → EachOne OutsKept olds news
  outs_handed olds news there into bytes h = record {
    count = ap length h.is ∙ length-set olds there h.new;
    each = λ i old new was is. elim (eqb_tells i there) as (λ t. OutsKept old new) [
      | inl t ↦
          let one : h.old ≡ old = same_Some h.old old (sym h.at ∙ ap (slice_get olds) (sym t.1) ∙ was) in
          let less = slice_get_within olds there h.old h.at in
          let two : h.new ≡ new = same_Some h.new new
          (sym (set_here olds there h.new less) ∙ ap (slice_get (set olds there h.new)) (sym t.1) ∙ ap (λ l. slice_get l i) (sym h.is) ∙ is) in
          subst (λ s. OutsKept s new) one (subst (OutsKept h.old) two record { node = h.took.node; outs = h.took.grew.line_out })
      | inr t ↦
          let same : old ≡ new = same_Some old new
          (sym was ∙ sym (set_apart olds there i h.new t.1) ∙ ap (λ l. slice_get l i) (sym h.is) ∙ is) in
          subst (OutsKept old) same record { node = refl; outs = refl }
    ];
  }

  outs_filled : (olds news : List (Site P K)) (was is : Filling) → IsFilled p k was is olds news → EachOne OutsKept olds news
  outs_filled olds news was is (inl up) = outs_handed olds news was.span.there was.span.into up.bytes up.handed
  outs_filled olds news was is (inr left) =
      each_as (SiteStill p k) OutsKept olds news (λ old new e. record { node = e.node; outs = ap (λ (v : BaysView). v.line_out) e.places }) left.still

  pub nodes_filled : (olds news : List (Site P K)) (was is : Filling) → IsFilled p k was is olds news → EachOne SameNode olds news
  nodes_filled olds news was is filled =
      each_as OutsKept SameNode olds news (λ old new e. e.node) (outs_filled olds news was is filled)

  one_same : (fillings : List Filling) (n : ℕ) (was is : Filling) → slice_get fillings n ≡ Some was → is.span ≡ was.span
      → EachOne SameFibre fillings (set fillings n is)
  one_same fillings n was is at same = record {
    count = length-set fillings n is;
    each = λ i old new here now. elim (eqb_tells i n) as (λ t. SameFibre old new) [
      | inl t ↦
          let one : was ≡ old = same_Some was old (sym at ∙ ap (slice_get fillings) (sym t.1) ∙ here) in
          let within = slice_get_within fillings n was at in
          let two : is ≡ new = same_Some is new (sym (set_here fillings n is within) ∙ ap (slice_get (set fillings n is)) (sym t.1) ∙ now) in
          ap (λ (x : Filling). x.span) (sym two) ∙ same ∙ ap (λ (x : Filling). x.span) one
      | inr t ↦ ap (λ (x : Filling). x.span) (same_Some new old (sym now ∙ set_apart fillings n i is t.1 ∙ here))
    ];
  }

  pub keeps_filled : (olds news : List (Site P K)) (fillings : List Filling) (n : ℕ) (was is : Filling) → slice_get fillings n ≡ Some was
      → IsFilled p k was is olds news → KeepsGoing p k olds fillings news (set fillings n is)
  keeps_filled olds news fillings n was is at filled = record {
    nodes = (nodes_filled olds news was is filled).count;
    fibres = one_same fillings n was is at (same_span was is olds news filled);
    goes = λ network first net h. record {
      fibres = fibres_same p k network first fillings n was is at (same_span was is olds news filled) h.fibres;
      going = fibre_filled p k network first olds news fillings n was is net h.fibres at filled h.going;
    };
  }

  full_kept : (olds news : List (Site P K)) (f : Filling) → EachOne OutsKept olds news → IsFull p k olds f → IsFull p k news f
  full_kept olds news f each h =
      let new = some_at news f.span.here (let within = slice_get_within olds f.span.here h.site h.at in let count = each.count in omega arith) in
      let kept = each.each f.span.here h.site new.0 h.at new.1 in
      record {
        site = new.0;
        at = new.1;
        got = h.got;
        told = ap (λ (views : List OutView). (get_or views f.span.out no_output).got) kept.outs ∙ h.told;
        all = h.all;
      }

  full_here : (olds news : List (Site P K)) (was is : Filling) → is.whole ≡ true → IsFilled p k was is olds news → IsFull p k news is
  full_here olds news was is whole (inl up) =
      full_kept olds news is (outs_handed olds news was.span.there was.span.into up.bytes up.handed) record {
        site = up.waits.site;
        at = ap (λ s. slice_get olds s.here) up.span ∙ up.waits.at;
        got = up.waits.waits.got;
        told = ap (λ s. (line_out_at (site_view p k up.waits.site) s.out).got) up.span ∙ up.waits.waits.told;
        all = up.waits.waits.waits.count;
      }
  full_here olds news was is whole (inr left) = absurd (let no_more : true ≡ false = sym whole ∙ left.whole in cc)

  -- for the first so many fibres, where they are whole, nothing waits
  pub FullBelow : ℕ → List (Site P K) → List Filling → Type 0
  FullBelow n sites fillings = (m : ℕ) (f : Filling) → m < n → slice_get fillings m ≡ Some f → f.whole ≡ true → IsFull p k sites f

  pub full_more : (olds news : List (Site P K)) (fillings : List Filling) (n : ℕ) (was is : Filling) → slice_get fillings n ≡ Some was
      → IsFilled p k was is olds news
      → ((m : ℕ) (f : Filling) → m < n → slice_get fillings m ≡ Some f → f.whole ≡ true → IsFull p k olds f)
      → (m : ℕ) (f : Filling) → m < n + 1 → slice_get (set fillings n is) m ≡ Some f → f.whole ≡ true → IsFull p k news f
  full_more olds news fillings n was is at filled before m f less here whole = elim (eqb_tells m n) as (λ t. IsFull p k news f) [
    | inl t ↦
        let within = slice_get_within fillings n was at in
        let e : is ≡ f = same_Some is f (sym (set_here fillings n is within) ∙ ap (slice_get (set fillings n is)) (sym t.1) ∙ here) in
        subst (IsFull p k news) e (full_here olds news was is (ap (λ (x : Filling). x.whole) e ∙ whole) filled)
    | inr t ↦ elim (below_or_here m n less) as (λ u. IsFull p k news f) [
      | inl l ↦ full_kept olds news f (outs_filled olds news was is filled) (before m f l (sym (set_apart fillings n m is t.1) ∙ here) whole)
      | inr e ↦ absurd (t.1 e)
    ]
  ]

  -- ---- a turn

  moment_twice : (old mid new : Site P K) → SameMoment old mid → SameMoment mid new → SameMoment old new
  moment_twice old mid new one two = record { turns = two.turns ∙ one.turns; past = two.past ∙ one.past }

  of_node : (old new : Site P K) → new.node ≡ old.node → SameMoment old new
  of_node old new e = record { turns = ap (λ (n : NodeView). n.turns) e; past = ap (λ (n : NodeView). n.past) e }

  -- all lines out were written, and then all fibres filled
  pub keeps_sent : (olds wrote news : List (Site P K)) (was is : List Filling) → EachOne (SiteWent p k) olds wrote → KeepsGoing p k wrote was news is
      → KeepsGoing p k olds was news is
  keeps_sent olds wrote news was is one two = keeps_twice olds wrote news was was is (keeps_went olds wrote was one) two

  pub each_sent : (olds wrote news : List (Site P K)) → EachOne (SiteWent p k) olds wrote → EachOne SameNode wrote news → EachOne SameMoment olds news
  each_sent olds wrote news one two =
      each_twice SameMoment SameMoment SameMoment olds wrote news moment_twice
      (each_as (SiteWent p k) SameMoment olds wrote (λ old new e. e.moment) one)
      (each_as SameNode SameMoment wrote news of_node two)

  pub all_sent : (olds wrote news : List (Site P K)) → EachOne (SiteWent p k) olds wrote → EachOne SameNode wrote news → AllSent news
  all_sent olds wrote news one two i site at b few =
      let within = slice_get_within news i site at in
      let mid = some_at wrote i (let count = two.count in omega arith) in
      let old = some_at olds i (let count = two.count in let same = one.count in omega arith) in
      ap (λ (n : NodeView). is_ready n (port.LineOut b)) (two.each i mid.0 site mid.1 at) ∙ (one.each i old.0 mid.0 old.1 mid.1).shut b few

  pub keeps_turn : (olds sent kept news : List (Site P K)) (was is : List Filling) → KeepsGoing p k olds was sent is → EachOne (SiteStill p k) sent kept
      → EachOne (SiteTurned p k) kept news → KeepsGoing p k olds was news is
  keeps_turn olds sent kept news was is one two three =
      keeps_twice olds kept news was is is (keeps_twice olds sent kept was is is one (keeps_still sent kept is two)) (keeps_turned kept news is three)

  then_turned : (old mid new : Site P K) → SameMoment old mid → SiteTurned p k mid new → IsTurned old new
  then_turned old mid new m t = record {
    turns = t.turned.turns ∙ m.turns;
    rests = λ over. t.turned.rests (let a = m.turns in let b = m.past in omega arith) ∙ m.past;
    done = λ going. t.turned.done (let a = m.turns in let b = m.past in omega arith) ∙ ap (λ n. n + 1) m.past;
  }

  pub each_turned : (olds sent kept news : List (Site P K)) → EachOne SameMoment olds sent → EachOne (SiteStill p k) sent kept
      → EachOne (SiteTurned p k) kept news → EachOne IsTurned olds news
  each_turned olds sent kept news one two three =
      each_twice SameMoment (SiteTurned p k) IsTurned olds kept news then_turned
      (each_twice SameMoment SameMoment SameMoment olds sent kept moment_twice one
      (each_as (SiteStill p k) SameMoment sent kept (λ old new e. of_node old new e.node) two))
      three
