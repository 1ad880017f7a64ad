-- What line outputs got grows again.
use Rattle.std.proofs.Common.{◌≡◌, ◌<◌, ◌+◌, arith, ℕ, List, [], ◌++◌, Option, None, Some, refl, sym, ap, ◌∙◌, append-nil, append_assoc}
use Rattle.port_base.specs.Bytes.{after}
use Rattle.port_base.specs.Views.{OutView, BaysView, no_output, line_out_at}
use Rattle.std.proofs.Common.{get_or}
use Rattle.node_moments.specs.NodeView.{NodeView}
use Rattle.node_moments.proofs.Later.{later_twice}
use Rattle.node_core.specs.Growing.{OutputsGrow}
use Rattle.network_core.specs.Turns.{LeadsLater}

none_after : (got : Option (List ℕ)) → got ≡ after got []
none_after None = refl
none_after (Some xs) = ap Some (sym (append-nil xs))

after_twice : (got : Option (List ℕ)) (xs ys : List ℕ) → after (after got xs) ys ≡ after got (xs ++ ys)
after_twice None xs ys = refl
after_twice (Some got) xs ys = ap Some (append_assoc got xs ys)

pub grows_not : (bays : BaysView) → OutputsGrow bays bays
grows_not bays = λ b. ([], none_after (line_out_at bays b).got)

pub grows_twice : (first was is : BaysView) → OutputsGrow first was → OutputsGrow was is → OutputsGrow first is
grows_twice first was is one two = λ b.
    let x = one b in
    let y = two b in
    (x.0 ++ y.0, y.1 ∙ ap (λ g. after g y.0) x.1 ∙ after_twice (line_out_at first b).got x.0 y.0)

pub grows_same : (was is : BaysView) → is.line_out ≡ was.line_out → OutputsGrow was is
grows_same was is same = λ b. ([], ap (λ (views : List OutView). (get_or views b no_output).got) same ∙ none_after (line_out_at was b).got)

-- ---- later and later

-- a node leads nowhere by nothing
pub stays : (node : NodeView) (bays : BaysView) → LeadsLater node bays node bays
stays node bays = λ plan first read h. record { more = read; stands = h; earlier = λ inputs may. may }

pub leads_twice : (old node new : NodeView) (first was is : BaysView) → LeadsLater old first node was → LeadsLater node was new is → LeadsLater old first new is
leads_twice old node new first was is one two = λ plan opened read h. later_twice plan opened read old node new was is (one plan opened read h)
    (λ k. two plan opened _ k)

pub smaller : (a b : ℕ) → a + 1 ≡ b → a < b
smaller a b e = omega arith
