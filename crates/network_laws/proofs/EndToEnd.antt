-- What leaves at the end of a way of a network, by the laws of ways.
use Rattle.std.proofs.Common.{◌≡◌, ◌≤◌, ◌-◌, ◌*◌, ℕ, List, length, sym, ap, ◌∙◌, subst, arith}
use Rattle.packet_text.specs.PacketText.{hex_text}
use Rattle.odu_client.specs.ClientInput.{emitted_before}
use Rattle.plan_file.specs.declared.connection.ToEnd.TheVariants as to_end
use Rattle.connection_laws.specs.Delivery.{whole_packets}
use Rattle.run_laws.specs.SeenRuns.{SameOutput, ClientGot, ClientLived}
use Rattle.network_laws.specs.EndToEnd.{NetworksAreIsolated, NetworksDeliver}
use Rattle.network_laws.specs.Routes.{hop_of, hops_of, last_leg}
use Rattle.network_laws.specs.Ways.{Hop, last_hop}
use Rattle.network_laws.proofs.Delivery.{delivered}
use Rattle.network_laws.proofs.Isolation.{isolated}
use Rattle.network_laws.proofs.Routes.{way_of, whole_way, last_is, hops_many}

pub networks_isolated : NetworksAreIsolated
networks_isolated network other one two leg far legs fars route second brought came same all all_too agree =
    let left = isolated (hop_of one leg) (hop_of two far) (hops_of one legs) (hops_of two fars)
    (way_of network one leg legs route brought) (way_of other two far fars second came) same
    (whole_way network one leg legs route brought all) (whole_way other two far fars second came all_too) agree in
    let here = last_is network one leg legs in
    let there = last_is other two far fars in
    subst (λ (h : Hop). SameOutput (one.run (last_leg leg legs).node) h.run (last_leg leg legs).x) there
    (subst (λ (h : Hop). SameOutput h.run (last_hop (hop_of two far) (hops_of two fars)).run h.x) here left)

pub networks_deliver : NetworksDeliver
networks_deliver network run leg legs m n input written route brought all step some from to gave got lived offered =
    let hop = hop_of run leg in
    let hops = hops_of run legs in
    let there = last_is network run leg legs in
    let many = hops_many network run legs in
    let more : 1 ≤ length hops = omega arith in
    let text : (h : Hop) (k : ℕ) → List ℕ = λ h k. hex_text (whole_packets input.packets leg.x.fcs
    (emitted_before leg.x.pace (h.x.stop - leg.x.start - 3 * k))) in
    delivered hop hops m n input written (way_of network run leg legs route brought) (whole_way network run leg legs route brought all) step more from
    (subst (λ (h : Hop). h.x.to ≡ to_end.Client n) (sym there) to) gave (subst (λ (h : Hop). ClientGot h.run n written) (sym there) got)
    (subst (λ (h : Hop). ClientLived h.run n) (sym there) lived) offered
    ∙ ap (λ h. text h (length hops)) there
    ∙ ap (text (hop_of run (last_leg leg legs))) many
