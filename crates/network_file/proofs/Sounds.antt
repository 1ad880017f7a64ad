-- The file of an outline that breaks no rule is sound.
use Rattle.std.proofs.Common.{◌≡◌, ℕ, ◌<◌, ◌≤◌, ◌==◌, ℤ, pos, negsuc, true, false, ◌||◌, ◌&&◌, int_lt, List, length, map, nat_lt, Option, Some, None, slice_get, refl, ap, sym, ◌∙◌, arith}
use Rattle.std.proofs.lemmas.Bool.{and_parts, not-false, false≢true}
use Rattle.std.proofs.lemmas.Bool.Decides.{nat_tests, Decides-int_eq}
use Rattle.std.proofs.lemmas.List.{length-map}
use Rattle.std.specs.Ordering.{int_eq}
use Rattle.plan_file.specs.Entry.{natural}
use Rattle.plan_file.proofs.Fitting.{within, is_within-wider}
use Rattle.plan_table.specs.NumberTests.{is_name, is_within}
use Rattle.network_laws.specs.Networks.{FibreEnds}
use Rattle.network_file.specs.declared.cut.Cut.{Cut as FileCut}
use Rattle.network_file.specs.declared.error.NetworkError.{NetworkError}
use Rattle.network_file.specs.declared.error.NetworkError.TheVariants.{TooMany, BadName, NameTwice, NoSuchNode, NoSuchLine, LineTwice, NoSuchFibre, BadTurns}
use Rattle.network_file.specs.declared.node.NodeEntry.{NodeEntry}
use Rattle.network_file.specs.Outline.{Cut, Fibre, Outline, cut_in, cut_of, ends_of, file_of, index_of}
use Rattle.network_file.specs.Refusal.{value_place, value_refusal, value_rules}
use Rattle.network_file.specs.Rules.{has_too_many, is_folder, breaks_name, have_one_name, names, lacks_node, lacks_line, lead_to_one_line}
use Rattle.network_file.specs.Rules.{lacks_fibre, are_turns, breaks_turns_in, breaks_turns}
use Rattle.network_file.specs.Sound.{IsSound}
use Rattle.network_file.specs.Steps.Lines.{AreAtLines, AreInRange, IsAtLines, IsInRange}
use Rattle.network_file.proofs.Names.{one_name, index_inside, index_apart}
use Rattle.network_file.proofs.Places.{none_at, top_none, nodes_none, fibres_none, cuts_none, places_none, later_none, element_of, mapped_at, same_number}

-- ---- no rule is broken

kept_at : (o : Outline) (i : ℕ) (rule : NetworkError) → value_refusal o ≡ None → slice_get value_rules i ≡ Some rule → value_place o rule ≡ None
kept_at o i rule none known = none_at (value_place o) value_rules i rule none known

few_of : (o : Outline) → value_refusal o ≡ None → has_too_many o ≡ false
few_of o none = top_none (has_too_many o) (kept_at o 0 TooMany none refl)

name_at : (o : Outline) (i : ℕ) (node : NodeEntry) → value_refusal o ≡ None → slice_get o.nodes i ≡ Some node → breaks_name node ≡ false
name_at o i node none known = places_none breaks_name o.nodes i node (nodes_none _ (kept_at o 1 BadName none refl)) known

apart_at : (o : Outline) (i j : ℕ) (node other : NodeEntry) → value_refusal o ≡ None → slice_get o.nodes i ≡ Some node → slice_get o.nodes j ≡ Some other
    → i < j → have_one_name node other ≡ false
apart_at o i j node other none known known' before =
    later_none have_one_name o.nodes i j node other (nodes_none _ (kept_at o 2 NameTwice none refl)) known known' before

node_at : (o : Outline) (i : ℕ) (f : Fibre) → value_refusal o ≡ None → slice_get o.fibres i ≡ Some f → lacks_node o.nodes f ≡ false
node_at o i f none known = places_none (lacks_node o.nodes) o.fibres i f (fibres_none _ (kept_at o 3 NoSuchNode none refl)) known

line_at : (o : Outline) (i : ℕ) (f : Fibre) → value_refusal o ≡ None → slice_get o.fibres i ≡ Some f → lacks_line f ≡ false
line_at o i f none known = places_none lacks_line o.fibres i f (fibres_none _ (kept_at o 4 NoSuchLine none refl)) known

single_at : (o : Outline) (i j : ℕ) (f g : Fibre) → value_refusal o ≡ None → slice_get o.fibres i ≡ Some f → slice_get o.fibres j ≡ Some g → i < j
    → lead_to_one_line f g ≡ false
single_at o i j f g none known known' before =
    later_none lead_to_one_line o.fibres i j f g (fibres_none _ (kept_at o 5 LineTwice none refl)) known known' before

fibre_at : (o : Outline) (i : ℕ) (c : Cut) → value_refusal o ≡ None → slice_get o.cuts i ≡ Some c → lacks_fibre (length o.fibres) c ≡ false
fibre_at o i c none known = places_none (lacks_fibre (length o.fibres)) o.cuts i c (cuts_none _ (kept_at o 6 NoSuchFibre none refl)) known

turns_at : (o : Outline) (i : ℕ) (c : Cut) → value_refusal o ≡ None → slice_get o.cuts i ≡ Some c → breaks_turns c ≡ false
turns_at o i c none known = places_none breaks_turns o.cuts i c (cuts_none _ (kept_at o 7 BadTurns none refl)) known

-- ---- lines

at_lines : (f : Fibre) → lacks_line f ≡ false → IsAtLines f
at_lines f kept =
    let parts = and_parts (is_within 0 3 f.from.line) (is_within 0 3 f.to.line) (not-false _ kept) in
    record { from = parts.0; to = parts.1 }

pub are_at_lines : (o : Outline) → value_refusal o ≡ None → AreAtLines o.fibres
are_at_lines o none = record { each = λ i f known. at_lines f (line_at o i f none known) }

one_line : (y z : ℤ) → is_within 0 3 y ≡ true → is_within 0 3 z ≡ true → natural y ≡ natural z → int_eq y z ≡ true
one_line y z in_range in_range' same =
    (Decides-int_eq y z).1 (sym (within 0 3 y in_range).same ∙ ap pos same ∙ (within 0 3 z in_range').same)

below_four : (z : ℤ) → is_within 0 3 z ≡ true → natural z < 4
below_four z in_range = let high = (within 0 3 z in_range).high in omega arith

-- ---- numbers of nodes, fibres and cuts

record IsFew (n m k : ℕ) : Type 0 where
  some : 1 ≤ n
  nodes : n ≤ 1024
  fibres : m ≤ 4096
  cuts : k ≤ 4096

is_few : (n m k : ℕ) → (((n == 0) || nat_lt 1024 n) || (nat_lt 4096 m || nat_lt 4096 k)) ≡ false → IsFew n m k
is_few n m k kept = record {
  some = grind (arith, nat_tests);
  nodes = grind (arith, nat_tests);
  fibres = grind (arith, nat_tests);
  cuts = grind (arith, nat_tests);
}

-- ---- cuts

-- turns that are two numbers are such
record AreSpan (count fibre : ℕ) (from until : ℕ) : Type 0 where
  some : 1 ≤ fibre
  most : fibre ≤ count
  before : from < until
  turns : until ≤ 16384

less_natural : (y z : ℤ) → is_within 0 16384 y ≡ true → is_within 0 16384 z ≡ true → int_lt y z ≡ true → natural y < natural z
less_natural (pos m) (pos n) in_range in_range' less = grind (arith, nat_tests, less)
less_natural (pos m) (negsuc n) in_range in_range' less = cc
less_natural (negsuc m) z in_range in_range' less = cc

not_true : {A : Type 0} → true ≡ false → A
not_true e = cc

turns_of : (turns : Option (ℤ × ℤ)) → breaks_turns_in turns ≡ false → (pair : ℤ × ℤ) × (turns ≡ Some pair) × (are_turns pair.0 pair.1 ≡ true)
turns_of None kept = not_true kept
turns_of (Some pair) kept = (pair, refl, not-false _ kept)

-- the cut of a fibre, in such turns, is in range
in_range : (count : ℕ) (c : Cut) → count ≤ 4096 → lacks_fibre count c ≡ false → breaks_turns c ≡ false → IsInRange c
in_range count c few fibre turns =
    let named = not-false _ fibre in
    let (pair, is, are) = turns_of c.turns turns in
    let (both, less) = and_parts (is_within 0 16384 pair.0 && is_within 0 16384 pair.1) (int_lt pair.0 pair.1) are in
    let (one, other) = and_parts (is_within 0 16384 pair.0) (is_within 0 16384 pair.1) both in
    record {
      fibre = is_within-wider 1 count 1 4096 c.fibre named (omega arith) few;
      turns = λ others same.
          let alike : pair ≡ others = some_alike pair others (sym is ∙ same) in
          (rw alike at one, rw alike at other);
    }
  where
    some_alike : (p q : ℤ × ℤ) → ◌≡◌ {A = Option (ℤ × ℤ)} (Some p) (Some q) → p ≡ q
    some_alike p q e = cc

-- so all cuts are
pub are_in_range : (o : Outline) → value_refusal o ≡ None → AreInRange o.cuts
are_in_range o none = record {
  each = λ i c known.
      in_range (length o.fibres) c (is_few (length o.nodes) (length o.fibres) (length o.cuts) (few_of o none)).fibres
      (fibre_at o i c none known) (turns_at o i c none known);
}

span_of : (count : ℕ) (c : Cut) (made : FileCut) → lacks_fibre count c ≡ false → breaks_turns c ≡ false → made ≡ cut_of c
    → AreSpan count made.fibre made.from made.until
span_of count c made fibre turns is =
    let named = within 1 count c.fibre (not-false _ fibre) in
    let (pair, two, are) = turns_of c.turns turns in
    let (both, less) = and_parts (is_within 0 16384 pair.0 && is_within 0 16384 pair.1) (int_lt pair.0 pair.1) are in
    let (one, other) = and_parts (is_within 0 16384 pair.0) (is_within 0 16384 pair.1) both in
    let alike : made ≡ cut_in c.fibre (Some pair) = is ∙ ap (cut_in c.fibre) two in
    rw alike (record {
      some = named.low;
      most = named.high;
      before = less_natural pair.0 pair.1 one other less;
      turns = (within 0 16384 pair.1 other).high;
    })

-- ---- the ends of a fibre of the file

record IsPlaced (nodes : List NodeEntry) (f : Fibre) : Type 0 where
  from : names nodes f.from.node ≡ true
  to : names nodes f.to.node ≡ true
  lines : IsAtLines f

placed_at : (o : Outline) (i : ℕ) (f : Fibre) → value_refusal o ≡ None → slice_get o.fibres i ≡ Some f → IsPlaced o.nodes f
placed_at o i f none known =
    let parts = and_parts (names o.nodes f.from.node) (names o.nodes f.to.node) (not-false _ (node_at o i f none known)) in
    record { from = parts.0; to = parts.1; lines = at_lines f (line_at o i f none known) }

ends_within : (nodes : List NodeEntry) (f : Fibre) (ends : FibreEnds) → IsPlaced nodes f → ends ≡ ends_of nodes f
    → (ends.here < length nodes) × (ends.there < length nodes) × (ends.out < 4) × (ends.into < 4)
ends_within nodes f ends placed is =
    rw is (
      index_inside f.from.node nodes placed.from,
      index_inside f.to.node nodes placed.to,
      below_four f.from.line placed.lines.from,
      below_four f.to.line placed.lines.to,
    )

-- two fibres that lead to one line input of the file did so in the text
lead_alike : (nodes : List NodeEntry) (f g : Fibre) → IsPlaced nodes f → IsPlaced nodes g → index_of f.to.node nodes ≡ index_of g.to.node nodes
    → natural f.to.line ≡ natural g.to.line → lead_to_one_line f g ≡ true
lead_alike nodes f g placed placed' there into =
    let node = one_name f.to.node g.to.node (index_apart f.to.node g.to.node nodes placed.to placed'.to there) in
    let line = one_line f.to.line g.to.line placed.lines.to placed'.lines.to into in
    rw (node, line) refl

-- ---- the whole

names_of : (node : NodeEntry) → breaks_name node ≡ false → (is_name node.name ≡ true) × (is_folder node.folder ≡ true)
names_of node kept = and_parts (is_name node.name) (is_folder node.folder) (not-false _ kept)

names_apart : (o : Outline) (i j : ℕ) (node other : NodeEntry) → value_refusal o ≡ None → slice_get o.nodes i ≡ Some node → slice_get o.nodes j ≡ Some other
    → node.name ≡ other.name → i ≡ j
names_apart o i j node other none known known' same = same_number i j
    (λ before. false≢true (sym (apart_at o i j node other none known known' before) ∙ one_name node.name other.name same))
    (λ after. false≢true (sym (apart_at o j i other node none known' known after) ∙ one_name other.name node.name (sym same)))

lines_apart : (o : Outline) (i j : ℕ) (f g : Fibre) → value_refusal o ≡ None → slice_get o.fibres i ≡ Some f → slice_get o.fibres j ≡ Some g
    → index_of f.to.node o.nodes ≡ index_of g.to.node o.nodes → natural f.to.line ≡ natural g.to.line → i ≡ j
lines_apart o i j f g none known known' there into =
    let placed = placed_at o i f none known in
    let placed' = placed_at o j g none known' in
    same_number i j
    (λ before. false≢true (sym (single_at o i j f g none known known' before) ∙ lead_alike o.nodes f g placed placed' there into))
    (λ after. false≢true (sym (single_at o j i g f none known' known after) ∙ lead_alike o.nodes g f placed' placed (sym there) (sym into)))

pub file_sound : (o : Outline) → value_refusal o ≡ None → IsSound (file_of o)
file_sound o none =
    let few = is_few (length o.nodes) (length o.fibres) (length o.cuts) (few_of o none) in
    record {
      some = few.some;
      nodes = few.nodes;
      fibres = rw (length-map o.fibres (ends_of o.nodes)) few.fibres;
      cuts = rw (length-map o.cuts cut_of) few.cuts;
      names = λ i node known. names_of node (name_at o i node none known);
      apart = λ i j node other known known' same. names_apart o i j node other none known known' same;
      ends = λ ends has.
          let (f, known, is) = mapped_at (ends_of o.nodes) o.fibres has.0 ends (element_of (map (ends_of o.nodes) o.fibres) ends has) in
          ends_within o.nodes f ends (placed_at o has.0 f none known) is;
      single = λ i j ends others known known' there into.
          let (f, known_f, is) = mapped_at (ends_of o.nodes) o.fibres i ends known in
          let (g, known_g, is') = mapped_at (ends_of o.nodes) o.fibres j others known' in
          lines_apart o i j f g none known_f known_g (sym (ap (λ (e : FibreEnds). e.there) is) ∙ there ∙ ap (λ (e : FibreEnds). e.there) is')
          (sym (ap (λ (e : FibreEnds). e.into) is) ∙ into ∙ ap (λ (e : FibreEnds). e.into) is');
      cut = λ made has.
          let (c, known, is) = mapped_at cut_of o.cuts has.0 made (element_of (map cut_of o.cuts) made has) in
          let span = span_of (length o.fibres) c made (fibre_at o has.0 c none known) (turns_at o has.0 c none known) is in
          (span.some, rw (length-map o.fibres (ends_of o.nodes)) span.most, span.before, span.turns);
    }
