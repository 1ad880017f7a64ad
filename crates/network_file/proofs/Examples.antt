-- Worked examples, which the definitions compute.
use Rattle.std.proofs.Common.{◌≡◌, ℕ, ℤ, pos, true, false, List, [], ◌∷◌, Some, None, refl}
use Rattle.std.specs.Prelude.{codes}
use Rattle.network_file.specs.declared.error.NetworkError.TheVariants as rule
use Rattle.network_file.specs.declared.node.NodeEntry.{NodeEntry}
use Rattle.network_file.specs.declared.place.Place.TheVariants as at
use Rattle.network_file.specs.Cuts.{is_dark, whole_fibres}
use Rattle.network_file.specs.Outline.{Cut, End, Fibre, Outline, file_of}
use Rattle.network_file.specs.Refusal.{value_refusal}
use Rattle.network_file.specs.Rules.{is_folder}

abbrev node : List ℕ → NodeEntry
node name = record { name = name; folder = name }

abbrev end : List ℕ → ℤ → End
end node line = record { node = node; line = line }

abbrev fibre : End → End → Fibre
fibre from to = record { from = from; to = to }

abbrev three : List NodeEntry
three = node (codes "first") ∷ node (codes "middle") ∷ node (codes "last") ∷ []

abbrev outline : List Fibre → Outline
outline fibres = record { nodes = three; fibres = fibres; cuts = [] }

-- a line of three nodes
line_of_three : file_of (outline (fibre (end (codes "first") (pos 0)) (end (codes "middle") (pos 0))
    ∷ fibre (end (codes "middle") (pos 1)) (end (codes "last") (pos 0)) ∷ [])) ≡ record {
      nodes = three;
      fibres = record { here = 0; out = 0; there = 1; into = 0 } ∷ record { here = 1; out = 1; there = 2; into = 0 } ∷ [];
      cuts = [];
    }
line_of_three = refl

line_is_accepted : value_refusal (outline (fibre (end (codes "first") (pos 0)) (end (codes "middle") (pos 0))
    ∷ fibre (end (codes "middle") (pos 1)) (end (codes "last") (pos 0)) ∷ [])) ≡ None
line_is_accepted = refl

-- a line output may begin two fibres, a line input end one
line_in_twice : value_refusal (outline (fibre (end (codes "first") (pos 0)) (end (codes "middle") (pos 0))
    ∷ fibre (end (codes "last") (pos 0)) (end (codes "middle") (pos 0)) ∷ [])) ≡ Some (rule.LineTwice, at.Fibre 2)
line_in_twice = refl

-- a name that no node has counts before a line that is none
no_such_node : value_refusal (outline (fibre (end (codes "first") (pos 4)) (end (codes "middle") (pos 0))
    ∷ fibre (end (codes "none") (pos 0)) (end (codes "middle") (pos 0)) ∷ [])) ≡ Some (rule.NoSuchNode, at.Fibre 2)
no_such_node = refl

no_node : value_refusal (record { nodes = []; fibres = []; cuts = [] }) ≡ Some (rule.TooMany, at.Top)
no_node = refl

folder_below : is_folder (codes "ring/a-east.d") ≡ true
folder_below = refl

folder_above : is_folder (codes "ring/../a-east") ≡ false
folder_above = refl

-- ---- cuts

abbrev two : List Fibre
two = fibre (end (codes "first") (pos 0)) (end (codes "middle") (pos 0))
    ∷ fibre (end (codes "middle") (pos 1)) (end (codes "last") (pos 0)) ∷ []

abbrev with_cuts : List Cut → Outline
with_cuts cuts = record { nodes = three; fibres = two; cuts = cuts }

abbrev cut : ℤ → ℤ → ℤ → Cut
cut number from until = record { fibre = number; turns = Some (from, until) }

-- a fibre may be cut twice; the other is whole
cut_twice : value_refusal (with_cuts (cut (pos 1) (pos 4) (pos 6) ∷ cut (pos 1) (pos 9) (pos 16384) ∷ [])) ≡ None
cut_twice = refl

other_is_whole : whole_fibres (file_of (with_cuts (cut (pos 1) (pos 4) (pos 6) ∷ [])))
    ≡ record { here = 1; out = 1; there = 2; into = 0 } ∷ []
other_is_whole = refl

-- dark from its first turn on, and not in its second number any more
before_it : is_dark (file_of (with_cuts (cut (pos 1) (pos 4) (pos 6) ∷ []))).cuts 1 3 ≡ false
before_it = refl

last_of_it : is_dark (file_of (with_cuts (cut (pos 1) (pos 4) (pos 6) ∷ []))).cuts 1 5 ≡ true
last_of_it = refl

after_it : is_dark (file_of (with_cuts (cut (pos 1) (pos 4) (pos 6) ∷ []))).cuts 1 6 ≡ false
after_it = refl

other_fibre : is_dark (file_of (with_cuts (cut (pos 1) (pos 4) (pos 6) ∷ []))).cuts 2 5 ≡ false
other_fibre = refl

third_fibre : value_refusal (with_cuts (cut (pos 2) (pos 4) (pos 6) ∷ cut (pos 3) (pos 4) (pos 6) ∷ []))
    ≡ Some (rule.NoSuchFibre, at.Cut 2)
third_fibre = refl

-- the fibres of all cuts count before the turns of any
no_turn : value_refusal (with_cuts (cut (pos 2) (pos 6) (pos 6) ∷ cut (pos 3) (pos 4) (pos 6) ∷ []))
    ≡ Some (rule.NoSuchFibre, at.Cut 2)
no_turn = refl

too_late : value_refusal (with_cuts (cut (pos 2) (pos 4) (pos 16385) ∷ [])) ≡ Some (rule.BadTurns, at.Cut 1)
too_late = refl
