-- Slots are allocated and deallocated where they were where a copy is lent.
use Rattle.std.proofs.Common.{◌≡◌, List, [], ◌∷◌, refl, sym, ap₂, ◌∙◌, subst}
use Rattle.std.specs.Prelude.{filter_map}
use Rattle.std.specs.List.{cons_option}
use Rattle.sil_verifier_trails.specs.memory_rules_accesses.Sources.{sources_of}
use Rattle.sil_verifier_trails.specs.memory_rules_accesses.declared.access.Access.{Access}
use Rattle.sil_verifier_trails.specs.memory_rules_slots.Marks.{pair_mark}
use Rattle.sil_verifier_trails.specs.memory_rules_slots.Order.{IsOrdered, code_of, crossing_code}
use Rattle.sil_verifier_trails.specs.memory_rules_slots.Pairs.{IsCrossing, IsSlot, ShowsPair, pair_marks}
use Rattle.sil_verifier_trails.specs.memory_rules_slots.declared.crossing.Crossing.{Crossing}
use Rattle.sil_verifier_trails.specs.memory_rules_slots.declared.mark.SlotMark.{SlotMark}
use Rattle.copy_pairing_model.specs.ownership_kinds_origins.Facts.{facts_in}
use Rattle.reach_engine_marks.specs.PathPatterns.Along.{Shows}
use Rattle.sil_ast.specs.declared.function.Function.{Function}
use Rattle.sil_ast.specs.declared.place.EdgeId.{EdgeId}
use Rattle.sil_ast.specs.declared.place.ValueId.{ValueId}
use Rattle.sil_cfg.specs.Flow.{Flow, point_of}
use Rattle.sil_cfg.specs.Items.{IsItem, flow_of}
use Rattle.sil_cfg.specs.declared.item.Item.{Item}
use Rattle.sil_types_declarations.specs.TypeDefinitions.Declarations.{Declarations}
use Rattle.copy_pairing_acceptance.proofs.LentMemory.Alike.{AreLentAlike}
use Rattle.copy_pairing_acceptance.proofs.LentMemory.Means.{AlikeAccess, AreAlike, copied, destroyed, same}
use Rattle.copy_pairing_acceptance.proofs.LentMemory.Sources.{slot_alike}
use Rattle.copy_pairing_acceptance.proofs.LentMemory.Transport.{same_shows}

one_pair : (first second c v : ValueId) (a b : Access) → AlikeAccess c v a b → pair_mark first second b ≡ pair_mark first second a
one_pair first second c v _ _ (same a) = refl
one_pair first second c v _ _ copied = refl
one_pair first second c v _ _ destroyed = refl

all_pairs : (first second c v : ValueId) (xs ys : List Access) → AreAlike c v xs ys → filter_map (pair_mark first second) ys ≡ filter_map (pair_mark first second) xs
all_pairs first second c v [] [] h = refl
all_pairs first second c v [] (y ∷ ys) h = absurd h
all_pairs first second c v (x ∷ xs) [] h = absurd h
all_pairs first second c v (x ∷ xs) (y ∷ ys) h =
    ap₂ (λ o (ms : List SlotMark). cons_option o ms) (one_pair first second c v x y h.0) (all_pairs first second c v xs ys h.1)

module _ (d : Declarations) (f g : Function) (c v : ValueId) (alike : AreLentAlike d f g c v) where
  pairs_alike : (first second : ValueId) (i : Item) → IsItem f i
      → pair_marks (sources_of d g) (facts_in d g) g first second i ≡ pair_marks (sources_of d f) (facts_in d f) f first second i
  pairs_alike first second i is = all_pairs first second c v _ _ (alike.accesses i is)

  abbrev ShownIn : Function → ValueId → ValueId → List EdgeId → Item → Type 0
  ShownIn h first second walk item = ShowsPair (sources_of d h) (facts_in d h) h first second walk item

  pub shown_before : (first second : ValueId) (walk : List EdgeId) (item : Item) → ShownIn g first second walk item → ShownIn f first second walk item
  shown_before first second walk item shown =
      same_shows f (pair_marks (sources_of d g) (facts_in d g) g first second) (pair_marks (sources_of d f) (facts_in d f) f first second) (pairs_alike first second)
      IsOrdered code_of walk crossing_code item
      (subst (λ (x : Flow Item). Shows x (pair_marks (sources_of d g) (facts_in d g) g first second) IsOrdered code_of walk crossing_code item) alike.flow shown)

  shown_after : (first second : ValueId) (walk : List EdgeId) (item : Item) → ShownIn f first second walk item → ShownIn g first second walk item
  shown_after first second walk item shown =
      subst (λ (x : Flow Item). Shows x (pair_marks (sources_of d g) (facts_in d g) g first second) IsOrdered code_of walk crossing_code item) (sym alike.flow)
      (same_shows f (pair_marks (sources_of d f) (facts_in d f) f first second) (pair_marks (sources_of d g) (facts_in d g) g first second)
      (λ i is. sym (pairs_alike first second i is)) IsOrdered code_of walk crossing_code item shown)

  slot_before : (w : ValueId) → IsSlot (sources_of d g) w → IsSlot (sources_of d f) w
  slot_before w h = sym (slot_alike (sources_of d f) (sources_of d g) c v alike.sources w) ∙ h

  -- two slots that cross in g cross in f
  pub crossing_before : (x : Crossing) → (h : IsCrossing (sources_of d g) (facts_in d g) g x)
      → IsCrossing (sources_of d f) (facts_in d f) f (record { first = x.first; walk = x.walk; point = point_of (flow_of f) h.item; other = x.other })
  crossing_before x h = record {
    is_first = slot_before x.first h.is_first;
    is_other = slot_before x.other h.is_other;
    different = h.different;
    item = h.item;
    point = refl;
    shows = shown_before x.first x.other x.walk h.item h.shows;
    least = λ b lt is shown. h.least b lt (slot_alike (sources_of d f) (sources_of d g) c v alike.sources b ∙ is) (shown_after x.first b x.walk h.item shown);
  }
