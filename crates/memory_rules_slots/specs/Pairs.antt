-- What walks show of two slots, and the first of all pairs.
use Rattle.std.specs.Prelude.{◌≡◌, ◌≢◌, ℕ, ◌<◌, List, [], ◌∷◌, true, filter_map, length, Option}
use Rattle.sil_ast.specs.declared.function.Function.{Function}
use Rattle.sil_ast.specs.declared.place.EdgeId.{EdgeId}
use Rattle.sil_ast.specs.declared.place.ValueId.{ValueId}
use Rattle.sil_cfg.specs.Flow.{point_of}
use Rattle.sil_cfg.specs.Items.{flow_of}
use Rattle.sil_cfg.specs.Layout.{Layout}
use Rattle.sil_cfg.specs.declared.item.Item.{Item}
use Rattle.sil_rules.specs.Order.{IsFirst}
use Rattle.ownership_kinds_chains.specs.declared.ownership_chains.facts.Facts.{Facts}
use Rattle.ownership_kinds_chains.specs.OwnershipMarks.Known.{AreKindsBy, Known}
use Rattle.memory_rules_accesses.specs.reach_engine_marks.PathPatterns.Along.{Shows}
use Rattle.memory_rules_accesses.specs.declared.source.Source.{Source}
use Rattle.memory_rules_accesses.specs.Accesses.{accesses_of}
use Rattle.memory_rules_accesses.specs.Sources.{is_slot}
use Rattle.memory_rules_slots.specs.Marks.{pair_mark}
use Rattle.memory_rules_slots.specs.Order.{IsOrdered, code_of, crossing_code}
use Rattle.memory_rules_slots.specs.declared.crossing.Crossing.{Crossing}
use Rattle.memory_rules_slots.specs.declared.mark.SlotMark.{SlotMark}

-- the value is a slot
abbrev pub IsSlot : List Source → ValueId → Type 0
IsSlot sources v = is_slot sources v ≡ true

module _ (sources : List Source) (facts : ValueId → Option Facts) (f : Function) where
  -- the marks of two slots at an item
  abbrev pub pair_marks : ValueId → ValueId → Item → List SlotMark
  pair_marks first second item = filter_map (pair_mark first second) (accesses_of sources facts f item)

  -- some trail along the walk keeps the order of the two up to the item, and breaks it there
  abbrev pub ShowsPair : ValueId → ValueId → List EdgeId → Item → Type 0
  ShowsPair first second walk item = Shows (flow_of f) (pair_marks first second) IsOrdered code_of walk crossing_code item

  -- the walk shows it for the first slot and this other one, and at the same item for none that is less
  pub record IsCrossing (c : Crossing) : Type 0 where
    pub is_first : IsSlot sources c.first
    pub is_other : IsSlot sources c.other
    pub different : c.other.0 ≢ c.first.0
    pub item : Item
    pub point : c.point ≡ point_of (flow_of f) item
    pub shows : ShowsPair c.first c.other c.walk item
    pub least : (b : ValueId) → b.0 < c.other.0 → IsSlot sources b → ShowsPair c.first b c.walk item → ⊥

-- by the first slot, then by the number of edges
abbrev pub crossing_key : Crossing → List ℕ
crossing_key c = c.first.0 ∷ length c.walk ∷ []

-- this comes first of what walks show of any two slots, whichever facts the kinds are by
abbrev pub IsFirstCrossing : List Source → Function → Layout → Known → Option Crossing → Type 0
IsFirstCrossing sources f g k found = (count : ℕ) (facts : ValueId → Option Facts) → AreKindsBy count facts f g k
    → IsFirst crossing_key (IsCrossing sources facts f) found
