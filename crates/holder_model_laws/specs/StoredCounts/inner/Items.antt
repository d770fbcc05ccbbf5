-- Stored numbers behind an item: what is retained or made has one strong holder more, and storage names what it names now.
use Rattle.std.specs.Prelude.{◌≡◌, ℕ, suc, List, [], ◌∷◌, length, Ok}
use Rattle.numbered_form.specs.Lists.{Each}
use Rattle.sil_ast.specs.declared.function.Function.{Function}
use Rattle.sil_ast.specs.declared.module.Module.{Module}
use Rattle.sil_ast.specs.declared.place.ObjectId.{ObjectId}
use Rattle.sil_cfg.specs.declared.item.Item.{Item}
use Rattle.sil_cfg_items.specs.Items.{item_defined}
use Rattle.holder_model.specs.holder_model_values.RunValues.Memory.{Memory, new_object}
use Rattle.holder_model.specs.holder_model_values.RunValues.Places.{Place}
use Rattle.holder_model.specs.Effects.{Change}
use Rattle.holder_model.specs.Frames.{Entry, Frame, Operands, results_put}
use Rattle.holder_model.specs.HolderStates.{HolderState}
use Rattle.holder_model.specs.Holders.{one_object, unowned_holders, weak_holders}
use Rattle.holder_model.specs.ModuleFacts.{ModuleFacts, facts_told}
use Rattle.holder_model.specs.Outcomes.{Numbers}
use Rattle.holder_model.specs.States.{Runs, Task}
use Rattle.holder_model.specs.LoweredRun.LowStepParts.{numbers_for}
use Rattle.holder_model.specs.LoweredRun.Stored.{each_changed, numbers_of, one_more}
use Rattle.holder_model_laws.specs.HolderLaws.inner.Steps.Ways.{left_with, moved, operands_in}
use Rattle.holder_model_laws.specs.HolderLaws.inner.Counts.Moving.{IsBalanced}
use Rattle.holder_model_laws.specs.HolderLaws.inner.Counts.Taking.{IsBelow}
use Rattle.holder_model_laws.specs.StoredCounts.inner.Numbers.{AreCounts, IsStoredOf}

-- the object that is made anew, if one is
pub data AreMade (m later : Memory) : List ObjectId → Type 0 where
  none : length later.objects ≡ length m.objects → AreMade m later []
  one : length later.objects ≡ suc (length m.objects) → AreMade m later (new_object m ∷ [])

-- numbers that differ from others just as memory does, in what weak and unowned storage names
pub record AreNamesBehind (m later : Memory) (stored behind : List Numbers) : Type 0 where
  pub size : length behind ≡ length stored
  pub strong : (o : ObjectId) → (numbers_of behind o).strong ≡ (numbers_of stored o).strong
  pub weak : (o : ObjectId) → (numbers_of stored o).weak ≡ weak_holders m o → (numbers_of behind o).weak ≡ weak_holders later o
  pub unowned : (o : ObjectId) → (numbers_of stored o).unowned ≡ unowned_holders m o → (numbers_of behind o).unowned ≡ unowned_holders later o

module _ (m : Module) (told : ModuleFacts) (bound : ℕ) where
  -- an item whose change is balanced. What it retains has numbers
  pub record IsCounted (s : HolderState) (rest : List (Task Frame)) (frame : Frame) (f : Function) (i : Item) (ops : Operands) (c : Change)
      (made : List ObjectId) (entries : List Entry) (stored behind : List Numbers) : Type 0 where
    pub at : s.tasks ≡ Runs frame ∷ rest
    pub taken : operands_in m told bound s frame f i ≡ Ok ops
    pub put : results_put (facts_told told frame.function) (item_defined f i) c.results ops.left ≡ Ok entries
    pub each : Each (IsBelow (length ops.left)) (item_defined f i)
    pub balanced : (o : ObjectId) → IsBalanced m told bound (one_object o) s frame f i c made
    pub are_made : AreMade s.memory c.memory made
    pub retained : Each (IsStoredOf stored) c.retained
    pub named : AreNamesBehind s.memory c.memory stored behind

  abbrev pub AreItemsStored : Type 0
  AreItemsStored = (s : HolderState) (rest : List (Task Frame)) (frame : Frame) (f : Function) (i : Item) (ops : Operands) (c : Change)
      (made : List ObjectId) (slots : List Place) (entries : List Entry) (stored behind : List Numbers)
      → IsCounted s rest frame f i ops c made entries stored behind → AreCounts s stored
      → AreCounts (moved m told bound s rest (left_with m told bound frame ops) i c slots entries)
      (numbers_for c.memory (each_changed one_more c.retained behind))
