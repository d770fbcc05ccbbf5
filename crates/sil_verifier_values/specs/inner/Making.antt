-- Which items of an accepted function make a value: one item, or all edges into one block.
use Rattle.std.specs.Prelude.{◌≡◌, ◌↔◌, ◌<◌, ℕ, IsTrue, Contains, Some, map, slice_get}
use Rattle.sil_ast.specs.Blocks.{args_of}
use Rattle.sil_ast.specs.declared.function.Function.{Function}
use Rattle.sil_ast.specs.declared.inst.Inst as inst
use Rattle.sil_ast.specs.declared.place.PointId.{PointId}
use Rattle.sil_ast.specs.declared.place.ValueId.{ValueId}
use Rattle.holder_model_typing.specs.holder_model.Standing.{behind}
use Rattle.sil_cfg_items.specs.Items.{arg_value, item_defined}
use Rattle.sil_cfg_items.specs.Parts.{inst_at}
use Rattle.holder_model_typing.specs.holder_model.RunTyping.CallForms.{ItemIsOf}
use Rattle.sil_cfg.specs.Items.{IsItem, flow_of}
use Rattle.sil_cfg.specs.declared.item.Item.{Item}
use Rattle.sil_cfg.specs.declared.item.Item.TheVariants.{Entry, Inst}
use Rattle.sil_cfg.specs.inner.Splice.{Stop, into, is_at, item}
use Rattle.sil_verifier_values.specs.inner.Known.{InAccepted, IsValue}

-- the value begins with the item
abbrev pub Makes : Function → Item → ValueId → Type 0
Makes f i v = Contains (item_defined f i) v

-- where a value is made: at its instruction, at the entry, or by the edges into its block
pub data IsMadeAt (f : Function) (v : ValueId) : Stop → Type 0 where
  result : (p : PointId) (i : inst.Inst) → inst_at f p ≡ Some i → Contains i.results v → IsMadeAt f v (item (Inst p))
  parameter : Contains (map arg_value (args_of f 0)) v → IsMadeAt f v (item Entry)
  argument : (b : ℕ) → 0 < b → Contains (map arg_value (args_of f b)) v → IsMadeAt f v (into b)

-- each value is made somewhere
abbrev pub AreMadeSomewhere : Type 0
AreMadeSomewhere = InAccepted (λ d f. (v : ValueId) → IsValue f v → (s : Stop) × IsMadeAt f v s)

-- and just by the items that are there
abbrev pub AreMadeThere : Type 0
AreMadeThere = InAccepted (λ d f. (v : ValueId) (s : Stop) (i : Item) → IsMadeAt f v s → IsItem f i → Makes f i v ↔ IsTrue (is_at (flow_of f) s i))

-- all items that make a value lead to one point
abbrev pub AreMadeOnce : Type 0
AreMadeOnce = InAccepted (λ d f. (i j : Item) (v : ValueId) → Makes f i v → Makes f j v → behind f i ≡ behind f j)

-- the entry alone makes its arguments
abbrev pub AreParametersOfEntry : Type 0
AreParametersOfEntry = InAccepted (λ d f. (i : Item) (v : ValueId) → Makes f Entry v → Makes f i v → i ≡ Entry)

-- no item makes a value twice
abbrev pub AreDistinct : Type 0
AreDistinct = InAccepted (λ d f. (i : Item) (k l : ℕ) (v : ValueId)
    → slice_get (item_defined f i) k ≡ Some v → slice_get (item_defined f i) l ≡ Some v → k ≡ l)

-- an item takes and makes values of the function
abbrev pub AreItemsOf : Type 0
AreItemsOf = InAccepted (λ d f. (i : Item) → ItemIsOf f i)
