-- The items of a function in which a copy became a move, against those of the function itself.
use Rattle.std.specs.Prelude.{◌≡◌, ℕ, List, [], ◌∷◌, false, Some}
use Rattle.copy_pairing_model.specs.Copies.{Copies, Destroys}
use Rattle.copy_pairing_model.specs.Rewritten.{with_op}
use Rattle.instruction_table.specs.declared.op.Op.TheVariants as op
use Rattle.sil_cfg_items.specs.Items.{item_defined, item_taken}
use Rattle.sil_cfg_items.specs.Parts.{item_inst}
use Rattle.sil_cfg_items.specs.Roles.{taken_by}
use Rattle.numbered_form.specs.PointChecks.Points.{IsAt}
use Rattle.sil_ast.specs.declared.function.Function.{Function}
use Rattle.sil_ast.specs.declared.inst.Inst.{Inst}
use Rattle.sil_ast.specs.declared.place.EdgeId.{EdgeId}
use Rattle.sil_ast.specs.declared.place.ValueId.{ValueId}
use Rattle.sil_cfg.specs.Items.{flow_of}
use Rattle.sil_cfg.specs.Returns.{is_return}
use Rattle.sil_cfg.specs.Walk.{IsTrail}
use Rattle.sil_cfg.specs.declared.item.Item.{Item}

module _ (f other : Function) (c v : ValueId) where
  -- the item of the other function is the same one, at the same place or a little before
  pub record IsSame (i j : Item) : Type 0 where
    pub inst : item_inst other j ≡ item_inst f i
    pub taken : item_taken other j ≡ item_taken f i
    pub defined : item_defined other j ≡ item_defined f i
    pub returns : is_return other j ≡ is_return f i

  -- it is the move that the copy became
  pub record IsMoved (i j : Item) : Type 0 where
    pub copy : Inst
    pub copies : Copies copy c v
    pub was : item_inst f i ≡ Some copy
    pub now : item_inst other j ≡ Some (with_op op.MoveValue copy)
    pub took : item_taken f i ≡ taken_by copy
    pub takes : item_taken other j ≡ taken_by (with_op op.MoveValue copy)
    pub defined : item_defined other j ≡ item_defined f i
    pub stays : is_return f i ≡ false
    pub returns : is_return other j ≡ false

  -- the item is the destroy that went
  pub record IsGone (i : Item) : Type 0 where
    pub destroy : Inst
    pub destroys : Destroys destroy v
    pub was : item_inst f i ≡ Some destroy
    pub took : item_taken f i ≡ taken_by destroy
    pub defined : item_defined f i ≡ []
    pub stays : is_return f i ≡ false

  -- the second list has the items of the first one in the other function
  pub data Cut : List Item → List Item → Type 0 where
    none : Cut [] []
    same : {t u : List Item} (i j : Item) → IsSame i j → Cut t u → Cut (i ∷ t) (j ∷ u)
    moved : {t u : List Item} (i j : Item) → IsMoved i j → Cut t u → Cut (i ∷ t) (j ∷ u)
    gone : {t u : List Item} (i : Item) → IsGone i → Cut t u → Cut (i ∷ t) u

  -- a trail of the function that the trail of the other one is cut from
  pub record CutFrom (w : List EdgeId) (u : List Item) : Type 0 where
    pub trail : List Item
    pub is : IsTrail (flow_of f) w trail
    pub cut : Cut trail u

  abbrev pub AreCut : Type 0
  AreCut = (w : List EdgeId) (u : List Item) → IsTrail (flow_of other) w u → CutFrom w u

  -- an instruction in this block of the other function: one of the same block, or the move that the copy became
  pub data PointFrom (n : ℕ) (i : Inst) : Type 0 where
    stood : (j : ℕ) → IsAt f n j i → PointFrom n i
    became : (copy : Inst) → Copies copy c v → i ≡ with_op op.MoveValue copy → PointFrom n i

  abbrev pub ArePointsFrom : Type 0
  ArePointsFrom = (n k : ℕ) (i : Inst) → IsAt other n k i → PointFrom n i
