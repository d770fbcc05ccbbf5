-- How an item finds and leaves a value that begins and ends: its operands end it, then they use it, and then it begins.
use Rattle.std.specs.Prelude.{◌≡◌, List, ◌∷◌, ◌++◌, Bool, true, false, not, ◌&&◌, ◌||◌, ◌==◌, Option, Some}
use Rattle.std.specs.List.{list_any}
use Rattle.sil_verifier_values.specs.holder_model.Frames.{ends, has_any}
use Rattle.sil_cfg_items.specs.Items.{item_defined, item_taken}
use Rattle.sil_cfg_items.specs.declared.taken.Taken.{Taken}
use Rattle.sil_verifier_values.specs.ownership_kinds_chains.declared.ownership_chains.facts.Facts.{Facts}
use Rattle.sil_verifier_values.specs.ownership_kinds_chains.OwnershipMarks.Marks.{begun, used}
use Rattle.sil_ast.specs.declared.function.Function.{Function}
use Rattle.sil_ast.specs.declared.place.ValueId.{ValueId}
use Rattle.sil_cfg.specs.Returns.{is_return}
use Rattle.sil_cfg.specs.declared.item.Item.{Item}

module _ (facts : ValueId → Option Facts) (v : ValueId) where
  -- the operand ends it
  abbrev pub is_end : Taken → Bool
  is_end x = ends facts x && (x.value.0 == v.0)

  -- the operand uses it
  abbrev pub is_use : Taken → Bool
  is_use x = list_any (λ m. m.subject.0 == v.0) (used facts x)

  -- it begins where this value is made
  abbrev pub is_begin : ValueId → Bool
  is_begin w = has_any (begun facts w) && (w.0 == v.0)

  -- it was on, and none of these operands ended it
  abbrev pub on_behind : Bool → List Taken → Bool
  on_behind on xs = on && not (list_any is_end xs)

  -- whether it is on behind the ends of the item, and when the item has made its values
  abbrev pub left_by : Function → Item → Bool → Bool
  left_by f i on = on_behind on (item_taken f i)

  abbrev pub behind : Function → Item → Bool → Bool
  behind f i on = list_any is_begin (item_defined f i) || left_by f i on

  -- the item finds it on or off, as it has to be
  pub record IsFoundRight (f : Function) (i : Item) (on : Bool) : Type 0 where
    -- on where an operand ends it, behind those before
    pub ended : (front rest : List Taken) (x : Taken) → item_taken f i ≡ front ++ x ∷ rest → is_end x ≡ true → on_behind on front ≡ true
    -- on behind the ends, where an operand uses it
    pub used : list_any is_use (item_taken f i) ≡ true → left_by f i on ≡ true
    -- off where it begins, behind the values that are made before
    pub begun : (front rest : List ValueId) (w : ValueId) → item_defined f i ≡ front ++ w ∷ rest → is_begin w ≡ true
        → (list_any is_begin front || left_by f i on) ≡ false
    -- off where the item returns
    pub returned : is_return f i ≡ true → left_by f i on ≡ false

  -- what the trail leaves on or off the item finds right, and it leaves it so
  pub record IsPassed (state : List Item → Option Bool) (f : Function) (t : List Item) (i : Item) : Type 0 where
    pub on : Bool
    pub was : state t ≡ Some on
    pub found : IsFoundRight f i on
    pub is_left : state (i ∷ t) ≡ Some (behind f i on)
