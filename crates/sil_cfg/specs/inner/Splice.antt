-- The law of splicing, over the walks of a function alone.
use Rattle.std.specs.Prelude.{◌≡◌, ℕ, List, [], ◌∷◌, ◌++◌, Bool, true, false, ◌==◌, ◌&&◌, IsTrue}
use Rattle.std.specs.List.{list_any}
use Rattle.sil_ast.specs.declared.place.EdgeId.{EdgeId}
use Rattle.sil_ast.specs.declared.function.Function.{Function}
use Rattle.sil_cfg.specs.declared.item.Item.{Item}
use Rattle.sil_cfg.specs.declared.item.Item.TheVariants.{Entry, Inst, Edge, Exit}
use Rattle.sil_cfg.specs.Flow.{Flow, edge_to}
use Rattle.sil_cfg.specs.Items.{flow_of}
use Rattle.sil_cfg.specs.Walk.{IsTrail}

-- the two are one item
abbrev pub same_item : Item → Item → Bool
same_item Entry Entry = true
same_item Entry (Inst q) = false
same_item Entry (Edge d) = false
same_item Entry (Exit q) = false
same_item (Inst p) Entry = false
same_item (Inst p) (Inst q) = (p.block.0 == q.block.0) && (p.index == q.index)
same_item (Inst p) (Edge d) = false
same_item (Inst p) (Exit q) = false
same_item (Edge e) Entry = false
same_item (Edge e) (Inst q) = false
same_item (Edge e) (Edge d) = (e.block.0 == d.block.0) && (e.index == d.index)
same_item (Edge e) (Exit q) = false
same_item (Exit p) Entry = false
same_item (Exit p) (Inst q) = false
same_item (Exit p) (Edge d) = false
same_item (Exit p) (Exit q) = (p.block.0 == q.block.0) && (p.index == q.index)

-- one item, or the items of all edges into one block
pub data Stop : Type 0 where
  item : Item → Stop
  into : ℕ → Stop

abbrev pub goes_into : Flow Item → ℕ → Item → Bool
goes_into g b Entry = false
goes_into g b (Inst p) = false
goes_into g b (Edge e) = edge_to g e == b
goes_into g b (Exit p) = false

-- the item is one of those meant
abbrev pub is_at : Flow Item → Stop → Item → Bool
is_at g (item j) i = same_item i j
is_at g (into b) i = goes_into g b i

-- on every walk to b an a stands before that b
abbrev pub Precedes : Flow Item → Stop → Stop → Type 0
Precedes g a b =
    (w : List EdgeId) (before : List Item) (i : Item) → IsTrail g w (before ++ i ∷ []) → IsTrue (is_at g b i) → IsTrue (list_any (is_at g a) before)

-- the last item of the list that passes p stands before the last one that passes q
pub record LastStandsBefore (p q : Item → Bool) (items : List Item) : Type 0 where
  pub front : List Item
  pub first : Item
  pub middle : List Item
  pub second : Item
  pub rest : List Item
  pub parts : items ≡ front ++ first ∷ (middle ++ second ∷ rest)
  pub first_is : p first ≡ true
  pub second_is : q second ≡ true
  pub last_first : list_any p (middle ++ second ∷ rest) ≡ false
  pub last_second : list_any q rest ≡ false

-- where on every walk to b an a stands before that b, and on every walk to c a b stands before that c,
-- the last a before c stands before the last b before c
abbrev pub Splices : Function → Type 0
Splices f =
    (a b c : Stop) → Precedes (flow_of f) a b → Precedes (flow_of f) b c →
    (w : List EdgeId) (before : List Item) (i : Item) → IsTrail (flow_of f) w (before ++ i ∷ []) → IsTrue (is_at (flow_of f) c i) →
    LastStandsBefore (is_at (flow_of f) a) (is_at (flow_of f) b) before
