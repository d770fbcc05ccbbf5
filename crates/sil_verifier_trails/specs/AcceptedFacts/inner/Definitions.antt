-- What makes a value stands before each item that takes it, on every walk there.
use Rattle.std.specs.Prelude.{◌≡◌}
use Rattle.sil_cfg_items.specs.Items.{item_taken}
use Rattle.sil_cfg_items.specs.declared.taken.Taken.{Taken}
use Rattle.numbered_form.specs.Lists.{Each}
use Rattle.sil_ast.specs.declared.function.Function.{Function}
use Rattle.sil_ast.specs.declared.place.ValueId.{ValueId}
use Rattle.sil_cfg.specs.Items.{IsItem, flow_of}
use Rattle.sil_cfg.specs.declared.item.Item.{Item}
use Rattle.sil_cfg.specs.inner.Splice.{Precedes, Stop, is_at, item}
use Rattle.sil_verifier_trails.specs.AcceptedTrails.inner.Defined.{makes}
use Rattle.sil_verifier_values.specs.inner.Known.{InAccepted}

-- the value is made there, and nowhere else
abbrev pub IsMadeJustAt : Function → ValueId → Stop → Type 0
IsMadeJustAt f v s = (i : Item) → IsItem f i → makes f v i ≡ is_at (flow_of f) s i

-- on every walk to the item the operand was made before
abbrev pub IsMadeBefore : Function → Item → Taken → Type 0
IsMadeBefore f i x = (s : Stop) → IsMadeJustAt f x.value s → Precedes (flow_of f) s (item i)

abbrev pub AreOperandsMadeBefore : Type 0
AreOperandsMadeBefore = InAccepted (λ d f. (i : Item) → Each (IsMadeBefore f i) (item_taken f i))
