-- The values of an enum.
use Rattle.std.specs.Prelude.{◌≡◌, ℕ, List, true, Some, None, slice_get}
use Rattle.holder_model_values.specs.RunValues.Layers.{CaseLayer}
use Rattle.holder_model_values.specs.RunValues.Shapes.{Shape}
use Rattle.holder_model_values.specs.RunValues.Values.{Value, Case, Full}
use Rattle.holder_model_values.specs.ValueParts.inner.Suits.{ClassTest, suits}

-- a case without a payload, or one with a payload that suits its shape
pub data IsChoice (test : ClassTest) (cases : List (CaseLayer Shape)) : Value → Type 0 where
  plain : (k : ℕ) (c : CaseLayer Shape) → slice_get cases k ≡ Some c → c.payload ≡ None → IsChoice test cases (Case k)
  full : (k : ℕ) (x : Value) (c : CaseLayer Shape) (p : Shape) → slice_get cases k ≡ Some c → c.payload ≡ Some p → suits test p x ≡ true
      → IsChoice test cases (Full k x)
