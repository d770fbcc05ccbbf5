-- Layouts by the numbers of their functions, where these are reached.
use Rattle.std.specs.Prelude.{◌≡◌, ℕ, List, Bool, true, Some, length, slice_get}
use Rattle.sil_ast.specs.declared.function.Function.{Function}
use Rattle.sil_ast.specs.declared.module.Module.{Module}
use Rattle.sil_types_declarations.specs.TypeDefinitions.Declarations.{declarations_of}
use Rattle.count_machine_layouts.specs.declared.frame_layouts.layout.Layout.{Layout}
use Rattle.count_machine_layouts.specs.FrameLayouts.inner.Layouts.{layout_of}

-- so many elements, each of which has this at its number
pub record ByNumber {A : Type 0} (Has : ℕ → A → Type 0) (count : ℕ) (xs : List A) : Type 0 where
  pub all : length xs ≡ count
  pub each : (n : ℕ) (x : A) → slice_get xs n ≡ Some x → Has n x

module _ (m : Module) (reached : List Bool) where
  -- it is the layout of the function with this number, if that one is reached
  abbrev pub IsLaid : ℕ → Layout → Type 0
  IsLaid n layout = (f : Function) → slice_get reached n ≡ Some true → slice_get m.functions n ≡ Some f → layout ≡ layout_of (declarations_of m) f

  -- the layouts of the functions
  abbrev pub AreLaid : List Layout → Type 0
  AreLaid = ByNumber IsLaid (length m.functions)
