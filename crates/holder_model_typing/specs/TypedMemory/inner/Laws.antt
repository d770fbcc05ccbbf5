-- What is made in typed memory, and values without references.
use Rattle.std.specs.Prelude.{◌≡◌, [], ◌∷◌, ◌++◌, true}
use Rattle.sil_ast.specs.declared.module.Module.{Module}
use Rattle.numbered_form.specs.Names.{Name}
use Rattle.holder_model.specs.holder_model_values.RunValues.Shapes.{Shape}
use Rattle.holder_model.specs.holder_model_values.RunValues.Trivial.{is_trivial}
use Rattle.holder_model.specs.holder_model_values.RunValues.Values.{Value, references_of}
use Rattle.holder_model_typing.specs.TypedMemory.inner.Worlds.{Suits, World}

-- a value of a trivial shape has no references
abbrev pub HaveNoReferences : Type 0
HaveNoReferences = (m : Module) (w : World) (s : Shape) (x : Value) → Suits m w s x → is_trivial s ≡ true → references_of x ≡ []

-- a world with one class more, and with one slot more
abbrev pub with_class : World → Name → World
with_class w class = record w { classes = w.classes ++ class ∷ [] }

abbrev pub with_slot : World → Shape → World
with_slot w s = record w { slots = w.slots ++ s ∷ [] }
