-- A reference of an object of a class suits each class above.
use Rattle.std.proofs.Common.{◌≡◌, true, sym, subst}
use Rattle.sil_ast.specs.declared.module.Module.{Module}
use Rattle.numbered_form.specs.Names.{Name}
use Rattle.holder_model.specs.sil_types_declarations.TypeDefinitions.Declarations.{declarations_of}
use Rattle.holder_model.specs.holder_model_values.RunValues.Shapes.{Reference}
use Rattle.holder_model.specs.holder_model_values.RunValues.Values.{Value}
use Rattle.holder_model.proofs.holder_model_values.ValueParts.Plain.{reference_suits, suits_reference}
use Rattle.holder_model.specs.RunTyping.Classes.{ClassesAreSound, is_a}
use Rattle.holder_model_typing.specs.TypedMemory.inner.Worlds.{Suits, World, names}
use Rattle.holder_model_typing.proofs.TypedMemory.Naming.{named_above}

pub upcast_suits : (m : Module) (w : World) → ClassesAreSound m → (class above : Name) (x : Value) → is_a (declarations_of m) class above ≡ true → Suits m w (Reference class) x
    → Suits m w (Reference above) x
upcast_suits m w sound class above x is h =
    let o = suits_reference (names m w) class x h in
    subst (Suits m w (Reference above)) (sym o.1) (reference_suits (names m w) above o.0 (named_above m w sound class above o.0 is o.2))
