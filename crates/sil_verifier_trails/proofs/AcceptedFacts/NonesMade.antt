-- None values: what makes them, and that an entry of one is made of a value without references.
use Rattle.std.proofs.Common.{◌≡◌, List, [], ◌∷◌, refl, sym, ap, ◌∙◌, not}
use Rattle.std.specs.Prelude.{Err, Ok, cond}
use Rattle.std.proofs.lemmas.Bool.{and_parts, false≢true, not-true}
use Rattle.std.proofs.lemmas.Option.{none-some, same_Some}
use Rattle.sil_verifier_trails.specs.AcceptedFacts.inner.Nones.{AreNonesMadeWithoutOwners, HaveNonesNoReferences, IsMadeWithoutOwners, IsNone}
use Rattle.sil_verifier_values.specs.holder_model_values.RunValues.Values.{references_of}
use Rattle.sil_ast.specs.declared.function.Function.{Function}
use Rattle.sil_ast.specs.declared.place.ObjectId.{ObjectId}
use Rattle.sil_ast.specs.declared.place.ValueId.{ValueId}
use Rattle.sil_verifier_values.specs.sil_types_declarations.TypeDefinitions.Declarations.{Declarations, declarations_of}
use Rattle.sil_verifier_values.specs.sil_types_declarations.TypeDefinitions.Measures.{is_trivial}
use Rattle.sil_verifier_values.specs.sil_types.Typing.Shapes.{is_object, target}
use Rattle.sil_verifier_values.specs.inner.Nones.{WhyPlain, address, made, trivial, untyped}
use Rattle.sil_verifier_values.specs.holder_model.Data.{ValueOf}
use Rattle.sil_verifier_values.specs.holder_model.Faults.{WrongShape}
use Rattle.sil_verifier_values.specs.holder_model.Frames.{Plain, has_any, made_entry}
use Rattle.sil_verifier_values.proofs.Nones.{plain_told}
use Rattle.sil_verifier_values.proofs.holder_model_typing.RunTypingLaws.Rows.Layers.{object_target}

module _ (d : Declarations) (f : Function) (v : ValueId) (none : IsNone d f v) where
  by_reason : WhyPlain d f v → IsMadeWithoutOwners d f v
  by_reason (untyped e) = absurd (none-some none.ty (sym e ∙ none.typed))
  by_reason (trivial t e h) =
      let parts = and_parts (is_object none.ty) (not (is_trivial d none.ty)) none.holds in
      let same = same_Some t none.ty (sym e ∙ none.typed) in
      absurd (false≢true (sym (not-true (is_trivial d none.ty) parts.1) ∙ ap (is_trivial d) (sym same) ∙ h))
  by_reason (address t u e to) =
      let parts = and_parts (is_object none.ty) (not (is_trivial d none.ty)) none.holds in
      let same = same_Some t none.ty (sym e ∙ none.typed) in
      absurd (none-some u (sym (object_target none.ty parts.0) ∙ ap target (sym same) ∙ to))
  by_reason (made block index k i here at operands) =
      record { block = block; index = index; number = k; inst = i; here = here; gives = at; operands = operands }

pub nones_made : AreNonesMadeWithoutOwners
nones_made m n f a v none = by_reason (declarations_of m) f v none (plain_told m n f a v none.is_value none.no_owner)

pub nones_without_references : HaveNonesNoReferences
nones_without_references m n f a v x e plain is = at (references_of x) (sym (ap (λ k. made_entry k (ValueOf x)) plain) ∙ is)
  where
    at : (os : List ObjectId) → cond (has_any os) (Err WrongShape) (Ok (Plain (ValueOf x))) ≡ Ok e → os ≡ []
    at [] h = refl
    at (o ∷ os) h = absurd (cc)
