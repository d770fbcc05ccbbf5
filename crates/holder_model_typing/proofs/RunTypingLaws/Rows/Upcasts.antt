-- The row of `upcast`: an object as one of an ancestor of its class. A class that inherits is a class, and so is each ancestor.
use Rattle.std.proofs.Common.{◌≡◌, ℕ, zero, suc, [], ◌∷◌, refl, sym, ap, ◌∙◌, true, false, ◌⊎◌, inl, inr, Option, Some, None}
use Rattle.std.specs.List.{list_any}
use Rattle.std.specs.Str.{bytes_eq}
use Rattle.std.proofs.lemmas.Bool.{or_cases, or_right}
use Rattle.instruction_table.specs.declared.op.Op.TheVariants as op
use Rattle.sil_ast.specs.declared.decl.Decl.{Decl}
use Rattle.sil_ast.specs.declared.decl.Decl.TheVariants.{Struct, Enum, Class}
use Rattle.sil_ast.specs.declared.function.Function.{Function}
use Rattle.sil_ast.specs.declared.inst.Inst.{Inst}
use Rattle.sil_ast.specs.declared.module.Module.{Module}
use Rattle.sil_ast.specs.declared.type_name.TypeName.{out-TypeName}
use Rattle.sil_ast.specs.declared.type_name.TypeName.TheVariants as type
use Rattle.sil_rules.specs.declared.limits.TheConstants.{DEPTH}
use Rattle.numbered_form.specs.Names.{Name}
use Rattle.holder_model.specs.Effects.{effect_of}
use Rattle.holder_model.specs.sil_types_declarations.TypeDefinitions.Declarations.{Declarations, ancestors_of, chain, decl_of, declarations_of, inherits, is_class, is_class_found, superclass_found}
use Rattle.holder_model.specs.sil_types_declarations.TypeDefinitions.Declarations.{superclass_of}
use Rattle.holder_model.specs.sil_types.Typing.RowTypes.{gives, inherits_by, is_base, is_derived, written}
use Rattle.holder_model.specs.sil_types.Typing.Shapes.{name_in, where_it}
use Rattle.holder_model.specs.holder_model_values.RunValues.Shapes.{Reference}
use Rattle.holder_model.specs.RunTyping.Forms.{OfValue}
use Rattle.holder_model.specs.RunTyping.RowForms.{upcast}
use Rattle.holder_model_typing.specs.RunTypingLaws.inner.WellTyped.{IsWellTyped}
use Rattle.holder_model_typing.proofs.RunTypingLaws.Found.{name_is}
use Rattle.holder_model_typing.proofs.RunTypingLaws.ShapeFacts.{class_shape}
use Rattle.holder_model_typing.proofs.RunTypingLaws.TextClasses.{superclass_is_class}
use Rattle.holder_model_typing.proofs.RunTypingLaws.Rows.Finding.{passed, where_found}
use Rattle.holder_model_typing.proofs.RunTypingLaws.Rows.Forms.{typed_form, value_form}
use Rattle.holder_model_typing.proofs.RunTypingLaws.Rows.Known.{Known}
use Rattle.holder_model_typing.proofs.RunTypingLaws.Rows.Layers.{named_type, target-Named}
use Rattle.holder_model_typing.proofs.RunTypingLaws.Rows.Shares.{Row, given_one, gives_form, of_parts, one_operand, row_of}

-- names of which the first inherits from the second
both_named : (d : Declarations) (a b : Option Name) → inherits_by d a b ≡ true → (class : Name) × (other : Name) × (a ≡ Some class) × (b ≡ Some other) × (inherits d class other ≡ true)
both_named d None b e = absurd (cc)
both_named d (Some a) None e = absurd (cc)
both_named d (Some a) (Some b) e = (a, b, refl, refl, e)

in_chain : (d : Declarations) (class other : Name) → inherits d class other ≡ true → list_any (bytes_eq other) (chain d DEPTH (superclass_of d class)) ≡ true
unfolding ancestors_of
in_chain d class other e = e

no_chain : (d : Declarations) (n : ℕ) → chain d n None ≡ []
no_chain d zero = refl
no_chain d (suc n) = refl

module _ (m : Module) (r : IsWellTyped m) where
  abbrev d : Declarations
  d = declarations_of m

  derived_is_class : (class other : Name) → inherits d class other ≡ true → is_class d class ≡ true
  derived_is_class class other e = at (decl_of d class) refl (in_chain d class other e)
    where
      none : {P : Type 0} → list_any (bytes_eq other) (chain d DEPTH None) ≡ true → P
      none h = let no : false ≡ true = ap (list_any (bytes_eq other)) (sym (no_chain d DEPTH)) ∙ h in absurd (cc)

      at : (o : Option Decl) → decl_of d class ≡ o → list_any (bytes_eq other) (chain d DEPTH (superclass_found o)) ≡ true → is_class d class ≡ true
      at None is h = none h
      at (Some (Struct name fields)) is h = none h
      at (Some (Enum name cases)) is h = none h
      at (Some (Class name superclass fields)) is h = ap is_class_found is

  -- each of a chain of classes is one, where the first is
  among_classes : (n : ℕ) (o : Option Name) (other : Name) → ((class : Name) → o ≡ Some class → is_class d class ≡ true) → list_any (bytes_eq other) (chain d n o) ≡ true
      → is_class d other ≡ true
  among_classes zero o other first e = absurd (cc)
  among_classes (suc n) None other first e = absurd (cc)
  among_classes (suc n) (Some class) other first e =
      by (or_cases (bytes_eq other class) (list_any (bytes_eq other) (chain d n (superclass_of d class))) e)
      (among_classes n (superclass_of d class) other (λ above is. superclass_is_class m r class above is))
    where
      by : (bytes_eq other class ≡ true) ⊎ (list_any (bytes_eq other) (chain d n (superclass_of d class)) ≡ true)
          → (list_any (bytes_eq other) (chain d n (superclass_of d class)) ≡ true → is_class d other ≡ true) → is_class d other ≡ true
      by (inl same) rest = ap (is_class d) (name_is other class same) ∙ first class refl
      by (inr later) rest = rest later

  ancestor_is_class : (class other : Name) → inherits d class other ≡ true → is_class d other ≡ true
  ancestor_is_class class other e =
      among_classes DEPTH (superclass_of d class) other (λ above is. superclass_is_class m r class above is) (in_chain d class other e)

  module _ (f : Function) (i : Inst) where
    pub upcast_of : Known m f i op.Upcast → Row m f i
    upcast_of k =
        let it = given_one (where_it (is_base d (written 0 i)) i.ty) k.keeps in
        let found = where_found (is_base d (written 0 i)) i.ty it.0 it.1 in
        let value = passed (λ t. is_derived d t it.0) (written 0 i) found.1 in
        let names = both_named d (name_in (out-TypeName value.0)) (name_in (out-TypeName it.0)) value.2 in
        let class : Name = names.0 in
        let other : Name = names.1 in
        row_of m f i (OfValue (Reference class) ∷ []) (OfValue (Reference other) ∷ [])
        (one_operand m f i op.Upcast k (of_parts _ k.operands) value.0 value.1
        ∙ ap (λ t. typed_form d t ∷ []) (named_type value.0 class names.2)
        ∙ ap (λ x. x ∷ []) (value_form d (type.Named class) (target-Named class) ∙ ap OfValue (class_shape m r class (derived_is_class class other names.4))))
        (gives_form m f i op.Upcast k refl it.0 (ap gives it.1)
        ∙ ap (λ t. typed_form d t ∷ []) (named_type it.0 other names.3)
        ∙ ap (λ x. x ∷ []) (value_form d (type.Named other) (target-Named other) ∙ ap OfValue (class_shape m r other (ancestor_is_class class other names.4))))
        (upcast class other (ap effect_of k.op) (or_right (bytes_eq other class) (inherits d class other) names.4))
