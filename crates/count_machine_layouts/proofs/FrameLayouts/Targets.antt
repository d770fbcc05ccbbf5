-- What an address points to, and any other type itself.
use Rattle.std.proofs.Common.{◌≡◌, List, refl, sym, ap, ◌∙◌, Some, None}
use Rattle.sil_ast.specs.declared.type_name.TypeName.{TypeName, TypeName-F, out-TypeName, roll-TypeName, roll-out-TypeName}
use Rattle.sil_ast.specs.declared.type_name.TypeName.TheVariants as type
use Rattle.sil_ast.specs.declared.type_name.TypeName.TheVariants.{rolls-Address}
use Rattle.sil_types.specs.Typing.Shapes.{target, target_in}
use Rattle.sil_types_declarations.specs.TypeDefinitions.Declarations.{Declarations, all_names}
use Rattle.sil_types_declarations.specs.TypeDefinitions.Measures.{leaves_in, leaves_of, measure_at, measure_over, measures_of}
use Rattle.sil_types_declarations.specs.TypeDefinitions.Mentions.{target_at, target_of}
use Rattle.sil_types_declarations.specs.declared.type_definitions.measure.Measure.{Measure}
use Rattle.holder_model_typing.proofs.RunTypingLaws.Opened.{fold-Address, out-Address, out-Tuple}

pub is_address : (t inner : TypeName) → out-TypeName t ≡ TypeName-F.Address inner → t ≡ type.Address inner
is_address t inner e = sym (roll-out-TypeName t) ∙ ap roll-TypeName e ∙ rolls-Address inner

pub target_of-Address : (t : TypeName) → target_of (type.Address t) ≡ t
target_of-Address t = ap (target_at (type.Address t)) (out-Address t)

pub target_of-Tuple : (ts : List TypeName) → target_of (type.Tuple ts) ≡ type.Tuple ts
target_of-Tuple ts = ap (target_at (type.Tuple ts)) (out-Tuple ts)

pub is_address_of : (t inner : TypeName) → target t ≡ Some inner → t ≡ type.Address inner
is_address_of t inner e = at (out-TypeName t) refl e
  where
    at : (x : TypeName-F TypeName) → out-TypeName t ≡ x → target_in x ≡ Some inner → t ≡ type.Address inner
    at (TypeName-F.Address own) is e = is_address t own is ∙ ap type.Address (cc)
    at _ is e = absurd (cc)

pub of_address : (t inner : TypeName) → target t ≡ Some inner → target_of t ≡ inner
of_address t inner e = at (out-TypeName t) e
  where
    at : (x : TypeName-F TypeName) → target_in x ≡ Some inner → target_at t x ≡ inner
    at (TypeName-F.Address own) e = cc
    at _ e = absurd (cc)

pub of_other : (t : TypeName) → target t ≡ None → target_of t ≡ t
of_other t e = at (out-TypeName t) e
  where
    at : (x : TypeName-F TypeName) → target_in x ≡ None → target_at t x ≡ t
    at (TypeName-F.Address own) e = absurd (cc)
    at _ e = refl

module _ (d : Declarations) where
  pub leaves-Address : (t : TypeName) → leaves_of d (type.Address t) ≡ leaves_of d t
  leaves-Address t = ap leaves_in (fold-Address Measure (measure_over (measure_at (all_names d) (measures_of d))) t)

  -- an address has the leaves of what it points to
  pub leaves-target_of : (t : TypeName) → leaves_of d (target_of t) ≡ leaves_of d t
  leaves-target_of t = at (out-TypeName t) refl
    where
      at : (x : TypeName-F TypeName) → out-TypeName t ≡ x → leaves_of d (target_at t x) ≡ leaves_of d t
      at (TypeName-F.Address inner) e = sym (ap (leaves_of d) (is_address t inner e) ∙ leaves-Address inner)
      at _ e = refl
