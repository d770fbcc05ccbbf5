-- A type by its outermost layer: what passes a test on layers, and what stands at an address.
use Rattle.std.proofs.Common.{◌≡◌, ℕ, List, refl, sym, ap, ◌∙◌, true, Some, None}
use Rattle.std.proofs.lemmas.Bool.{eqb-true}
use Rattle.sil_ast.specs.declared.type_name.TypeName.{TypeName, TypeName-F, out-TypeName, out-roll-TypeName, roll-TypeName, roll-out-TypeName}
use Rattle.sil_ast.specs.declared.type_name.TypeName.TheVariants as type
use Rattle.sil_ast.specs.declared.type_name.TypeName.TheVariants.{rolls-Int, rolls-Named, rolls-Optional, rolls-Tuple, rolls-Weak, rolls-Unowned, rolls-Address}
use Rattle.numbered_form.specs.Names.{Name}
use Rattle.holder_model.specs.sil_types.Typing.Shapes.{elements, elements_in, in_unowned, in_weak, is_bit, is_bit_layer, is_integer, is_integer_layer, is_object, is_object_layer, name_in}
use Rattle.holder_model.specs.sil_types.Typing.Shapes.{target, target_in, unowned_in, weak_in}

-- ---- a type with this layer

rolled : (t : TypeName) (layer : TypeName-F TypeName) → out-TypeName t ≡ layer → t ≡ roll-TypeName layer
rolled t layer e = sym (roll-out-TypeName t) ∙ ap roll-TypeName e

pub is_int : (t : TypeName) (w : ℕ) → out-TypeName t ≡ TypeName-F.Int w → t ≡ type.Int w
is_int t w e = rolled t (TypeName-F.Int w) e ∙ rolls-Int w

pub is_named : (t : TypeName) (name : Name) → out-TypeName t ≡ TypeName-F.Named name → t ≡ type.Named name
is_named t name e = rolled t (TypeName-F.Named name) e ∙ rolls-Named name

pub is_tuple : (t : TypeName) (ts : List TypeName) → out-TypeName t ≡ TypeName-F.Tuple ts → t ≡ type.Tuple ts
is_tuple t ts e = rolled t (TypeName-F.Tuple ts) e ∙ rolls-Tuple ts

pub is_optional : (t inner : TypeName) → out-TypeName t ≡ TypeName-F.Optional inner → t ≡ type.Optional inner
is_optional t inner e = rolled t (TypeName-F.Optional inner) e ∙ rolls-Optional inner

pub is_weak : (t inner : TypeName) → out-TypeName t ≡ TypeName-F.Weak inner → t ≡ type.Weak inner
is_weak t inner e = rolled t (TypeName-F.Weak inner) e ∙ rolls-Weak inner

pub is_unowned : (t inner : TypeName) → out-TypeName t ≡ TypeName-F.Unowned inner → t ≡ type.Unowned inner
is_unowned t inner e = rolled t (TypeName-F.Unowned inner) e ∙ rolls-Unowned inner

pub out-Int : (w : ℕ) → out-TypeName (type.Int w) ≡ TypeName-F.Int w
out-Int w = ap out-TypeName (sym (rolls-Int w)) ∙ out-roll-TypeName (TypeName-F.Int w)

pub out-Tuple : (ts : List TypeName) → out-TypeName (type.Tuple ts) ≡ TypeName-F.Tuple ts
out-Tuple ts = ap out-TypeName (sym (rolls-Tuple ts)) ∙ out-roll-TypeName (TypeName-F.Tuple ts)

pub out-Named : (name : Name) → out-TypeName (type.Named name) ≡ TypeName-F.Named name
out-Named name = ap out-TypeName (sym (rolls-Named name)) ∙ out-roll-TypeName (TypeName-F.Named name)

pub out-Optional : (t : TypeName) → out-TypeName (type.Optional t) ≡ TypeName-F.Optional t
out-Optional t = ap out-TypeName (sym (rolls-Optional t)) ∙ out-roll-TypeName (TypeName-F.Optional t)

pub out-Weak : (t : TypeName) → out-TypeName (type.Weak t) ≡ TypeName-F.Weak t
out-Weak t = ap out-TypeName (sym (rolls-Weak t)) ∙ out-roll-TypeName (TypeName-F.Weak t)

pub out-Unowned : (t : TypeName) → out-TypeName (type.Unowned t) ≡ TypeName-F.Unowned t
out-Unowned t = ap out-TypeName (sym (rolls-Unowned t)) ∙ out-roll-TypeName (TypeName-F.Unowned t)

pub out-Address : (t : TypeName) → out-TypeName (type.Address t) ≡ TypeName-F.Address t
out-Address t = ap out-TypeName (sym (rolls-Address t)) ∙ out-roll-TypeName (TypeName-F.Address t)

pub target-Address : (t : TypeName) → target (type.Address t) ≡ Some t
target-Address t = ap target_in (out-Address t)

pub target-Int : (w : ℕ) → target (type.Int w) ≡ None
target-Int w = ap target_in (out-Int w)

pub target-Tuple : (ts : List TypeName) → target (type.Tuple ts) ≡ None
target-Tuple ts = ap target_in (out-Tuple ts)

pub target-Named : (name : Name) → target (type.Named name) ≡ None
target-Named name = ap target_in (out-Named name)

pub target-Optional : (t : TypeName) → target (type.Optional t) ≡ None
target-Optional t = ap target_in (out-Optional t)

-- ---- what passes a test on layers

module _ (t : TypeName) where
  abbrev At : TypeName-F TypeName → Type 0
  At layer = out-TypeName t ≡ layer

  pub integer_type : is_integer t ≡ true → (w : ℕ) × (t ≡ type.Int w)
  integer_type e = at (out-TypeName t) refl e
    where
      at : (layer : TypeName-F TypeName) → At layer → is_integer_layer layer ≡ true → (w : ℕ) × (t ≡ type.Int w)
      at (TypeName-F.Int w) o e = (w, is_int t w o)
      at (TypeName-F.Named name) o e = absurd (cc)
      at (TypeName-F.Optional inner) o e = absurd (cc)
      at (TypeName-F.Tuple parts) o e = absurd (cc)
      at (TypeName-F.Weak inner) o e = absurd (cc)
      at (TypeName-F.Unowned inner) o e = absurd (cc)
      at (TypeName-F.Address inner) o e = absurd (cc)

  pub bit_type : is_bit t ≡ true → t ≡ type.Int 1
  bit_type e = at (out-TypeName t) refl e
    where
      at : (layer : TypeName-F TypeName) → At layer → is_bit_layer layer ≡ true → t ≡ type.Int 1
      at (TypeName-F.Int w) o e = is_int t w o ∙ ap type.Int (eqb-true w 1 e)
      at (TypeName-F.Named name) o e = absurd (cc)
      at (TypeName-F.Optional inner) o e = absurd (cc)
      at (TypeName-F.Tuple parts) o e = absurd (cc)
      at (TypeName-F.Weak inner) o e = absurd (cc)
      at (TypeName-F.Unowned inner) o e = absurd (cc)
      at (TypeName-F.Address inner) o e = absurd (cc)

  pub object_target : is_object t ≡ true → target t ≡ None
  object_target e = at (out-TypeName t) e
    where
      at : (layer : TypeName-F TypeName) → is_object_layer layer ≡ true → target_in layer ≡ None
      at (TypeName-F.Int w) e = refl
      at (TypeName-F.Named name) e = refl
      at (TypeName-F.Optional inner) e = refl
      at (TypeName-F.Tuple parts) e = refl
      at (TypeName-F.Weak inner) e = refl
      at (TypeName-F.Unowned inner) e = refl
      at (TypeName-F.Address inner) e = absurd (cc)

  pub tuple_type : (ts : List TypeName) → elements t ≡ Some ts → t ≡ type.Tuple ts
  tuple_type ts e = at (out-TypeName t) refl e
    where
      at : (layer : TypeName-F TypeName) → At layer → elements_in layer ≡ Some ts → t ≡ type.Tuple ts
      at (TypeName-F.Int w) o e = absurd (cc)
      at (TypeName-F.Named name) o e = absurd (cc)
      at (TypeName-F.Optional inner) o e = absurd (cc)
      at (TypeName-F.Tuple parts) o e = is_tuple t parts o ∙ ap type.Tuple (cc)
      at (TypeName-F.Weak inner) o e = absurd (cc)
      at (TypeName-F.Unowned inner) o e = absurd (cc)
      at (TypeName-F.Address inner) o e = absurd (cc)

  pub named_type : (name : Name) → name_in (out-TypeName t) ≡ Some name → t ≡ type.Named name
  named_type name e = at (out-TypeName t) refl e
    where
      at : (layer : TypeName-F TypeName) → At layer → name_in layer ≡ Some name → t ≡ type.Named name
      at (TypeName-F.Int w) o e = absurd (cc)
      at (TypeName-F.Named other) o e = is_named t other o ∙ ap type.Named (cc)
      at (TypeName-F.Optional inner) o e = absurd (cc)
      at (TypeName-F.Tuple parts) o e = absurd (cc)
      at (TypeName-F.Weak inner) o e = absurd (cc)
      at (TypeName-F.Unowned inner) o e = absurd (cc)
      at (TypeName-F.Address inner) o e = absurd (cc)

  pub weak_type : (inner : TypeName) → in_weak t ≡ Some inner → t ≡ type.Weak inner
  weak_type inner e = at (out-TypeName t) refl e
    where
      at : (layer : TypeName-F TypeName) → At layer → weak_in layer ≡ Some inner → t ≡ type.Weak inner
      at (TypeName-F.Int w) o e = absurd (cc)
      at (TypeName-F.Named name) o e = absurd (cc)
      at (TypeName-F.Optional x) o e = absurd (cc)
      at (TypeName-F.Tuple parts) o e = absurd (cc)
      at (TypeName-F.Weak x) o e = is_weak t x o ∙ ap type.Weak (cc)
      at (TypeName-F.Unowned x) o e = absurd (cc)
      at (TypeName-F.Address x) o e = absurd (cc)

  pub unowned_type : (inner : TypeName) → in_unowned t ≡ Some inner → t ≡ type.Unowned inner
  unowned_type inner e = at (out-TypeName t) refl e
    where
      at : (layer : TypeName-F TypeName) → At layer → unowned_in layer ≡ Some inner → t ≡ type.Unowned inner
      at (TypeName-F.Int w) o e = absurd (cc)
      at (TypeName-F.Named name) o e = absurd (cc)
      at (TypeName-F.Optional x) o e = absurd (cc)
      at (TypeName-F.Tuple parts) o e = absurd (cc)
      at (TypeName-F.Weak x) o e = absurd (cc)
      at (TypeName-F.Unowned x) o e = is_unowned t x o ∙ ap type.Unowned (cc)
      at (TypeName-F.Address x) o e = absurd (cc)
