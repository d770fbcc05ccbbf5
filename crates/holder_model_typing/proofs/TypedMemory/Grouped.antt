-- Structs, tuples and enums, by their members and cases.
use Rattle.std.proofs.Common.{◌≡◌, ◌++◌, List, [], ◌∷◌, Some, true, map, refl, ap, ◌∙◌, subst}
use Rattle.std.specs.List.{flat_map}
use Rattle.holder_model.specs.holder_model_values.RunValues.inner.Fits.{fit_each}
use Rattle.holder_model.specs.holder_model_values.RunValues.Shapes.{Shape, case_shapes}
use Rattle.holder_model.specs.holder_model_values.RunValues.Shapes as shapes
use Rattle.holder_model.specs.holder_model_values.RunValues.Values.{Value, grouped, members_of, references_of}
use Rattle.holder_model.specs.holder_model_values.ValueParts.inner.Choices.{IsChoice}
use Rattle.holder_model.specs.holder_model_values.ValueParts.inner.Suits.{ClassTest, suits}
use Rattle.holder_model.proofs.holder_model_values.ValueParts.Cases.{suits_choice}
use Rattle.holder_model.proofs.holder_model_values.ValueParts.Groups.{members_again, struct_suits, suits_tuple, tuple_suits}
use Rattle.holder_model.specs.RunTyping.RowForms.{IsEnum, IsGroup}

module _ (test : ClassTest) where
  -- members that suit one by one make a group that suits
  pub group_suits : (s : Shape) (ss : List Shape) → IsGroup s ss → (vs : List Value) → fit_each (map (suits test) ss) vs ≡ true → suits test s (grouped vs) ≡ true
  group_suits _ _ (IsGroup.struct name ss) vs h = struct_suits test name ss vs ∙ h
  group_suits _ _ (IsGroup.tuple ss) vs h = tuple_suits test ss vs ∙ h

  pub record Members (ss : List Shape) (x : Value) : Type 0 where
    pub values : List Value
    pub are : members_of x ≡ Some values
    pub is : x ≡ grouped values
    pub fit : fit_each (map (suits test) ss) values ≡ true

  -- and a group that suits has members that suit
  pub suits_group : (s : Shape) (ss : List Shape) → IsGroup s ss → (x : Value) → suits test s x ≡ true → Members ss x
  suits_group _ _ (IsGroup.struct name ss) x h =
      let parts = suits_tuple test (shapes.members_of ss) x h in
      record { values = parts.0; are = parts.1; is = parts.2; fit = subst (λ ts. fit_each (map (suits test) ts) parts.0 ≡ true) (members_again ss) parts.3 }
  suits_group _ _ (IsGroup.tuple ss) x h =
      let parts = suits_tuple test (shapes.members_of ss) x h in
      record { values = parts.0; are = parts.1; is = parts.2; fit = subst (λ ts. fit_each (map (suits test) ts) parts.0 ≡ true) (members_again ss) parts.3 }

  -- an enum is one of its cases
  pub enum_choice : (s : Shape) → IsEnum s → (x : Value) → suits test s x ≡ true → IsChoice test (case_shapes s) x
  enum_choice _ (IsEnum.enum name cases) x h = suits_choice test name cases x h

-- the references of a group are those of its members, one after the other

pub group_references : (vs : List Value) → references_of (grouped vs) ≡ flat_map references_of vs
group_references [] = refl
group_references (v ∷ vs) = ap (λ os. references_of v ++ os) (group_references vs)
