-- Values of a function by the forms of all: one, two, or a first one.
use Rattle.std.proofs.Common.{◌≡◌, List, [], ◌∷◌, refl}
use Rattle.sil_ast.specs.declared.function.Function.{Function}
use Rattle.sil_ast.specs.declared.place.ValueId.{ValueId}
use Rattle.sil_types_declarations.specs.TypeDefinitions.Declarations.{Declarations}
use Rattle.holder_model.specs.RunTyping.Forms.{Form, form_of, forms_of}

module _ (d : Declarations) (f : Function) where
  pub record OneValue (vs : List ValueId) (x : Form) : Type 0 where
    pub value : ValueId
    pub only : vs ≡ value ∷ []
    pub form : form_of d f value ≡ x

  pub one_value : (vs : List ValueId) (x : Form) → forms_of d f vs ≡ x ∷ [] → OneValue vs x
  one_value [] x e = absurd (cc)
  one_value (v ∷ []) x e = record { value = v; only = refl; form = cc }
  one_value (v ∷ w ∷ vs) x e = absurd (cc)

  pub record FirstValue (vs : List ValueId) (x : Form) : Type 0 where
    pub value : ValueId
    pub more : List ValueId
    pub all : vs ≡ value ∷ more
    pub form : form_of d f value ≡ x

  pub first_value : (vs : List ValueId) (x : Form) (xs : List Form) → forms_of d f vs ≡ x ∷ xs → FirstValue vs x
  first_value [] x xs e = absurd (cc)
  first_value (v ∷ vs) x xs e = record { value = v; more = vs; all = refl; form = cc }

  pub record TwoValues (vs : List ValueId) (y : Form) : Type 0 where
    pub left : ValueId
    pub right : ValueId
    pub more : List ValueId
    pub all : vs ≡ left ∷ right ∷ more
    pub form : form_of d f right ≡ y

  pub two_values : (vs : List ValueId) (x y : Form) (xs : List Form) → forms_of d f vs ≡ x ∷ y ∷ xs → TwoValues vs y
  two_values [] x y xs e = absurd (cc)
  two_values (v ∷ []) x y xs e = absurd (cc)
  two_values (v ∷ w ∷ vs) x y xs e = record { left = v; right = w; more = vs; all = refl; form = cc }

  pub just_two : (vs : List ValueId) (x y : Form) → forms_of d f vs ≡ x ∷ y ∷ [] → (w : TwoValues vs y) × (vs ≡ w.left ∷ w.right ∷ [])
  just_two [] x y e = absurd (cc)
  just_two (v ∷ []) x y e = absurd (cc)
  just_two (v ∷ w ∷ []) x y e = (record { left = v; right = w; more = []; all = refl; form = cc }, refl)
  just_two (v ∷ w ∷ u ∷ vs) x y e = absurd (cc)
