-- Integers and references: what suits, and the one leaf.
use Rattle.std.proofs.Common.{◌≡◌, ℕ, ℤ, [], ◌∷◌, true, refl}
use Rattle.std.proofs.lemmas.Bool.{false≢true}
use Rattle.sil_ast.specs.declared.place.ObjectId.{ObjectId}
use Rattle.sil_types_declarations.specs.numbered_form.Names.{Name}
use Rattle.sil_types_declarations.specs.numbered_form.inner.Literals.{is_residue}
use Rattle.holder_model_values.specs.declared.run_values.leaf.Leaf.TheVariants as leaf
use Rattle.holder_model_values.specs.RunValues.Leaves.{leaves_of}
use Rattle.holder_model_values.specs.RunValues.Shapes.{Integer, Reference}
use Rattle.holder_model_values.specs.RunValues.Values.{Value, Int, Object}
use Rattle.holder_model_values.specs.ValueParts.inner.Suits.{ClassTest, suits}

module _ (test : ClassTest) where
  pub suits_integer : (width : ℕ) (v : Value) → suits test (Integer width) v ≡ true → (n : ℤ) × (v ≡ Int n) × (is_residue width n ≡ true)
  suits_integer width (Int n) h = (n, refl, h)
  suits_integer width v h = absurd (false≢true h)

  pub integer_suits : (width : ℕ) (n : ℤ) → is_residue width n ≡ true → suits test (Integer width) (Int n) ≡ true
  integer_suits width n h = h

  pub suits_reference : (class : Name) (v : Value) → suits test (Reference class) v ≡ true → (o : ObjectId) × (v ≡ Object o) × (test class o ≡ true)
  suits_reference class (Object o) h = (o, refl, h)
  suits_reference class v h = absurd (false≢true h)

  pub reference_suits : (class : Name) (o : ObjectId) → test class o ≡ true → suits test (Reference class) (Object o) ≡ true
  reference_suits class o h = h

pub integer_leaf : (width : ℕ) (n : ℤ) → leaves_of (Integer width) (Int n) ≡ leaf.Int n ∷ []
integer_leaf width n = refl
