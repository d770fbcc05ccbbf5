-- The values that weak and unowned storage keeps, by their leaves in storage and outside of it.
use Rattle.std.proofs.Common.{◌≡◌, zero, suc, [], ◌∷◌, true, refl}
use Rattle.std.proofs.lemmas.Bool.{false≢true}
use Rattle.count_machine_model.specs.MachineSteps.Naming.{name_of}
use Rattle.numbered_form.specs.Names.{Name}
use Rattle.count_machine_model.specs.holder_model.RunTyping.StorageForms.{IsNamed}
use Rattle.holder_model_values.specs.RunValues.Leaves.{leaves_of}
use Rattle.holder_model_values.specs.RunValues.Shapes.{Enum, FullCase, NoCase, PlainCase, Reference, Shape, Stored}
use Rattle.holder_model_values.specs.RunValues.Values.{Case, Full, Object, Value}
use Rattle.sil_ast.specs.declared.decl.Storage.{Storage}
use Rattle.sil_ast.specs.declared.decl.Storage.TheVariants as storage
use Rattle.sil_ast.specs.declared.place.ObjectId.{ObjectId}
use Rattle.holder_model_values.proofs.ValueParts.Names.{stored_inner}
use Rattle.holder_model_values.specs.ValueParts.inner.Suits.{ClassTest, suits}

-- an Optional of a class
abbrev pub optional_shape : Name → Name → Name → Name → Shape
optional_shape name first second class = Enum name (PlainCase first (FullCase second (Reference class) NoCase))

-- a value that storage of a kind may keep: `none`, a reference in `some`, or a reference
pub data NameIs (test : ClassTest) : Storage → Shape → Value → Type 0 where
  nothing : (name first second class : Name) → NameIs test storage.Weak (optional_shape name first second class) (Case 0)
  weakly : (name first second class : Name) (o : ObjectId) → test class o ≡ true → NameIs test storage.Weak (optional_shape name first second class) (Full 1 (Object o))
  unowned : (class : Name) (o : ObjectId) → test class o ≡ true → NameIs test storage.Unowned (Reference class) (Object o)

module _ (test : ClassTest) where
  weak_is : (name first second class : Name) (x : Value) → suits test (optional_shape name first second class) x ≡ true
      → NameIs test storage.Weak (optional_shape name first second class) x
  weak_is name first second class (Case zero) h = nothing name first second class
  weak_is name first second class (Case (suc zero)) h = absurd (false≢true h)
  weak_is name first second class (Case (suc (suc k))) h = absurd (false≢true h)
  weak_is name first second class (Full (suc zero) (Object o)) h = weakly name first second class o h
  weak_is name first second class (Full zero x) h = absurd (false≢true h)
  weak_is name first second class (Full (suc (suc k)) x) h = absurd (false≢true h)
  weak_is name first second class (Full (suc zero) x) h = absurd (false≢true h)
  weak_is name first second class x h = absurd (false≢true h)

  unowned_is : (class : Name) (x : Value) → suits test (Reference class) x ≡ true → NameIs test storage.Unowned (Reference class) x
  unowned_is class (Object o) h = unowned class o h
  unowned_is class x h = absurd (false≢true h)

  pub name_is : (w : Storage) (s : Shape) (x : Value) → IsNamed w s → suits test s x ≡ true → NameIs test w s x
  name_is _ _ x (IsNamed.weak class name first second) h = weak_is name first second class x h
  name_is _ _ x (IsNamed.unowned class) h = unowned_is class x h

  -- the value in storage
  pub stored_name_is : (w : Storage) (s : Shape) (x : Value) → IsNamed w s → suits test (Stored w s) x ≡ true → NameIs test w s x
  stored_name_is w s x n h = name_is w s x n (stored_inner test w s x h)

  -- what is stored suits the storage
  pub name_suits : (w : Storage) (s : Shape) (x : Value) → NameIs test w s x → suits test (Stored w s) x ≡ true
  name_suits _ _ _ (nothing name first second class) = refl
  name_suits _ _ _ (weakly name first second class o h) = h
  name_suits _ _ _ (unowned class o h) = h

  -- the leaf that storage keeps of a value
  pub name_leaf_is : (w : Storage) (s : Shape) (x : Value) → NameIs test w s x → leaves_of (Stored w s) x ≡ name_of w (leaves_of s x) ∷ []
  name_leaf_is _ _ _ (nothing name first second class) = refl
  name_leaf_is _ _ _ (weakly name first second class o h) = refl
  name_leaf_is _ _ _ (unowned class o h) = refl
