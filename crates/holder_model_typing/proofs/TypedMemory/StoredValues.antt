-- The values that weak and unowned storage keeps and gives.
use Rattle.std.proofs.Common.{◌≡◌, zero, suc, true, refl}
use Rattle.std.proofs.lemmas.Bool.{false≢true}
use Rattle.sil_ast.specs.declared.decl.Storage.{Storage}
use Rattle.sil_ast.specs.declared.decl.Storage.TheVariants as storage
use Rattle.numbered_form.specs.Names.{Name}
use Rattle.holder_model.specs.holder_model_values.RunValues.Shapes.{Enum, FullCase, NoCase, PlainCase, Reference, Shape, Stored}
use Rattle.holder_model.specs.holder_model_values.RunValues.Values.{Case, Full, Object, Value}
use Rattle.holder_model.specs.holder_model_values.ValueParts.inner.Suits.{ClassTest, suits}
use Rattle.holder_model.proofs.holder_model_values.ValueParts.Names.{stored_inner}
use Rattle.holder_model.specs.RunTyping.StorageForms.{IsNamed}

abbrev optional_shape : Name → Name → Name → Name → Shape
optional_shape name first second class = Enum name (PlainCase first (FullCase second (Reference class) NoCase))

module _ (test : ClassTest) where
  weak_suits : (name first second class : Name) (x : Value) → suits test (optional_shape name first second class) x ≡ true
      → suits test (Stored storage.Weak (optional_shape name first second class)) x ≡ true
  weak_suits name first second class (Case zero) h = refl
  weak_suits name first second class (Case (suc zero)) h = absurd (false≢true h)
  weak_suits name first second class (Case (suc (suc k))) h = absurd (false≢true h)
  weak_suits name first second class (Full (suc zero) (Object o)) h = h
  weak_suits name first second class (Full zero x) h = absurd (false≢true h)
  weak_suits name first second class (Full (suc (suc k)) x) h = absurd (false≢true h)
  weak_suits name first second class (Full (suc zero) x) h = absurd (false≢true h)
  weak_suits name first second class x h = absurd (false≢true h)

  unowned_suits : (class : Name) (x : Value) → suits test (Reference class) x ≡ true → suits test (Stored storage.Unowned (Reference class)) x ≡ true
  unowned_suits class (Object o) h = h
  unowned_suits class x h = absurd (false≢true h)

  -- what is named suits its storage
  pub named_suits_storage : (how : Storage) (s : Shape) (x : Value) → IsNamed how s → suits test s x ≡ true → suits test (Stored how s) x ≡ true
  named_suits_storage _ _ x (IsNamed.weak class name first second) h = weak_suits name first second class x h
  named_suits_storage _ _ x (IsNamed.unowned class) h = unowned_suits class x h

  -- what storage keeps suits what is named
  pub storage_suits_named : (how : Storage) (s : Shape) (x : Value) → suits test (Stored how s) x ≡ true → suits test s x ≡ true
  storage_suits_named how s x h = stored_inner test how s x h

  -- what weak storage gives where its object isn't live
  pub none_suits : (s : Shape) → IsNamed storage.Weak s → suits test s (Case 0) ≡ true
  none_suits _ (IsNamed.weak class name first second) = refl
