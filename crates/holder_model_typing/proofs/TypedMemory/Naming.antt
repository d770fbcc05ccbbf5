-- Which object may stand where a reference of a class is asked.
use Rattle.std.proofs.Common.{◌≡◌, ◌++◌, ℕ, zero, suc, List, [], ◌∷◌, Option, Some, None, true, false, ap, ◌∙◌, refl, subst}
use Rattle.std.specs.Prelude.{option_map, slice_get, unwrap_or}
use Rattle.std.proofs.lemmas.Bool.{false≢true}
use Rattle.std.proofs.lemmas.Option.{none-some, same_Some}
use Rattle.sil_ast.specs.declared.module.Module.{Module}
use Rattle.sil_ast.specs.declared.place.ObjectId.{ObjectId}
use Rattle.numbered_form.specs.Lists.{Each}
use Rattle.numbered_form.specs.Names.{Name}
use Rattle.holder_model.specs.sil_types_declarations.TypeDefinitions.Declarations.{declarations_of}
use Rattle.holder_model.specs.RunTyping.Classes.{ClassesAreSound, is_a}
use Rattle.holder_model_typing.specs.TypedMemory.inner.Worlds.{World, names}

-- the class that the object was made of is this one, or inherits from it
pub record NamedBy (m : Module) (w : World) (class : Name) (o : ObjectId) : Type 0 where
  pub own : Name
  pub there : slice_get w.classes o.0 ≡ Some own
  pub is : is_a (declarations_of m) own class ≡ true

module _ (m : Module) (w : World) where
  told_by : (class : Name) (o : ObjectId) (x : Option Name) → slice_get w.classes o.0 ≡ x → unwrap_or (option_map (λ own. is_a (declarations_of m) own class) x) false ≡ true
      → NamedBy m w class o
  told_by class o None e h = absurd (false≢true h)
  told_by class o (Some own) e h = record { own = own; there = e; is = h }

  pub named_by : (class : Name) (o : ObjectId) → names m w class o ≡ true → NamedBy m w class o
  named_by class o h = told_by class o (slice_get w.classes o.0) refl h

  pub is_named : (class own : Name) (o : ObjectId) → slice_get w.classes o.0 ≡ Some own → is_a (declarations_of m) own class ≡ true → names m w class o ≡ true
  is_named class own o e is = ap (λ x. unwrap_or (option_map (λ own. is_a (declarations_of m) own class) x) false) e ∙ is

  -- an object of a class may stand for one of a class above
  pub named_above : ClassesAreSound m → (class above : Name) (o : ObjectId) → is_a (declarations_of m) class above ≡ true → names m w class o ≡ true → names m w above o ≡ true
  named_above sound class above o is h =
      let by = named_by class o h in
      is_named above by.own o by.there (sound.passes by.own class above by.is is)

-- what holds of each in a list

pub each_at : {A : Type 0} (P : A → Type 0) (xs : List A) (k : ℕ) (x : A) → Each P xs → slice_get xs k ≡ Some x → P x
each_at P [] k x h e = absurd (none-some x e)
each_at P (y ∷ xs) zero x h e = subst P (same_Some y x e) h.0
each_at P (y ∷ xs) (suc k) x h e = each_at P xs k x h.1 e

pub each_more : {A : Type 0} (P : A → Type 0) (xs : List A) (x : A) → Each P xs → P x → Each P (xs ++ x ∷ [])
each_more P [] x h p = (p, tt)
each_more P (y ∷ xs) x h p = (h.0, each_more P xs x h.1 p)
