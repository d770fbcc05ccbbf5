-- In a typed frame each entry of an address was made as that of a value without a kind.
use Rattle.std.proofs.Common.{◌≡◌, ◌<◌, ℕ, List, Option, Some, None, refl, sym, ap, ◌∙◌, subst}
use Rattle.std.specs.Prelude.{slice_get, unwrap_or}
use Rattle.std.proofs.lemmas.Option.{none-some, same_Some, slice_get_within}
use Rattle.holder_model_laws.specs.holder_model.Data.{AddressOf, Datum}
use Rattle.holder_model_laws.specs.holder_model.Frames.{Entry, Gone, datum_in, entry_at, made_entry, plain_address}
use Rattle.holder_model_laws.specs.sil_types.Typing.Shapes.{target}
use Rattle.holder_model_laws.specs.sil_types.Typing.Values.{function_at, value_functions}
use Rattle.sil_verifier_trails.specs.sil_verifier_values.inner.Known.{IsAcceptedBody, kind_at, type_in}
use Rattle.holder_model_laws.specs.holder_model.RunTyping.CallForms.{IsOf}
use Rattle.holder_model_laws.specs.holder_model.RunTyping.Forms.{Form, OfPlace, form_by, form_of, form_with}
use Rattle.sil_verifier_trails.proofs.sil_verifier_values.Addresses.{addresses_plain}
use Rattle.sil_verifier_trails.specs.AcceptedPlaces.inner.Located.{IsAddress}
use Rattle.holder_model_values.specs.RunValues.Places.{Place}
use Rattle.sil_ast.specs.declared.function.Function.{Function}
use Rattle.sil_ast.specs.declared.module.Module.{Module}
use Rattle.holder_model_values.specs.RunValues.Shapes.{Shape}
use Rattle.sil_ast.specs.declared.place.FuncId.{FuncId}
use Rattle.sil_ast.specs.declared.place.ValueId.{ValueId}
use Rattle.sil_ast.specs.declared.type_name.TypeName.{TypeName}
use Rattle.sil_types_declarations.specs.TypeDefinitions.Declarations.{declarations_of}
use Rattle.sil_types_declarations.specs.declared.type_definitions.kind.Kind.{Kind}
use Rattle.sil_types_declarations.specs.declared.type_definitions.kind.Kind.TheVariants as kind
use Rattle.sil_verifier_frames.specs.inner.Typed.TypedStates.{EntriesAre, EntryIs, gone, made}
use Rattle.sil_verifier_trails.specs.holder_model_typing.TypedMemory.inner.Worlds.{DatumIs, PlaceIs, World}
use Rattle.sil_verifier_frames.specs.inner.Placed.FramePlaces.{Names}
use Rattle.sil_verifier_frames.proofs.Placed.EntriesKept.{made_datum, ok_once}
use Rattle.sil_verifier_frames.proofs.Placed.Taking.{AreAddressesPlain}

-- what is the address of a place has the form of one
pub address_form : (m : Module) (w : World) (form : Form) (x : Datum) (p : Place) → DatumIs m w form x → x ≡ AddressOf p → form ≡ OfPlace p.shape
address_form m w _ _ p (DatumIs.value s x suits) e = absurd (cc)
address_form m w _ _ p (DatumIs.place q is) e = let same : q ≡ p = cc in ap (λ (r : Place). OfPlace r.shape) same
address_form m w _ _ p (DatumIs.function g) e = absurd (cc)

address_typed : (m : Module) (w : World) (form : Form) (x : Datum) (p : Place) → DatumIs m w form x → x ≡ AddressOf p → PlaceIs m w p
address_typed m w _ _ p (DatumIs.value s x suits) e = absurd (cc)
address_typed m w _ _ p (DatumIs.place q is) e = let same : q ≡ p = cc in subst (PlaceIs m w) same is
address_typed m w _ _ p (DatumIs.function g) e = absurd (cc)

module _ (m : Module) (w : World) (k : Kind) (form : Form) (p : Place) where
  -- the entry names it, so its form is that of a place
  pub named_form : (e : Entry) → EntryIs m w k form e → datum_in e ≡ Some (AddressOf p) → form ≡ OfPlace p.shape
  named_form _ gone names = absurd (none-some (AddressOf p) names)
  named_form _ (made x e is so) names = address_form m w form x p so (same_Some x (AddressOf p) (sym (made_datum (λ v. None) k x e is) ∙ names))

  -- and the place is typed
  pub named_typed : (e : Entry) → EntryIs m w k form e → datum_in e ≡ Some (AddressOf p) → PlaceIs m w p
  named_typed _ gone names = absurd (none-some (AddressOf p) names)
  named_typed _ (made x e is so) names = address_typed m w form x p so (same_Some x (AddressOf p) (sym (made_datum (λ v. None) k x e is) ∙ names))

  -- and where it has no kind the entry was made so
  pub named_plain : (e : Entry) → EntryIs m w k form e → datum_in e ≡ Some (AddressOf p) → k ≡ kind.Plain → e ≡ plain_address p.home (AddressOf p)
  named_plain _ gone names plain = absurd (none-some (AddressOf p) names)
  named_plain _ (made x e is so) names plain =
      let same : x ≡ AddressOf p = same_Some x (AddressOf p) (sym (made_datum (λ v. None) k x e is) ∙ names) in
      sym (ok_once (plain_address p.home (AddressOf p)) e (ap (made_entry kind.Plain) (sym same) ∙ ap (λ h. made_entry h x) (sym plain) ∙ is))

-- the type of an address is that of one
pub typed_place : (m : Module) (f : Function) (v : ValueId) (s : Shape) → form_of (declarations_of m) f v ≡ OfPlace s
    → (t u : TypeName) × (type_in (declarations_of m) f v ≡ Some t) × (target t ≡ Some u)
typed_place m f v s is = at (type_in (declarations_of m) f v) refl is
  where
    at : (o : Option TypeName) → type_in (declarations_of m) f v ≡ o → form_by (declarations_of m) o (function_at (value_functions f) v.0) ≡ OfPlace s
        → (t u : TypeName) × (type_in (declarations_of m) f v ≡ Some t) × (target t ≡ Some u)
    at None ty h = none (function_at (value_functions f) v.0) h
      where
        none : (g : Option FuncId) → form_by (declarations_of m) None g ≡ OfPlace s → (t u : TypeName) × (type_in (declarations_of m) f v ≡ Some t) × (target t ≡ Some u)
        none None h = absurd (cc)
        none (Some g) h = absurd (cc)
    at (Some t) ty h = by (target t) refl h
      where
        by : (o : Option TypeName) → target t ≡ o → form_with (declarations_of m) t o ≡ OfPlace s
            → (t u : TypeName) × (type_in (declarations_of m) f v ≡ Some t) × (target t ≡ Some u)
        by None to h = absurd (cc)
        by (Some u) to h = (t, u, ty, to)

module _ (m : Module) (w : World) (number : ℕ) (f : Function) (body : IsAcceptedBody m number f) (entries : List Entry) (typed : EntriesAre m w f entries) where
  within : (v : ValueId) (p : Place) → Names entries v p → IsOf f v
  within v p names = at (slice_get entries v.0) refl names
    where
      at : (o : Option Entry) → slice_get entries v.0 ≡ o → datum_in (unwrap_or o Gone) ≡ Some (AddressOf p) → IsOf f v
      at None is h = absurd (none-some (AddressOf p) h)
      at (Some e) is h = subst (λ n. v.0 < n) typed.size (slice_get_within entries v.0 e is)

  -- what names a place is an address by its type
  pub named_shape : (v : ValueId) (p : Place) → Names entries v p → form_of (declarations_of m) f v ≡ OfPlace p.shape
  named_shape v p names =
      named_form m w (kind_at (declarations_of m) f v) (form_of (declarations_of m) f v) p (entry_at entries v) (typed.each v (within v p names)) names

  pub place_typed : (v : ValueId) (p : Place) → Names entries v p → PlaceIs m w p
  place_typed v p names =
      named_typed m w (kind_at (declarations_of m) f v) (form_of (declarations_of m) f v) p (entry_at entries v) (typed.each v (within v p names)) names

  pub named_address : (v : ValueId) (p : Place) → Names entries v p → IsAddress (declarations_of m) f v
  named_address v p names = record { shape = p.shape; is = named_shape v p names }

  pub entries_plain : AreAddressesPlain entries
  entries_plain v p names =
      let ty = typed_place m f v p.shape (named_shape v p names) in
      named_plain m w (kind_at (declarations_of m) f v) (form_of (declarations_of m) f v) p (entry_at entries v) (typed.each v (within v p names)) names
      (addresses_plain m number f body v ty.0 ty.1 ty.2 ty.3)
