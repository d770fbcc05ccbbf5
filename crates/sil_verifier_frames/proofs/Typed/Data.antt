-- Data of a form: what they are, and where they name no object.
use Rattle.std.proofs.Common.{◌≡◌, List, [], ◌∷◌, map, refl, ap, subst, true, false}
use Rattle.std.specs.Prelude.{Err, Ok, cond}
use Rattle.holder_model_laws.specs.holder_model.RunTyping.Forms.{Form, OfFunction, OfPlace, OfValue}
use Rattle.holder_model_laws.specs.holder_model.Calling.{as_argument}
use Rattle.holder_model_laws.specs.holder_model.Data.{AddressOf, Datum, FunctionOf, ValueOf}
use Rattle.holder_model_laws.specs.holder_model.Faults.{WrongShape}
use Rattle.holder_model_laws.specs.holder_model.Frames.{Entry, Plain, has_any, plain_address, plain_entry}
use Rattle.holder_model_values.specs.RunValues.Places.{Place}
use Rattle.holder_model_values.specs.RunValues.Shapes.{Shape}
use Rattle.holder_model_values.specs.RunValues.Trivial.{is_trivial}
use Rattle.holder_model_values.specs.RunValues.Values.{Value, references_of}
use Rattle.sil_ast.specs.declared.module.Module.{Module}
use Rattle.sil_ast.specs.declared.place.FuncId.{FuncId}
use Rattle.sil_ast.specs.declared.place.ObjectId.{ObjectId}
use Rattle.sil_verifier_trails.specs.holder_model_typing.TypedMemory.inner.Worlds.{DatumIs, PlaceIs, Suits, World, names}
use Rattle.sil_verifier_trails.proofs.holder_model_typing.TypedMemory.Trivials.{no_references}

-- an address, a function, or a value without references
abbrev pub IsBare : Datum → Type 0
IsBare (ValueOf v) = references_of v ≡ []
IsBare (AddressOf p) = Unit {0}
IsBare (FunctionOf g) = Unit {0}

-- a plain entry may have such a datum, and no other
pub bare_entry : (x : Datum) → IsBare x → (e : Entry) × (plain_entry x ≡ Ok e)
bare_entry (ValueOf v) bare = (Plain (ValueOf v), ap (λ os. cond (has_any os) (Err WrongShape) (Ok (Plain (ValueOf v)))) bare)
bare_entry (AddressOf p) bare = (plain_address p.home (AddressOf p), refl)
bare_entry (FunctionOf g) bare = (Plain (FunctionOf g), refl)

pub entry_bare : (x : Datum) (e : Entry) → plain_entry x ≡ Ok e → IsBare x
entry_bare (ValueOf v) e is = at (references_of v) is
  where
    at : (os : List ObjectId) → cond (has_any os) (Err WrongShape) (Ok (Plain (ValueOf v))) ≡ Ok e → os ≡ []
    at [] h = refl
    at (o ∷ os) h = absurd (cc)
entry_bare (AddressOf p) e is = tt
entry_bare (FunctionOf g) e is = tt

module _ (m : Module) (w : World) where
  -- data of forms, one by one
  pub data DataAre : List Form → List Datum → Type 0 where
    none : DataAre [] []
    more : (form : Form) (x : Datum) (forms : List Form) (xs : List Datum) → DatumIs m w form x → DataAre forms xs → DataAre (form ∷ forms) (x ∷ xs)

  -- what is of a form is what the form says

  pub read_value : {form : Form} {x : Datum} → DatumIs m w form x → (s : Shape) → form ≡ OfValue s → (v : Value) × (x ≡ ValueOf v) × Suits m w s v
  read_value (DatumIs.value t v good) s e = let same : t ≡ s = cc in (v, refl, subst (λ u. Suits m w u v) same good)
  read_value (DatumIs.place p is) s e = absurd (cc)
  read_value (DatumIs.function g) s e = absurd (cc)

  pub read_place : {form : Form} {x : Datum} → DatumIs m w form x → (s : Shape) → form ≡ OfPlace s → (p : Place) × (x ≡ AddressOf p) × (p.shape ≡ s) × PlaceIs m w p
  read_place (DatumIs.value t v good) s e = absurd (cc)
  read_place (DatumIs.place p is) s e = let same : p.shape ≡ s = cc in (p, refl, same, is)
  read_place (DatumIs.function g) s e = absurd (cc)

  pub read_function : {form : Form} {x : Datum} → DatumIs m w form x → (g : FuncId) → form ≡ OfFunction g → x ≡ FunctionOf g
  read_function (DatumIs.value t v good) g e = absurd (cc)
  read_function (DatumIs.place p is) g e = absurd (cc)
  read_function (DatumIs.function h) g e = cc

  -- where its form is no value, or a value of a trivial shape, it names none
  pub bare_where : {form : Form} {x : Datum} → DatumIs m w form x → ((s : Shape) → form ≡ OfValue s → is_trivial s ≡ true) → IsBare x
  bare_where (DatumIs.value s v good) trivial = no_references (names m w) s v good (trivial s refl)
  bare_where (DatumIs.place p is) trivial = tt
  bare_where (DatumIs.function g) trivial = tt

  -- ---- an address to a callee is of the same form, whichever part of its slot or field it names

  whole_place : (p : Place) → PlaceIs m w p → PlaceIs m w (record p { is_part = false })
  whole_place p (PlaceIs.on_stack home at) = PlaceIs.on_stack home (record { number = at.number; whole = at.whole; there = at.there; path = at.path; part = at.part; first = at.first })
  whole_place p (PlaceIs.inside o class home there at) = PlaceIs.inside o class home there
      (record { number = at.number; whole = at.whole; there = at.there; path = at.path; part = at.part; first = at.first })

  argument_is : (form : Form) (x : Datum) → DatumIs m w form x → DatumIs m w form (as_argument x)
  argument_is _ _ (DatumIs.value s v good) = DatumIs.value s v good
  argument_is _ _ (DatumIs.place p is) = DatumIs.place (record p { is_part = false }) (whole_place p is)
  argument_is _ _ (DatumIs.function g) = DatumIs.function g

  pub arguments_are : {forms : List Form} {xs : List Datum} → DataAre forms xs → DataAre forms (map as_argument xs)
  arguments_are none = none
  arguments_are (more form x forms xs is rest) = more form (as_argument x) forms (map as_argument xs) (argument_is form x is) (arguments_are rest)
