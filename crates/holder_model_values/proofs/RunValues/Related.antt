-- Two tellings of shapes are related where each layer of the one is related to that of the other by the relations of their parts.
use Rattle.std.proofs.Common.{◌≡◌, ℕ, zero, suc, List, [], ◌∷◌, Option, Some, None, refl}
use Rattle.std.specs.Prelude.{slice_get}
use Rattle.sil_ast.specs.declared.decl.Storage.{Storage}
use Rattle.sil_types_declarations.specs.numbered_form.Names.{Name}
use Rattle.holder_model_values.specs.RunValues.Layers.{CaseLayer, Layer, Integer, Reference, Struct, Tuple, Enum, Stored, Unknown}
use Rattle.holder_model_values.specs.RunValues.Shapes.{CaseShapes, NoCase, PlainCase, FullCase, Shape, Shapes, NoMember, Member}
use Rattle.holder_model_values.specs.RunValues.Shapes.{by_layers, cases_by_layers, each_by_layers}
use Rattle.holder_model_values.specs.RunValues.Shapes as shape

-- lists of one length that are related one by one
pub data Pairwise {A B : Type 0} (R : A → B → Type 0) : List A → List B → Type 0 where
  ends : Pairwise R [] []
  pair : (x : A) (y : B) (xs : List A) (ys : List B) → R x y → Pairwise R xs ys → Pairwise R (x ∷ xs) (y ∷ ys)

pub data Both {A B : Type 0} (R : A → B → Type 0) : Option A → Option B → Type 0 where
  neither : Both R None None
  both : (x : A) (y : B) → R x y → Both R (Some x) (Some y)

pub record AreCases {A B : Type 0} (R : A → B → Type 0) (c : CaseLayer A) (k : CaseLayer B) : Type 0 where
  pub same_name : c.name ≡ k.name
  pub payloads : Both R c.payload k.payload

-- layers of one form whose parts are related
pub data Alike {A B : Type 0} (R : A → B → Type 0) : Layer A → Layer B → Type 0 where
  integers : (width : ℕ) → Alike R (Integer width) (Integer width)
  references : (class : Name) → Alike R (Reference class) (Reference class)
  structs : (name : Name) (xs : List A) (ys : List B) → Pairwise R xs ys → Alike R (Struct name xs) (Struct name ys)
  tuples : (xs : List A) (ys : List B) → Pairwise R xs ys → Alike R (Tuple xs) (Tuple ys)
  enums : (name : Name) (cs : List (CaseLayer A)) (ks : List (CaseLayer B)) → Pairwise (AreCases R) cs ks → Alike R (Enum name cs) (Enum name ks)
  stores : (s : Storage) (x : A) (y : B) → R x y → Alike R (Stored s x) (Stored s y)
  unknowns : Alike R Unknown Unknown

-- what stands at a place in both
pub pair_at : {A B : Type 0} (R : A → B → Type 0) (xs : List A) (ys : List B) → Pairwise R xs ys → (k : ℕ) → Both R (slice_get xs k) (slice_get ys k)
pair_at R _ _ ends k = neither
pair_at R _ _ (pair x y xs ys r rest) zero = both x y r
pair_at R _ _ (pair x y xs ys r rest) (suc k) = pair_at R xs ys rest k

module _ {A B : Type 0} (R : A → B → Type 0) (f : Layer A → A) (g : Layer B → B) (of_layer : (x : Layer A) (y : Layer B) → Alike R x y → R (f x) (g y)) where
  mutual
    pub are_told : (s : Shape) → R (by_layers f s) (by_layers g s)
    are_told (shape.Integer width) = of_layer _ _ (integers width)
    are_told (shape.Reference class) = of_layer _ _ (references class)
    are_told (shape.Struct name fields) = of_layer _ _ (structs name _ _ (each_told fields))
    are_told (shape.Tuple elements) = of_layer _ _ (tuples _ _ (each_told elements))
    are_told (shape.Enum name cases) = of_layer _ _ (enums name _ _ (cases_told cases))
    are_told (shape.Stored storage inner) = of_layer _ _ (stores storage _ _ (are_told inner))
    are_told shape.Unknown = of_layer _ _ unknowns

    each_told : (ss : Shapes) → Pairwise R (each_by_layers f ss) (each_by_layers g ss)
    each_told NoMember = ends
    each_told (Member first others) = pair _ _ _ _ (are_told first) (each_told others)

    cases_told : (cs : CaseShapes) → Pairwise (AreCases R) (cases_by_layers f cs) (cases_by_layers g cs)
    cases_told NoCase = ends
    cases_told (PlainCase name others) = pair _ _ _ _ (record { same_name = refl; payloads = neither }) (cases_told others)
    cases_told (FullCase name payload others) = pair _ _ _ _ (record { same_name = refl; payloads = both _ _ (are_told payload) }) (cases_told others)
