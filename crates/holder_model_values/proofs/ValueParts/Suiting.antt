-- What follows for a value that suits a shape: it fits, it suits by a wider test, and its references are known.
use Rattle.std.proofs.Common.{◌≡◌, ℕ, zero, suc, List, [], ◌∷◌, Option, Some, None, true, refl}
use Rattle.std.specs.Prelude.{slice_get}
use Rattle.std.specs.List.{All, AllByRecursion}
use Rattle.std.proofs.lemmas.Bool.{and_parts, and_from, false≢true}
use Rattle.std.proofs.lemmas.List.Elements.{All-nil, All-cons, All-append}
use Rattle.sil_ast.specs.declared.place.ObjectId.{ObjectId}
use Rattle.sil_types_declarations.specs.numbered_form.Names.{Name}
use Rattle.holder_model_values.specs.RunValues.inner.Fits.{Test, are_members, fit_each, fits, fits_case, fits_layer, is_case, is_name}
use Rattle.holder_model_values.specs.RunValues.Layers.{Layer}
use Rattle.holder_model_values.specs.RunValues.Shapes.{CaseShapes, NoCase, PlainCase, FullCase, Shape, Shapes, NoMember, Member, listed, listed_cases}
use Rattle.holder_model_values.specs.RunValues.Shapes.{Integer, Reference, Struct, Tuple, Enum, Stored, Unknown, by_layers, cases_by_layers, each_by_layers}
use Rattle.holder_model_values.specs.RunValues.Values.{ChosenCase, Value, Int, Object, Group, Case, Full, Values, NoValue, More, case_of, members_of, object_of, references_in_each, references_of}
use Rattle.holder_model_values.specs.RunValues.Values as value
use Rattle.holder_model_values.specs.ValueParts.inner.Suits.{ClassTest, names_one, suits, suits_layer}
use Rattle.holder_model_values.proofs.ValueParts.Inductions.{InParts, OfCase, by_parts}

-- one test of shapes follows from another where it does for each part
module _ (f g : Layer Test → Test) where
  abbrev Follows : Shape → Type 0
  Follows s = (v : Value) → by_layers f s v ≡ true → by_layers g s v ≡ true

  each_follow : (ss : Shapes) → AllByRecursion Follows (listed ss) → (vs : List Value) → fit_each (each_by_layers f ss) vs ≡ true → fit_each (each_by_layers g ss) vs ≡ true
  each_follow NoMember hs [] h = refl
  each_follow NoMember hs (v ∷ vs) h = absurd (false≢true h)
  each_follow (Member s ss) hs [] h = absurd (false≢true h)
  each_follow (Member s ss) hs (v ∷ vs) h =
      let parts = and_parts (by_layers f s v) (fit_each (each_by_layers f ss) vs) h in
      and_from (by_layers g s v) (fit_each (each_by_layers g ss) vs) (hs.0 v parts.0) (each_follow ss hs.1 vs parts.1)

  members_follow : (ss : Shapes) → AllByRecursion Follows (listed ss) → (vs : Option (List Value)) → are_members (each_by_layers f ss) vs ≡ true → are_members (each_by_layers g ss) vs ≡ true
  members_follow ss hs None h = absurd (false≢true h)
  members_follow ss hs (Some vs) h = each_follow ss hs vs h

  case_follows : (cs : CaseShapes) → AllByRecursion (OfCase Follows) (listed_cases cs) → (k : ℕ) (payload : Option Value)
      → fits_case (slice_get (cases_by_layers f cs) k) payload ≡ true → fits_case (slice_get (cases_by_layers g cs) k) payload ≡ true
  case_follows NoCase hs k payload h = absurd (false≢true h)
  case_follows (PlainCase name others) hs zero payload h = h
  case_follows (PlainCase name others) hs (suc k) payload h = case_follows others hs.1 k payload h
  case_follows (FullCase name s others) hs zero None h = absurd (false≢true h)
  case_follows (FullCase name s others) hs zero (Some x) h = hs.0 x h
  case_follows (FullCase name s others) hs (suc k) payload h = case_follows others hs.1 k payload h

  chosen_follows : (cs : CaseShapes) → AllByRecursion (OfCase Follows) (listed_cases cs) → (c : Option ChosenCase) → is_case (cases_by_layers f cs) c ≡ true → is_case (cases_by_layers g cs) c ≡ true
  chosen_follows cs hs None h = absurd (false≢true h)
  chosen_follows cs hs (Some c) h = case_follows cs hs c.index c.payload h

-- a suiting value fits

module _ (test : ClassTest) where
  object_fits : (class : Name) (v : Value) → names_one (test class) (object_of v) ≡ true → fits (Reference class) v ≡ true
  object_fits class (Object o) h = refl
  object_fits class v h = absurd (false≢true h)

  shape_fits : (s : Shape) → InParts (Follows (suits_layer test) fits_layer) s → Follows (suits_layer test) fits_layer s
  shape_fits (Integer width) hs v h = h
  shape_fits (Reference class) hs v h = object_fits class v h
  shape_fits (Struct name fields) hs v h = members_follow (suits_layer test) fits_layer fields hs (members_of v) h
  shape_fits (Tuple elements) hs v h = members_follow (suits_layer test) fits_layer elements hs (members_of v) h
  shape_fits (Enum name cases) hs v h = chosen_follows (suits_layer test) fits_layer cases hs (case_of v) h
  shape_fits (Stored s inner) hs v h = (and_parts (is_name s v) (suits test inner v) h).0
  shape_fits Unknown hs v h = h

  pub suits_fits : (s : Shape) (v : Value) → suits test s v ≡ true → fits s v ≡ true
  suits_fits = by_parts (Follows (suits_layer test) fits_layer) shape_fits

-- a value that suits by one test suits by each that lets through more

module _ (test wider : ClassTest) (lets : (class : Name) (o : ObjectId) → test class o ≡ true → wider class o ≡ true) where
  object_suits : (class : Name) (o : Option ObjectId) → names_one (test class) o ≡ true → names_one (wider class) o ≡ true
  object_suits class None h = h
  object_suits class (Some o) h = lets class o h

  shape_suits : (s : Shape) → InParts (Follows (suits_layer test) (suits_layer wider)) s → Follows (suits_layer test) (suits_layer wider) s
  shape_suits (Integer width) hs v h = h
  shape_suits (Reference class) hs v h = object_suits class (object_of v) h
  shape_suits (Struct name fields) hs v h = members_follow (suits_layer test) (suits_layer wider) fields hs (members_of v) h
  shape_suits (Tuple elements) hs v h = members_follow (suits_layer test) (suits_layer wider) elements hs (members_of v) h
  shape_suits (Enum name cases) hs v h = chosen_follows (suits_layer test) (suits_layer wider) cases hs (case_of v) h
  shape_suits (Stored s inner) hs v h =
      let parts = and_parts (is_name s v) (suits test inner v) h in
      and_from (is_name s v) (suits wider inner v) parts.0 (hs v parts.1)
  shape_suits Unknown hs v h = h

  pub suits_wider : (s : Shape) (v : Value) → suits test s v ≡ true → suits wider s v ≡ true
  suits_wider = by_parts (Follows (suits_layer test) (suits_layer wider)) shape_suits

-- what holds of each object that the test lets through holds of each reference of a suiting value

module _ (test : ClassTest) (Known : ObjectId → Type 0) (lets : (class : Name) (o : ObjectId) → test class o ≡ true → Known o) where
  abbrev KnowsAll : Shape → Type 0
  KnowsAll s = (v : Value) → suits test s v ≡ true → All Known (references_of v)

  object_known : (class : Name) (v : Value) → names_one (test class) (object_of v) ≡ true → All Known (references_of v)
  object_known class (Object o) h = All-cons Known o [] (lets class o h) (All-nil Known)
  object_known class v h = absurd (false≢true h)

  each_known : (ss : Shapes) → AllByRecursion KnowsAll (listed ss) → (vs : Values) → fit_each (each_by_layers (suits_layer test) ss) (value.listed vs) ≡ true → All Known (references_in_each vs)
  each_known NoMember hs NoValue h = All-nil Known
  each_known NoMember hs (More v vs) h = absurd (false≢true h)
  each_known (Member s ss) hs NoValue h = absurd (false≢true h)
  each_known (Member s ss) hs (More v vs) h =
      let parts = and_parts (suits test s v) (fit_each (each_by_layers (suits_layer test) ss) (value.listed vs)) h in
      All-append Known (references_of v) (references_in_each vs) (hs.0 v parts.0) (each_known ss hs.1 vs parts.1)

  members_known : (ss : Shapes) → AllByRecursion KnowsAll (listed ss) → (v : Value) → are_members (each_by_layers (suits_layer test) ss) (members_of v) ≡ true → All Known (references_of v)
  members_known ss hs (Group members) h = each_known ss hs members h
  members_known ss hs v h = absurd (false≢true h)

  payload_known : (cs : CaseShapes) → AllByRecursion (OfCase KnowsAll) (listed_cases cs) → (k : ℕ) (x : Value)
      → fits_case (slice_get (cases_by_layers (suits_layer test) cs) k) (Some x) ≡ true → All Known (references_of x)
  payload_known NoCase hs k x h = absurd (false≢true h)
  payload_known (PlainCase name others) hs zero x h = absurd (false≢true h)
  payload_known (PlainCase name others) hs (suc k) x h = payload_known others hs.1 k x h
  payload_known (FullCase name s others) hs zero x h = hs.0 x h
  payload_known (FullCase name s others) hs (suc k) x h = payload_known others hs.1 k x h

  chosen_known : (cs : CaseShapes) → AllByRecursion (OfCase KnowsAll) (listed_cases cs) → (v : Value) → is_case (cases_by_layers (suits_layer test) cs) (case_of v) ≡ true → All Known (references_of v)
  chosen_known cs hs (Case k) h = All-nil Known
  chosen_known cs hs (Full k x) h = payload_known cs hs k x h
  chosen_known cs hs v h = absurd (false≢true h)

  shape_known : (s : Shape) → InParts KnowsAll s → KnowsAll s
  shape_known (Integer width) hs (Int n) h = All-nil Known
  shape_known (Integer width) hs v h = absurd (false≢true h)
  shape_known (Reference class) hs v h = object_known class v h
  shape_known (Struct name fields) hs v h = members_known fields hs v h
  shape_known (Tuple elements) hs v h = members_known elements hs v h
  shape_known (Enum name cases) hs v h = chosen_known cases hs v h
  shape_known (Stored s inner) hs v h = hs v (and_parts (is_name s v) (suits test inner v) h).1
  shape_known Unknown hs v h = absurd (false≢true h)

  pub suits_known : (s : Shape) (v : Value) → suits test s v ≡ true → All Known (references_of v)
  suits_known = by_parts KnowsAll shape_known
