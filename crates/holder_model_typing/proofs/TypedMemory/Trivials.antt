-- A value of a trivial shape has no references.
use Rattle.std.proofs.Common.{◌≡◌, ◌++◌, ℕ, zero, suc, [], Some, true, refl, ap, ◌∙◌}
use Rattle.std.specs.Prelude.{slice_get}
use Rattle.std.specs.List.{AllByRecursion, list_all}
use Rattle.std.proofs.lemmas.Bool.{and_parts, false≢true}
use Rattle.holder_model.specs.holder_model_values.RunValues.inner.Fits.{are_members, fit_each, fits_case, is_case}
use Rattle.holder_model.specs.holder_model_values.RunValues.Shapes.{CaseShapes, NoCase, PlainCase, FullCase, Shape, Shapes, NoMember, Member, cases_by_layers, each_by_layers, listed, listed_cases}
use Rattle.holder_model.specs.holder_model_values.RunValues.Shapes.{Integer, Reference, Struct, Tuple, Enum, Stored, Unknown}
use Rattle.holder_model.specs.holder_model_values.RunValues.Trivial.{is_trivial, itself, payload_is_trivial, trivial_layer}
use Rattle.holder_model.specs.holder_model_values.RunValues.Values.{Value, Int, Group, Case, Full, Values, NoValue, More, case_of, members_of, references_in_each, references_of}
use Rattle.holder_model.specs.holder_model_values.RunValues.Values as value
use Rattle.holder_model.specs.holder_model_values.ValueParts.inner.Suits.{ClassTest, suits, suits_layer}
use Rattle.holder_model.proofs.holder_model_values.ValueParts.Inductions.{InParts, OfCase, by_parts}

module _ (test : ClassTest) where
  abbrev NamesNone : Shape → Type 0
  NamesNone s = (v : Value) → suits test s v ≡ true → is_trivial s ≡ true → references_of v ≡ []

  each_none : (ss : Shapes) → AllByRecursion NamesNone (listed ss) → (vs : Values) → fit_each (each_by_layers (suits_layer test) ss) (value.listed vs) ≡ true
      → list_all itself (each_by_layers trivial_layer ss) ≡ true → references_in_each vs ≡ []
  each_none NoMember hs NoValue h t = refl
  each_none NoMember hs (More v vs) h t = absurd (false≢true h)
  each_none (Member s ss) hs NoValue h t = absurd (false≢true h)
  each_none (Member s ss) hs (More v vs) h t =
      let fit = and_parts (suits test s v) (fit_each (each_by_layers (suits_layer test) ss) (value.listed vs)) h in
      let trivial = and_parts (is_trivial s) (list_all itself (each_by_layers trivial_layer ss)) t in
      ap (λ os. os ++ references_in_each vs) (hs.0 v fit.0 trivial.0) ∙ each_none ss hs.1 vs fit.1 trivial.1

  group_none : (ss : Shapes) → AllByRecursion NamesNone (listed ss) → (v : Value) → are_members (each_by_layers (suits_layer test) ss) (members_of v) ≡ true
      → list_all itself (each_by_layers trivial_layer ss) ≡ true → references_of v ≡ []
  group_none ss hs (Group vs) h t = each_none ss hs vs h t
  group_none ss hs v h t = absurd (false≢true h)

  payload_none : (cs : CaseShapes) → AllByRecursion (OfCase NamesNone) (listed_cases cs) → (k : ℕ) (x : Value)
      → fits_case (slice_get (cases_by_layers (suits_layer test) cs) k) (Some x) ≡ true → list_all payload_is_trivial (cases_by_layers trivial_layer cs) ≡ true → references_of x ≡ []
  payload_none NoCase hs k x h t = absurd (false≢true h)
  payload_none (PlainCase name others) hs zero x h t = absurd (false≢true h)
  payload_none (PlainCase name others) hs (suc k) x h t = payload_none others hs.1 k x h t
  payload_none (FullCase name s others) hs zero x h t =
      hs.0 x h (and_parts (is_trivial s) (list_all payload_is_trivial (cases_by_layers trivial_layer others)) t).0
  payload_none (FullCase name s others) hs (suc k) x h t =
      payload_none others hs.1 k x h (and_parts (is_trivial s) (list_all payload_is_trivial (cases_by_layers trivial_layer others)) t).1

  enum_none : (cs : CaseShapes) → AllByRecursion (OfCase NamesNone) (listed_cases cs) → (v : Value) → is_case (cases_by_layers (suits_layer test) cs) (case_of v) ≡ true
      → list_all payload_is_trivial (cases_by_layers trivial_layer cs) ≡ true → references_of v ≡ []
  enum_none cs hs (Case k) h t = refl
  enum_none cs hs (Full k x) h t = payload_none cs hs k x h t
  enum_none cs hs v h t = absurd (false≢true h)

  shape_none : (s : Shape) → InParts NamesNone s → NamesNone s
  shape_none (Integer width) hs (Int n) h t = refl
  shape_none (Integer width) hs v h t = absurd (false≢true h)
  shape_none (Reference class) hs v h t = absurd (false≢true t)
  shape_none (Struct name fields) hs v h t = group_none fields hs v h t
  shape_none (Tuple elements) hs v h t = group_none elements hs v h t
  shape_none (Enum name cases) hs v h t = enum_none cases hs v h t
  shape_none (Stored storage inner) hs v h t = absurd (false≢true t)
  shape_none Unknown hs v h t = absurd (false≢true h)

  pub no_references : (s : Shape) (v : Value) → suits test s v ≡ true → is_trivial s ≡ true → references_of v ≡ []
  no_references = by_parts NamesNone shape_none
