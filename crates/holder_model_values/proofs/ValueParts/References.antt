-- The references of a value that fits a shape are the objects among its leaves.
use Rattle.std.proofs.Common.{◌≡◌, ◌-◌, ◌++◌, ℕ, zero, suc, List, [], Option, Some, None, true, refl, ap, ◌∙◌}
use Rattle.std.specs.Prelude.{length, replicate, slice_get}
use Rattle.std.specs.List.{AllByRecursion}
use Rattle.std.proofs.lemmas.Bool.{and_parts, false≢true}
use Rattle.std.proofs.lemmas.List.{append-nil}
use Rattle.std.proofs.lemmas.List.Concat.{flat_map-append}
use Rattle.sil_ast.specs.declared.decl.Storage.{Storage}
use Rattle.sil_ast.specs.declared.decl.Storage.TheVariants as storage
use Rattle.sil_types_declarations.specs.numbered_form.Names.{Name}
use Rattle.holder_model_values.specs.declared.run_values.leaf.Leaf.{Leaf}
use Rattle.holder_model_values.specs.declared.run_values.leaf.Leaf.TheVariants as leaf
use Rattle.holder_model_values.specs.RunValues.inner.Fits.{are_members, fit_each, fits, fits_case, fits_layer, is_case, is_name}
use Rattle.holder_model_values.specs.RunValues.Leaves.{InLeaves, filled_up, leaves_each, leaves_layer, leaves_of, longest_payload, name_leaf, payload_at, payload_leaves}
use Rattle.holder_model_values.specs.RunValues.Shapes.{CaseShapes, NoCase, PlainCase, FullCase, Shape, Shapes, NoMember, Member, listed, listed_cases}
use Rattle.holder_model_values.specs.RunValues.Shapes.{Integer, Reference, Struct, Tuple, Enum, Stored, Unknown, cases_by_layers, each_by_layers}
use Rattle.holder_model_values.specs.RunValues.Values.{Value, Int, Object, Group, Case, Full, Values, NoValue, More, case_of, members_of, references_in_each, references_of}
use Rattle.holder_model_values.specs.RunValues.Values as value
use Rattle.holder_model_values.specs.ValueParts.inner.LeafLists.{object_in, objects_in}
use Rattle.holder_model_values.specs.ValueParts.inner.StoredNames.{IsUnownedName, IsWeakName}
use Rattle.holder_model_values.specs.ValueParts.inner.Suits.{ClassTest, suits}
use Rattle.holder_model_values.proofs.ValueParts.Inductions.{InParts, OfCase, by_parts}
use Rattle.holder_model_values.proofs.ValueParts.Names.{is_unowned_name, is_weak_name}
use Rattle.holder_model_values.proofs.ValueParts.Suiting.{suits_fits}

abbrev Shows : Shape → Type 0
Shows s = (v : Value) → fits s v ≡ true → objects_in (leaves_of s v) ≡ references_of v

pub objects_in-append : (ls ms : List Leaf) → objects_in (ls ++ ms) ≡ objects_in ls ++ objects_in ms
objects_in-append = flat_map-append object_in

pub objects_in-blanks : (n : ℕ) → objects_in (replicate n leaf.Blank) ≡ []
objects_in-blanks zero = refl
objects_in-blanks (suc n) = objects_in-blanks n

objects_in-filled : (n : ℕ) (ls : List Leaf) → objects_in (filled_up n ls) ≡ objects_in ls
objects_in-filled n ls =
    objects_in-append ls (replicate (n - length ls) leaf.Blank)
    ∙ ap (λ os. objects_in ls ++ os) (objects_in-blanks (n - length ls))
    ∙ append-nil (objects_in ls)

-- structs and tuples

abbrev told : Shapes → List InLeaves
told ss = each_by_layers leaves_layer ss

each_shows : (ss : Shapes) → AllByRecursion Shows (listed ss) → (vs : Values) → fit_each (each_by_layers fits_layer ss) (value.listed vs) ≡ true
    → objects_in (leaves_each (told ss) (value.listed vs)) ≡ references_in_each vs
each_shows NoMember hs NoValue h = refl
each_shows NoMember hs (More v vs) h = absurd (false≢true h)
each_shows (Member s ss) hs NoValue h = absurd (false≢true h)
each_shows (Member s ss) hs (More v vs) h =
    let parts = and_parts (fits s v) (fit_each (each_by_layers fits_layer ss) (value.listed vs)) h in
    objects_in-append (leaves_of s v) (leaves_each (told ss) (value.listed vs))
    ∙ ap (λ os. os ++ objects_in (leaves_each (told ss) (value.listed vs))) (hs.0 v parts.0)
    ∙ ap (λ os. references_of v ++ os) (each_shows ss hs.1 vs parts.1)

group_shows : (ss : Shapes) → AllByRecursion Shows (listed ss) → (v : Value) → are_members (each_by_layers fits_layer ss) (members_of v) ≡ true
    → objects_in (leaves_of (Tuple ss) v) ≡ references_of v
group_shows ss hs (Group vs) h = each_shows ss hs vs h
group_shows ss hs v h = absurd (false≢true h)

-- enums

abbrev payload_of : CaseShapes → ℕ → Option Value → List Leaf
payload_of cs k payload = payload_leaves (payload_at (cases_by_layers leaves_layer cs) k) payload

none_shows : (t : Option InLeaves) → objects_in (payload_leaves t None) ≡ []
none_shows None = refl
none_shows (Some t) = refl

payload_shows : (cs : CaseShapes) → AllByRecursion (OfCase Shows) (listed_cases cs) → (k : ℕ) (x : Value)
    → fits_case (slice_get (cases_by_layers fits_layer cs) k) (Some x) ≡ true → objects_in (payload_of cs k (Some x)) ≡ references_of x
payload_shows NoCase hs k x h = absurd (false≢true h)
payload_shows (PlainCase name others) hs zero x h = absurd (false≢true h)
payload_shows (PlainCase name others) hs (suc k) x h = payload_shows others hs.1 k x h
payload_shows (FullCase name s others) hs zero x h = hs.0 x h
payload_shows (FullCase name s others) hs (suc k) x h = payload_shows others hs.1 k x h

enum_shows : (name : Name) (cs : CaseShapes) → AllByRecursion (OfCase Shows) (listed_cases cs) → (v : Value) → is_case (cases_by_layers fits_layer cs) (case_of v) ≡ true
    → objects_in (leaves_of (Enum name cs) v) ≡ references_of v
enum_shows name cs hs (Case k) h =
    objects_in-filled (longest_payload (cases_by_layers leaves_layer cs)) (payload_of cs k None) ∙ none_shows (payload_at (cases_by_layers leaves_layer cs) k)
enum_shows name cs hs (Full k x) h =
    objects_in-filled (longest_payload (cases_by_layers leaves_layer cs)) (payload_of cs k (Some x)) ∙ payload_shows cs hs k x h
enum_shows name cs hs v h = absurd (false≢true h)

-- storage

weak_shows : (v : Value) → IsWeakName v → objects_in (name_leaf (references_of v)) ≡ references_of v
weak_shows _ IsWeakName.none = refl
weak_shows _ (IsWeakName.names o) = refl

unowned_shows : (v : Value) → IsUnownedName v → objects_in (name_leaf (references_of v)) ≡ references_of v
unowned_shows _ (IsUnownedName.names o) = refl

name_shows : (s : Storage) (v : Value) → is_name s v ≡ true → objects_in (name_leaf (references_of v)) ≡ references_of v
name_shows storage.Strong v h = absurd (false≢true h)
name_shows storage.Weak v h = weak_shows v (is_weak_name v h)
name_shows storage.Unowned v h = unowned_shows v (is_unowned_name v h)

shape_shows : (s : Shape) → InParts Shows s → Shows s
shape_shows (Integer width) hs (Int n) h = refl
shape_shows (Integer width) hs v h = absurd (false≢true h)
shape_shows (Reference class) hs (Object o) h = refl
shape_shows (Reference class) hs v h = absurd (false≢true h)
shape_shows (Struct name fields) hs v h = group_shows fields hs v h
shape_shows (Tuple elements) hs v h = group_shows elements hs v h
shape_shows (Enum name cases) hs v h = enum_shows name cases hs v h
shape_shows (Stored s inner) hs v h = name_shows s v h
shape_shows Unknown hs v h = absurd (false≢true h)

pub objects_are_references : (s : Shape) (v : Value) → fits s v ≡ true → objects_in (leaves_of s v) ≡ references_of v
objects_are_references = by_parts Shows shape_shows

module _ (test : ClassTest) where
  pub suits_objects : (s : Shape) (v : Value) → suits test s v ≡ true → objects_in (leaves_of s v) ≡ references_of v
  suits_objects s v h = objects_are_references s v (suits_fits test s v h)
